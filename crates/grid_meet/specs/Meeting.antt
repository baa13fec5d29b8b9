-- What is asked where a tip looks at one that is on its way.
use Rattle.std.specs.Prelude.{Bool, ◌≢◌, List, ℕ, ◌<◌}
use Rattle.sheet.specs.Listing.{Listing}
use Rattle.event_queue.specs.Queue.{Slots}
use Rattle.tips.specs.declared.Tip.{Tip}
use Rattle.grid_state.specs.Meeting.{Frame, Busy}

-- the tip at j may look at the tip at i, which is on its way
pub record MayNotice (S : Listing) (side i j : ℕ) (ts : List Tip) (s : Slots) : Type 0 where
  pub frame : Frame
  pub marks : List (List Bool)
  pub busy : Busy S frame side i (record { tips = ts; pending = s; marks = marks })
  pub begun : j < frame.begun
  pub apart : j ≢ i
