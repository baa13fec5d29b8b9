-- An event of the grid run has left the queue, and has been dealt with.
use Rattle.std.specs.Prelude.{◌≡◌, ◌⊎◌, Option, Some, None, List, ℕ, ◌+◌, ◌*◌, ◌<◌, length}
use Rattle.std.proofs.Math.Option.{none}
use Rattle.std.proofs.lemmas.List.Edits.{sets}
use Rattle.fraction.specs.Time.{Time}
use Rattle.sheet.specs.declared.Track.{Track}
use Rattle.sheet.specs.Listing.{Listing}
use Rattle.rule.specs.RowBytes.{row_bytes, row_width}
use Rattle.rule.specs.Rows.{time_of}
use Rattle.rule.specs.Selection.{roll_of}
use Rattle.cause.specs.Cause.{tip_at}
use Rattle.ending.specs.Ended.{next_row}
use Rattle.cells.specs.EnteredAt.{EnteredAt}
use Rattle.cells.specs.Grid.{side}
use Rattle.event_queue.specs.declared.Event.{Event}
use Rattle.event_queue.specs.declared.Event.TheVariants as event
use Rattle.event_queue.specs.Key.{time}
use Rattle.event_queue.specs.Queue.{slot, First}
use Rattle.grid_state.specs.Sweep.{Sweep}
use Rattle.grid_state.specs.Run.{Going}
use Rattle.grid_state.specs.ToDo.{to_do}

-- the row after the first k is written, or none
pub data Wrote (S : Listing) (k : ℕ) (out : List ℕ) (r : Option ℕ) (out' : List ℕ) : Type 0 where
  no_row : (r ≡ None) ⊎ (r ≡ Some k) → out' ≡ out → Wrote S k out r out'
  one_row : r ≡ Some (k + 1) → out' ≡ sets out (row_width * k) (row_bytes (next_row S k)) → Wrote S k out r out'

-- an event of tip a left the queue at the time τ: where a cell is entered, that is when the trace of a, to its exact end, enters it (SHEETS 6.4, 6.8)
abbrev pub InTime : Listing → ℕ → Track → Event → Time → Type 0
InTime S g a (event.Cell x y) τ = EnteredAt a (time_of (roll_of S) a.id) (side g) (record { column = x; row = y }) τ
InTime S g a (event.Track i) τ = Unit {0}
InTime S g a (event.Wall i) τ = Unit {0}
InTime S g a event.Edge τ = Unit {0}

-- the first event of the queue happened: with k' rows out the run goes on from w', and there is less to do
pub record Happened (S : Listing) (g k : ℕ) (w : Sweep) (k' : ℕ) (w' : Sweep) : Type 0 where
  pub tip : ℕ
  pub event : Event
  pub first : First w.crowd.pending tip event
  pub in_time : InTime S g (tip_at S tip) event (time first.key)
  pub going : Going S g k' w'
  pub less : to_do (length S.tracks) w' k' < to_do (length S.tracks) w k

-- by the answer; there is none where no tip has a pending event
abbrev pub Turns : Listing → ℕ → ℕ → Sweep → Option ℕ → Sweep → Type 0
Turns S g k w (Some k') w' = Happened S g k w k' w'
Turns S g k w None w' = ((j : ℕ) → slot w.crowd.pending j ≡ none) × (w' ≡ w)

pub record Turned (S : Listing) (g k : ℕ) (w : Sweep) (r : Option ℕ) (w' : Sweep) : Type 0 where
  pub turns : Turns S g k w r w'
