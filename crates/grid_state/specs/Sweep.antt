-- What the tables of the grid run stand for.
use Rattle.std.specs.Prelude.{Bool, List, ℕ}
use Rattle.event_queue.specs.Queue.{Slots}
use Rattle.tips.specs.declared.Tip.{Tip}
use Rattle.tips.specs.Tips.{tips_in}
use Rattle.cell_members.specs.Members.{members_in, count_in}
use Rattle.grid_state.specs.declared.Watch.{Watch}
use Rattle.cell_members.specs.declared.Members.{Members}

-- the tips, the pending event of each, and who has looked at whom
pub record Crowd : Type 0 where
  pub tips : List Tip
  pub pending : Slots
  pub marks : List (List Bool)

abbrev pub crowd_in : Watch → Crowd
crowd_in w = record { tips = tips_in w.tips; pending = w.queue; marks = w.marks }

-- and the tips of each cell, with the number of cells entered
pub record Sweep : Type 0 where
  pub crowd : Crowd
  pub members : List (List ℕ)
  pub entered : ℕ

abbrev pub sweep_in : Watch → Members → Sweep
sweep_in w m = record { crowd = crowd_in w; members = members_in m.lists; entered = count_in m.lists }
