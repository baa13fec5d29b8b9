-- What the code does where a tip on its way into a cell meets the tips that have been there, and enters it.
use Rattle.std.specs.Prelude.{false, ◌≡◌, ◌⊎◌, ◌≢◌, List, [], ◌∷◌, ℕ, ◌+◌, ◌≤◌, ◌<◌, length, get_or, set}
use Rattle.std.proofs.Math.Option.{some}
use Rattle.sheet.specs.Accepted.{Accepted}
use Rattle.sheet.specs.Listing.{Listing, ◌∈◌}
use Rattle.rule.specs.declared.Row.{Row}
use Rattle.rule.specs.Meanwhile.{Live}
use Rattle.cause.specs.declared.Cause.{Cause}
use Rattle.cause.specs.Cause.{cand_of}
use Rattle.cells.specs.declared.Cell.{Cell}
use Rattle.event_queue.specs.Queue.{Slots}
use Rattle.tips.specs.declared.Tip.{Tip}
use Rattle.tips.specs.Tips.{tip_in, with_cell}
use Rattle.pair_marks.specs.Marks.{Marked, marking}
use Rattle.grid_steps.specs.Steps.{InGrid, Offered, Here, entry_in}
use Rattle.grid_state.specs.Sweep.{Crowd, Sweep}
use Rattle.grid_state.specs.State.{code_of, Runs, Looked, Marks, Queued}

-- ---- the tips at i and j look at each other

-- the tip at j, if it runs, looks at the tip at i, and its event comes anew
pub data Noticed (S : Listing) (side i j : ℕ) (ts : List Tip) (s : Slots) (ts' : List Tip) (s' : Slots) : Type 0 where
  looks : (tip_in ts j).ended ≡ false → Offered S j i ts ts' → s' ≡ set s j (some (entry_in S side ts' j)) → Noticed S side i j ts s ts' s'
  has_ended : ((tip_in ts j).ended ≡ false → ⊥) → ts' ≡ ts → s' ≡ s → Noticed S side i j ts s ts' s'

pub record Both (S : Listing) (side i j : ℕ) (w w' : Crowd) : Type 0 where
  pub between : List Tip
  pub own : Offered S i j w.tips between
  pub other : Noticed S side i j between w.pending w'.tips w'.pending
  pub marks : w'.marks ≡ marking (marking w.marks i j) j i

-- once
pub data Paired (S : Listing) (side i j : ℕ) (w w' : Crowd) : Type 0 where
  known : (j ≡ i) ⊎ Marked w.marks i j → w' ≡ w → Paired S side i j w w'
  looked : j ≢ i → Both S side i j w w' → Paired S side i j w w'

-- the tip at i and each of a list
pub data Meets (S : Listing) (side i : ℕ) : List ℕ → Crowd → Crowd → Type 0 where
  nobody : {w w' : Crowd} → w' ≡ w → Meets S side i [] w w'
  and_then : {j : ℕ} {l : List ℕ} {w w₁ w' : Crowd} → Paired S side i j w w₁ → Meets S side i l w₁ w' → Meets S side i (j ∷ l) w w'

-- ---- what is known meanwhile

-- b tips have begun; for each tip the cells whose walls it has looked at, and those whose tips
pub record Frame : Type 0 where
  pub begun : ℕ
  pub done : List Row
  pub ls : List (List Cell)
  pub es : List (List Cell)

pub record Busy (S : Listing) (F : Frame) (side i : ℕ) (w : Crowd) : Type 0 where
  pub accepted : Accepted S
  pub begun_in : F.begun ≤ length S.tracks
  pub side_in : side ≤ 4096
  pub runs : Runs F.begun w.tips i
  pub in_grid : (j : ℕ) → j < F.begun → j ≢ i → InGrid side (tip_in w.tips j).cell
  pub looked : Looked S F.done side F.ls F.begun w.tips w.marks
  pub marked : Marks F.es F.begun w.marks
  pub queued : Queued S side F.begun i w.tips w.pending

-- the tip at i may meet the tips of a list
pub record MayMeet (S : Listing) (side i : ℕ) (l : List ℕ) (w : Crowd) : Type 0 where
  pub frame : Frame
  pub busy : Busy S frame side i w
  pub others_in : (j : ℕ) → j ∈ l → j < frame.begun

-- a cause that counts
abbrev pub LiveCause : Listing → List Row → Cause → Type 0
LiveCause S done c = Live done (cand_of S c).u (cand_of S c).why

-- the same tips run; marks stay, and a cause that counted is followed only by one that counts
pub record Later (S : Listing) (b : ℕ) (done : List Row) (w w' : Crowd) : Type 0 where
  pub ended_same : (j : ℕ) → (tip_in w'.tips j).ended ≡ (tip_in w.tips j).ended
  pub marks_kept : (i j : ℕ) → Marked w.marks i j → Marked w'.marks i j
  pub live_kept : (j : ℕ) → Runs b w.tips j → LiveCause S done (tip_in w.tips j).best → LiveCause S done (tip_in w'.tips j).best

-- ---- the tip at i enters cell k

pub record Enters (S : Listing) (side i : ℕ) (k : Cell) (w w' : Sweep) : Type 0 where
  pub seen : List Tip
  pub met : Crowd
  pub walls : Here S side k i w.crowd.tips seen
  pub meets : Meets S side i (get_or w.members (code_of k) []) (record { tips = seen; pending = w.crowd.pending; marks = w.crowd.marks }) met
  pub tips : w'.crowd.tips ≡ with_cell met.tips i k
  pub pending : w'.crowd.pending ≡ set met.pending i (some (entry_in S side w'.crowd.tips i))
  pub marks : w'.crowd.marks ≡ met.marks
  pub members : w'.members ≡ set w.members (code_of k) (i ∷ get_or w.members (code_of k) [])
  pub entered : w'.entered ≡ w.entered + 1
