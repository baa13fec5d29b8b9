-- The listing's order is the order in which the grid run's events for the cell leave its queue, up to equal times (SHEETS 6.8, 6.11): `leaves_as_listed` and `listed_as_left`.
-- They speak of one turn of the run, which takes an event out of the queue (`Happened`, from the contract of `grid_turn::turn`), and of a tip with a point in that cell that has not entered it so far: its own event for it is still to leave.
-- The cell of a start has no event: it is entered at its start time (`first-entered` of crate `cells`).
use mathlib.Core.Bool.{Bool-discrete, false}
use mathlib.Core.Path.{◌≡◌, subst}
use mathlib.Core.Logic.{◌⊎◌, inl, inr}
use Prim.Native.Nat.{ℕ, ◌<◌}
use lib.ListN.{length}
use Rattle.fraction.specs.Time.{Time, ◌≤ᵗ◌, ◌<ᵗ◌, ◌≈ᵗ◌}
use Rattle.fraction.specs.Order.{≤ᵗ_or_<ᵗ, ≈ᵗ_of}
use Rattle.sheet.specs.Listing.{Listing, ◌∈◌}
use Rattle.rule.specs.Rows.{time_of}
use Rattle.rule.specs.Selection.{roll_of}
use Rattle.cause.specs.Cause.{tip_at}
use Rattle.cells.specs.EnteredAt.{EnteredAt}
use Rattle.cells.specs.Grid.{side}
use Rattle.cells.proofs.Entry.{entered_point}
use Rattle.event_queue.specs.declared.Event.{Event}
use Rattle.event_queue.specs.declared.Event.TheVariants.{Cell}
use Rattle.event_queue.specs.Key.{time}
use Rattle.event_queue.proofs.Bags.{pick}
use Rattle.tips.specs.Tips.{tip_in}
use Rattle.grid_state.specs.Run.{Going}
use Rattle.grid_state.specs.State.{cells_at, Runs}
use Rattle.grid_state.specs.Sweep.{Sweep}
use Rattle.grid_state.proofs.Closing.{ended_cells}
use Rattle.grid_state.proofs.EntryTime.{entries_to_come}
use Rattle.grid_turn.specs.Turned.{InTime, Happened}
use Rattle.cell_listing.specs.CellIds.{EntersBefore, sooner}
use Rattle.cell_listing.specs.Listed.{cell}
use Rattle.cell_listing.proofs.EntryOrder.{not-both}

module _
    {S : Listing} {g n n' : ℕ} {w w' : Sweep} (go : Going S g n w) (h : Happened S g n w n' w') {column row : ℕ} (is : h.event ≡ Cell column row)
    {j : ℕ} (on_sheet : j < length S.tracks) (not_yet : ¬ (cell column row ∈ cells_at go.es j)) where
  abbrev ends : ℕ → Time
  ends = time_of (roll_of S)

  -- the tip at i is listed before the tip at k
  abbrev Ahead : ℕ → ℕ → Type 0
  Ahead i k = EntersBefore ends (side g) (cell column row) (tip_at S i) (tip_at S k)

  -- when the trace of the tip at j enters the cell
  abbrev Enters : Time → Type 0
  Enters σ = EnteredAt (tip_at S j) (ends (tip_at S j).id) (side g) (cell column row) σ

  -- a tip that has ended has entered all cells of its trace, so this one runs
  runs : {σ : Time} → Enters σ → Runs (length S.tracks) w.crowd.tips j
  runs e = pick (Bool-discrete (tip_in w.crowd.tips j).ended false) (λ z. (on_sheet, z)) (λ over. absurd (not_yet ((ended_cells go on_sheet over).all (cell column row) (entered_point e))))

  -- the tip whose event leaves first is listed first
  pub leaves_as_listed : {σ : Time} → Enters σ → Ahead h.tip j ⊎ (time h.first.key ≈ᵗ σ)
  leaves_as_listed {σ} e = go_on (≤ᵗ_or_<ᵗ σ τ)
    where
      τ : Time
      τ = time h.first.key

      go_on : (σ ≤ᵗ τ) ⊎ (τ <ᵗ σ) → Ahead h.tip j ⊎ (τ ≈ᵗ σ)
      go_on (inl l) = inr (≈ᵗ_of (entries_to_come go h.first (runs e) not_yet e) l)
      go_on (inr l) = inl (sooner (subst (λ (x : Event). InTime S g (tip_at S h.tip) x τ) is h.in_time) e l)

  -- so one that is listed before it, and has not entered, enters at the same time
  pub listed_as_left : {σ : Time} → Enters σ → Ahead j h.tip → time h.first.key ≈ᵗ σ
  listed_as_left e l = go_on (leaves_as_listed e)
    where
      go_on : {σ : Time} → Ahead h.tip j ⊎ (time h.first.key ≈ᵗ σ) → time h.first.key ≈ᵗ σ
      go_on (inl k) = absurd (not-both l k)
      go_on (inr k) = k
