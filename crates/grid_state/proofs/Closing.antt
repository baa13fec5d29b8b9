-- When no event is pending: all tips have ended, all rows are out, and the cells are counted. Main theorem: `closed`.
use mathlib.Core.Bool.{false}
use mathlib.Core.List.Memᴰ
use mathlib.Core.List.{List, [], ◌∷◌}
use mathlib.Core.Logic.{◌⊎◌, inl, inr}
use mathlib.Core.Option.{none}
use mathlib.Core.Path.{◌≡◌, refl, sym, ap, ◌∙◌, subst}
use Prim.Native.Nat.{ℕ, suc, ◌≤◌, ◌<◌}
use native.Mathlib.Decide.{ℕ_discrete, dec_lt}
use native.Mathlib.Omega.{arith}
use lib.ListN.{length, get_or}
use lib.Dec.{eqb}
use Rattle.fraction.specs.Time.{Time, ◌≈ᵗ◌, zeroᵗ}
use Rattle.fraction.proofs.TimeOrder.{≈ᵗ_refl}
use Rattle.sheet.specs.declared.Track.{Track}
use Rattle.sheet.specs.HandedIn.{no_track}
use Rattle.sheet.specs.Listing.{Listing, ◌∈◌}
use Rattle.sheet.proofs.Lists.{at_mem}
use Rattle.rule.specs.declared.Row.{Row}
use Rattle.rule.specs.Causes.{up_to}
use Rattle.rule.specs.Rows.{time, time_of}
use Rattle.rule.specs.Selection.{roll_of}
use Rattle.rule.proofs.Existence.{roll_of_lem}
use Rattle.rule.proofs.OneRoll.{time_of-row}
use Rattle.rule.proofs.Tests.{eqb_self, eqb-other}
use Rattle.rule.proofs.Turn.{progress_more}
use Rattle.cause.proofs.Looking.{gone_at}
use Rattle.cause.specs.Cause.{tip_at}
use Rattle.cells.specs.declared.Cell.{Cell}
use Rattle.cells.specs.CellsEntered.{cells_entered}
use Rattle.cells.specs.Grid.{side}
use Rattle.cells.specs.Touched.{CellsOf, Counted, no_tracks, and_track}
use Rattle.cells.proofs.CellsEntered.{the_count}
use Rattle.cells.proofs.Total.{cells_same}
use Rattle.event_queue.specs.Queue.{slot}
use Rattle.event_queue.proofs.Slots.{none≢some}
use Rattle.tips.specs.declared.Tip.{Tip}
use Rattle.tips.specs.Tips.{tip_in}
use Rattle.look.specs.Ends.{end_of}
use Rattle.grid_state.specs.Sweep.{Sweep}
use Rattle.grid_state.specs.State.{cells_at, total}
use Rattle.grid_state.specs.Run.{Going}
use Rattle.grid_state.proofs.Queue.{none_out}
use Rattle.grid_state.proofs.EntryTime.{known_roll}

-- the time in the rows of an id that has one is that of one of its rows
up_known : (done : List Row) (u : Time) (i : ℕ) (d : Row) → d ∈ done → d.id ≡ i → (r : Row) × (r ∈ done) × (r.id ≡ i) × (up_to done u i ≡ time r)
unfolding up_to
up_known [] u i d m e = absurd (Memᴰ.not-nil m)
up_known (x ∷ done) u i d m e = go (ℕ_discrete x.id i) (Memᴰ.cases_cons m) (up_known done u i d)
  where
    one : x.id ≡ i → (r : Row) × (r ∈ (x ∷ done)) × (r.id ≡ i) × (up_to (x ∷ done) u i ≡ time r)
    one z = (x, Memᴰ.head refl, z, rw (ap (λ (k : ℕ). eqb k i) z ∙ eqb_self i, up_to) refl)

    go : Dec (x.id ≡ i) → (d ≡ x) ⊎ (d ∈ done) → (d ∈ done → d.id ≡ i → (r : Row) × (r ∈ done) × (r.id ≡ i) × (up_to done u i ≡ time r)) → (r : Row) × (r ∈ (x ∷ done)) × (r.id ≡ i) × (up_to (x ∷ done) u i ≡ time r)
    go (yes z) q rec = one z
    go (no z) (inl q) rec = one (ap (λ (r : Row). r.id) (sym q) ∙ e)
    go (no z) (inr q) rec = let (r, k, f, h) = rec q e in (r, Memᴰ.tail k, f, rw (eqb-other x.id i z, up_to) h)

counts_all : (T : ℕ → Time) (g : ℕ) (l : List Track) (es : List (List Cell)) → length es ≡ length l → ((j : ℕ) → j < length l → CellsOf (get_or l j no_track) (T (get_or l j no_track).id) (side g) (cells_at es j)) → Counted T g l (total es)
unfolding total
counts_all T g [] [] e f = no_tracks
counts_all T g [] (c ∷ es) e f = absurd (omega arith)
counts_all T g (a ∷ l) [] e f = absurd (omega arith)
counts_all T g (a ∷ l) (c ∷ es) e f = and_track c (f 0 (omega arith)) (counts_all T g l es (omega arith) (λ j h. f (suc j) (omega arith)))

-- a tip that has ended has entered exactly the cells of its trace
module _ {S : Listing} {g k : ℕ} {w : Sweep} (go : Going S g k w) {j : ℕ} (h : j < length S.tracks) (over : (tip_in w.crowd.tips j).ended ≡ false → ⊥) where
  end_is : end_of (tip_in w.crowd.tips j) ≈ᵗ time_of (roll_of S) (tip_at S j).id
  end_is =
      let e = go.state.looked.ends.ended j h over in
      let (r, m, i, f) = up_known go.done zeroᵗ (tip_at S j).id e.row e.written e.named in
      let z : time_of (roll_of S) (tip_at S j).id ≡ time r = ap (time_of (roll_of S)) (sym i) ∙ time_of-row (roll_of S) r (roll_of_lem S go.state.accepted).meets.is_set.distinct (known_roll go.rows r m) in
      subst (λ (t : Time). end_of (tip_in w.crowd.tips j) ≈ᵗ t) (sym (gone_at e zeroᵗ) ∙ f ∙ sym z) (≈ᵗ_refl (end_of (tip_in w.crowd.tips j)))

  pub ended_cells : CellsOf (tip_at S j) (time_of (roll_of S) (tip_at S j).id) (side g) (cells_at go.es j)
  ended_cells = cells_same end_is (go.state.looked.gone j h over)

module _ {S : Listing} {g k : ℕ} {w : Sweep} (go : Going S g k w) (nothing : (j : ℕ) → slot w.crowd.pending j ≡ none) where
  abbrev n : ℕ
  n = length S.tracks

  abbrev ts : List Tip
  ts = w.crowd.tips

  -- no event is pending, so no tip runs
  all-over : (j : ℕ) → j < n → (tip_in ts j).ended ≡ false → ⊥
  all-over j h x = none≢some (sym (nothing j) ∙ go.state.queued.due j (h, x) (none_out go.state.accepted.few_tracks j h))

  -- so each has a row
  more : k < n → ⊥
  more h =
      let (a, r) = progress_more go.state.accepted go.rows.progress (omega (arith, go.rows.out)) in
      let (i, l, f) = at_mem no_track S.tracks a r.on_sheet in
      let e = go.state.looked.ends.ended i l (all-over i l) in
      r.fresh e.row e.written (e.named ∙ ap (λ (z : Track). z.id) f)

  pub closed-rows : k ≡ n
  closed-rows = pick (dec_lt k n)
    where
      few : k ≤ n
      few = omega (arith, go.rows.out, go.rows.progress.count)

      pick : Dec (k < n) → k ≡ n
      pick (yes h) = absurd (more h)
      pick (no h) = omega (arith, few)

  pub closed_count : Counted (time_of (roll_of S)) g S.tracks w.entered
  closed_count =
      subst (λ (z : ℕ). Counted (time_of (roll_of S)) g S.tracks z) (sym go.state.listed.counted)
      (counts_all (time_of (roll_of S)) g S.tracks go.es go.state.es_long (λ j h. ended_cells go h (all-over j h)))

  -- all rows are out, and the cells are counted (SHEETS 6.6)
  pub closed : (k ≡ length S.tracks) × (w.entered ≡ cells_entered S g)
  closed = (closed-rows, the_count go.state.accepted go.figure closed_count)
