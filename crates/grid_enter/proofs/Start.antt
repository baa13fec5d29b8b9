-- The tips begin, one after another. Main theorems: `starts` (the next is on its way into the cell of its start), `started` (and is there).
use mathlib.Core.List.{List, []}
use mathlib.Core.Path.{◌≡◌, refl, sym, ap, ◌∙◌, subst}
use Prim.Native.Nat.{ℕ, ◌+◌, ◌/◌, ◌<◌}
use native.Mathlib.Omega.{arith}
use lib.ListN.{length}
use Rattle.sheet.specs.declared.Track.{Track}
use Rattle.sheet.specs.Listing.{Listing}
use Rattle.cause.specs.declared.Cause.{Cause}
use Rattle.cause.specs.Cause.{tip_at}
use Rattle.cause.specs.Offer.{AtEdge}
use Rattle.cause.proofs.Looking.{OfEdge, edge_first}
use Rattle.cells.specs.declared.Cell.{Cell}
use Rattle.cells.specs.Grid.{Figure, g1, g2, g4, g8, g16, g32, side}
use Rattle.cells.specs.Walk.{first}
use Rattle.tips.specs.declared.Tip.{Tip}
use Rattle.tips.specs.Tips.{with_best, with_base}
use Rattle.grid_state.specs.Sweep.{Sweep}
use Rattle.grid_state.specs.Meeting.{Enters}
use Rattle.grid_state.specs.Run.{Way, WayOf, Starting}
use Rattle.grid_state.proofs.Figures.{figure_in}
use Rattle.grid_state.proofs.Ways.{having, start_way, start-next}

pub figure-pos : {g : ℕ} → Figure g → 0 < g
figure-pos g1 = omega arith
figure-pos g2 = omega arith
figure-pos g4 = omega arith
figure-pos g8 = omega arith
figure-pos g16 = omega arith
figure-pos g32 = omega arith

side_is : (g : ℕ) → 4096 / g ≡ side g
unfolding side
side_is g = refl

-- what `first_cell` asks
pub side-pos : {g : ℕ} → Figure g → 0 < 4096 / g
side-pos {g} f = omega (arith, side_is g, (figure_in f).0)

module _ {S : Listing} {g i : ℕ} {w : Sweep} (st : Starting S g i w) (more : i < length S.tracks) {a : Track} (read : a ≡ tip_at S i) {c : Cause} (edge : AtEdge a c)
    {t t' : List Tip} (base : t ≡ with_base w.crowd.tips i c) (best : t' ≡ with_best t i c) {k : Cell} (cell : k ≡ first a (4096 / g)) where
  of_edge : OfEdge S (tip_at S i) c
  of_edge = edge_first S (tip_at S i) (subst (λ (z : Track). AtEdge z c) read edge)

  stored : t' ≡ with_best (with_base w.crowd.tips i c) i c
  stored = best ∙ ap (λ (z : List Tip). with_best z i c) base

  start : k ≡ first (tip_at S i) (side g)
  start = cell ∙ ap (λ (z : Track). first z (4096 / g)) read ∙ ap (first (tip_at S i)) (side_is g)

  own_way : WayOf S (4096 / g) (i + 1) i k [] st.es (having w t')
  own_way =
      subst (λ (z : ℕ). WayOf S z (i + 1) i k [] st.es (having w t')) (sym (side_is g))
      (subst (λ (z : Cell). WayOf S (side g) (i + 1) i z [] st.es (having w t')) (sym start)
      (subst (λ (z : List Tip). WayOf S (side g) (i + 1) i (first (tip_at S i) (side g)) [] st.es (having w z)) (sym stored) (start_way st more of_edge)))

  pub starts : Way S (4096 / g) i k (having w t')
  starts = record { begun = i + 1; done = []; es = st.es; way = own_way }

  pub started : {w' : Sweep} → Enters S (4096 / g) i k (having w t') w' → Starting S g (i + 1) w'
  started {w'} e =
      start-next st more of_edge
      (subst (λ (z : List Tip). Enters S (side g) i (first (tip_at S i) (side g)) (having w z) w') stored
      (subst (λ (z : Cell). Enters S (side g) i z (having w t') w') start (subst (λ (z : ℕ). Enters S z i k (having w t') w') (side_is g) e)))
