-- Looked where a tip comes to a cell. Main theorems: `enter_walls` (it has looked at the walls there), `open_tip` (it begins).
use mathlib.Core.Bool.{Bool, false}
use mathlib.Core.List.Memᴰ
use mathlib.Core.List.{List, [], ◌∷◌}
use mathlib.Core.Logic.{◌⊎◌, inl, inr, ◌≢◌}
use mathlib.Core.Path.{◌≡◌, sym, ap, ◌∙◌, subst}
use Prim.Native.Nat.{ℕ, ◌+◌, ◌<◌}
use native.Mathlib.Omega.{arith}
use lib.ListN.{length, set, length-set}
use lib.Seq.{get_or-set_same, set-set}
use Rattle.fraction.specs.Time.{Time}
use Rattle.sheet.specs.declared.Track.{Track}
use Rattle.sheet.specs.declared.Wall.{Wall}
use Rattle.sheet.specs.Listing.{Listing, ◌∈◌}
use Rattle.rule.specs.declared.Row.{Row}
use Rattle.rule.specs.Causes.{by_bar, Below, ◌≼◌}
use Rattle.rule.specs.Contact.{when}
use Rattle.rule.specs.WallTime.{wall_time}
use Rattle.rule.specs.Meanwhile.{Fresh}
use Rattle.rule.proofs.Turn.{beats_better}
use Rattle.cause.specs.declared.Cause.{Cause}
use Rattle.cause.specs.Cause.{tip_at, wall_at, cand_of, Fine, Stands}
use Rattle.cause.specs.Looked.{Near, Gone, FirstOfWalls}
use Rattle.cause.proofs.First.{first_of}
use Rattle.cause.proofs.Looking.{OfEdge}
use Rattle.cells.specs.declared.Cell.{Cell}
use Rattle.cells.specs.Touched.{CellsOf}
use Rattle.tips.specs.declared.Tip.{Tip}
use Rattle.tips.specs.Tips.{tip_in, no_tip, with_best, with_base, with_cell}
use Rattle.look.specs.Ends.{end_of}
use Rattle.pair_marks.specs.Marks.{Marked}
use Rattle.grid_steps.specs.Steps.{region_of, Here}
use Rattle.grid_state.specs.State.{cells_at, Runs, Tried, Walls, Best, Base, Looked}
use Rattle.grid_state.proofs.OneMore.{own_cells, other_cells}
use Rattle.tips.proofs.Put.{at_put}
use Rattle.grid_state.proofs.Stores.{walls_better}

-- ---- one store in place of two

abbrev pub with_both : List Tip → ℕ → Cause → Cause → List Tip
with_both ts i base best = set ts i (record { best = best; base = base; ended = (tip_in ts i).ended; cell = (tip_in ts i).cell })

pub both_put : (ts : List Tip) (i : ℕ) (base best : Cause) → i < length ts → with_best (with_base ts i base) i best ≡ with_both ts i base best
both_put ts i base best h =
    let t : Tip = record { best = (tip_in ts i).best; base = base; ended = (tip_in ts i).ended; cell = (tip_in ts i).cell } in
    set-set ts i t _ ∙ ap (λ (z : Tip). set ts i (record { best = best; base = z.base; ended = z.ended; cell = z.cell })) (get_or-set_same ts i t no_tip h)

-- ---- a cell more

-- a wall near the new cell, or near an old one
tried_more : {side : ℕ} {l : List Cell} {k : Cell} {w : Wall} → Tried side (k ∷ l) w → Near (region_of side k) w ⊎ Tried side l w
tried_more {side} {l} {k} {w} t = go (Memᴰ.cases_cons t.entered)
  where
    go : (t.cell ≡ k) ⊎ (t.cell ∈ l) → Near (region_of side k) w ⊎ Tried side l w
    go (inl e) = inl (subst (λ (z : Cell). Near (region_of side z) w) e t.near)
    go (inr m) = inr (record { cell = t.cell; entered = m; near = t.near })

pub base_more : {S : Listing} {side : ℕ} {l : List Cell} {a : Track} (k : Cell) {c r : Cause} → FirstOfWalls S a (region_of side k) c r → Base S side l a c → Base S side (k ∷ l) a r
base_more {S} {side} {l} {a} k {c} {r} f o =
    record {
      walls = record { stands = f.stands; at_rim = better.at_rim; at_walls = λ j m x u e. go j m u e (tried_more x) };
      no_track = f.no_track o.no_track;
    }
  where
    better : Walls S side l a r
    better = walls_better f.stands f.first o.walls

    go : (j : ℕ) → j < length S.walls → (u : Time) → wall_time a (wall_at S j) ≡ when u → Near (region_of side k) (wall_at S j) ⊎ Tried side l (wall_at S j) → Below (cand_of S r) u (by_bar (wall_at S j))
    go j m u e (inl x) = f.at_walls j m x u e
    go j m u e (inr x) = better.at_walls j m x u e

pub best-more : {S : Listing} {done : List Row} {side : ℕ} {l l' : List Cell} {marks : List (List Bool)} {i : ℕ} {d c r : Cause}
    → Base S side l' (tip_at S i) d → Stands S (tip_at S i) r → cand_of S r ≼ cand_of S c → cand_of S r ≼ cand_of S d → Best S done side l marks i c → Best S done side l' marks i r
best-more o t h g x = record { walls = walls_better t g o.walls; at_tips = λ j m y z. beats_better h (x.at_tips j m y z) }

module _ {S : Listing} {done : List Row} {side : ℕ} {es : List (List Cell)} {b : ℕ} {ts : List Tip} {marks : List (List Bool)} (lk : Looked S done side es b ts marks)
    (i : ℕ) (small : i < 256) (in_cells : i < length es) (runs : Runs b ts i) (k : Cell) {ts' : List Tip} (h : Here S side k i ts ts') where
  abbrev es' : List (List Cell)
  es' = set es i (k ∷ cells_at es i)

  abbrev new : Tip
  new = record { best = h.best; base = h.base; ended = (tip_in ts i).ended; cell = (tip_in ts i).cell }

  room : i < length ts
  room = omega (arith, lk.long)

  pub here_put : ts' ≡ set ts i new
  here_put = h.stored ∙ both_put ts i h.base h.best room

  pub here-first : Stands S (tip_at S i) h.best × (cand_of S h.best ≼ cand_of S (tip_in ts i).best) × (cand_of S h.best ≼ cand_of S h.base)
  here-first = first_of S (tip_at S i) (lk.best i runs).walls.stands h.looked.stands h.least

  base_new : Base S side (cells_at es' i) (tip_at S i) h.base
  base_new = subst (λ (z : List Cell). Base S side z (tip_at S i) h.base) (sym (own_cells es i in_cells k)) (base_more k h.looked (lk.base i runs))

  put : Looked S done side es' b (set ts i new) marks
  put =
      record {
        long = length-set ts i new ∙ lk.long;
        ends = record {
          running = at_put (λ (j : ℕ) (t : Tip). j < length S.tracks → t.ended ≡ false → Fresh done (tip_at S j)) ts i new room (lk.ends.running i) (λ j n. lk.ends.running j);
          ended = at_put (λ (j : ℕ) (t : Tip). j < length S.tracks → (t.ended ≡ false → ⊥) → Gone done (tip_at S j) t.best.at) ts i new room (λ m n. absurd (n runs.1)) (λ j n. lk.ends.ended j);
        };
        fine = at_put (λ (j : ℕ) (t : Tip). j < b → Fine t.best) ts i new room (λ m. here-first.0.fine) (λ j n. lk.fine j);
        best = at_put (λ (j : ℕ) (t : Tip). (j < b) × (t.ended ≡ false) → Best S done side (cells_at es' j) marks j t.best) ts i new room
            (λ m. best-more base_new here-first.0 here-first.1 here-first.2 (lk.best i runs))
            (λ j n m. subst (λ (z : List Cell). Best S done side z marks j (tip_in ts j).best) (sym (other_cells es i in_cells k j n)) (lk.best j m));
        base = at_put (λ (j : ℕ) (t : Tip). (j < b) × (t.ended ≡ false) → Base S side (cells_at es' j) (tip_at S j) t.base) ts i new room
            (λ m. base_new) (λ j n m. subst (λ (z : List Cell). Base S side z (tip_at S j) (tip_in ts j).base) (sym (other_cells es i in_cells k j n)) (lk.base j m));
        gone = at_put (λ (j : ℕ) (t : Tip). j < b → (t.ended ≡ false → ⊥) → CellsOf (tip_at S j) (end_of t) side (cells_at es' j)) ts i new room
            (λ m n. absurd (n runs.1))
            (λ j n m x. subst (λ (z : List Cell). CellsOf (tip_at S j) (end_of (tip_in ts j)) side z) (sym (other_cells es i in_cells k j n)) (lk.gone j m x));
      }

  pub enter_walls : Looked S done side es' b ts' marks
  enter_walls = subst (λ (z : List Tip). Looked S done side es' b z marks) (sym here_put) put

-- ---- the tip is in another cell

pub looked_moved : {S : Listing} {done : List Row} {side : ℕ} {es : List (List Cell)} {b : ℕ} {ts : List Tip} {marks : List (List Bool)} → Looked S done side es b ts marks
    → (i : ℕ) → i < 256 → (k : Cell) → Looked S done side es b (with_cell ts i k) marks
looked_moved {S} {done} {side} {es} {b} {ts} {marks} lk i small k =
    record {
      long = length-set ts i new ∙ lk.long;
      ends = record {
        running = at_put (λ (j : ℕ) (t : Tip). j < length S.tracks → t.ended ≡ false → Fresh done (tip_at S j)) ts i new room (lk.ends.running i) (λ j n. lk.ends.running j);
        ended = at_put (λ (j : ℕ) (t : Tip). j < length S.tracks → (t.ended ≡ false → ⊥) → Gone done (tip_at S j) t.best.at) ts i new room (lk.ends.ended i) (λ j n. lk.ends.ended j);
      };
      fine = at_put (λ (j : ℕ) (t : Tip). j < b → Fine t.best) ts i new room (lk.fine i) (λ j n. lk.fine j);
      best = at_put (λ (j : ℕ) (t : Tip). (j < b) × (t.ended ≡ false) → Best S done side (cells_at es j) marks j t.best) ts i new room (lk.best i) (λ j n. lk.best j);
      base = at_put (λ (j : ℕ) (t : Tip). (j < b) × (t.ended ≡ false) → Base S side (cells_at es j) (tip_at S j) t.base) ts i new room (lk.base i) (λ j n. lk.base j);
      gone = at_put (λ (j : ℕ) (t : Tip). j < b → (t.ended ≡ false → ⊥) → CellsOf (tip_at S j) (end_of t) side (cells_at es j)) ts i new room (lk.gone i) (λ j n. lk.gone j);
    }
  where
    new : Tip
    new = record { best = (tip_in ts i).best; base = (tip_in ts i).base; ended = (tip_in ts i).ended; cell = k }

    room : i < length ts
    room = omega (arith, lk.long)

-- ---- a tip more

module _ {S : Listing} {done : List Row} {side : ℕ} {es : List (List Cell)} {b : ℕ} {ts : List Tip} {marks : List (List Bool)} (lk : Looked S done side es b ts marks)
    (small : b < 256) (runs : (tip_in ts b).ended ≡ false) (none : cells_at es b ≡ []) (clear : (q : ℕ) → q < length S.tracks → Marked marks b q → ⊥) {c : Cause} (e : OfEdge S (tip_at S b) c) where
  abbrev opened : Tip
  opened = record { best = c; base = c; ended = (tip_in ts b).ended; cell = (tip_in ts b).cell }

  room_more : b < length ts
  room_more = omega (arith, lk.long)

  edged : Walls S side (cells_at es b) (tip_at S b) c
  edged = record { stands = e.stands; at_rim = e.at_rim; at_walls = λ w m x. absurd (Memᴰ.not-nil (subst (λ (z : List Cell). x.cell ∈ z) none x.entered)) }

  -- the others had begun before
  older : (j : ℕ) → j ≢ b → j < b + 1 → j < b
  older j n m = omega arith

  pub open_tip : Looked S done side es (b + 1) (with_both ts b c c) marks
  open_tip =
      record {
        long = length-set ts b opened ∙ lk.long;
        ends = record {
          running = at_put (λ (j : ℕ) (t : Tip). j < length S.tracks → t.ended ≡ false → Fresh done (tip_at S j)) ts b opened room_more (lk.ends.running b) (λ j n. lk.ends.running j);
          ended = at_put (λ (j : ℕ) (t : Tip). j < length S.tracks → (t.ended ≡ false → ⊥) → Gone done (tip_at S j) t.best.at) ts b opened room_more (λ m n. absurd (n runs)) (λ j n. lk.ends.ended j);
        };
        fine = at_put (λ (j : ℕ) (t : Tip). j < b + 1 → Fine t.best) ts b opened room_more (λ m. e.stands.fine) (λ j n m. lk.fine j (older j n m));
        best = at_put (λ (j : ℕ) (t : Tip). (j < b + 1) × (t.ended ≡ false) → Best S done side (cells_at es j) marks j t.best) ts b opened room_more
            (λ m. record { walls = edged; at_tips = λ q l x y. absurd (clear q l x) }) (λ j n m. lk.best j (older j n m.0, m.1));
        base = at_put (λ (j : ℕ) (t : Tip). (j < b + 1) × (t.ended ≡ false) → Base S side (cells_at es j) (tip_at S j) t.base) ts b opened room_more
            (λ m. record { walls = edged; no_track = e.no_track }) (λ j n m. lk.base j (older j n m.0, m.1));
        gone = at_put (λ (j : ℕ) (t : Tip). j < b + 1 → (t.ended ≡ false → ⊥) → CellsOf (tip_at S j) (end_of t) side (cells_at es j)) ts b opened room_more
            (λ m n. absurd (n runs)) (λ j n m. lk.gone j (older j n m));
      }
