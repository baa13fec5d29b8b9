-- Looked after a store. Main theorems: `store_best`, `look_first`, `mark_one`, `marked_both`.
use mathlib.Core.Bool.{Bool, false}
use mathlib.Core.List.{List}
use mathlib.Core.Logic.{◌⊎◌, inl, inr, ◌≢◌}
use mathlib.Core.Path.{◌≡◌, sym, ◌∙◌, subst}
use Prim.Native.Nat.{ℕ, ◌≤◌, ◌<◌}
use native.Mathlib.Omega.{arith}
use lib.ListN.{length, length-set}
use Rattle.sheet.specs.declared.Track.{Track}
use Rattle.sheet.specs.Accepted.{Accepted}
use Rattle.sheet.specs.HandedIn.{no_track}
use Rattle.sheet.specs.Listing.{Listing}
use Rattle.sheet.proofs.Lists.{mem_at}
use Rattle.rule.specs.declared.Row.{Row}
use Rattle.rule.specs.Causes.{by_bar, by_rim, ◌≼◌}
use Rattle.rule.specs.EdgeTime.{rim}
use Rattle.rule.proofs.Existence.{cand_trans}
use Rattle.rule.specs.Meanwhile.{Beats, Fresh}
use Rattle.rule.proofs.Turn.{beats_better}
use Rattle.cause.specs.declared.Cause.{Cause}
use Rattle.cause.specs.Cause.{tip_at, wall_at, cand_of, Fine, Stands}
use Rattle.cause.specs.Looked.{Gone, FirstOfTracks}
use Rattle.cause.proofs.Looking.{tip_looked}
use Rattle.cells.specs.declared.Cell.{Cell}
use Rattle.cells.specs.Touched.{CellsOf}
use Rattle.tips.proofs.Put.{at_put}
use Rattle.tips.specs.declared.Tip.{Tip}
use Rattle.tips.specs.Tips.{tip_in, with_best}
use Rattle.pair_marks.specs.Marks.{Marked, Square, marking}
use Rattle.pair_marks.proofs.Marked.{mark_same, mark_kept, mark_only, square_kept}
use Rattle.grid_steps.specs.Steps.{Offered}
use Rattle.look.specs.Ends.{end_of}
use Rattle.grid_state.specs.State.{cells_at, Runs, Walls, Best, Base, Looked, Marks}

-- ---- a better cause

pub walls_better : {S : Listing} {side : ℕ} {l : List Cell} {a : Track} {c d : Cause} → Stands S a d → cand_of S d ≼ cand_of S c → Walls S side l a c → Walls S side l a d
walls_better {S} {side} {l} {a} {c} {d} t h w =
    record {
      stands = t;
      at_rim = cand_trans (cand_of S d) (cand_of S c) (record { u = rim a; why = by_rim }) h w.at_rim;
      at_walls = λ j i x u e. cand_trans (cand_of S d) (cand_of S c) (record { u = u; why = by_bar (wall_at S j) }) h (w.at_walls j i x u e);
    }

pub best_better : {S : Listing} {done : List Row} {side : ℕ} {l : List Cell} {marks : List (List Bool)} {j : ℕ} {c d : Cause} → Stands S (tip_at S j) d → cand_of S d ≼ cand_of S c
    → Best S done side l marks j c → Best S done side l marks j d
best_better t h b = record { walls = walls_better t h b.walls; at_tips = λ k m x y. beats_better h (b.at_tips k m x y) }

module _ {S : Listing} {done : List Row} {side : ℕ} {es : List (List Cell)} {b : ℕ} {ts : List Tip} {marks : List (List Bool)} (lk : Looked S done side es b ts marks) (i : ℕ) (h : i < 256) (r : Runs b ts i) (c : Cause) where
  abbrev new : Tip
  new = record { best = c; base = (tip_in ts i).base; ended = (tip_in ts i).ended; cell = (tip_in ts i).cell }

  room : i < length ts
  room = omega (arith, lk.long)

  -- a running tip's cause is stored
  pub store_best : Fine c → Best S done side (cells_at es i) marks i c → Looked S done side es b (with_best ts i c) marks
  store_best f x =
      record {
        long = length-set ts i new ∙ lk.long;
        ends = record {
          running = at_put (λ (k : ℕ) (t : Tip). k < length S.tracks → t.ended ≡ false → Fresh done (tip_at S k)) ts i new room (lk.ends.running i) (λ k n. lk.ends.running k);
          ended = at_put (λ (k : ℕ) (t : Tip). k < length S.tracks → (t.ended ≡ false → ⊥) → Gone done (tip_at S k) t.best.at) ts i new room (λ l n. absurd (n r.1)) (λ k n. lk.ends.ended k);
        };
        fine = at_put (λ (j : ℕ) (t : Tip). j < b → Fine t.best) ts i new room (λ l. f) (λ j n. lk.fine j);
        best = at_put (λ (j : ℕ) (t : Tip). (j < b) × (t.ended ≡ false) → Best S done side (cells_at es j) marks j t.best) ts i new room (λ l. x) (λ j n. lk.best j);
        base = at_put (λ (j : ℕ) (t : Tip). (j < b) × (t.ended ≡ false) → Base S side (cells_at es j) (tip_at S j) t.base) ts i new room (lk.base i) (λ j n. lk.base j);
        gone = at_put (λ (j : ℕ) (t : Tip). j < b → (t.ended ≡ false → ⊥) → CellsOf (tip_at S j) (end_of t) side (cells_at es j)) ts i new room (λ l n. absurd (n r.1)) (λ j n. lk.gone j);
      }

-- the tip at j looks at the tip at q
pub look_first : {S : Listing} → Accepted S → {done : List Row} {side : ℕ} {es : List (List Cell)} {b : ℕ} {ts : List Tip} {marks : List (List Bool)} → Looked S done side es b ts marks
    → (j q : ℕ) → j < length S.tracks → q < length S.tracks → Runs b ts j → {ts' : List Tip} → (o : Offered S j q ts ts')
    → FirstOfTracks S done (tip_at S j) (λ (m : ℕ). m ≡ q) (tip_in ts j).best o.cause
look_first {S} acc {done} {ts = ts} lk j q hj hq r o =
    tip_looked S acc (tip_at S j) (mem_at no_track S.tracks j hj) q hq (tip_in ts q).ended (tip_in ts q).best.at done
    (lk.ends.running q hq) (lk.ends.ended q hq) (lk.best j r).walls.stands o.offered

-- ---- one mark more

pub mark_one : {S : Listing} {done : List Row} {side : ℕ} {es : List (List Cell)} {b : ℕ} {ts : List Tip} {marks : List (List Bool)} → Looked S done side es b ts marks → Square marks → (i j : ℕ) → i < 256
    → (Runs b ts i → (tip_at S j).id ≢ (tip_at S i).id → Beats done (cand_of S (tip_in ts i).best) (tip_at S i) (tip_at S j)) → Looked S done side es b ts (marking marks i j)
mark_one {S} {done} {side} {es} {b} {ts} {marks} lk sq i j h f =
    record {
      long = lk.long;
      ends = lk.ends;
      fine = lk.fine;
      best = λ p r. record { walls = (lk.best p r).walls; at_tips = λ q n x y. go p q r n y (mark_only marks i j (omega (arith, sq.rows_long)) p q x) };
      base = lk.base;
      gone = lk.gone;
    }
  where
    go : (p q : ℕ) → Runs b ts p → q < length S.tracks → (tip_at S q).id ≢ (tip_at S p).id → ((p ≡ i) × (q ≡ j)) ⊎ Marked marks p q → Beats done (cand_of S (tip_in ts p).best) (tip_at S p) (tip_at S q)
    go p q r n y (inr x) = (lk.best p r).at_tips q n x y
    go p q r n y (inl (e, g)) =
        subst (λ (z : ℕ). Runs b ts z → (tip_at S q).id ≢ (tip_at S z).id → Beats done (cand_of S (tip_in ts z).best) (tip_at S z) (tip_at S q)) (sym e)
        (subst (λ (z : ℕ). Runs b ts i → (tip_at S z).id ≢ (tip_at S i).id → Beats done (cand_of S (tip_in ts i).best) (tip_at S i) (tip_at S z)) (sym g) f) r y

-- a mark at p, q is one of the two, or was there
abbrev Which : List (List Bool) → ℕ → ℕ → ℕ → ℕ → Type 0
Which marks i j p q = ((p ≡ i) × (q ≡ j)) ⊎ (((p ≡ j) × (q ≡ i)) ⊎ Marked marks p q)

module _ {marks : List (List Bool)} (sq : Square marks) (i j : ℕ) (h : i < 256) (k : j < 256) where
  abbrev two : List (List Bool)
  two = marking marks i j

  abbrev all : List (List Bool)
  all = marking two j i

  both_back : (p q : ℕ) → Marked all p q → Which marks i j p q
  both_back p q x = one (mark_only two j i (omega (arith, (square_kept marks i j sq).rows_long)) p q x)
    where
      first : ((p ≡ i) × (q ≡ j)) ⊎ Marked marks p q → Which marks i j p q
      first (inl e) = inl e
      first (inr e) = inr (inr e)

      one : ((p ≡ j) × (q ≡ i)) ⊎ Marked two p q → Which marks i j p q
      one (inl e) = inr (inl e)
      one (inr e) = first (mark_only marks i j (omega (arith, sq.rows_long)) p q e)

  second_kept : (p q : ℕ) → Marked two p q → Marked all p q
  second_kept p q x =
      let s = square_kept marks i j sq in
      mark_kept two j i (omega (arith, s.rows_long)) (omega (arith, s.row_long j k)) p q x

  -- marks stay
  pub both_kept : (p q : ℕ) → Marked marks p q → Marked (marking (marking marks i j) j i) p q
  both_kept p q x = second_kept p q (mark_kept marks i j (omega (arith, sq.rows_long)) (omega (arith, sq.row_long i h)) p q x)

  pub both_first : Marked (marking (marking marks i j) j i) i j
  both_first = second_kept i j (mark_same marks i j (omega (arith, sq.rows_long)) (omega (arith, sq.row_long i h)))

  both_second : Marked all j i
  both_second = let s = square_kept marks i j sq in mark_same two j i (omega (arith, s.rows_long)) (omega (arith, s.row_long j k))

pub marked_both : {es : List (List Cell)} {b : ℕ} {marks : List (List Bool)} → Marks es b marks → (i j : ℕ) → i < b → j < b → b ≤ 256 → Marks es b (marking (marking marks i j) j i)
marked_both {es} {b} {marks} mk i j h k l =
    record {
      square = square_kept (marking marks i j) j i (square_kept marks i j mk.square);
      both = λ p q m n x. turned p q m n (both_back mk.square i j hi hj p q x);
      begun = λ p q m n x. begun_of p q m n (both_back mk.square i j hi hj p q x);
      share = λ p q c m n d x y. both_kept mk.square i j hi hj p q (mk.share p q c m n d x y);
    }
  where
    hi : i < 256
    hi = omega arith

    hj : j < 256
    hj = omega arith

    now : List (List Bool)
    now = marking (marking marks i j) j i

    turned : (p q : ℕ) → p < 256 → q < 256 → Which marks i j p q → Marked now q p
    turned p q m n (inl (e, f)) = subst (λ (z : ℕ). Marked now z p) (sym f) (subst (λ (z : ℕ). Marked now j z) (sym e) (both_second mk.square i j hi hj))
    turned p q m n (inr (inl (e, f))) = subst (λ (z : ℕ). Marked now z p) (sym f) (subst (λ (z : ℕ). Marked now i z) (sym e) (both_first mk.square i j hi hj))
    turned p q m n (inr (inr x)) = both_kept mk.square i j hi hj q p (mk.both p q m n x)

    begun_of : (p q : ℕ) → p < 256 → q < 256 → Which marks i j p q → (p < b) × (q < b)
    begun_of p q m n (inl (e, f)) = (omega arith, omega arith)
    begun_of p q m n (inr (inl (e, f))) = (omega arith, omega arith)
    begun_of p q m n (inr (inr x)) = mk.begun p q m n x
