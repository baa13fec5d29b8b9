-- Each row of a roll has a track of its own (`own_track`). So the ways are the same in every order of the records (`ways_order`), and narrow enough for doubles (`ways_narrow`).
use Prim.Native.Nat.{ℕ}
use mathlib.Core.Path.{◌≡◌, refl, sym, ap, ap₂, subst, ◌∙◌}
use mathlib.Core.Logic.{◌⊎◌, inl, inr}
use mathlib.Core.Bool.{Bool, true, false, cond}
use mathlib.Core.List.Memᴰ
use mathlib.Core.List.{List, [], ◌∷◌}
use native.Mathlib.Omega.{arith}
use borrow.Author.Tests.{eq-eqb, eqb-true}
use lib.Dec.{eqb}
use Rattle.sheet.specs.declared.Track.{Track}
use Rattle.sheet.specs.Accepted.{Pairwise, Accepted}
use Rattle.sheet.specs.Listing.{Listing, ◌∈◌, Reordered}
use Rattle.sheet.proofs.Lists.{pairwise_at, perm_mem}
use Rattle.sheet.proofs.Order.{accepted_reordered}
use Rattle.rule.specs.declared.Row.{Row}
use Rattle.rule.specs.Selection.{roll_of}
use Rattle.rule.proofs.Existence.{roll_of_lem}
use Rattle.rule.proofs.OrderFree.{roll_order}
use Rattle.rule.proofs.Widths.{roll_fits}
use Rattle.shapefile.specs.declared.Passage.{Passage}
use Rattle.shapefile.specs.Reading.{NarrowPassage}
use Rattle.passages.specs.Passages.{track_with, passage_of, passages_of}

-- a is a track of l with this id
abbrev Owns : List Track → ℕ → Track → Type 0
Owns l id a = (a ∈ l) × (a.id ≡ id)

-- where there is one it is found
found : (l : List Track) (id : ℕ) (a : Track) → Owns l id a → Owns l id (track_with l id)
unfolding track_with
found [] id a (m, e) = absurd (Memᴰ.not-nil m)
found (b ∷ l) id a (m, e) = go (eqb b.id id) refl (Memᴰ.cases_cons m) (λ n. found l id a (n, e))
  where
    go : (t : Bool) → eqb b.id id ≡ t → (a ≡ b) ⊎ (a ∈ l) → (a ∈ l → Owns l id (track_with l id)) → Owns (b ∷ l) id (cond t b (track_with l id))
    go true q n rec = (Memᴰ.head refl, eqb-true b.id id q)
    go false q (inl f) rec = absurd (let z : ◌≡◌ {A = ℕ} 0 1 = cc (eq-eqb b.id id (ap (λ (c : Track). c.id) (sym f) ∙ e)) in omega arith)
    go false q (inr n) rec = let (i, h) = rec n in (Memᴰ.tail i, h)

pub own_track : (S : Listing) → Accepted S → (r : Row) → r ∈ roll_of S → (track_with S.tracks r.id ∈ S.tracks) × ((track_with S.tracks r.id).id ≡ r.id)
own_track S acc r m = let (a, i, e) = (roll_of_lem S acc).meets.is_set.no_other r m in found S.tracks r.id a (i, sym e)

-- ---- in every order of the records

-- ids are distinct
one-track : {l : List Track} → Pairwise (λ a b. ¬ (a.id ≡ b.id)) l → {id : ℕ} {a b : Track} → Owns l id a → Owns l id b → a ≡ b
one-track {l} d {id} {a} {b} (m, e) (n, f) = go (pairwise_at (λ a b. ¬ (a.id ≡ b.id)) l d m n)
  where
    go : (a ≡ b) ⊎ ((¬ (a.id ≡ b.id)) ⊎ (¬ (b.id ≡ a.id))) → a ≡ b
    go (inl h) = h
    go (inr (inl h)) = absurd (h (e ∙ sym f))
    go (inr (inr h)) = absurd (h (f ∙ sym e))

same_ways : (T U : List Track) (rows : List Row) → ((r : Row) → r ∈ rows → track_with T r.id ≡ track_with U r.id) → passages_of T rows ≡ passages_of U rows
unfolding passages_of passage_of
same_ways T U [] h = refl
same_ways T U (r ∷ rows) h = ap₂ ◌∷◌ (rw (h r (Memᴰ.head refl)) refl) (same_ways T U rows (λ q m. h q (Memᴰ.tail m)))

pub ways_order : {S S' : Listing} → Reordered S S' → Accepted S → passages_of S.tracks (roll_of S) ≡ passages_of S'.tracks (roll_of S')
ways_order {S} {S'} p acc = same_ways S.tracks S'.tracks (roll_of S) same ∙ ap (passages_of S'.tracks) (roll_order p acc)
  where
    acc' : Accepted S'
    acc' = accepted_reordered p acc

    same : (r : Row) → r ∈ roll_of S → track_with S.tracks r.id ≡ track_with S'.tracks r.id
    same r m =
        let (i, e) = own_track S acc r m in
        one-track acc'.track_ids (perm_mem p.tracks _ i, e) (own_track S' acc' r (subst (λ (l : List Row). r ∈ l) (roll_order p acc) m))

-- ---- coordinates

narrow_way : (S : Listing) → Accepted S → (r : Row) → r ∈ roll_of S → NarrowPassage (passage_of S.tracks r)
unfolding passage_of
narrow_way S acc r m =
    let k = acc.tracks_ok _ (own_track S acc r m).0 in
    let f = roll_fits S acc r m in
    record { x = omega (arith, k.x_in); y = omega (arith, k.y_in); u = f.x; v = f.y }

pub ways_narrow : (S : Listing) → Accepted S → (p : Passage) → p ∈ passages_of S.tracks (roll_of S) → NarrowPassage p
unfolding passages_of
ways_narrow S acc p m = let (r, n, e) = Memᴰ.of_map (passage_of S.tracks) (roll_of S) m in subst NarrowPassage e (narrow_way S acc r n)
