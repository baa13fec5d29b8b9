-- The extent is the least and the greatest over all points (`bounded`): no point lies outside it (`inside`), and a point lies on each of its sides (`reached`).
use Prim.Native.Nat.{ℕ, min, max}
use mathlib.Core.Path.{◌≡◌, refl, ap, ◌∙◌}
use mathlib.Core.Logic.{◌⊎◌, inl, inr}
use mathlib.Core.Bool.{Bool, true, false}
use mathlib.Core.List.Memᴰ
use mathlib.Core.List.{List, [], ◌∷◌}
use native.Mathlib.Omega.{arith}
use borrow.Author.Tests.{ltb-true, ltb-false}
use lib.Dec.{ltb}
use Rattle.shapefile.specs.Extent.{Point, Extent, wider, widest, extent}
use Rattle.shapefile.specs.Reading.{◌∈◌, Inside, Reached, LeastBox, none, some}

-- widening loses nothing
kept : (e : Extent) (l : List Point) (p : Point) → Inside e p → Inside (widest e l) p
unfolding widest
kept e [] p h = h
kept e (q ∷ l) p h = kept (wider e q) l p (record { left = omega arith; right = omega arith; low = omega arith; high = omega arith })

within : (e : Extent) (l : List Point) (p : Point) → p ∈ l → Inside (widest e l) p
unfolding widest
within e [] p h = elim h [ ]
within e (q ∷ l) p (Memᴰ.head h) =
    let u = ap (λ (r : Point). r.x) h in
    let v = ap (λ (r : Point). r.y) h in
    kept (wider e q) l p (record { left = omega arith; right = omega arith; low = omega arith; high = omega arith })
within e (q ∷ l) p (Memᴰ.tail h) = within (wider e q) l p h

pub inside : (l : List Point) (p : Point) → p ∈ l → Inside (extent l) p
unfolding extent
inside [] p h = elim h [ ]
inside (q ∷ l) p (Memᴰ.head h) =
    let u = ap (λ (r : Point). r.x) h in
    let v = ap (λ (r : Point). r.y) h in
    kept (record { left = q.x; low = q.y; right = q.x; high = q.y }) l p (record { left = omega arith; right = omega arith; low = omega arith; high = omega arith })
inside (q ∷ l) p (Memᴰ.tail h) = within (record { left = q.x; low = q.y; right = q.x; high = q.y }) l p h

-- ---- each side of the box is some point's

-- f picks a side, and g that coordinate of a point: widening keeps the side or takes the point's
module _ (f : Extent → ℕ) (g : Point → ℕ) (pick : (e : Extent) (p : Point) → (f (wider e p) ≡ f e) ⊎ (f (wider e p) ≡ g p)) where
  side : (e : Extent) (l : List Point) → (f (widest e l) ≡ f e) ⊎ ((p : Point) × (p ∈ l) × (f (widest e l) ≡ g p))
  unfolding widest
  side e [] = inl refl
  side e (q ∷ l) = go (side (wider e q) l) (pick e q)
    where
      go : (f (widest (wider e q) l) ≡ f (wider e q)) ⊎ ((p : Point) × (p ∈ l) × (f (widest (wider e q) l) ≡ g p))
          → (f (wider e q) ≡ f e) ⊎ (f (wider e q) ≡ g q)
          → (f (widest (wider e q) l) ≡ f e) ⊎ ((p : Point) × (p ∈ (q ∷ l)) × (f (widest (wider e q) l) ≡ g p))
      go (inl a) (inl b) = inl (a ∙ b)
      go (inl a) (inr b) = inr (q, Memᴰ.head refl, a ∙ b)
      go (inr r) b = inr (r.0, Memᴰ.tail r.1, r.2)

  -- of a file with a point
  on : (q : Point) (l : List Point) → f (record { left = q.x; low = q.y; right = q.x; high = q.y }) ≡ g q
      → (p : Point) × (p ∈ (q ∷ l)) × (f (extent (q ∷ l)) ≡ g p)
  unfolding extent
  on q l h = go (side (record { left = q.x; low = q.y; right = q.x; high = q.y }) l)
    where
      go : (f (extent (q ∷ l)) ≡ f (record { left = q.x; low = q.y; right = q.x; high = q.y })) ⊎ ((p : Point) × (p ∈ l) × (f (extent (q ∷ l)) ≡ g p))
          → (p : Point) × (p ∈ (q ∷ l)) × (f (extent (q ∷ l)) ≡ g p)
      go (inl a) = (q, Memᴰ.head refl, a ∙ h)
      go (inr r) = (r.0, Memᴰ.tail r.1, r.2)

least : (a b : ℕ) → (min a b ≡ a) ⊎ (min a b ≡ b)
least a b = go (ltb a b) refl
  where
    go : (t : Bool) → ltb a b ≡ t → (min a b ≡ a) ⊎ (min a b ≡ b)
    go true e = let h = ltb-true a b e in inl (omega arith)
    go false e = let h = ltb-false a b e in inr (omega arith)

greatest : (a b : ℕ) → (max a b ≡ a) ⊎ (max a b ≡ b)
greatest a b = go (ltb a b) refl
  where
    go : (t : Bool) → ltb a b ≡ t → (max a b ≡ a) ⊎ (max a b ≡ b)
    go true e = let h = ltb-true a b e in inr (omega arith)
    go false e = let h = ltb-false a b e in inl (omega arith)

pub reached : (q : Point) (l : List Point) → Reached (q ∷ l) (extent (q ∷ l))
reached q l =
    record {
      left = on (λ e. e.left) (λ p. p.x) (λ e p. least e.left p.x) q l refl;
      low = on (λ e. e.low) (λ p. p.y) (λ e p. least e.low p.y) q l refl;
      right = on (λ e. e.right) (λ p. p.x) (λ e p. greatest e.right p.x) q l refl;
      high = on (λ e. e.high) (λ p. p.y) (λ e p. greatest e.high p.y) q l refl;
    }

pub bounded : (l : List Point) → LeastBox l (extent l)
unfolding extent
bounded [] = none
bounded (q ∷ l) = some (inside (q ∷ l)) (reached q l)
