-- The members of a list that pass a test: `passing_in` and `in_passing`, which they are; `passing-pairs`, what holds of every two. Assumes nothing.
use mathlib.Core.Path.{◌≡◌, refl, sym, ap, ◌∙◌}
use mathlib.Core.Logic.{◌⊎◌, inl, inr}
use mathlib.Core.Bool.{Bool, true, false, cond}
use mathlib.Core.List.Memᴰ
use mathlib.Core.List.{List, [], ◌∷◌}
use Prim.Native.Nat.{ℕ}
use native.Mathlib.Omega.{arith}
use Rattle.sheet.specs.Accepted.{Pairwise}
use Rattle.sheet.specs.Listing.{◌∈◌}
use Rattle.cells.specs.Passing.{passing}

module _ {A : Type 0} (p : A → Bool) where
  pub passing_in : {k : A} (l : List A) → k ∈ passing p l → (k ∈ l) × (p k ≡ true)
  unfolding passing
  passing_in [] i = absurd (Memᴰ.not-nil i)
  passing_in {k} (x ∷ l) i = go (passing_in l) (p x) refl i
    where
      both : p x ≡ true → ((k ∈ passing p l) → (k ∈ l) × (p k ≡ true)) → (k ≡ x) ⊎ (k ∈ passing p l) → (k ∈ (x ∷ l)) × (p k ≡ true)
      both e r (inl f) = (Memᴰ.head f, ap p f ∙ e)
      both e r (inr j) = let (m, t) = r j in (Memᴰ.tail m, t)

      go : ((k ∈ passing p l) → (k ∈ l) × (p k ≡ true)) → (b : Bool) → p x ≡ b → k ∈ cond b (x ∷ passing p l) (passing p l) → (k ∈ (x ∷ l)) × (p k ≡ true)
      go r true e j = both e r (Memᴰ.cases_cons j)
      go r false e j = let (m, t) = r j in (Memᴰ.tail m, t)

  pub in_passing : {k : A} (l : List A) → k ∈ l → p k ≡ true → k ∈ passing p l
  unfolding passing
  in_passing [] i t = absurd (Memᴰ.not-nil i)
  in_passing {k} (x ∷ l) i t = go (in_passing l) (p x) refl (Memᴰ.cases_cons i)
    where
      go : (k ∈ l → p k ≡ true → k ∈ passing p l) → (b : Bool) → p x ≡ b → (k ≡ x) ⊎ (k ∈ l) → k ∈ cond b (x ∷ passing p l) (passing p l)
      go r true e (inl f) = Memᴰ.head f
      go r true e (inr j) = Memᴰ.tail (r j t)
      go r false e (inl f) = absurd (let g = sym e ∙ sym (ap p f) ∙ t in let z : ◌≡◌ {A = ℕ} 0 1 = cc in omega arith)
      go r false e (inr j) = r j t

  pub passing-pairs : (R : A → A → Type 0) (l : List A) → Pairwise R l → Pairwise R (passing p l)
  unfolding passing
  passing-pairs R [] d = tt
  passing-pairs R (x ∷ l) d = go (p x) (passing-pairs R l d.1)
    where
      go : (b : Bool) → Pairwise R (passing p l) → Pairwise R (cond b (x ∷ passing p l) (passing p l))
      go true r = (λ y m. d.0 y (passing_in l m).0, r)
      go false r = r
