-- A program that reads a buffer full and writes what it makes of it: `answered`, it writes what it makes of the input.
use Rattle.std.proofs.Common.{◌≡◌, ap, ◌∙◌, subst, List, ℕ, take, Option, Some, None, IfSome, Result, OnOk}
use Rattle.std.proofs.lemmas.Result.{on_ok_weaker}
use Rattle.std.specs.Io.KnownBytes.{Appends}

-- f of what was read, and g of the input, where the first m bytes decide it
module _ (f g : List ℕ → List ℕ) (m : ℕ) (decided : (s : List ℕ) → f (take m s) ≡ g s) where
  of_input : (a : Option (List ℕ)) (got : List ℕ) (P : List ℕ → Type 0) → IfSome a (λ s. got ≡ take m s) → P (f got) → IfSome a (λ s. P (g s))
  of_input None got P e p = tt
  of_input (Some x) got P e p = subst P (ap f e ∙ decided x) p

  pub answered : {T E : Type 0} (r : Result T E) (a o w : Option (List ℕ)) (got printed : List ℕ) → IfSome a (λ s. got ≡ take m s) → printed ≡ f got
      → OnOk r (Appends o w printed) → OnOk r (IfSome a (λ s. Appends o w (g s)))
  answered r a o w got printed e q = on_ok_weaker r (λ p. of_input a got (Appends o w) e (subst (Appends o w) q p))
