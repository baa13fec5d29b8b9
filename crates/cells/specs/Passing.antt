-- The members of a list that pass a test, in the list's order.
use Rattle.std.specs.Prelude.{Bool, cond, List, [], ◌∷◌}

unfoldable pub passing : {A : Type 0} → (A → Bool) → List A → List A
passing p [] = []
passing p (x ∷ l) = cond (p x) (x ∷ passing p l) (passing p l)
