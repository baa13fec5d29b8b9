-- What is returned at each way out, as numbers: `left-two`, `left` and `left-four`, alone or with what lent memory then holds.
use mathlib.Core.Path.{◌≡◌, ap, ◌∙◌}
use mathlib.Core.List.{List}
use Prim.Native.Nat.{ℕ}
use Rattle.sheet.specs.Returned.{Returned}
use Rattle.c_answers.specs.Answers.{number, other, told}

-- these two numbers were told
abbrev pub Told : ℕ → ℕ → Returned → Type 0
Told r second Q = ◌≡◌ {A = ℕ × ℕ} (r, second) (told Q)

-- of Q, which is R
module _ {r second : ℕ} {Q R : Returned} (t : Told r second Q) (e : Q ≡ R) where
  pub left-two : ◌≡◌ {A = ℕ × ℕ} (r, second) (told R)
  left-two = t ∙ ap told e

  pub left : {x y : List ℕ} → x ≡ y → ◌≡◌ {A = ℕ × ℕ × List ℕ} (r, second, x) (number R, other R, y)
  left f = λ i. ((left-two i).0, (left-two i).1, f i)

  pub left-four : {A B : Type 0} {a b : A} {x y : B} → a ≡ b → x ≡ y → ◌≡◌ {A = ℕ × ℕ × A × B} (r, second, a, x) (number R, other R, b, y)
  left-four f g = λ i. ((left-two i).0, (left-two i).1, f i, g i)
