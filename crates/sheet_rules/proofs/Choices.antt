-- The lesser of two numbers. Main theorems: `lesser_assoc`, and `lesser-choice`, by which two lists of tests are gone through as one.
use mathlib.Core.Path.{◌≡◌, refl}
use mathlib.Core.Bool.{Bool, true, false, cond, ◌||◌}
use Prim.Native.Nat.{ℕ, ◌≤◌}
use native.Mathlib.Omega.{arith}
use borrow.Author.Tests.{ltb-true, ltb-false}
use lib.Dec.{ltb}
use Rattle.sheet_rules.specs.Judged.{lesser}

-- what bounds both bounds a choice between them
pub choice_above : {k m n : ℕ} (p : Bool) → k ≤ m → k ≤ n → k ≤ cond p m n
choice_above true h g = h
choice_above false h g = g

module _ (a b : ℕ) where
  pub lesser-left : lesser a b ≤ a
  lesser-left = go (ltb b a) refl
    where
      go : (t : Bool) → ltb b a ≡ t → cond t b a ≤ a
      go true e = omega (arith, ltb-true b a e)
      go false e = omega arith

  pub lesser-right : lesser a b ≤ b
  lesser-right = go (ltb b a) refl
    where
      go : (t : Bool) → ltb b a ≡ t → cond t b a ≤ b
      go true e = omega arith
      go false e = omega (arith, ltb-false b a e)

  pub lesser-most : {k : ℕ} → k ≤ a → k ≤ b → k ≤ lesser a b
  lesser-most h g = choice_above (ltb b a) g h

  pub lesser_is_left : a ≤ b → lesser a b ≡ a
  lesser_is_left h = omega (arith, lesser-left, lesser-most (omega arith) h)

  pub lesser_is_right : b ≤ a → lesser a b ≡ b
  lesser_is_right h = omega (arith, lesser-right, lesser-most h (omega arith))

pub lesser_assoc : (a b c : ℕ) → lesser (lesser a b) c ≡ lesser a (lesser b c)
lesser_assoc a b c =
    let l = lesser-left (lesser a b) c in
    let r = lesser-right a (lesser b c) in
    let p = lesser-most a (lesser b c) (omega (arith, l, lesser-left a b))
    (lesser-most b c (omega (arith, l, lesser-right a b)) (lesser-right (lesser a b) c)) in
    let q = lesser-most (lesser a b) c (lesser-most a b (lesser-left a (lesser b c)) (omega (arith, r, lesser-left b c)))
    (omega (arith, r, lesser-right b c)) in
    omega arith

-- a number below what follows is the lesser where either test picks it
pub lesser-choice : {n x y : ℕ} (p q : Bool) → n ≤ x → n ≤ y → lesser (cond p n x) (cond q n y) ≡ cond (p || q) n (lesser x y)
lesser-choice {n} {x} {y} true q h g = lesser_is_left n (cond q n y) (choice_above q (omega arith) g)
lesser-choice {n} {x} {y} false true h g = lesser_is_right x n h
lesser-choice {n} {x} {y} false false h g = refl
