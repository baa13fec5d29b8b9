-- The rule's `arrival` case by case, as the code goes: `arrive_is`, `arrive_x`, `arrive_y`, then `arrival-line`, `arrival-off`.
use mathlib.Core.Path.{◌≡◌, refl, sym, ap, ◌∙◌}
use Prim.Native.Nat.{ℕ, suc, pred, ◌<◌}
use native.Mathlib.Omega.{arith}
use lib.IntN.{ℤ, pos, ◌+ℤ◌, ◌*ℤ◌}
use Rattle.fraction.specs.declared.Fraction.{Fraction}
use Rattle.fraction.specs.Sizes.{Young, Small}
use Rattle.fraction.specs.Time.{Time, as_time, later_by, earlier_by}
use Rattle.fraction.proofs.Shift.{later_is}
use Rattle.sheet.specs.declared.Track.{Track}
use Rattle.rule.specs.Motion.{age}
use Rattle.rule.specs.Contact.{over, zero_z, D, dx, dy, nowhere, hit, arrive₁, arrive_on, come, arrival}
use Rattle.std.specs.Prelude.{Option, Some, None}
use Rattle.contact.specs.Answers.{quot_of}
use Rattle.contact.proofs.Tests.{at_zero, off_zero}

-- ---- along one axis

pub arrive_is : (d v w : ℤ) (q : Fraction) → 0 < q.den → over (d *ℤ pos q.den +ℤ w *ℤ pos q.num) (v *ℤ pos q.den) ≡ arrive₁ d v w (as_time q)
unfolding arrive₁
arrive_is d v w q p = let x : suc (pred q.den) ≡ q.den = omega arith in rw x refl

module _ (a b : Track) (q : Time) where
  pub arrive_y : a.vx ≡ pos 0 → arrive₁ (dy a b) a.vy b.vy q ≡ arrive_on a b (zero_z a.vx) q
  unfolding arrive_on
  arrive_y z = at_zero a.vx (λ p. arrive_on a b p q) _ (λ p. refl) z

  pub arrive_x : (a.vx ≡ pos 0 → ⊥) → arrive₁ (dx a b) a.vx b.vx q ≡ arrive_on a b (zero_z a.vx) q
  unfolding arrive_on
  arrive_x z = off_zero a.vx (λ p. arrive_on a b p q) _ (λ p. refl) z

-- ---- the age at the end of the other

pub since_small : {t : Fraction} (n : ℕ) → Small t → Small (earlier_by n t)
since_small n h = record { num_in = omega (arith, h.num_in); den_in = h.den_in; den_pos = h.den_pos }

module _ (a b : Track) (e : Time) where
  pub arrival-off : (D a b ≡ pos 0 → ⊥) → nowhere ≡ arrival a b e (zero_z (D a b))
  unfolding arrival
  arrival-off f = off_zero (D a b) (arrival a b e) nowhere (λ p. refl) f

  module _ (z : D a b ≡ pos 0) {m : Option Fraction} (h : quot_of m ≡ arrive_on a b (zero_z a.vx) (age b e)) where
    pub arrival_none : m ≡ None → nowhere ≡ arrival a b e (zero_z (D a b))
    unfolding arrival come
    arrival_none x = at_zero (D a b) (arrival a b e) nowhere (λ p. ap (come a e) (ap quot_of (sym x) ∙ h)) z

    pub arrival-at : {u t : Fraction} → m ≡ Some u → Young u → t ≡ later_by a.start u → hit (as_time t) e ≡ arrival a b e (zero_z (D a b))
    unfolding arrival come
    arrival-at {u} {t} x y k =
        at_zero (D a b) (arrival a b e) (hit (as_time t) e)
        (λ p. ap (λ w. hit (as_time w) e) k ∙ ap (λ w. hit w e) (later_is a.start u y.den_pos) ∙ ap (come a e) (ap quot_of (sym x) ∙ h)) z
