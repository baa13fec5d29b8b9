-- A speed by its heading: `heading_up`, `heading_down`, and what follows for borders and columns (`enter-up`, `leave-up`, `onward_up` and their opposites).
use mathlib.Core.Path.{◌≡◌, refl, sym, ap, ◌∙◌, subst}
use Prim.Native.Nat.{ℕ, zero, suc, pred, ◌+◌, ◌*◌, ◌-◌, ◌≤◌, ◌<◌}
use native.Mathlib.Omega.{arith}
use lib.IntN.{ℤ, pos, negsuc, nat_abs}
use Rattle.fraction.specs.declared.Sign.TheVariants.{Minus, Zero, Plus}
use Rattle.fraction.specs.Sign.{sign_of}
use Rattle.cells.specs.OneCell.{border, enter, leave}
use Rattle.cells.specs.Walk.{step}
use Rattle.cell_walk.specs.declared.Onset.{Onset}
use Rattle.cell_walk.specs.declared.Heading.{Heading}
use Rattle.cell_walk.specs.declared.Heading.TheVariants.{Up, Down}
use Rattle.cell_walk.specs.Onsets.{onset_of, GivesEarly, fall, speed_of, Falls, Headed}

pub heading_none : (z : ℤ) → Zero ≡ sign_of z → Headed z (Up 0)
heading_none (pos zero) e = record { is = refl; short = omega arith }
heading_none (pos (suc n)) e = absurd (let z : ◌≡◌ {A = ℕ} 0 1 = cc in omega arith)
heading_none (negsuc n) e = absurd (let z : ◌≡◌ {A = ℕ} 0 1 = cc in omega arith)

pub heading_up : (z : ℤ) (w : ℕ) → nat_abs z ≤ 63 → Plus w ≡ sign_of z → Headed z (Up w)
heading_up (pos zero) w h e = absurd (let z : ◌≡◌ {A = ℕ} 0 1 = cc in omega arith)
heading_up (pos (suc n)) w h e = let x : w ≡ suc n = cc in record { is = ap pos (sym x); short = omega arith }
heading_up (negsuc n) w h e = absurd (let z : ◌≡◌ {A = ℕ} 0 1 = cc in omega arith)

pub heading_down : (z : ℤ) (w : ℕ) → nat_abs z ≤ 63 → Minus w ≡ sign_of z → Headed z (Down w)
heading_down (pos zero) w h e = absurd (let z : ◌≡◌ {A = ℕ} 0 1 = cc in omega arith)
heading_down (pos (suc n)) w h e = absurd (let z : ◌≡◌ {A = ℕ} 0 1 = cc in omega arith)
heading_down (negsuc n) w h e = let x : w ≡ suc n = cc in record { is = ap negsuc (omega arith); short = (omega arith, omega arith) }

-- ---- by cases of a heading

module _ {v : ℤ} {h : Heading} (g : Headed v h) {w : ℕ} where
  pub up_short : h ≡ Up w → w ≤ 63
  up_short e = subst (λ (z : Heading). Falls z) e g.short

  pub down_short : h ≡ Down w → (0 < w) × (w ≤ 63)
  down_short e = subst (λ (z : Heading). Falls z) e g.short

  up_is : h ≡ Up w → v ≡ pos w
  up_is e = g.is ∙ ap speed_of e

  down_is : h ≡ Down w → v ≡ fall w
  down_is e = g.is ∙ ap speed_of e

  pub enter-up : (x s c : ℕ) {r : Onset} → h ≡ Up w → GivesEarly (onset_of (border x (pos w) (c * s))) r → GivesEarly (onset_of (enter x v s c)) r
  unfolding enter
  enter-up x s c {r} e k = subst (λ (z : ℤ). GivesEarly (onset_of (enter x z s c)) r) (sym (up_is e)) k

  pub enter-down : (x s c : ℕ) {r : Onset} → h ≡ Down w → GivesEarly (onset_of (border x (fall w) ((c + 1) * s))) r → GivesEarly (onset_of (enter x v s c)) r
  unfolding enter
  enter-down x s c {r} e k =
      subst (λ (z : ℤ). GivesEarly (onset_of (enter x z s c)) r) (sym (down_is e))
      (subst (λ (b : ℕ). GivesEarly (onset_of (border x (fall w) b)) r) (omega arith) k)

  pub leave-up : (x s c : ℕ) {r : Onset} → h ≡ Up w → GivesEarly (onset_of (border x (pos w) ((c + 1) * s))) r → GivesEarly (onset_of (leave x v s c)) r
  unfolding leave
  leave-up x s c {r} e k =
      subst (λ (z : ℤ). GivesEarly (onset_of (leave x z s c)) r) (sym (up_is e))
      (subst (λ (b : ℕ). GivesEarly (onset_of (border x (pos w) b)) r) (omega arith) k)

  pub leave-down : (x s c : ℕ) {r : Onset} → h ≡ Down w → GivesEarly (onset_of (border x (fall w) (c * s))) r → GivesEarly (onset_of (leave x v s c)) r
  unfolding leave
  leave-down x s c {r} e k = subst (λ (z : ℤ). GivesEarly (onset_of (leave x z s c)) r) (sym (down_is e)) k

  pub onward_up : (c : ℕ) → h ≡ Up w → c + 1 ≡ step v c
  unfolding step
  onward_up c e = subst (λ (z : ℤ). c + 1 ≡ step z c) (sym (up_is e)) (omega arith)

  pub onward_down : (c : ℕ) → h ≡ Down w → c - 1 ≡ step v c
  unfolding step
  onward_down c e = subst (λ (z : ℤ). c - 1 ≡ step z c) (sym (down_is e)) (go c)
    where
      go : (c : ℕ) → c - 1 ≡ pred c
      go zero = omega arith
      go (suc c) = omega arith
