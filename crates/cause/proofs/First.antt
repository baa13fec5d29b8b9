-- Which of two causes comes first. Main theorems: `not_later_lem` and `later` (the code's test of two times), `first_of` (the first of two comes before both).
use mathlib.Core.Bool.{Bool, true, false, true≢false}
use mathlib.Core.Logic.{inl, inr}
use mathlib.Core.Path.{◌≡◌, refl, sym, subst}
use Prim.Native.Nat.{ℕ}
use native.Mathlib.Omega.{arith}
use Rattle.fraction.specs.declared.Fraction.{Fraction}
use Rattle.fraction.specs.Time.{◌≤ᵗ◌, ◌<ᵗ◌, as_time, not_later}
use Rattle.fraction.proofs.TimeOrder.{≈ᵗ_refl, told_not_later, told-later}
use Rattle.sheet.specs.Listing.{Listing}
use Rattle.sheet.specs.declared.Track.{Track}
use Rattle.fraction.specs.Sizes.{Timely}
use Rattle.contact.specs.declared.Touch.{Touch}
use Rattle.std.specs.Prelude.{Option, Some}
use Rattle.rule.specs.Causes as rule
use Rattle.rule.specs.Causes.{Cand, ◌≼◌}
use Rattle.cause.specs.declared.Cause.{Cause}
use Rattle.cause.specs.Cause.{cand_of, Stands, Comes, in_time, in_class, in_id, Tells, Least}
use Rattle.cause.specs.Offer.{tip_cause, Taken}

module _ {a b : Fraction} (p : Timely a) (q : Timely b) where
  pub not_later_lem : not_later a b ≡ true → as_time a ≤ᵗ as_time b
  not_later_lem h = told_not_later a b p.den_pos q.den_pos h

  pub later : not_later a b ≡ false → as_time b <ᵗ as_time a
  later h = told-later a b p.den_pos q.den_pos h

pub ≼_self : (c : Cand) → c ≼ c
≼_self c = rule.in_id (≈ᵗ_refl c.u) refl (omega arith)

module _ {a b : Cause} where
  pub tells_first : Comes a b → Tells a b true
  tells_first h = record { first = λ e. h; second = λ e. absurd (true≢false e) }

  pub tells_second : Comes b a → Tells a b false
  tells_second h = record { first = λ e. absurd (true≢false (sym e)); second = λ e. h }

  pub least_first : {r : Bool} → Tells a b r → r ≡ true → Least a b a
  least_first h e = inl (refl, h.first e)

  pub least_second : {r : Bool} → Tells a b r → r ≡ false → Least a b b
  least_second h e = inr (refl, h.second e)

module _ (S : Listing) (t : Track) {a b : Cause} (p : Stands S t a) (q : Stands S t b) where
  pub comes_below : Comes a b → cand_of S a ≼ cand_of S b
  comes_below (in_time h) = rule.in_time h
  comes_below (in_class h k) = rule.in_class h (omega (arith, p.ranked, q.ranked))
  comes_below (in_id h k l) = rule.in_id h (omega (arith, p.ranked, q.ranked)) (omega (arith, p.named, q.named))

  pub below_comes : cand_of S a ≼ cand_of S b → Comes a b
  below_comes (rule.in_time h) = in_time h
  below_comes (rule.in_class h k) = in_class h (omega (arith, p.ranked, q.ranked))
  below_comes (rule.in_id h k l) = in_id h (omega (arith, p.ranked, q.ranked)) (omega (arith, p.named, q.named))

module _ (S : Listing) (t : Track) {a b r : Cause} (p : Stands S t a) (q : Stands S t b) where
  pub first_stands : Least a b r → Stands S t r
  first_stands (inl (e, h)) = subst (Stands S t) (sym e) p
  first_stands (inr (e, h)) = subst (Stands S t) (sym e) q

  pub first-left : Least a b r → cand_of S r ≼ cand_of S a
  first-left (inl (e, h)) = subst (λ (z : Cause). cand_of S z ≼ cand_of S a) (sym e) (≼_self (cand_of S a))
  first-left (inr (e, h)) = subst (λ (z : Cause). cand_of S z ≼ cand_of S a) (sym e) (comes_below S t q p h)

  pub first-right : Least a b r → cand_of S r ≼ cand_of S b
  first-right (inl (e, h)) = subst (λ (z : Cause). cand_of S z ≼ cand_of S b) (sym e) (comes_below S t p q h)
  first-right (inr (e, h)) = subst (λ (z : Cause). cand_of S z ≼ cand_of S b) (sym e) (≼_self (cand_of S b))

  pub first_of : Least a b r → Stands S t r × (cand_of S r ≼ cand_of S a) × (cand_of S r ≼ cand_of S b)
  first_of h = (first_stands h, first-left h, first-right h)

-- a track that the tip comes to
pub taken : (b : Track) (k : ℕ) {c r : Cause} {t : Option Touch} {u : Touch} → t ≡ Some u → Least c (tip_cause b k u.at u.there u.side) r → Taken b k t c r
taken b k {c} {r} e l = subst (λ (z : Option Touch). Taken b k z c r) (sym e) l
