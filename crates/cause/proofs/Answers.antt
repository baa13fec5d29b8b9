-- What the answers of `contact` say when they are matched: offers of the edge, a wall, a track.
use mathlib.Core.Bool.{Bool}
use mathlib.Core.Path.{◌≡◌, refl, sym, ap, ◌∙◌, subst}
use Prim.Native.Nat.{ℕ}
use native.Mathlib.Omega.{arith}
use Rattle.fraction.specs.declared.Fraction.{Fraction}
use Rattle.sheet.specs.declared.Track.{Track}
use Rattle.sheet.specs.declared.Wall.{Wall}
use Rattle.fraction.specs.Sizes.{Timely}
use Rattle.std.specs.Prelude.{Option, Some, None, IfSome}
use Rattle.std.specs.Option.{unwrap_or}
use Rattle.contact.specs.Answers.{quot_of, touch_of, strike_of, TouchTimely, StrikeTimely, StruckFrom}
use Rattle.contact.specs.declared.Touch.{Touch}
use Rattle.contact.specs.declared.Strike.{Strike}
use Rattle.rule.specs.declared.Side.{Side}
use Rattle.rule.specs.Side.{wall_side}
use Rattle.rule.specs.Contact.{Quot, never, when, Contact, nowhere}
use Rattle.rule.specs.EdgeTime.{rim}
use Rattle.rule.specs.WallTime.{wall_time}
use Rattle.cause.specs.declared.Cause.{Cause}
use Rattle.cause.specs.Cause.{Least}
use Rattle.cause.specs.Offer.{unused, edge_cause, AtEdge, wall_cause, WallOffered, struck, Reached, itself, comes}

pub unused_timely : Timely unused
unused_timely = record { num_in = omega arith; den_in = omega arith; den_pos = omega arith }

pub touch_timely : {t : Option Touch} {u : Touch} → t ≡ Some u → TouchTimely t → Timely u.at × Timely u.there
touch_timely e h = subst TouchTimely e h

pub missed_wall : {m : Option Strike} {q : Quot} → m ≡ None → strike_of m ≡ q → q ≡ never
missed_wall e h = sym h ∙ ap strike_of e

pub nowhere-contact : {t : Option Touch} {q : Contact} → t ≡ None → touch_of t ≡ q → q ≡ nowhere
nowhere-contact e h = sym h ∙ ap touch_of e

-- every tip comes to the edge
pub edge_at : (a : Track) (m : Option Fraction) → IfSome m Timely → quot_of m ≡ when (rim a) → AtEdge a (edge_cause (unwrap_or m unused))
edge_at a None s h = let z : ◌≡◌ {A = ℕ} 0 1 = cc in absurd (omega arith)
edge_at a (Some u) s h = record { u = u; timely = s; is = refl; last = cc }

pub wall-at : {a : Track} {w : Wall} {k : ℕ} {c r : Cause} {m : Option Strike} {x : Strike} → m ≡ Some x → (strike_of m ≡ wall_time a w) × StrikeTimely m × StruckFrom (wall_side a w) m → Least c (wall_cause w k x.at x.side) r → WallOffered a w k c r
wall-at {a = a} {w = w} {k = k} {c = c} {r = r} {x = x} e h l =
    let g : (strike_of (Some x) ≡ wall_time a w) × StrikeTimely (Some x) × StruckFrom (wall_side a w) (Some x) = subst (λ (z : Option Strike). (strike_of z ≡ wall_time a w) × StrikeTimely z × StruckFrom (wall_side a w) z) e h in
    struck x.at (sym g.0) g.1 (subst (λ (z : Side). Least c (wall_cause w k x.at z) r) g.2 l)

pub reached_timely : {a b : Track} {ended : Bool} {end : Fraction} {t : Option Touch} → Reached a b ended end t → TouchTimely t
reached_timely (itself e x) = subst TouchTimely (sym x) tt
reached_timely (comes n e h g) = h
