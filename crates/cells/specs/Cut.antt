-- A cut of the times into an earlier and a later part, and which of two cuts comes first. A cell is entered at a cut: `late` is 0 where the time num / den itself is in the
-- later part (a closed entry), 1 where only the times after it are (an open entry). 1 / 0 is the cut that no time comes after.
-- Nobody need believe this file: it serves the test of OneCell.antt.
use Rattle.std.specs.Prelude.{Bool, cond, ℕ, ◌+◌, ◌*◌, ◌≤◌, ◌<◌, ltb}
use Rattle.std.proofs.Common.{arith}
use Rattle.fraction.specs.Time.{Time}

pub record Cut : Type 0 where
  pub num : ℕ
  pub den : ℕ
  pub late : ℕ
  pub some : 0 < num + den
  pub late_bit : late ≤ 1
  pub late_den : late ≤ den

-- t is in the later part
pub record After (k : Cut) (t : Time) : Type 0 where
  pub on : k.num * t.den + k.late ≤ t.num * k.den

-- by one comparison of products: the time, and at one time closed before open
unfoldable pub before : Cut → Cut → Bool
before k l = ltb (2 * (k.num * l.den) + k.late) (2 * (l.num * k.den) + l.late)

-- the later and the sooner of two
unfoldable pub later : Cut → Cut → Cut
later k l = cond (before k l) l k

unfoldable pub sooner : Cut → Cut → Cut
sooner k l = cond (before l k) l k

-- n units later
unfoldable pub plusᶜ : ℕ → Cut → Cut
plusᶜ n k = record { num = k.num + n * k.den; den = k.den; late = k.late; some = omega (arith, k.some); late_bit = k.late_bit; late_den = k.late_den }

-- just after a time: the times up to T are those before it
unfoldable pub past : Time → Cut
past t = record { num = t.num; den = t.den; late = 1; some = omega (arith, t.den_pos); late_bit = omega arith; late_den = omega (arith, t.den_pos) }

-- ---- the order of cuts

infix 50 ◌≤ᶜ◌ ◌<ᶜ◌
pub record ◌≤ᶜ◌ (k l : Cut) : Type 0 where
  pub to : (t : Time) → After l t → After k t

-- some time lies between
pub record ◌<ᶜ◌ (k l : Cut) : Type 0 where
  pub at : Time
  pub above : After k at
  pub below : ¬ After l at
