-- What the tips say of the rows so far: which have ended, and when.
use Rattle.std.specs.Prelude.{◌≡◌, List, ℕ, ◌<◌, length, false}
use Rattle.fraction.specs.Time.{Time, as_time}
use Rattle.sheet.specs.Listing.{Listing}
use Rattle.rule.specs.declared.Row.{Row}
use Rattle.rule.specs.Meanwhile.{Fresh}
use Rattle.cause.specs.Cause.{tip_at}
use Rattle.cause.specs.Looked.{Gone}
use Rattle.tips.specs.declared.Tip.{Tip}
use Rattle.tips.specs.Tips.{tip_in}

-- when a tip that has ended did
abbrev pub end_of : Tip → Time
end_of t = as_time t.best.at

pub record Ends (S : Listing) (ts : List Tip) (done : List Row) : Type 0 where
  pub running : (k : ℕ) → k < length S.tracks → (tip_in ts k).ended ≡ false → Fresh done (tip_at S k)
  pub ended : (k : ℕ) → k < length S.tracks → ((tip_in ts k).ended ≡ false → ⊥) → Gone done (tip_at S k) (tip_in ts k).best.at
