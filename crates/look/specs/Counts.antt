-- A cause that still counts: its tip had not ended before it was there (SHEETS 4.5).
use Rattle.std.specs.Prelude.{◌≡◌, Bool, true, false, not, ◌&&◌, List, ℕ, ◌<◌, eqb}
use Rattle.fraction.specs.Time.{◌≤ᵗ◌, as_time, not_later}
use Rattle.cause.specs.declared.Cause.{Cause}
use Rattle.cause.specs.Cause.{rank, Fine}
use Rattle.tips.specs.declared.Tip.{Tip}
use Rattle.tips.specs.Tips.{tip_in}
use Rattle.look.specs.Ends.{end_of}

-- c is no track, or one whose tip runs, or ended no sooner than it was there
pub data Counts (ts : List Tip) (c : Cause) : Type 0 where
  no_track : (rank c.class ≡ 0 → ⊥) → Counts ts c
  runs : rank c.class ≡ 0 → (tip_in ts c.who).ended ≡ false → Counts ts c
  passed : rank c.class ≡ 0 → ((tip_in ts c.who).ended ≡ false → ⊥) → as_time c.there ≤ᵗ end_of (tip_in ts c.who) → Counts ts c

-- what is read to tell whether the cause of the tip at i counts, while it runs
pub record MayTell (ts : List Tip) (i : ℕ) : Type 0 where
  pub tip_within : i < 256
  pub fine : Fine (tip_in ts i).best
  pub known : (tip_in ts i).ended ≡ false → rank (tip_in ts i).best.class ≡ 0 → (tip_in ts i).best.who < 256
  pub times : (tip_in ts i).ended ≡ false → rank (tip_in ts i).best.class ≡ 0 → ((tip_in ts (tip_in ts i).best.who).ended ≡ false → ⊥) → Fine (tip_in ts (tip_in ts i).best.who).best

-- the same as a test: c is a track whose tip ended before it was there
unfoldable pub void : List Tip → Cause → Bool
void ts c = eqb (rank c.class) 0 && ((tip_in ts c.who).ended && not (not_later c.there (tip_in ts c.who).best.at))

-- the tip at i runs, and its cause no longer counts
unfoldable pub stale : List Tip → ℕ → Bool
stale ts i = not (tip_in ts i).ended && void ts (tip_in ts i).best

-- what an answer to that says
pub record Stale (ts : List Tip) (i : ℕ) (r : Bool) : Type 0 where
  pub yes_runs : r ≡ true → (tip_in ts i).ended ≡ false
  pub yes_void : r ≡ true → Counts ts (tip_in ts i).best → ⊥
  pub no_counts : r ≡ false → (tip_in ts i).ended ≡ false → Counts ts (tip_in ts i).best
