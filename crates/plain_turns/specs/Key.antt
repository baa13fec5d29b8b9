-- Which tip ends next: roll order, by time and then by id (SHEETS 5.5), over the tips that still run.
use Rattle.std.specs.Prelude.{◌≡◌, ◌⊎◌, cond, List, ℕ, ◌≤◌, ◌<◌, length}
use Rattle.fraction.specs.Time.{◌<ᵗ◌, ◌≈ᵗ◌, as_time}
use Rattle.fraction.specs.Sizes.{Timely}
use Rattle.sheet.specs.Listing.{Listing}
use Rattle.cause.specs.Cause.{tip_at}
use Rattle.tips.specs.declared.Tip.{Tip}
use Rattle.tips.specs.Tips.{tip_in}
use Rattle.plain_turns.specs.declared.Key.{Key}

-- a is not behind b
pub data Ahead (a b : Key) : Type 0 where
  running : a.ended < b.ended → Ahead a b
  earlier : a.ended ≡ b.ended → as_time a.at <ᵗ as_time b.at → Ahead a b
  together : a.ended ≡ b.ended → as_time a.at ≈ᵗ as_time b.at → a.id ≤ b.id → Ahead a b

-- r is the one of a and b that is ahead
abbrev pub Soonest : Key → Key → Key → Type 0
Soonest a b r = ((r ≡ a) × Ahead a b) ⊎ ((r ≡ b) × Ahead b a)

-- the key of the tip at i
abbrev pub key_in : Listing → List Tip → ℕ → Key
key_in S ts i = record { ended = cond (tip_in ts i).ended 1 0; at = (tip_in ts i).best.at; id = (tip_at S i).id; tip = i }

-- there is a tip, and each has a time
pub record MayPick (S : Listing) (ts : List Tip) : Type 0 where
  pub some : 0 < length S.tracks
  pub times : (k : ℕ) → k < length S.tracks → Timely (tip_in ts k).best.at

-- the tip at r is ahead of the first k
pub record Picked (S : Listing) (ts : List Tip) (k r : ℕ) : Type 0 where
  pub place : r < length S.tracks
  pub ahead : (j : ℕ) → j < k → Ahead (key_in S ts r) (key_in S ts j)
