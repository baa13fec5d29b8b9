-- A tip looks at the tracks that have a flag: the first of them and of a cause.
use Rattle.std.specs.Prelude.{◌≡◌, Bool, true, false, List, ℕ, ◌<◌, length, get_or}
use Rattle.sheet.specs.Listing.{Listing}
use Rattle.rule.specs.declared.Row.{Row}
use Rattle.cause.specs.declared.Cause.{Cause}
use Rattle.cause.specs.Cause.{tip_at, Fine, Stands}
use Rattle.cause.specs.Looked.{FirstOfTracks}
use Rattle.cause.specs.Offer.{Closed}
use Rattle.tips.specs.declared.Tip.{Tip}
use Rattle.tips.specs.Tips.{tip_in, with_best}
use Rattle.look.specs.Ends.{Ends}

-- the tip at j has a flag
abbrev pub Flagged : List Bool → ℕ → Type 0
Flagged known j = get_or known j false ≡ true

-- the tip at i may look, from the cause c on; a tip that has ended has the time of a row
pub record MayLookOn (S : Listing) (ts : List Tip) (i : ℕ) (c : Cause) : Type 0 where
  pub tip_within : i < length S.tracks
  pub stands : Stands S (tip_at S i) c
  pub closed : (k : ℕ) → k < length S.tracks → ((tip_in ts k).ended ≡ false → ⊥) → Closed (tip_at S k) (tip_in ts k).best.at

-- r is the first of c and the tracks with a flag, whatever rows the tips stand for
pub record TracksLooked (S : Listing) (i : ℕ) (ts : List Tip) (known : List Bool) (c r : Cause) : Type 0 where
  pub fine : Fine r
  pub looked : (done : List Row) → Ends S ts done → FirstOfTracks S done (tip_at S i) (Flagged known) c r

-- the best cause of the tip at i becomes the first of its base cause and these tracks
pub record LookedAgain (S : Listing) (i : ℕ) (known : List Bool) (ts ts' : List Tip) : Type 0 where
  pub cause : Cause
  pub looked : TracksLooked S i ts known (tip_in ts i).base cause
  pub stored : ts' ≡ with_best ts i cause
