-- Something is reached: the tip ends, or looks again. What the code asks and does, over the sheet and what the tables stand for.
use Rattle.std.specs.Prelude.{◌≡◌, true, false, List, [], ℕ, ◌+◌, ◌<◌, get_or, set}
use Rattle.std.proofs.Math.Option.{some}
use Rattle.sheet.specs.Listing.{Listing}
use Rattle.rule.specs.declared.Ending.{Ending}
use Rattle.cause.specs.Cause.{rank, Fine}
use Rattle.ending.specs.Ended.{EndingOf}
use Rattle.ending.specs.Finished.{MayEnd, Finished}
use Rattle.tips.specs.declared.Tip.{Tip}
use Rattle.tips.specs.Tips.{tip_in}
use Rattle.look.specs.Counts.{MayTell, stale}
use Rattle.look.specs.Tracks.{MayLookOn, LookedAgain}
use Rattle.grid_steps.specs.Steps.{MayEnter, entry_in}
use Rattle.grid_state.specs.Sweep.{Crowd}

-- ---- the tip at i reaches a track

-- its cause is the track of this id
pub record OfTrack (i id : ℕ) (ts : List Tip) : Type 0 where
  pub tip_within : i < 256
  pub fine : Fine (tip_in ts i).best
  pub a_track : rank (tip_in ts i).best.class ≡ 0
  pub named : (tip_in ts i).best.id ≡ id

pub record MayReach (S : Listing) (side i id k : ℕ) (w : Crowd) : Type 0 where
  pub of_track : OfTrack i id w.tips
  pub tell : MayTell w.tips i
  pub look : MayLookOn S w.tips i (tip_in w.tips i).base
  pub enter : (ts : List Tip) → LookedAgain S i (get_or w.marks i []) w.tips ts → MayEnter S side ts i
  pub end : stale w.tips i ≡ false → MayEnd S i k w.tips

-- it has looked again, and has a pending event again; or it has ended
pub data Reached (S : Listing) (side i k : ℕ) (w : Crowd) (out : List ℕ) (k' : ℕ) (out' : List ℕ) (w' : Crowd) : Type 0 where
  again :
      stale w.tips i ≡ true → LookedAgain S i (get_or w.marks i []) w.tips w'.tips → w'.pending ≡ set w.pending i (some (entry_in S side w'.tips i)) →
      out' ≡ out → k' ≡ k → Reached S side i k w out k' out' w'
  ended :
      stale w.tips i ≡ false → (e : Ending) → EndingOf (tip_in w.tips i).best e → Finished S i k e w.tips out w'.tips out' → w'.pending ≡ w.pending →
      k' ≡ k + 1 → Reached S side i k w out k' out' w'
