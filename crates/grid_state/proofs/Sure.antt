-- Causes that count, in the rule and as the test of a stale cause has it. Main theorem: `still_sure`.
use mathlib.Core.Bool.{Bool-discrete, Bool, true, false}
use mathlib.Core.List.{List}
use mathlib.Core.Path.{◌≡◌, refl, sym, ◌∙◌}
use Prim.Native.Nat.{ℕ}
use native.Mathlib.Omega.{arith}
use lib.ListN.{length}
use Rattle.sheet.specs.Accepted.{Accepted}
use Rattle.sheet.specs.HandedIn.{no_track}
use Rattle.sheet.specs.Listing.{Listing}
use Rattle.sheet.proofs.Lists.{mem_at}
use Rattle.rule.specs.declared.Row.{Row}
use Rattle.cause.specs.Cause.{tip_at, Stands}
use Rattle.cells.specs.declared.Cell.{Cell}
use Rattle.tips.specs.declared.Tip.{Tip}
use Rattle.tips.specs.Tips.{tip_in}
use Rattle.look.specs.Counts.{Counts, MayTell, stale}
use Rattle.look.proofs.Counting.{stale_means, stale_ended, counts_live, live_counts}
use Rattle.grid_state.specs.State.{Runs, Looked}
use Rattle.grid_state.specs.Meeting.{LiveCause}
use Rattle.grid_state.proofs.ToDo.{Sure, StillSure}

-- the tip at j runs
module _ {S : Listing} (acc : Accepted S) {done : List Row} {side : ℕ} {es : List (List Cell)} {ts : List Tip} {marks : List (List Bool)} (lk : Looked S done side es (length S.tracks) ts marks)
    (j : ℕ) (r : Runs (length S.tracks) ts j) where
  stands : Stands S (tip_at S j) (tip_in ts j).best
  stands = (lk.best j r).walls.stands

  -- its cause can be tested
  pub may_tell : MayTell ts j
  may_tell =
      record {
        tip_within = omega (arith, r.0, acc.few_tracks);
        fine = lk.fine j r.0;
        known = λ _ z. omega (arith, stands.known z, acc.few_tracks);
        times = λ _ z x. lk.fine (tip_in ts j).best.who (stands.known z);
      }

  pub of_counts : Counts ts (tip_in ts j).best → LiveCause S done (tip_in ts j).best
  of_counts = counts_live S acc ts done lk.ends (tip_at S j) (mem_at no_track S.tracks j r.0) stands

  pub sure_counts : Sure ts j → Counts ts (tip_in ts j).best
  sure_counts x = (stale_means may_tell).no_counts x r.1

  pub live_sure : LiveCause S done (tip_in ts j).best → Sure ts j
  live_sure l = go (stale ts j) refl
    where
      go : (b : Bool) → stale ts j ≡ b → stale ts j ≡ false
      go true e = absurd ((stale_means may_tell).yes_void e (live_counts S acc ts done lk.ends (tip_at S j) (mem_at no_track S.tracks j r.0) stands l))
      go false e = e

-- the same tips run, and a cause that counted is followed only by one that counts
pub still_sure : {S : Listing} → Accepted S → {done : List Row} {side : ℕ} {es es' : List (List Cell)} {ts ts' : List Tip} {marks marks' : List (List Bool)}
    → Looked S done side es (length S.tracks) ts marks → Looked S done side es' (length S.tracks) ts' marks' → ((j : ℕ) → (tip_in ts' j).ended ≡ (tip_in ts j).ended)
    → ((j : ℕ) → Runs (length S.tracks) ts j → LiveCause S done (tip_in ts j).best → LiveCause S done (tip_in ts' j).best) → StillSure (length S.tracks) ts ts'
still_sure {S} acc {ts = ts} {ts' = ts'} lk lk' same kept j h x = go (Bool-discrete (tip_in ts j).ended false)
  where
    go : Dec ((tip_in ts j).ended ≡ false) → Sure ts' j
    go (yes z) = live_sure acc lk' j (h, same j ∙ z) (kept j (h, z) (of_counts acc lk j (h, z) (sure_counts acc lk j (h, z) x)))
    go (no z) = stale_ended ts' j (λ y. z (sym (same j) ∙ y))
