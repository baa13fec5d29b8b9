-- Looking again at what no longer counts. Main theorems: `refresh_start`, `refresh_none`, `refresh_look`.
use mathlib.Core.Bool.{Bool, true, false}
use mathlib.Core.List.{List}
use mathlib.Core.Logic.{◌≢◌}
use mathlib.Core.Path.{◌≡◌, sym, ◌∙◌, subst}
use Prim.Native.Nat.{ℕ, ◌+◌, ◌<◌}
use native.Mathlib.Omega.{arith}
use lib.ListN.{length, length-set}
use borrow.Author.Count.{below_more}
use Rattle.sheet.specs.Accepted.{Accepted}
use Rattle.sheet.specs.HandedIn.{no_track}
use Rattle.sheet.specs.Listing.{Listing}
use Rattle.sheet.proofs.Lists.{mem_at}
use Rattle.rule.specs.declared.Row.{Row}
use Rattle.rule.specs.Meanwhile.{Fresh, Live}
use Rattle.cause.specs.declared.Cause.{Cause}
use Rattle.cause.specs.Cause.{tip_at, cand_of, Fine, Stands}
use Rattle.cause.specs.Looked.{Gone, FirstOfTracks}
use Rattle.tips.specs.declared.Tip.{Tip}
use Rattle.tips.specs.Tips.{tip_in, with_best}
use Rattle.tips.proofs.Put.{at_put}
use Rattle.look.specs.Ends.{Ends}
use Rattle.look.specs.Counts.{MayTell, stale, Stale}
use Rattle.look.specs.Tracks.{Flagged, MayLookOn, TracksLooked, LookedAgain}
use Rattle.look.proofs.Counting.{stale_means, counts_live}
use Rattle.plain_turns.specs.Key.{MayPick}
use Rattle.plain_turns.specs.State.{AllKnown, Based, Held, Seen, Kept, LiveBelow, Refreshed}
use Rattle.plain_turns.proofs.Based.{seen_of, live_of}

-- ---- what the tips give to those who read them

module _ {S : Listing} {ts : List Tip} (h : Held S ts) where
  pub held_pick : 0 < length S.tracks → MayPick S ts
  held_pick l = record { some = l; times = λ k m. (h.fine k m).at }

  module _ (i : ℕ) (l : i < length S.tracks) where
    pub held_look : MayLookOn S ts i (tip_in ts i).base
    held_look = record { tip_within = l; stands = (h.based i l).foremost.stands; closed = λ k m x. (h.ends.ended k m x).closed }

    pub held_tell : Accepted S → MayTell ts i
    held_tell acc =
        record {
          tip_within = omega (arith, acc.few_tracks);
          fine = h.fine i l;
          known = λ r e. let k = (h.stands i l r).known e in omega (arith, acc.few_tracks);
          times = λ r e x. h.fine (tip_in ts i).best.who ((h.stands i l r).known e);
        }

-- ---- one tip more

pub refresh_start : {S : Listing} {ts : List Tip} → Held S ts → Refreshed S ts ts 0
refresh_start h = record { held = h; kept = λ done k. k; live = λ done k j l. absurd (omega arith) }

module _ {S : Listing} (acc : Accepted S) {known : List Bool} (all : AllKnown known) {old ts : List Tip} {i : ℕ} (f : Refreshed S old ts i) (l : i < length S.tracks) where
  LiveAt : List Tip → List Row → ℕ → Type 0
  LiveAt t done k = (tip_in t k).ended ≡ false → Live done (cand_of S (tip_in t k).best).u (cand_of S (tip_in t k).best).why

  told : {r : Bool} → r ≡ stale ts i → Stale ts i r
  told e = subst (Stale ts i) (sym e) (stale_means (held_tell f.held i l acc))

  pub refresh_none : {r : Bool} → r ≡ stale ts i → r ≡ false → Refreshed S old ts (i + 1)
  unfolding LiveAt
  refresh_none x e =
      record {
        held = f.held;
        kept = f.kept;
        live = λ done k. below_more (LiveAt ts done) i (f.live done k)
            (λ z. counts_live S acc ts done (f.kept done k).ends (tip_at S i) (mem_at no_track S.tracks i l) (f.held.stands i l z) ((told x).no_counts e z));
      }

  module _ (x : (tip_in ts i).ended ≡ false) (c : Cause) (o : TracksLooked S i ts known (tip_in ts i).base c) where
    abbrev new : Tip
    new = record { best = c; base = (tip_in ts i).base; ended = (tip_in ts i).ended; cell = (tip_in ts i).cell }

    abbrev next : List Tip
    next = with_best ts i c

    room : i < length ts
    room = omega (arith, f.held.long, acc.few_tracks)

    base : Based S (tip_at S i) (tip_in ts i).base
    base = f.held.based i l

    flagged : (j : ℕ) → j < length S.tracks → Flagged known j
    flagged j h = all.all j (omega (arith, acc.few_tracks))

    ends-new : (done : List Row) → Ends S ts done → Ends S next done
    ends-new done e =
        record {
          running = at_put (λ (j : ℕ) (t : Tip). j < length S.tracks → t.ended ≡ false → Fresh done (tip_at S j)) ts i new room (e.running i) (λ j n. e.running j);
          ended = at_put (λ (j : ℕ) (t : Tip). j < length S.tracks → (t.ended ≡ false → ⊥) → Gone done (tip_at S j) t.best.at) ts i new room (λ m n. absurd (n x)) (λ j n. e.ended j);
        }

    held_new : Held S next
    held_new =
        let h = f.held in
        record {
          long = length-set ts i new ∙ h.long;
          fine = at_put (λ (k : ℕ) (t : Tip). k < length S.tracks → Fine t.best) ts i new room (λ m. o.fine) (λ k n. h.fine k);
          stands = at_put (λ (k : ℕ) (t : Tip). k < length S.tracks → t.ended ≡ false → Stands S (tip_at S k) t.best) ts i new room (λ m z. (o.looked h.some h.ends).stands) (λ k n. h.stands k);
          based = at_put (λ (k : ℕ) (t : Tip). k < length S.tracks → Based S (tip_at S k) t.base) ts i new room (h.based i) (λ k n. h.based k);
          some = h.some;
          ends = ends-new h.some h.ends;
        }

    module _ (done : List Row) (k : Kept S old done) where
      abbrev now : Kept S ts done
      now = f.kept done k

      first : FirstOfTracks S done (tip_at S i) (Flagged known) (tip_in ts i).base c
      first = o.looked done now.ends

      kept_new : Kept S next done
      kept_new =
          record {
            ends = ends-new done now.ends;
            seen = at_put (λ (j : ℕ) (t : Tip). j < length S.tracks → t.ended ≡ false → Seen S done j t.best) ts i new room (λ m z. seen_of S i known base first flagged) (λ j n. now.seen j);
          }

      live_new : LiveBelow S next done (i + 1)
      live_new =
          at_put (λ (j : ℕ) (t : Tip). j < i + 1 → t.ended ≡ false → Live done (cand_of S t.best).u (cand_of S t.best).why) ts i new room
          (λ m z. live_of S i known base first) (λ j n m. f.live done k j (less j n m))
        where
          less : (j : ℕ) → j ≢ i → j < i + 1 → j < i
          less j n m = omega arith

    refresh_with : Refreshed S old next (i + 1)
    refresh_with = record { held = held_new; kept = kept_new; live = live_new }

  pub refresh_look : {r : Bool} {t : List Tip} → r ≡ stale ts i → r ≡ true → LookedAgain S i known ts t → Refreshed S old t (i + 1)
  refresh_look {r} {t} x e a = subst (λ (z : List Tip). Refreshed S old z (i + 1)) (sym a.stored) (refresh_with ((told x).yes_runs e) a.cause a.looked)
