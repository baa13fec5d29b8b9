-- The look at the tracks, turn by turn: what is known after the first k of them.
use mathlib.Core.List.{List}
use mathlib.Core.Logic.{◌⊎◌, inl, inr}
use mathlib.Core.Path.{◌≡◌, refl, sym, ◌∙◌, subst}
use Prim.Native.Nat.{ℕ, ◌+◌, ◌<◌}
use native.Mathlib.Decide.{ℕ_discrete}
use native.Mathlib.Omega.{arith}
use lib.ListN.{length, get_or}
use Rattle.fraction.specs.declared.Fraction.{Fraction}
use Rattle.sheet.specs.Accepted.{Accepted, TrackOk}
use Rattle.sheet.specs.HandedIn.{no_track}
use Rattle.sheet.specs.Listing.{Listing}
use Rattle.sheet.specs.declared.Track.{Track}
use Rattle.sheet.proofs.Lists.{mem_at}
use Rattle.rule.specs.declared.Row.{Row}
use Rattle.std.specs.Prelude.{Option}
use Rattle.contact.specs.declared.Touch.{Touch}
use Rattle.cause.specs.declared.Cause.{Cause}
use Rattle.cause.specs.Cause.{tip_at, Fine, Stands}
use Rattle.cause.specs.Offer.{Closed, Reached, Taken, TipOffered}
use Rattle.cause.specs.Looked.{FirstOfTracks}
use Rattle.cause.proofs.Looking.{tip_looked, offered_as, then, fewer, none, tip_fine}
use Rattle.tips.specs.declared.Tip.{Tip}
use Rattle.tips.specs.Tips.{tip_in}
use Rattle.look.specs.Ends.{Ends}
use Rattle.look.specs.Tracks.{Flagged, MayLookOn, TracksLooked}
use mathlib.Core.Bool.{Bool, false, true≢false}

-- r is the first of c and the tracks with a flag among the first k
pub record TracksUpTo (S : Listing) (i : ℕ) (ts : List Tip) (known : List Bool) (k : ℕ) (c r : Cause) : Type 0 where
  pub fine : Fine r
  pub looked : (done : List Row) → Ends S ts done → FirstOfTracks S done (tip_at S i) (λ (j : ℕ). (j < k) × Flagged known j) c r

-- the tip at i looks at the tip at k
abbrev Offers : Listing → ℕ → ℕ → List Tip → Cause → Cause → Type 0
Offers S i k ts d r = TipOffered (tip_at S i) (tip_at S k) k (tip_in ts k).ended (tip_in ts k).best.at d r

pub track_ok : (S : Listing) → Accepted S → (i : ℕ) → i < length S.tracks → {a : Track} → a ≡ tip_at S i → TrackOk a
track_ok S acc i h e = subst TrackOk (sym e) (acc.tracks_ok (tip_at S i) (mem_at no_track S.tracks i h))

-- the time of a tip that has ended, as it was read
pub end_closed : {S : Listing} {ts : List Tip} {i : ℕ} {c : Cause} → MayLookOn S ts i c → (k : ℕ) → k < length S.tracks → {b : Track} {n : Bool} (end : Fraction) → b ≡ tip_at S k → n ≡ (tip_in ts k).ended → end ≡ (tip_in ts k).best.at
    → (n ≡ false → ⊥) → Closed b end
end_closed {S} {ts} m k h end p e f x = subst (λ (z : Track). Closed z end) (sym p) (subst (Closed (tip_at S k)) (sym f) (m.closed k h (λ y. x (e ∙ y))))

module _ (S : Listing) (acc : Accepted S) (i : ℕ) (in-i : i < length S.tracks) (ts : List Tip) (known : List Bool) where
  pub tracks-start : {c : Cause} → Stands S (tip_at S i) c → TracksUpTo S i ts known 0 c c
  tracks-start s = record { fine = s.fine; looked = λ done ends. none (λ j h. absurd (omega arith)) s }

  module _ (k : ℕ) (in-k : k < length S.tracks) where
    -- from what was read
    pub offers : (a b : Track) (n : Bool) (end : Fraction) (d r : Cause) (t : Option Touch) → a ≡ tip_at S i → b ≡ tip_at S k → n ≡ (tip_in ts k).ended → end ≡ (tip_in ts k).best.at
        → Reached a b n end t → Taken b k t d r → Offers S i k ts d r
    offers a b n end d r t p q m e x y = offered_as p q m e refl (record { touch = t; reached = x; taken = y })

    pub track-turn : {c d r : Cause} → Offers S i k ts d r → TracksUpTo S i ts known k c d → TracksUpTo S i ts known (k + 1) c r
    track-turn {c} {d} {r} o u =
        record {
          fine = tip_fine u.fine o;
          looked = λ done ends.
              let f = u.looked done ends in
              fewer more (then f (tip_looked S acc (tip_at S i) (mem_at no_track S.tracks i in-i) k in-k (tip_in ts k).ended (tip_in ts k).best.at done
              (ends.running k in-k) (ends.ended k in-k) f.stands o));
        }
      where
        more : (j : ℕ) → (j < k + 1) × Flagged known j → ((j < k) × Flagged known j) ⊎ (j ≡ k)
        more j (h, p) = go (ℕ_discrete j k)
          where
            go : Dec (j ≡ k) → ((j < k) × Flagged known j) ⊎ (j ≡ k)
            go (yes e) = inr e
            go (no e) = inl (omega arith, p)

    pub track_skipped : {c d : Cause} → get_or known k false ≡ false → TracksUpTo S i ts known k c d → TracksUpTo S i ts known (k + 1) c d
    track_skipped z u = record { fine = u.fine; looked = λ done ends. fewer less (u.looked done ends) }
      where
        less : (j : ℕ) → (j < k + 1) × Flagged known j → (j < k) × Flagged known j
        less j (h, p) = go (ℕ_discrete j k)
          where
            go : Dec (j ≡ k) → (j < k) × Flagged known j
            go (yes e) = absurd (true≢false (sym (subst (Flagged known) e p) ∙ z))
            go (no e) = (omega arith, p)

  pub tracks_end : (k : ℕ) → k ≡ length S.tracks → {c r : Cause} → TracksUpTo S i ts known k c r → TracksLooked S i ts known c r
  tracks_end k e u =
      record {
        fine = u.fine;
        looked = λ done ends.
            let q = u.looked done ends in
            record { stands = q.stands; first = q.first; live = q.live; at_tips = λ j l h. q.at_tips j l (omega (arith, e), h) };
      }
