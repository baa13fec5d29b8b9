-- The tips before the first turn. Main theorems: `begin_next`, `begin_state`.
use mathlib.Core.Bool.{Bool, true, false}
use mathlib.Core.List.Memᴰ
use mathlib.Core.List.{List, [], ◌∷◌, ◌++◌}
use mathlib.Core.Logic.{◌≢◌}
use mathlib.Core.Path.{◌≡◌, refl, sym, ap, ◌∙◌, subst}
use Prim.Native.Nat.{ℕ, ◌+◌, ◌*◌, ◌≤◌, ◌<◌}
use native.Mathlib.Omega.{arith}
use lib.ListN.{length, replicate, length-replicate, length-append, length-set}
use lib.Seq.{length-take-le}
use Rattle.std.proofs.lemmas.List.{get_or-replicate}
use Rattle.sheet.specs.Accepted.{Accepted}
use Rattle.sheet.specs.HandedIn.{handed_in, no_track}
use Rattle.sheet.specs.Listing.{Listing}
use Rattle.sheet.specs.declared.Sheet.{Sheet}
use Rattle.records.specs.Records.{Handed}
use Rattle.rule.proofs.Turn.{progress_start}
use Rattle.rule.specs.RowBytes.{row_width}
use Rattle.cause.specs.declared.Cause.{Cause}
use Rattle.cause.specs.Cause.{tip_at}
use Rattle.tips.specs.declared.Tip.{Tip}
use Rattle.tips.specs.Tips.{no_tip, tip_in, with_base, with_best}
use Rattle.tips.proofs.Blank.{tip_blank}
use Rattle.tips.proofs.Put.{at_put}
use Rattle.look.specs.Ends.{Ends}
use Rattle.look.specs.Tracks.{MayLookOn, LookedAgain}
use Rattle.plain_turns.specs.State.{AllKnown, Based, Seen, Begun, State}
use Rattle.plain_turns.proofs.Based.{seen_of}

-- nothing has ended
ends_none : {S : Listing} {ts : List Tip} → ((k : ℕ) → (tip_in ts k).ended ≡ false) → Ends S ts []
ends_none z = record { running = λ k l x d m. absurd (Memᴰ.not-nil m); ended = λ k l n. absurd (n (z k)) }

-- ---- at first

pub all_known : AllKnown (replicate 256 true)
all_known = record { long = length-replicate 256 true; all = λ j h. get_or-replicate 256 j true false h }

pub begin_none : {S : Listing} {ts : List Tip} → ts ≡ replicate 256 no_tip → Begun S ts 0
begin_none {S} e =
    subst (λ (ts : List Tip). Begun S ts 0) (sym e)
    (record {
      long = length-replicate 256 no_tip;
      none = λ k. ap (λ (t : Tip). t.ended) (tip_blank 256 k);
      based = λ k l. absurd (omega arith);
      seen = λ k l. absurd (omega arith);
    })

-- the rows of an accepted sheet have room where its tracks' have
pub room_for : {s : Sheet} → Handed s → {n : ℕ} → row_width * s.ntracks ≤ n → row_width * length (handed_in s).tracks ≤ n
room_for {s} h r =
    let x : length (handed_in s).tracks ≡ s.ntracks = length-take-le s.ntracks (s.tracks ++ (no_track ∷ [])) (simp length-append (omega (arith, h.tracks_long, h.tracks_in))) in
    omega (arith, x, r)

-- ---- one tip more

module _ {S : Listing} (acc : Accepted S) {known : List Bool} (all : AllKnown known) {ts : List Tip} {i : ℕ} (b : Begun S ts i) (l : i < length S.tracks) {c : Cause} (w : Based S (tip_at S i) c) {t : List Tip} (s : t ≡ with_base ts i c) where
  abbrev based_tip : Tip
  based_tip = record { best = (tip_in ts i).best; base = c; ended = (tip_in ts i).ended; cell = (tip_in ts i).cell }

  room : i < length ts
  room = omega (arith, b.long, acc.few_tracks)

  less : (k : ℕ) → k ≢ i → k < i + 1 → k < i
  less k n h = omega arith

  -- the base cause is there
  pub t_long : length t ≡ 256
  t_long = ap length s ∙ length-set ts i based_tip ∙ b.long

  t_none : (k : ℕ) → (tip_in t k).ended ≡ false
  t_none = subst (λ (z : List Tip). (k : ℕ) → (tip_in z k).ended ≡ false) (sym s) (at_put (λ (k : ℕ) (x : Tip). x.ended ≡ false) ts i based_tip room (b.none i) (λ k n. b.none k))

  t_based : (k : ℕ) → k < i + 1 → Based S (tip_at S k) (tip_in t k).base
  t_based =
      subst (λ (z : List Tip). (k : ℕ) → k < i + 1 → Based S (tip_at S k) (tip_in z k).base) (sym s)
      (at_put (λ (k : ℕ) (x : Tip). k < i + 1 → Based S (tip_at S k) x.base) ts i based_tip room (λ h. w) (λ k n h. b.based k (less k n h)))

  t_seen : (k : ℕ) → k < i → Seen S [] k (tip_in t k).best
  t_seen =
      subst (λ (z : List Tip). (k : ℕ) → k < i → Seen S [] k (tip_in z k).best) (sym s)
      (at_put (λ (k : ℕ) (x : Tip). k < i → Seen S [] k x.best) ts i based_tip room (b.seen i) (λ k n. b.seen k))

  pub begin_look : MayLookOn S t i (tip_in t i).base
  begin_look = record { tip_within = l; stands = (t_based i (omega arith)).foremost.stands; closed = λ k h x. absurd (x (t_none k)) }

  pub begin_next : {u : List Tip} → LookedAgain S i known t u → Begun S u (i + 1)
  begin_next {u} a = subst (λ (z : List Tip). Begun S z (i + 1)) (sym a.stored) begun
    where
      t_room : i < length t
      t_room = omega (arith, t_long, acc.few_tracks)

      seen_here : Seen S [] i a.cause
      seen_here = seen_of S i known (t_based i (omega arith)) (a.looked.looked [] (ends_none t_none)) (λ j h. all.all j (omega (arith, acc.few_tracks)))

      begun : Begun S (with_best t i a.cause) (i + 1)
      begun =
          record {
            long = length-set t i _ ∙ t_long;
            none = at_put (λ (k : ℕ) (x : Tip). x.ended ≡ false) t i _ t_room (t_none i) (λ k n. t_none k);
            based = at_put (λ (k : ℕ) (x : Tip). k < i + 1 → Based S (tip_at S k) x.base) t i _ t_room (t_based i) (λ k n. t_based k);
            seen = at_put (λ (k : ℕ) (x : Tip). k < i + 1 → Seen S [] k x.best) t i _ t_room (λ h. seen_here) (λ k n h. t_seen k (less k n h));
          }

-- ---- all

pub begin_state : {S : Listing} → Accepted S → {ts : List Tip} → Begun S ts (length S.tracks) → State S 0 ts
begin_state acc b =
    record {
      held = record { long = b.long; fine = λ k l. (b.seen k l).foremost.stands.fine; stands = λ k l z. (b.seen k l).foremost.stands; based = b.based; some = []; ends = ends_none b.none };
      out = refl;
      done = [];
      progress = progress_start acc;
      kept = record { ends = ends_none b.none; seen = λ k l z. b.seen k l };
    }
