-- The tip at i, on its way, and the tip at j look at each other: what the steps ask, and what they give. Main theorem: `is_paired`.
use mathlib.Core.Bool.{Bool, false}
use mathlib.Core.Logic.{◌≢◌, inl, inr}
use mathlib.Core.List.Memᴰ
use mathlib.Core.List.{List, [], ◌∷◌}
use mathlib.Core.Option.{Option, none, some}
use mathlib.Core.Path.{◌≡◌, refl, sym, ap, subst, ◌∙◌}
use Prim.Native.Nat.{ℕ, ◌<◌}
use native.Mathlib.Omega.{arith}
use lib.ListN.{set}
use lib.Seq.{set-get_or}
use Rattle.event_queue.specs.declared.Entry.{Entry}
use Rattle.fraction.specs.declared.Fraction.{Fraction}
use Rattle.sheet.specs.declared.Track.{Track}
use Rattle.sheet.specs.Listing.{Listing}
use Rattle.contact.specs.declared.Touch.{Touch}
use Rattle.std.specs.Prelude.{Option as StdOption, Some, None}
use Rattle.cause.specs.declared.Cause.{Cause}
use Rattle.cause.specs.Cause.{rank, tip_at}
use Rattle.cause.specs.Offer.{TipOffered, Taken}
use Rattle.pending_events.specs.Pending.{pending_entry}
use Rattle.event_queue.specs.Queue.{Slots}
use Rattle.tips.specs.declared.Tip.{Tip}
use Rattle.tips.specs.Tips.{tip_in}
use Rattle.pair_marks.specs.Marks.{marking}
use Rattle.grid_steps.specs.Steps.{MayLook, MayEnter, Offered, entry_in}
use Rattle.grid_state.specs.Sweep.{Crowd}
use Rattle.grid_state.specs.State.{Runs}
use Rattle.grid_state.specs.Meeting.{Noticed, looks, Paired, looked, Frame, Busy, MayMeet}
use Rattle.grid_state.proofs.Queue.{tip_same}
use Rattle.grid_state.proofs.Meeting.{begun_place, look_own, look_other}
use Rattle.grid_meet.specs.Meeting.{MayNotice}

module _ {S : Listing} {F : Frame} {side i : ℕ} {w : Crowd} (z : Busy S F side i w) where
  -- the tip at j may look at the tip at q
  pub may_look : (j q : ℕ) → j < F.begun → q < F.begun → MayLook S w.tips j q
  may_look j q h k =
      record { tip_within = (begun_place z j h).0; other_in = (begun_place z q k).0; fine = z.looked.fine j h; closed = λ x. (z.looked.ends.ended q (begun_place z q k).0 x).closed }

  -- the tip at j has a pending event
  pub may_enter : (j : ℕ) → Runs F.begun w.tips j → j ≢ i → MayEnter S side w.tips j
  may_enter j r n =
      record {
        tip_within = (begun_place z j r.0).0;
        in_grid = z.in_grid j r.0 n;
        fine = z.looked.fine j r.0;
      }

-- ---- the tip at j looks at the tip at i

module _ {S : Listing} {side i j : ℕ} {ts : List Tip} {s : Slots} (m : MayNotice S side i j ts s) where
  pub notice_look : MayLook S ts j i
  notice_look = may_look m.busy j i m.begun m.busy.runs.0

  pub notice_in : j < 256
  notice_in = (begun_place m.busy j m.begun).1

  module _ (r : (tip_in ts j).ended ≡ false) where
    pub notice_enter : {ts' : List Tip} → Offered S j i ts ts' → MayEnter S side ts' j
    notice_enter {ts'} o =
        let b = look_other m.busy j m.begun m.apart {s' = set s j (some (entry_in S side ts' j))} (looks r o refl) in
        may_enter b.busy j (m.begun, b.later.ended_same j ∙ r) m.apart

-- where the cause is not the tip at i it is what it was, and so is the event
same_cause : {a b : Track} {k : ℕ} {n : Bool} {end : Fraction} {c r : Cause} → TipOffered a b k n end c r → (rank r.class ≡ 0 → r.who ≡ k → ⊥) → r ≡ c
same_cause {b = b} {k} {c = c} {r} o n = go o.touch o.taken
  where
    go : (t : StdOption Touch) → Taken b k t c r → r ≡ c
    go None e = e
    go (Some t) (inl (e, _)) = e
    go (Some t) (inr (e, _)) = absurd (n (ap (λ (d : Cause). rank d.class) e) (ap (λ (d : Cause). d.who) e))

module _ {S : Listing} {side i j : ℕ} {ts ts' : List Tip} {s : Slots} (m : MayNotice S side i j ts s) (r : (tip_in ts j).ended ≡ false) (o : Offered S j i ts ts') where
  new-tip : tip_in ts' j ≡ record { best = o.cause; base = (tip_in ts j).base; ended = (tip_in ts j).ended; cell = (tip_in ts j).cell }
  new-tip = ap (λ (z : List Tip). tip_in z j) o.stored ∙ tip_same ts j _ (omega (arith, notice_in m, m.busy.looked.long))

  pub now-cause : (tip_in ts' j).best ≡ o.cause
  now-cause = ap (λ (t : Tip). t.best) new-tip

  pub kept_noticed : (c : Cause) → c ≡ (tip_in ts' j).best → (rank c.class ≡ 0 → c.who ≡ i → ⊥) → Noticed S side i j ts s ts' s
  kept_noticed c e n =
      let f = e ∙ now-cause in
      let k = same_cause o.offered (subst (λ (d : Cause). rank d.class ≡ 0 → d.who ≡ i → ⊥) f n) in
      let q : entry_in S side ts' j ≡ entry_in S side ts j = ap (λ (t : Tip). pending_entry (tip_at S j) side t.cell t.best) new-tip ∙ ap (λ (d : Cause). pending_entry (tip_at S j) side (tip_in ts j).cell d) k in
      let h = m.busy.queued.due j (m.begun, r) m.apart in
      looks r o (sym (ap (λ (x : Option Entry). set s j x) (sym (h ∙ ap some (sym q))) ∙ set-get_or s j none))

-- ---- both, once

module _ {S : Listing} {side i j : ℕ} {w : Crowd} (c : MayMeet S side i (j ∷ []) w) where
  other_in : j < c.frame.begun
  other_in = c.others_in j (Memᴰ.head refl)

  pub pair_in : (i < 256) × (j < 256)
  pair_in = let b = c.busy in ((begun_place b i b.runs.0).1, (begun_place b j other_in).1)

  pub pair_look : MayLook S w.tips i j
  pair_look = let b = c.busy in may_look b i j b.runs.0 other_in

  pub pair_notice : j ≢ i → {ts' : List Tip} → Offered S i j w.tips ts' → MayNotice S side i j ts' w.pending
  pair_notice n o = record { frame = c.frame; marks = w.marks; busy = look_own c.busy j other_in o; begun = other_in; apart = n }

pub is_paired : {S : Listing} {side i j : ℕ} {w w' : Crowd} {between : List Tip} → j ≢ i → Offered S i j w.tips between → Noticed S side i j between w.pending w'.tips w'.pending
    → w'.marks ≡ marking (marking w.marks i j) j i → Paired S side i j w w'
is_paired {between = between} n o x e = looked n (record { between = between; own = o; other = x; marks = e })
