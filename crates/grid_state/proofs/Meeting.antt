-- The tip on its way and another look at each other; so with each of a list. Main theorems: `busy_paired`, `busy_meets`.
use mathlib.Core.Bool.{Bool}
use mathlib.Core.List.Memᴰ
use mathlib.Core.List.{List, []}
use mathlib.Core.Logic.{◌⊎◌, inl, inr, ◌≢◌}
use mathlib.Core.Path.{◌≡◌, refl, sym, ap, subst, ◌∙◌}
use mathlib.Core.Option.{some}
use Prim.Native.Nat.{ℕ, ◌≤◌, ◌<◌}
use native.Mathlib.Omega.{arith}
use lib.ListN.{length, set}
use Rattle.sheet.specs.Listing.{Listing, ◌∈◌}
use Rattle.rule.specs.declared.Row.{Row}
use Rattle.rule.specs.Meanwhile.{Beats}
use Rattle.cause.specs.declared.Cause.{Cause}
use Rattle.cause.specs.Cause.{tip_at, cand_of}
use Rattle.cause.specs.Looked.{FirstOfTracks}
use Rattle.cause.proofs.Looking.{tip_fine}
use Rattle.event_queue.specs.Queue.{Slots}
use Rattle.tips.specs.declared.Tip.{Tip}
use Rattle.tips.specs.Tips.{tip_in, with_best}
use Rattle.pair_marks.specs.Marks.{Marked, marking}
use Rattle.pair_marks.proofs.Marked.{square_kept}
use Rattle.grid_steps.specs.Steps.{InGrid, Offered, entry_in}
use Rattle.grid_state.specs.Sweep.{Crowd}
use Rattle.grid_state.specs.State.{Runs, Looked, Queued}
use Rattle.grid_state.specs.Meeting.{Noticed, looks, has_ended, Both, Paired, known, looked, Meets, nobody, and_then, Frame, Busy, LiveCause, Later}
use Rattle.tips.proofs.Put.{at_put}
use Rattle.grid_state.proofs.Stores.{best_better, store_best, look_first, mark_one, marked_both, both_kept, both_first}
use Rattle.grid_state.proofs.Queue.{tip_same, tip_other, queue_own, queue_anew}

pub later_refl : {S : Listing} {b : ℕ} {done : List Row} {w : Crowd} → Later S b done w w
later_refl = record { ended_same = λ j. refl; marks_kept = λ i j x. x; live_kept = λ j r x. x }

pub later_trans : {S : Listing} {b : ℕ} {done : List Row} {w w₁ w₂ : Crowd} → Later S b done w w₁ → Later S b done w₁ w₂ → Later S b done w w₂
later_trans p q =
    record {
      ended_same = λ j. q.ended_same j ∙ p.ended_same j;
      marks_kept = λ i j x. q.marks_kept i j (p.marks_kept i j x);
      live_kept = λ j r x. q.live_kept j (r.0, p.ended_same j ∙ r.1) (p.live_kept j r x);
    }

-- the tip at j has looked at the tip at q
record Look (S : Listing) (F : Frame) (side j q : ℕ) (marks : List (List Bool)) (ts ts' : List Tip) : Type 0 where
  looked : Looked S F.done side F.ls F.begun ts' marks
  ended_same : (k : ℕ) → (tip_in ts' k).ended ≡ (tip_in ts k).ended
  cell_same : (k : ℕ) → (tip_in ts' k).cell ≡ (tip_in ts k).cell
  best_same : (k : ℕ) → k ≢ j → (tip_in ts' k).best ≡ (tip_in ts k).best
  beats : (tip_at S q).id ≢ (tip_at S j).id → Beats F.done (cand_of S (tip_in ts' j).best) (tip_at S j) (tip_at S q)
  live : (k : ℕ) → Runs F.begun ts k → LiveCause S F.done (tip_in ts k).best → LiveCause S F.done (tip_in ts' k).best

-- the tips and the queue changed, the marks not yet
abbrev pub unmarked : Crowd → List Tip → Slots → Crowd
unmarked w ts s = record { tips = ts; pending = s; marks = w.marks }

-- the tip at j, if it runs, has looked at the tip at i
pub record Noted (S : Listing) (F : Frame) (side i j : ℕ) (w : Crowd) (ts' : List Tip) (s' : Slots) : Type 0 where
  pub busy : Busy S F side i (unmarked w ts' s')
  pub later : Later S F.begun F.done w (unmarked w ts' s')
  pub own_same : (tip_in ts' i).best ≡ (tip_in w.tips i).best
  pub beats : Runs F.begun ts' j → (tip_at S i).id ≢ (tip_at S j).id → Beats F.done (cand_of S (tip_in ts' j).best) (tip_at S j) (tip_at S i)

-- they have looked at each other, and have marks
pub record Beside (S : Listing) (F : Frame) (side i j : ℕ) (w w' : Crowd) : Type 0 where
  pub busy : Busy S F side i w'
  pub later : Later S F.begun F.done w w'
  pub marked : j ≢ i → Marked w'.marks i j

-- so with all tips of a list
pub record Met (S : Listing) (F : Frame) (side i : ℕ) (l : List ℕ) (w w' : Crowd) : Type 0 where
  pub busy : Busy S F side i w'
  pub later : Later S F.begun F.done w w'
  pub marked : (j : ℕ) → j ∈ l → j ≢ i → Marked w'.marks i j

module _ {S : Listing} {F : Frame} {side i : ℕ} {w : Crowd} (z : Busy S F side i w) where
  begun_few : F.begun ≤ 256
  begun_few = omega (arith, z.begun_in, z.accepted.few_tracks)

  -- the tip at j has begun
  pub begun_place : (j : ℕ) → j < F.begun → (j < length S.tracks) × (j < 256)
  begun_place j h = (omega (arith, z.begun_in), omega (arith, begun_few))

  look : (j q : ℕ) → Runs F.begun w.tips j → q < F.begun → {ts' : List Tip} → Offered S j q w.tips ts' → Look S F side j q w.marks w.tips ts'
  look j q r h o = subst (Look S F side j q w.marks w.tips) (sym o.stored) stored
    where
      first : FirstOfTracks S F.done (tip_at S j) (λ (m : ℕ). m ≡ q) (tip_in w.tips j).best o.cause
      first = look_first z.accepted z.looked j q (begun_place j r.0).0 (begun_place q h).0 r o

      new : Tip
      new = record { best = o.cause; base = (tip_in w.tips j).base; ended = (tip_in w.tips j).ended; cell = (tip_in w.tips j).cell }

      room : j < length w.tips
      room = omega (arith, (begun_place j r.0).1, z.looked.long)

      stored : Look S F side j q w.marks w.tips (with_best w.tips j o.cause)
      stored =
          record {
            looked =
                store_best z.looked j (begun_place j r.0).1 r o.cause (tip_fine (z.looked.fine j r.0) o.offered)
                (best_better first.stands first.first (z.looked.best j r));
            ended_same = at_put (λ (k : ℕ) (t : Tip). t.ended ≡ (tip_in w.tips k).ended) w.tips j new room refl (λ k n. refl);
            cell_same = at_put (λ (k : ℕ) (t : Tip). t.cell ≡ (tip_in w.tips k).cell) w.tips j new room refl (λ k n. refl);
            best_same = λ k n. ap (λ (t : Tip). t.best) (tip_other w.tips j new k n);
            beats =
                λ x.
                subst (λ (t : Tip). Beats F.done (cand_of S t.best) (tip_at S j) (tip_at S q)) (sym (tip_same w.tips j new room))
                (first.at_tips q (begun_place q h).0 refl x);
            live =
                at_put (λ (k : ℕ) (t : Tip). Runs F.begun w.tips k → LiveCause S F.done (tip_in w.tips k).best → LiveCause S F.done t.best)
                w.tips j new room (λ u x. first.live x) (λ k n u x. x);
          }

  module _ {j q : ℕ} {ts' : List Tip} (l : Look S F side j q w.marks w.tips ts') where
    busy_on : (s' : Slots) → Queued S side F.begun i ts' s' → Busy S F side i (unmarked w ts' s')
    busy_on s' u =
        record {
          accepted = z.accepted;
          begun_in = z.begun_in;
          side_in = z.side_in;
          runs = (z.runs.0, l.ended_same i ∙ z.runs.1);
          in_grid = λ k h n. subst (InGrid side) (sym (l.cell_same k)) (z.in_grid k h n);
          looked = l.looked;
          marked = z.marked;
          queued = u;
        }

    later_on : (s' : Slots) → Later S F.begun F.done w (unmarked w ts' s')
    later_on s' = record { ended_same = l.ended_same; marks_kept = λ a d x. x; live_kept = l.live }

  -- the tip on its way looks at the tip at j
  pub look_own : (j : ℕ) → j < F.begun → {ts' : List Tip} → Offered S i j w.tips ts' → Busy S F side i (unmarked w ts' w.pending)
  look_own j h o = busy_on (look i j z.runs h o) w.pending (subst (λ (ts : List Tip). Queued S side F.begun i ts w.pending) (sym o.stored) (queue_own z.queued _))

  -- the tip at j, if it runs, looks at it
  pub look_other : (j : ℕ) → j < F.begun → j ≢ i → {ts' : List Tip} {s' : Slots} → Noticed S side i j w.tips w.pending ts' s' → Noted S F side i j w ts' s'
  look_other j h n {ts'} {s'} (has_ended x e f) =
      subst (λ (ts : List Tip). Noted S F side i j w ts s') (sym e)
      (subst (λ (s : Slots). Noted S F side i j w w.tips s) (sym f)
      (record { busy = z; later = later_refl; own_same = refl; beats = λ u. absurd (x u.1) }))
  look_other j h n {ts'} {s'} (looks r o e) =
      let l = look j i (h, r) z.runs.0 o in
      record {
        busy =
            busy_on l s'
            (subst (Queued S side F.begun i ts') (sym e)
            (subst (λ (ts : List Tip). Queued S side F.begun i ts (set w.pending j (some (entry_in S side ts j)))) (sym o.stored)
            (queue_anew z.queued j (h, r) n _ refl)));
        later = later_on l s';
        own_same = l.best_same i (λ y. n (sym y));
        beats = λ u. l.beats;
      }

  -- both have looked, and get their marks
  module _ (j : ℕ) (h : j < F.begun) (f : (tip_at S j).id ≢ (tip_at S i).id → Beats F.done (cand_of S (tip_in w.tips i).best) (tip_at S i) (tip_at S j))
      (g : Runs F.begun w.tips j → (tip_at S i).id ≢ (tip_at S j).id → Beats F.done (cand_of S (tip_in w.tips j).best) (tip_at S j) (tip_at S i)) where
    mark_both : (m : List (List Bool)) → m ≡ marking (marking w.marks i j) j i → Beside S F side i j w (record { tips = w.tips; pending = w.pending; marks = m })
    mark_both m e = subst (λ (k : List (List Bool)). Beside S F side i j w (record { tips = w.tips; pending = w.pending; marks = k })) (sym e) now
      where
        hi : i < 256
        hi = (begun_place i z.runs.0).1

        hj : j < 256
        hj = (begun_place j h).1

        now : Beside S F side i j w (record { tips = w.tips; pending = w.pending; marks = marking (marking w.marks i j) j i })
        now =
            record {
              busy =
                  record {
                    accepted = z.accepted;
                    begun_in = z.begun_in;
                    side_in = z.side_in;
                    runs = z.runs;
                    in_grid = z.in_grid;
                    looked = mark_one (mark_one z.looked z.marked.square i j hi (λ r. f)) (square_kept w.marks i j z.marked.square) j i hj g;
                    marked = marked_both z.marked i j z.runs.0 h begun_few;
                    queued = z.queued;
                  };
              later = record { ended_same = λ k. refl; marks_kept = both_kept z.marked.square i j hi hj; live_kept = λ k r x. x };
              marked = λ x. both_first z.marked.square i j hi hj;
            }

-- ---- the tips at i and j

module _ {S : Listing} {F : Frame} {side i : ℕ} where
  both_beside : {w : Crowd} → Busy S F side i w → (j : ℕ) → j < F.begun → j ≢ i → {w' : Crowd} → Both S side i j w w' → Beside S F side i j w w'
  both_beside {w} z j h n {w'} o =
      let one = look z i j z.runs h o.own in
      let own = look_own z j h o.own in
      let two = look_other own j h n o.other in
      let f = subst (λ (c : Cause). (tip_at S j).id ≢ (tip_at S i).id → Beats F.done (cand_of S c) (tip_at S i) (tip_at S j)) (sym two.own_same) one.beats in
      let m = mark_both two.busy j h f two.beats w'.marks o.marks in
      record {
        busy = m.busy;
        later = later_trans (later_on z one w.pending) (later_trans two.later m.later);
        marked = m.marked;
      }

  pub busy_paired : {w : Crowd} → Busy S F side i w → (j : ℕ) → j < F.begun → {w' : Crowd} → Paired S side i j w w' → Beside S F side i j w w'
  busy_paired {w} z j h (known x e) = subst (Beside S F side i j w) (sym e) (record { busy = z; later = later_refl; marked = λ n. go n x })
    where
      go : j ≢ i → (j ≡ i) ⊎ Marked w.marks i j → Marked w.marks i j
      go n (inl y) = absurd (n y)
      go n (inr y) = y
  busy_paired z j h (looked n o) = both_beside z j h n o

  -- ---- the tip at i and each of a list

  pub busy_meets : {l : List ℕ} {w w' : Crowd} → Busy S F side i w → ((j : ℕ) → j ∈ l → j < F.begun) → Meets S side i l w w' → Met S F side i l w w'
  busy_meets z h (nobody e) = subst (Met S F side i [] _) (sym e) (record { busy = z; later = later_refl; marked = λ j m. absurd (Memᴰ.not-nil m) })
  busy_meets z h (and_then {j} {l} {w} {w₁} {w'} p m) =
      let a = busy_paired z j (h j (Memᴰ.head refl)) p in
      let b = busy_meets a.busy (λ q x. h q (Memᴰ.tail x)) m in
      record {
        busy = b.busy;
        later = later_trans a.later b.later;
        marked = λ q x. go a b q (Memᴰ.cases_cons x);
      }
    where
      go : Beside S F side i j w w₁ → Met S F side i l w₁ w' → (q : ℕ) → (q ≡ j) ⊎ (q ∈ l) → q ≢ i → Marked w'.marks i q
      go a b q (inl e) n = b.later.marks_kept i q (subst (λ (k : ℕ). k ≢ i → Marked w₁.marks i k) (sym e) a.marked n)
      go a b q (inr x) n = b.marked q x n
