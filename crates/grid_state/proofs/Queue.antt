-- The queue after each of its moves. Main theorems: `queue_anew`, `queue_back`, `queue_first`.
use mathlib.Core.Bool.{true, true≢false, false, Bool-discrete}
use mathlib.Core.List.{List}
use mathlib.Core.Logic.{◌≢◌}
use mathlib.Core.Option.{Option, none, some, some-injective}
use mathlib.Core.Path.{◌≡◌, sym, ap, subst, ◌∙◌}
use Prim.Native.Nat.{ℕ, ◌+◌, ◌≤◌, ◌<◌}
use native.Mathlib.Decide.{ℕ_discrete, dec_lt}
use native.Mathlib.Omega.{arith}
use lib.ListN.{length, set, length-set, get_or-eq_default}
use lib.Seq.{get_or-set_same, get_or-set_other}
use Rattle.fraction.specs.declared.Fraction.{Fraction}
use Rattle.sheet.specs.Listing.{Listing}
use Rattle.cause.specs.Cause.{tip_at}
use Rattle.event_queue.specs.Key.{NotAfter}
use Rattle.event_queue.specs.Queue.{Slots, slot, First}
use Rattle.event_queue.specs.declared.Entry.{Entry}
use Rattle.event_queue.specs.declared.Event.{Event}
use Rattle.event_queue.specs.declared.Key.{Key}
use Rattle.event_queue.proofs.Bags.{pick}
use Rattle.event_queue.proofs.Callers.{slot_in, slot_same, slot-other}
use Rattle.event_queue.proofs.Slots.{none≢some}
use Rattle.pending_events.specs.Pending.{pending_entry}
use Rattle.tips.specs.declared.Tip.{Tip}
use Rattle.tips.specs.Tips.{tip_in, no_tip, at-time, with_end}
use Rattle.grid_steps.specs.Steps.{entry_in}
use Rattle.grid_state.specs.State.{Runs, Queued}

-- no tip is on its way: 256 is no tip's place
pub none_out : {b : ℕ} → b ≤ 256 → (j : ℕ) → j < b → j ≢ 256
none_out h j l e = omega arith

-- ---- the tip at i is changed

module _ (ts : List Tip) (i : ℕ) (t : Tip) where
  pub tip_other : (j : ℕ) → j ≢ i → tip_in (set ts i t) j ≡ tip_in ts j
  tip_other j n = get_or-set_other ts i j t no_tip n

  pub tip_same : i < length ts → tip_in (set ts i t) i ≡ t
  tip_same h = get_or-set_same ts i t no_tip h

  pub ended_kept : t.ended ≡ (tip_in ts i).ended → (j : ℕ) → (tip_in (set ts i t) j).ended ≡ (tip_in ts j).ended
  ended_kept e j =
      pick (ℕ_discrete j i)
      (λ z. ap (λ (k : ℕ). (tip_in (set ts i t) k).ended) z ∙ here (dec_lt i (length ts)) ∙ ap (λ (k : ℕ). (tip_in ts k).ended) (sym z))
      (λ n. ap (λ (u : Tip). u.ended) (tip_other j n))
    where
      here : Dec (i < length ts) → (tip_in (set ts i t) i).ended ≡ (tip_in ts i).ended
      here (yes h) = ap (λ (u : Tip). u.ended) (tip_same h) ∙ e
      here (no n) =
          ap (λ (u : Tip). u.ended) (get_or-eq_default (set ts i t) no_tip {n = i} (omega (arith, length-set ts i t)))
          ∙ sym (ap (λ (u : Tip). u.ended) (get_or-eq_default ts no_tip {n = i} (omega arith)))

  module _ (b j : ℕ) where
    runs_other : j ≢ i → Runs b (set ts i t) j → Runs b ts j
    runs_other n u = (u.0, sym (ap (λ (v : Tip). v.ended) (tip_other j n)) ∙ u.1)

    other_runs : j ≢ i → Runs b ts j → Runs b (set ts i t) j
    other_runs n u = (u.0, ap (λ (v : Tip). v.ended) (tip_other j n) ∙ u.1)

  entry_other : (S : Listing) (side j : ℕ) → j ≢ i → some (entry_in S side ts j) ≡ some (entry_in S side (set ts i t) j)
  entry_other S side j n = ap (λ (v : Tip). some (pending_entry (tip_at S j) side v.cell v.best)) (sym (tip_other j n))

module _ {S : Listing} {side b x : ℕ} {ts : List Tip} {s : Slots} (q : Queued S side b x ts s) where
  abbrev new : ℕ → Tip → Option Entry
  new j t = some (entry_in S side (set ts j t) j)

  abbrev gone : Fraction → Tip
  gone t = record { best = at-time (tip_in ts x).best t; base = (tip_in ts x).base; ended = true; cell = (tip_in ts x).cell }

  -- ---- the tip at x is on its way

  -- it may change
  pub queue_own : (t : Tip) → Queued S side b x (set ts x t) s
  queue_own t =
      record {
        long = q.long;
        due = λ j u n. q.due j (runs_other ts x t b j n u) n ∙ entry_other ts x t S side j n;
        idle = λ j f. q.idle j (λ u. pick (ℕ_discrete j x) (λ z. z) (λ n. f (other_runs ts x t b j n u)));
      }

  -- it has its event again
  pub queue_back : b ≤ 256 → Runs b ts x → (t : Tip) → t.ended ≡ (tip_in ts x).ended → Queued S side b 256 (set ts x t) (set s x (some (entry_in S side (set ts x t) x)))
  queue_back few r t e =
      record {
        long = length-set s x (new x t) ∙ q.long;
        due =
            λ j u _.
            pick (ℕ_discrete j x)
            (λ z. subst (λ (k : ℕ). slot (set s x (new x t)) k ≡ some (entry_in S side (set ts x t) k)) (sym z) (slot_same s x (new x t) (omega (arith, q.long, r.0))))
            (λ n. slot-other s x (new x t) j n ∙ q.due j (runs_other ts x t b j n u) n ∙ entry_other ts x t S side j n);
        idle =
            λ j f.
            let out : Runs b ts j → ⊥ = λ u. none_out few j u.0 (f (u.0, ended_kept ts x t e j ∙ u.1)) in
            slot-other s x (new x t) j (λ z. out (subst (Runs b ts) (sym z) r)) ∙ q.idle j (λ u. absurd (out u));
      }

  pub queue_ended : (t : Fraction) → b ≤ 256 → x < length ts → Queued S side b 256 (with_end ts x t) s
  queue_ended t few h =
      record {
        long = q.long;
        due =
            λ j u _.
            let n : j ≢ x = λ z. true≢false (sym (ap (λ (v : Tip). v.ended) (tip_same ts x (gone t) h)) ∙ sym (ap (λ (k : ℕ). (tip_in (with_end ts x t) k).ended) z) ∙ u.1) in
            q.due j (runs_other ts x (gone t) b j n u) n ∙ entry_other ts x (gone t) S side j n;
        idle = λ j f. q.idle j (λ u. pick (ℕ_discrete j x) (λ z. z) (λ n. absurd (none_out few j u.0 (f (other_runs ts x (gone t) b j n u)))));
      }

  -- ---- another that runs, at j, may change; its event comes anew

  pub queue_anew : (j : ℕ) → Runs b ts j → j ≢ x → (t : Tip) → t.ended ≡ (tip_in ts j).ended → Queued S side b x (set ts j t) (set s j (some (entry_in S side (set ts j t) j)))
  queue_anew j r nx t e =
      record {
        long = length-set s j (new j t) ∙ q.long;
        due =
            λ k u ne.
            pick (ℕ_discrete k j)
            (λ z. subst (λ (m : ℕ). slot (set s j (new j t)) m ≡ some (entry_in S side (set ts j t) m)) (sym z) (slot_same s j (new j t) (slot_in s j (q.due j r nx))))
            (λ n. slot-other s j (new j t) k n ∙ q.due k (runs_other ts j t b k n u) ne ∙ entry_other ts j t S side k n);
        idle =
            λ k f.
            let on : Runs b ts k → k ≡ x = λ u. f (u.0, ended_kept ts j t e k ∙ u.1) in
            slot-other s j (new j t) k (λ z. nx (sym z ∙ on (subst (Runs b ts) (sym z) r))) ∙ q.idle k on;
      }

-- ---- none is on its way

-- the first leaves: it runs, the event is its own, and no running tip's leaves before it
pub record Left (S : Listing) (side b : ℕ) (ts : List Tip) (s : Slots) (tip : ℕ) (e : Event) : Type 0 where
  pub key : Key
  pub runs : Runs b ts tip
  pub entry : entry_in S side ts tip ≡ record { key = key; event = e }
  pub least : (j : ℕ) → Runs b ts j → NotAfter (entry_in S side ts tip).key (entry_in S side ts j).key
  pub queued : Queued S side b tip ts (set s tip none)

module _ {S : Listing} {side b : ℕ} {ts : List Tip} {s : Slots} (q : Queued S side b 256 ts s) (few : b ≤ 256) where
  -- one tip more has begun, and is on its way
  pub queue_open : (t : Tip) → Queued S side (b + 1) b (set ts b t) s
  queue_open t =
      record {
        long = q.long;
        due =
            λ j u n.
            let h : j < b = omega (arith, u.0) in
            let v = runs_other ts b t (b + 1) j n u in
            q.due j (h, v.1) (none_out few j h) ∙ entry_other ts b t S side j n;
        idle = λ j f. q.idle j (λ u. let n : j ≢ b = λ z. omega (arith, u.0) in absurd (n (f (omega (arith, u.0), (other_runs ts b t b j n u).1))));
      }

  pub queue_first : {tip : ℕ} {e : Event} → First s tip e → Left S side b ts s tip e
  queue_first {tip} {e} f =
      record {
        key = f.key;
        runs = r;
        entry = same;
        least = λ j u. subst (λ (v : Entry). NotAfter v.key (entry_in S side ts j).key) (sym same) (f.least j (entry_in S side ts j) (q.due j u (none_out few j u.0)));
        queued =
            record {
              long = length-set s tip none ∙ q.long;
              due = λ j u n. slot-other s tip none j n ∙ q.due j u (none_out few j u.0);
              idle =
                  λ j g.
                  pick (ℕ_discrete j tip)
                  (λ z. ap (λ (k : ℕ). slot (set s tip none) k) z ∙ slot_same s tip none (slot_in s tip f.held))
                  (λ n. slot-other s tip none j n ∙ q.idle j (λ u. absurd (n (g u))));
            };
      }
    where
      never : {A : Type 0} → (Runs b ts tip → ⊥) → A
      never n = absurd (none≢some (sym (q.idle tip (λ u. absurd (n u))) ∙ f.held))

      begun : tip < b
      begun = pick (dec_lt tip b) (λ h. h) (λ n. never (λ u. n u.0))

      r : Runs b ts tip
      r = (begun, pick (Bool-discrete (tip_in ts tip).ended false) (λ h. h) (λ n. never (λ u. n u.1)))

      same : entry_in S side ts tip ≡ record { key = f.key; event = e }
      same = some-injective _ _ (sym (q.due tip r (none_out few tip begun)) ∙ f.held)
