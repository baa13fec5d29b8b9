-- When a cell entry leaves the queue. Main theorems: `before_end`, a tip that came to a cell before anything could end it came to it before its end, as the rule has it; `cell-time`, the time of the entry's key is the time at which the trace enters the cell; `entries_to_come`, what leaves the queue is not later than any entry of a cell that is still to come.
use mathlib.Core.Bool.{Bool, true, false}
use mathlib.Core.List.Memᴰ
use mathlib.Core.List.{List}
use mathlib.Core.Logic.{◌⊎◌, inl, inr, ◌≢◌}
use mathlib.Core.Path.{◌≡◌, refl, sym, ap, ◌∙◌, subst}
use Prim.Native.Nat.{ℕ, suc, pred}
use native.Mathlib.Omega.{arith}
use lib.ListN.{length, drop, take-append-drop}
use Rattle.fraction.specs.Time.{Time, ◌≤ᵗ◌}
use Rattle.fraction.proofs.TimeOrder.{≤ᵗ_refl, ≤ᵗ_trans, ≤ᵗ_<ᵗ_trans, <ᵗ→≤ᵗ, <ᵗ_irrefl, ≈ᵗ→≤ᵗ, at_most}
use Rattle.sheet.specs.declared.Track.{Track}
use Rattle.sheet.specs.declared.Wall.{Wall}
use Rattle.sheet.specs.Accepted.{Accepted}
use Rattle.sheet.specs.HandedIn.{no_track, no_wall}
use Rattle.sheet.specs.Listing.{Listing, ◌∈◌}
use Rattle.sheet.proofs.Lists.{at_mem}
use Rattle.rule.specs.declared.Row.{Row}
use Rattle.rule.specs.Rule.{Blocks, Stops, by_track, by_wall, by_edge}
use Rattle.rule.specs.Rows.{time, time_of}
use Rattle.rule.specs.Motion.{opening}
use Rattle.rule.specs.Causes as rule
use Rattle.rule.specs.Causes.{up_to}
use Rattle.rule.specs.Contact.{Quot, when, Contact, hit, contact_to}
use Rattle.rule.specs.EdgeTime.{rim}
use Rattle.rule.specs.WallTime.{wall_time}
use Rattle.rule.specs.Selection.{roll_of}
use Rattle.rule.proofs.Consequences.{trace_ends, roll_opened, ends_in_time}
use Rattle.rule.proofs.Contacts.{Passed, Until, Comes, comes_not, comes_at}
use Rattle.rule.proofs.Existence.{roll_of_lem}
use Rattle.rule.proofs.OneRoll.{meets, time_of-row}
use Rattle.rule.proofs.OnSheet.{contact_hit, comes_of, wall_of_lem, rim_last}
use Rattle.rule.specs.Meanwhile.{Ended, Fresh}
use Rattle.rule.proofs.Running.{ended?}
use Rattle.rule.proofs.Selection.{up-all, up_fresh, up_until, rows-opened}
use Rattle.rule.proofs.Walls.{WallMeans, clear, touches}
use Rattle.cause.specs.declared.Cause.{Cause}
use Rattle.cause.specs.Cause.{tip_at, Fine}
use Rattle.cells.specs.declared.Cell.{Cell}
use Rattle.cells.specs.EnteredAt.{EnteredAt}
use Rattle.cells.specs.Cut.{After, before, past, ◌≤ᶜ◌, ◌<ᶜ◌}
use Rattle.cells.specs.Grid.{side, InCell}
use Rattle.cells.specs.OneCell.{entry, exit}
use Rattle.cells.proofs.Cut.{before_true, before_false, after_den}
use Rattle.cells.proofs.Entry.{cell-entry, cell-exit, before-past, point_by, entered_at}
use Rattle.cells.specs.Walk.{next}
use Rattle.cells.proofs.Walk.{Stepped}
use Rattle.event_queue.specs.declared.Event.{Event}
use Rattle.event_queue.specs.declared.Key.{Key}
use Rattle.event_queue.specs.Key as key
use Rattle.event_queue.specs.Queue.{First}
use Rattle.tips.specs.declared.Tip.{Tip}
use Rattle.tips.specs.Tips.{tip_in}
use Rattle.pending_events.specs.Pending.{pending_key}
use Rattle.pending_events.proofs.Order.{enters_no, pending_by, own_entry}
use Rattle.grid_steps.specs.Steps.{entry_in}
use Rattle.grid_state.specs.State.{cells_at, Runs, Ahead}
use Rattle.grid_state.specs.Run.{Rows, Going}
use Rattle.grid_state.specs.Sweep.{Sweep}
use Rattle.grid_state.proofs.Queue.{none_out}
use Rattle.grid_state.proofs.Been.{later-past}

-- the rows so far are rows of the roll
pub known_roll : {S : Listing} {done : List Row} {k : ℕ} → Rows S done k → (d : Row) → d ∈ done → d ∈ roll_of S
known_roll {S} {k = k} h d m = subst (λ (l : List Row). d ∈ l) (take-append-drop k (roll_of S)) (Memᴰ.append_left (drop k (roll_of S)) (h.known d m))

module _ {S : Listing} (acc : Accepted S) {done : List Row} (known : (d : Row) → d ∈ done → d ∈ roll_of S) where
  abbrev ends : ℕ → Time
  ends = time_of (roll_of S)

  -- a time that is in b's trace is in what is known of it
  in_known : (b : Track) (u v : Time) → v ≤ᵗ u → v ≤ᵗ ends b.id → v ≤ᵗ up_to done u b.id
  in_known b u v h k = go (ended? b done)
    where
      row : (r : Row) → r ∈ done → r.id ≡ b.id → v ≤ᵗ time r
      row r m e = subst (λ (z : Time). v ≤ᵗ z) (ap ends (sym e) ∙ time_of-row (roll_of S) r (roll_of_lem S acc).meets.is_set.distinct (known r m)) k

      go : Ended done b ⊎ Fresh done b → v ≤ᵗ up_to done u b.id
      go (inl (d, m, e)) = up-all (λ (z : Time). v ≤ᵗ z) u done b.id row d m e
      go (inr f) = subst (λ (z : Time). v ≤ᵗ z) (sym (up_fresh u done b f)) h

  module _ {s : ℕ} {a : Track} (m : a ∈ S.tracks) {k : Cell} (ahead : Ahead S done s a k) (on_sheet : entry a s k <ᶜ past (rim a)) where
    -- no tip comes to the trace of another and goes on
    never_passed : (b : Track) (t r : Time) → t ≤ᵗ ends a.id → Blocks S ends a t b r → Passed a b r → ⊥
    never_passed b t r h k p =
        let d : a.id ≢ b.id = λ e. k.other (sym e) in
        let (o, q) = contact_hit acc k.on_sheet a m d p.hits in
        let alive = ≤ᵗ_trans q (≤ᵗ_trans (<ᵗ→≤ᵗ p.before) (≤ᵗ_trans k.not_later h)) in
        let ended = trace_ends (meets (roll_of_lem S acc).meets) k.on_sheet (record { on_sheet = m; other = d; not_later = q; running = alive; there = o }) in
        <ᵗ_irrefl (≤ᵗ_<ᵗ_trans (≤ᵗ_trans k.running ended) p.before)

    by_tip : (b : Track) (t r : Time) → t ≤ᵗ ends a.id → Blocks S ends a t b r → entry a s k <ᶜ past t
    by_tip b t r l j = go (contact_to a b end) refl (comes_of acc m b j.on_sheet j.other end (rows-opened b done opened))
      where
        end : Quot
        end = rule.end_of done b.id

        opened : (d : Row) → d ∈ done → d.id ≡ b.id → opening b ≤ᵗ time d
        opened d i e = subst (λ (z : Time). opening b ≤ᵗ z) (ap ends (sym e) ∙ time_of-row (roll_of S) d (roll_of_lem S acc).meets.is_set.distinct (known d i)) (roll_opened acc j.on_sheet)

        until : Until end r
        until = up_until done b.id t r (in_known b t r j.not_later j.running)

        go : (q : Contact) → contact_to a b end ≡ q → Comes a b end q → entry a s k <ᶜ past t
        go q e (comes_not g) = absurd (never_passed b t r l j (g t r j.there j.not_later until))
        go q e (comes_at u v x o y g) =
            let (n, i, f) = at_mem no_track S.tracks b j.on_sheet in
            later-past (g t r j.there j.not_later until)
            (ahead.of_tips n i (subst (λ (z : Track). z.id ≢ a.id) (sym f) j.other) u v (subst (λ (z : Track). contact_to a z (rule.end_of done z.id) ≡ hit u v) (sym f) e))

    by_stop : (t : Time) → t ≤ᵗ ends a.id → Stops S ends a t → entry a s k <ᶜ past t
    by_stop t h (by_track b r j) = by_tip b t r h j
    by_stop t h (by_wall w i o) = go (wall_time a w) refl (wall_of_lem acc m w i)
      where
        go : (q : Quot) → wall_time a w ≡ q → WallMeans a w q → entry a s k <ᶜ past t
        go q e (clear f) = absurd (f t o)
        go q e (touches u x f) =
            let (n, l, y) = at_mem no_wall S.walls w i in
            later-past (f t o) (ahead.of_walls n l u (subst (λ (z : Wall). wall_time a z ≡ when u) (sym y) e))
    by_stop t h (by_edge o) = later-past (at_most (λ x. o.later (rim a) x (rim_last acc m).now)) on_sheet

    pub before_end : entry a s k <ᶜ past (ends a.id)
    before_end = by_stop (ends a.id) (≤ᵗ_refl (ends a.id)) (ends_in_time acc m).0.stops

  -- the key of the entry of the next cell has its time
  pub cell-time : {s g : ℕ} {a : Track} → a ∈ S.tracks → (c : Cause) → Fine c → {k : Cell} → Stepped a (rim a) s g k (next a s k) → Ahead S done s a (next a s k) → ((pending_key a s k c).late ≡ 1 → ⊥) →
      EnteredAt a (ends a.id) s (next a s k) (key.time (pending_key a s k c))
  cell-time {s} {g} {a} m c f {k} st ahead l =
      let p = own_entry a s k c f l in
      let d = after_den (exit a s k) p.at p.above in
      let (n, e) = numbers in
      entered_at (point_by st.good.fresh (before-past (before_end m ahead st.good.soon))) (exit a s k) st.just st.since (key.time (pending_key a s k c)) n (omega (arith, e))
    where
      numbers : ((pending_key a s k c).at.num ≡ (exit a s k).num) × ((pending_key a s k c).at.den ≡ (exit a s k).den)
      numbers = pending_by a s k c (λ x. (x.late ≡ 1 → ⊥) → (x.at.num ≡ (exit a s k).num) × (x.at.den ≡ (exit a s k).den)) (λ e h. (refl, refl)) (λ e h. absurd (h refl)) l

-- ---- what leaves is not later than an entry to come

pending_time : (a : Track) (s : ℕ) (k : Cell) (c : Cause) → Fine c → (t : Time) → After (exit a s k) t → key.time (pending_key a s k c) ≤ᵗ t
unfolding past
pending_time a s k c f t h =
    pending_by a s k c (λ x. key.time x ≤ᵗ t)
    (λ e. let z : suc (pred (exit a s k).den) ≡ (exit a s k).den = omega (arith, after_den (exit a s k) t h) in record { le = rw z (omega (arith, h.on)) })
    (λ e. let x = (enters_no a s k c f e).to t h in record { le = omega (arith, x.on) })

not_after_time : {p q : Key} → key.NotAfter p q → key.time p ≤ᵗ key.time q
not_after_time (key.sooner l) = <ᵗ→≤ᵗ l
not_after_time (key.milder e l) = ≈ᵗ→≤ᵗ e
not_after_time (key.level e z l) = ≈ᵗ→≤ᵗ e

-- an event leaves while the tip at j, which runs, has not yet entered cell m
module _ {S : Listing} {g n : ℕ} {w : Sweep} (go : Going S g n w) {tip : ℕ} {e : Event} (f : First w.crowd.pending tip e) {j : ℕ} (r : Runs (length S.tracks) w.crowd.tips j) where
  abbrev a : Track
  a = tip_at S j

  abbrev here : Tip
  here = tip_in w.crowd.tips j

  not_out : j ≢ 256
  not_out = none_out go.state.accepted.few_tracks j r.0

  module _ {m : Cell} (not_yet : ¬ (m ∈ cells_at go.es j)) where
    -- the cell in which the tip is will be left first
    left-first : entry a (side g) m <ᶜ exit a (side g) m → exit a (side g) here.cell ≤ᶜ entry a (side g) m
    left-first h = pick (before (entry a (side g) m) (exit a (side g) here.cell)) refl
      where
        pick : (b : Bool) → before (entry a (side g) m) (exit a (side g) here.cell) ≡ b → exit a (side g) here.cell ≤ᶜ entry a (side g) m
        pick true z = absurd (not_yet ((go.state.placed.at j r not_out).all m h (before_true z)))
        pick false z = before_false z

    pub entries_to_come : {T σ : Time} → EnteredAt a T (side g) m σ → key.time f.key ≤ᵗ σ
    entries_to_come h = h.greatest (key.time f.key) (λ t l o i. <ᵗ_irrefl (≤ᵗ_<ᵗ_trans (by t i) l))
      where
        by : (t : Time) → InCell a (side g) m t → key.time f.key ≤ᵗ t
        by t i =
            let x = left-first (record { at = t; above = cell-entry i; below = cell-exit i }) in
            ≤ᵗ_trans (not_after_time (f.least j (entry_in S (side g) w.crowd.tips j) (go.state.queued.due j r not_out)))
            (pending_time a (side g) here.cell here.best (go.state.looked.fine j r.0) t (x.to t (cell-entry i)))
