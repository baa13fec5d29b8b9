-- What the code's branches give: `key_entry` and `key_cause` for the key, `reached_track` to `event_cell` for the event.
use mathlib.Core.Path.{◌≡◌, refl, sym, ap, ap₂, subst, ◌∙◌}
use mathlib.Core.Bool.{Bool, true, false}
use Prim.Native.Nat.{ℕ, ◌<◌, ◌≤◌}
use lib.Dec.{eqb}
use borrow.Author.Tests.{eq-eqb, ne_eqb}
use native.Mathlib.Omega.{arith}
use Rattle.fraction.specs.Sizes.{Timely}
use Rattle.sheet.specs.declared.Track.{Track}
use Rattle.cause.specs.declared.Cause.{Cause}
use Rattle.cause.specs.Cause.{Fine}
use Rattle.cells.specs.declared.Cell.{Cell}
use Rattle.cells.specs.OneCell.{exit}
use Rattle.cells.specs.Walk.{next}
use Rattle.cell_walk.specs.declared.Onset.{Onset}
use Rattle.cell_walk.specs.declared.Crossing.{Crossing}
use Rattle.cell_walk.specs.Onsets.{onset, onset_of, prior_of, Gives, Crosses, cross_of}
use Rattle.cell_walk.proofs.Nearby.{next_near}
use Rattle.event_queue.specs.declared.Key.{Key}
use Rattle.event_queue.specs.declared.Entry.{Entry}
use Rattle.event_queue.specs.declared.Event.{Event}
use Rattle.event_queue.specs.declared.Event.TheVariants as event
use Rattle.event_queue.specs.Late.{entry_late}
use Rattle.pending_events.specs.Pending.{entry_key, cause_key, enters_first, pending_key, pending_entry, reached_of, event_of}
use Rattle.pending_events.proofs.Order.{enters_den, not-one}

-- ---- the key

module _ (a : Track) (s : ℕ) (k : Cell) (c : Cause) (f : Fine c) {o : Onset} (g : Gives (onset_of (exit a s k)) o) where
  test_of : {b b' : Bool} → b ≡ prior_of o (onset c.at 1) → b ≡ b' → enters_first a s k c ≡ b'
  unfolding enters_first
  test_of e w = ap (λ (z : Onset). prior_of z (onset c.at 1)) (sym g.is) ∙ sym e ∙ w

  pub key_entry : {b : Bool} {late : ℕ} → b ≡ prior_of o (onset c.at 1) → b ≡ true → late ≡ entry_late (eqb o.late 1) →
      (◌≡◌ {A = Key} (record { at = o.at; late = late; id = a.id }) (pending_key a s k c)) × Timely o.at
  unfolding pending_key
  key_entry e w l =
      let t = test_of e w in
      let p = subst (λ (z : Onset). 0 < z.at.den) (sym g.is) (enters_den a s k c f t) in
      let q = g.ready in (
        (λ i. record { at = o.at; late = l i; id = a.id }) ∙ ap (λ (z : Onset). entry_key z a.id) g.is ∙ rw t refl,
        record { num_in = q.num_in; den_in = q.den_in; den_pos = p },
      )

  pub key_cause : {b : Bool} → b ≡ prior_of o (onset c.at 1) → b ≡ false →
      (◌≡◌ {A = Key} (cause_key c a.id) (pending_key a s k c)) × Timely c.at
  unfolding pending_key
  key_cause e w =
      let t = test_of e w in (rw t refl, f.at)

-- ---- the event

module _ (a : Track) (s : ℕ) (k : Cell) (c : Cause) (late : ℕ) where
  pub event_reached : {r : Event} → r ≡ reached_of c.class c.id → late ≡ 1 → r ≡ event_of late (next a s k) c
  unfolding event_of
  event_reached e h = e ∙ rw (eq-eqb late 1 h) refl

  pub event_cell : {r : Crossing} → Crosses (cross_of a s k) r → (late ≡ 1 → ⊥) → event.Cell r.cell.column r.cell.row ≡ event_of late (next a s k) c
  unfolding event_of
  event_cell e h = ap (λ (z : Crossing). event.Cell z.cell.column z.cell.row) e.is ∙ rw (ne_eqb late 1 h) refl

-- a step from a cell of the grid fits a byte
pub next_in : (a : Track) (s : ℕ) (k : Cell) {r : Crossing} → Crosses (cross_of a s k) r → k.column ≤ 100 → k.row ≤ 100 → (r.cell.column ≤ 101) × (r.cell.row ≤ 101)
next_in a s k e h i =
    let w = next_near a s k in
    subst (λ (z : Crossing). (z.cell.column ≤ 101) × (z.cell.row ≤ 101)) (sym e.is) (omega (arith, w.0), omega (arith, w.1))

-- ---- both

pub entry_is : (a : Track) (s : ℕ) (k : Cell) (c : Cause) {key : Key} {event : Event} → key ≡ pending_key a s k c → event ≡ event_of key.late (next a s k) c →
    ◌≡◌ {A = Entry} (record { key = key; event = event }) (pending_entry a s k c)
entry_is a s k c p q = ap₂ (λ (x : Key) (y : Event). record { key = x; event = y }) p (q ∙ ap (λ (z : Key). event_of z.late (next a s k) c) p)

-- x is where the tip comes next
module _ (a : Track) (s : ℕ) (k : Cell) (c : Cause) (f : Fine c) {x : Crossing} (g : Crosses (cross_of a s k) x) where
  when_is : Gives (onset_of (exit a s k)) x.when
  when_is = record { is = ap (λ (z : Crossing). z.when) g.is; ready = g.ready }

  pub entry-entered : {b : Bool} {late : ℕ} → b ≡ prior_of x.when (onset c.at 1) → b ≡ true → late ≡ entry_late (eqb x.when.late 1) →
      (◌≡◌ {A = Entry} (record { key = record { at = x.when.at; late = late; id = a.id }; event = event.Cell x.cell.column x.cell.row }) (pending_entry a s k c)) × Timely x.when.at
  entry-entered {late = late} e w l =
      let (p, t) = key_entry a s k c f when_is e w l in
      (entry_is a s k c p (event_cell a s k c late g (λ z. not-one (eqb x.when.late 1) (sym l ∙ z))), t)

  pub entry_reached : {b : Bool} {r : Event} → b ≡ prior_of x.when (onset c.at 1) → b ≡ false → r ≡ reached_of c.class c.id →
      (◌≡◌ {A = Entry} (record { key = cause_key c a.id; event = r }) (pending_entry a s k c)) × Timely c.at
  entry_reached e w q =
      let (p, t) = key_cause a s k c f when_is e w in (entry_is a s k c p (event_reached a s k c 1 q refl), t)
