-- What an event says of the key that it leaves with and of its tip's cause: `is_cell`, `is_track`, `is_wall`, `is_edge`.
use mathlib.Core.Bool.{Bool, true, false, true≢false, cond}
use mathlib.Core.Path.{◌≡◌, refl, sym, ap, ◌∙◌}
use Prim.Native.Nat.{ℕ}
use native.Mathlib.Omega.{arith}
use lib.Dec.{eqb}
use Rattle.rule.proofs.Tests.{eqb_self, eqb-true}
use Rattle.cause.specs.declared.Cause.{Cause}
use Rattle.cause.specs.declared.Class.{Class}
use Rattle.cause.specs.declared.Class.TheVariants as class
use Rattle.cells.specs.declared.Cell.{Cell}
use Rattle.event_queue.specs.declared.Event.{Event}
use Rattle.event_queue.specs.declared.Event.TheVariants as event
use Rattle.pending_events.specs.Pending.{reached_of, event_of}
use Rattle.cause.specs.Cause.{rank}

-- ---- what is reached

no_cell : (k : Class) (i x y : ℕ) → event.Cell x y ≡ reached_of k i → ⊥
unfolding reached_of
no_cell class.Track i x y e = let z : ◌≡◌ {A = ℕ} 0 1 = cc in omega arith
no_cell class.Wall i x y e = let z : ◌≡◌ {A = ℕ} 0 1 = cc in omega arith
no_cell class.Edge i x y e = let z : ◌≡◌ {A = ℕ} 0 1 = cc in omega arith

track_class : (k : Class) (i x : ℕ) → event.Track x ≡ reached_of k i → (rank k ≡ 0) × (i ≡ x)
unfolding reached_of
track_class class.Track i x e = (refl, cc)
track_class class.Wall i x e = absurd (let z : ◌≡◌ {A = ℕ} 0 1 = cc in omega arith)
track_class class.Edge i x e = absurd (let z : ◌≡◌ {A = ℕ} 0 1 = cc in omega arith)

wall_class : (k : Class) (i x : ℕ) → event.Wall x ≡ reached_of k i → (rank k ≡ 1) × (i ≡ x)
unfolding reached_of
wall_class class.Track i x e = absurd (let z : ◌≡◌ {A = ℕ} 0 1 = cc in omega arith)
wall_class class.Wall i x e = (refl, cc)
wall_class class.Edge i x e = absurd (let z : ◌≡◌ {A = ℕ} 0 1 = cc in omega arith)

edge_class : (k : Class) (i : ℕ) → event.Edge ≡ reached_of k i → (rank k ≡ 0 → ⊥) × (rank k ≡ 1 → ⊥)
unfolding reached_of
edge_class class.Track i e = absurd (let z : ◌≡◌ {A = ℕ} 0 1 = cc in omega arith)
edge_class class.Wall i e = absurd (let z : ◌≡◌ {A = ℕ} 0 1 = cc in omega arith)
edge_class class.Edge i e = (λ z. omega arith, λ z. omega arith)

-- ---- the event of a tip whose next cell is k and whose cause is c

module _ (late : ℕ) (k : Cell) (c : Cause) where
  pub is_cell : (x y : ℕ) → event.Cell x y ≡ event_of late k c → (late ≡ 1 → ⊥) × (k ≡ record { column = x; row = y })
  unfolding event_of
  is_cell x y = go (eqb late 1) refl
    where
      go : (b : Bool) → eqb late 1 ≡ b → event.Cell x y ≡ cond b (reached_of c.class c.id) (event.Cell k.column k.row) → (late ≡ 1 → ⊥) × (k ≡ record { column = x; row = y })
      go true f e = absurd (no_cell c.class c.id x y e)
      go false f e =
          let p : k.column ≡ x = cc in
          let q : k.row ≡ y = cc in
          (λ z. true≢false (sym (ap (λ (n : ℕ). eqb n 1) z ∙ eqb_self 1) ∙ f), λ i. record { column = p i; row = q i })

  is_reached : (v : Event) → ((x y : ℕ) → v ≡ event.Cell x y → ⊥) → v ≡ event_of late k c → (late ≡ 1) × (v ≡ reached_of c.class c.id)
  unfolding event_of
  is_reached v n = go (eqb late 1) refl
    where
      go : (b : Bool) → eqb late 1 ≡ b → v ≡ cond b (reached_of c.class c.id) (event.Cell k.column k.row) → (late ≡ 1) × (v ≡ reached_of c.class c.id)
      go true f e = (eqb-true late 1 f, e)
      go false f e = absurd (n k.column k.row e)

  pub is_track : (x : ℕ) → event.Track x ≡ event_of late k c → (late ≡ 1) × (rank c.class ≡ 0) × (c.id ≡ x)
  is_track x e =
      let r = is_reached (event.Track x) (λ a b z. let w : ◌≡◌ {A = ℕ} 0 1 = cc in omega arith) e in
      let t = track_class c.class c.id x r.1 in
      (r.0, t.0, t.1)

  pub is_wall : (x : ℕ) → event.Wall x ≡ event_of late k c → (late ≡ 1) × (rank c.class ≡ 1) × (c.id ≡ x)
  is_wall x e =
      let r = is_reached (event.Wall x) (λ a b z. let w : ◌≡◌ {A = ℕ} 0 1 = cc in omega arith) e in
      let t = wall_class c.class c.id x r.1 in
      (r.0, t.0, t.1)

  pub is_edge : event.Edge ≡ event_of late k c → (late ≡ 1) × (rank c.class ≡ 0 → ⊥) × (rank c.class ≡ 1 → ⊥)
  is_edge e =
      let r = is_reached event.Edge (λ a b z. let w : ◌≡◌ {A = ℕ} 0 1 = cc in omega arith) e in
      let t = edge_class c.class c.id r.1 in
      (r.0, t.0, t.1)
