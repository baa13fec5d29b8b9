-- What the rule comes to for tips that open later (SHEETS 4.13), of any family of times that meets it: `opens_on_trace`; `stopped_at_start`, `not_yet_open`, `both_as_it_opens` and `passed-before`, a tip that comes to the
-- start of another; `not_stopped`; `its_start_blocks`; `outward_ends`.
use mathlib.Core.Path.{◌≡◌, sym}
use mathlib.Core.Logic.{◌⊎◌, inl, inr, ◌≢◌}
use Prim.Native.Nat.{ℕ, suc, ◌*◌, ◌<◌}
use native.Mathlib.Omega.{arith}
use lib.IntN.{ℤ, pos, negsuc}
use Rattle.fraction.specs.Time.{Time, ◌≤ᵗ◌, ◌<ᵗ◌, ◌≈ᵗ◌, minusᵗ}
use Rattle.fraction.specs.Order.{≈ᵗ_of}
use Rattle.fraction.specs.Whole.{nat, ◌⊑◌}
use Rattle.fraction.proofs.TimeOrder.{≤ᵗ_refl, ≤ᵗ_trans, <ᵗ_≤ᵗ_trans, <ᵗ_irrefl, ≈ᵗ→≤ᵗ, ≈ᵗ_sym}
use Rattle.sheet.specs.declared.Track.{Track}
use Rattle.sheet.specs.Accepted.{Accepted}
use Rattle.sheet.specs.Listing.{Listing, ◌∈◌}
use Rattle.rule.specs.Motion.{at, opening, age, Same, Inside}
use Rattle.rule.specs.Rule.{Blocks}
use Rattle.rule.proofs.Motion.{same_sym, same_once}
use Rattle.rule.proofs.SameTime.{stops_opened}
use Rattle.rule.proofs.Descent.{Meets}
use Rattle.rule.proofs.OnSheet.{rim_inside, rim-opened}
use Rattle.rule.proofs.Consequences.{trace_ends, start-ends, edge_ends, both_end}

-- two tips that reach one point at t, neither of which has ended before, block each other with s = t: kind 2 where it is named
pub record Together (S : Listing) (T : ℕ → Time) (a b : Track) (t : Time) : Type 0 where
  pub stops_a : Blocks S T a t b t
  pub stops_b : Blocks S T b t a t
  pub a_ends : T a.id ≈ᵗ t
  pub b_ends : T b.id ≈ᵗ t

module _ {S : Listing} {T : ℕ → Time} (m : Meets S T) where
  -- no tip ends before it opens
  opened : {a : Track} → a ∈ S.tracks → opening a ≤ᵗ T a.id
  opened {a} i = stops_opened (m.ends a i).stops

  -- a tip that opens on an older trace ends at its start time
  pub opens_on_trace : {a b : Track} {s : Time} → a ∈ S.tracks → Blocks S T a (opening a) b s → T a.id ≈ᵗ opening a
  opens_on_trace i k = ≈ᵗ_of (trace_ends m i k) (opened i)

  -- ---- a comes along its line to the start of b

  module _ {a b : Track} (i : a ∈ S.tracks) (j : b ∈ S.tracks) (n : b.id ≢ a.id) where
    -- b has opened by then: a gets no further
    pub stopped_at_start : {t : Time} → Same a t b (opening b) → opening b ≤ᵗ t → T a.id ≤ᵗ t
    stopped_at_start h o = start-ends m i j n h o

    -- b opens just then: both end there
    pub both_as_it_opens : Same a (opening b) b (opening b) → opening b ≤ᵗ T a.id → Together S T a b (opening b)
    both_as_it_opens h r =
        let (p, q) = both_end m i j n h r (opened j) in
        record {
          stops_a = record { on_sheet = j; other = n; not_later = ≤ᵗ_refl (opening b); running = opened j; there = h };
          stops_b = record { on_sheet = i; other = λ e. n (sym e); not_later = ≤ᵗ_refl (opening b); running = r; there = same_sym h };
          a_ends = p;
          b_ends = q;
        }

    -- a has passed before: b opens on its trace
    pub passed-before : {t : Time} → Same b (opening b) a t → t ≤ᵗ opening b → t ≤ᵗ T a.id → T b.id ≈ᵗ opening b
    passed-before h l r = opens_on_trace j (record { on_sheet = i; other = λ e. n (sym e); not_later = l; running = r; there = h })

-- ---- what stops a tip that opens, and what its start stops

module _ {S : Listing} {T : ℕ → Time} {a b : Track} where
  -- a comes, or opens, where b would have been at s, had it not ended before: b, which moves, does not stop it there
  pub not_stopped : {t s : Time} → ¬ ((b.vx ≡ pos 0) × (b.vy ≡ pos 0)) → Same a t b s → T b.id <ᵗ s → (r : Time) → ¬ Blocks S T a t b r
  not_stopped moves h g r k = <ᵗ_irrefl (<ᵗ_≤ᵗ_trans g (≤ᵗ_trans (≈ᵗ→≤ᵗ (same_once moves h k.there)) k.running))

  -- b ended as it opened: its start is its trace, and blocks from then on
  pub its_start_blocks : {t : Time} → b ∈ S.tracks → b.id ≢ a.id → T b.id ≈ᵗ opening b → Same a t b (opening b) → opening b ≤ᵗ t → Blocks S T a t b (opening b)
  its_start_blocks j n e h o = record { on_sheet = j; other = n; not_later = o; running = ≈ᵗ→≤ᵗ (≈ᵗ_sym e); there = h }

  -- b has yet to open: it blocks a nowhere
  pub not_yet_open : {t s : Time} → t <ᵗ opening b → ¬ Blocks S T a t b s
  not_yet_open h k = <ᵗ_irrefl (<ᵗ_≤ᵗ_trans h (≤ᵗ_trans k.there.opened_too k.not_later))

-- ---- on the border, going out

-- a coordinate on the border, and a speed that leads out
pub data Out (x : ℕ) : ℤ → Type 0 where
  below : (w : ℕ) → x ≡ 0 → Out x (negsuc w)
  above : (w : ℕ) → x ≡ 4095 → Out x (pos (suc w))

gone : {x : ℕ} {v : ℤ} (p : Time) → Out x v → 0 < p.num → nat 0 ⊑ at x v p → at x v p ⊑ nat (4095 * p.den) → ⊥
unfolding at
gone p (below w e) n low high = let k = rw e at low.le in omega arith
gone p (above w e) n low high = let k = rw e at high.le in omega arith

older : (a : Track) (u : Time) → opening a <ᵗ u → 0 < (age a u).num
unfolding minusᵗ
older a u l = let k = l.lt in omega arith

-- it ends at its start time
pub outward_ends : {S : Listing} {T : ℕ → Time} → Accepted S → Meets S T → {a : Track} → a ∈ S.tracks → Out a.x a.vx ⊎ Out a.y a.vy → T a.id ≈ᵗ opening a
outward_ends acc m {a} i o = ≈ᵗ_of (edge_ends m i (record { now = rim_inside acc i (opening a) (≤ᵗ_refl (opening a)) (rim-opened acc i); later = λ u l. off u l o })) (stops_opened (m.ends a i).stops)
  where
    off : (u : Time) → opening a <ᵗ u → Out a.x a.vx ⊎ Out a.y a.vy → ¬ Inside a u
    off u l (inl x) h = gone (age a u) x (older a u l) h.inside.x_low h.inside.x_high
    off u l (inr y) h = gone (age a u) y (older a u l) h.inside.y_low h.inside.y_high
