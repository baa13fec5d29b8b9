-- The order of pending events. Main theorems: `own_entry` and `own_cause`, what a tip's own key says of it; `leads_cause`, what the first key of all says of
-- the other tips, and `leads_entry`; `sooner-cause`, a sooner cause does not make the event leave later.
use mathlib.Core.Path.{◌≡◌, refl, sym, ap, subst, ◌∙◌}
use mathlib.Core.Logic.{◌⊎◌, inl, inr}
use mathlib.Core.Bool.{Bool, true, false, cond}
use Prim.Native.Nat.{ℕ, zero, suc, ◌+◌, ◌*◌, ◌<◌, ◌≤◌}
use lib.Dec.{eqb}
use borrow.Author.Tests.{ltb-true, ltb-false}
use native.Mathlib.Omega.{arith}
use native.Mathlib.Nat.{le_refl, eq-zero-or-pos}
use native.Mathlib.Decide.{dec_lt}
use Rattle.fraction.specs.declared.Fraction.{Fraction}
use Rattle.fraction.specs.Time.{◌≤ᵗ◌, ◌<ᵗ◌, ◌≈ᵗ◌, fraction}
use Rattle.fraction.specs.Order.{≈ᵗ_of, ≤ᵗ_or_<ᵗ}
use Rattle.fraction.proofs.TimeOrder.{fraction_lt, fraction_eq}
use Rattle.sheet.specs.declared.Track.{Track}
use Rattle.cause.specs.declared.Cause.{Cause}
use Rattle.cause.specs.declared.Class.{Class}
use Rattle.cause.specs.declared.Class.TheVariants as class
use Rattle.cause.specs.Cause.{Fine}
use Rattle.cells.specs.declared.Cell.{Cell}
use Rattle.cells.specs.Cut.{Cut, before, past, ◌≤ᶜ◌, ◌<ᶜ◌}
use Rattle.cells.proofs.Cut.{before_true, before_false, after_den, not-less}
use Rattle.cells.specs.OneCell.{exit}
use Rattle.cells.specs.Walk.{next}
use Rattle.cell_walk.specs.Onsets.{onset, onset_of, prior_of}
use Rattle.cell_walk.proofs.Onsets.{is_before, past_is}
use Rattle.event_queue.specs.declared.Key.{Key}
use Rattle.event_queue.specs.Key.{sooner, milder, level, Before, NotAfter}
use Rattle.event_queue.specs.Late.{entry_late, late_of}
use Rattle.event_queue.proofs.KeyOrder.{not_after_refl, not_after_trans, before_not_after, not-both}
use Rattle.pending_events.specs.Pending.{entry_key, cause_time, cause_key, enters_first, pending_key, reached_of, event_of}

-- ---- an entry at t against a cause: the test by products is the order of the keys

module _ (t : Fraction) (i j : ℕ) (c : Cause) (p : 0 < t.den) (q : 0 < c.at.den) where
  abbrev u : Fraction
  u = c.at

  entry_lt : (o : ℕ) → o ≤ 1 → 2 * (t.num * u.den) + o < 2 * (u.num * t.den) + 1 → Before (entry_key (onset t o) i) (cause_key c j)
  entry_lt zero l h = go (dec_lt (t.num * u.den) (u.num * t.den))
    where
      go : Dec (t.num * u.den < u.num * t.den) → Before (entry_key (onset t 0) i) (cause_key c j)
      go (yes k) = sooner (fraction_lt t.num t.den u.num u.den p q k)
      go (no k) = milder (fraction_eq t.num t.den u.num u.den p q (omega arith)) (omega arith)
  entry_lt (suc zero) l h = sooner (fraction_lt t.num t.den u.num u.den p q (omega arith))
  entry_lt (suc (suc o)) l h = absurd (omega arith)

  cause_lt : (o : ℕ) → o ≤ 1 → 2 * (u.num * t.den) + 1 ≤ 2 * (t.num * u.den) + o → Before (cause_key c j) (entry_key (onset t o) i)
  cause_lt zero l h = sooner (fraction_lt u.num u.den t.num t.den q p (omega arith))
  cause_lt (suc zero) l h = go (dec_lt (u.num * t.den) (t.num * u.den))
    where
      go : Dec (u.num * t.den < t.num * u.den) → Before (cause_key c j) (entry_key (onset t 1) i)
      go (yes k) = sooner (fraction_lt u.num u.den t.num t.den q p k)
      go (no k) = milder (fraction_eq u.num u.den t.num t.den q p (omega arith)) (omega arith)
  cause_lt (suc (suc o)) l h = absurd (omega arith)

-- ---- the test of a tip's next entry against a cause, its own or another's

module _ (a : Track) (s : ℕ) (k : Cell) (c : Cause) (f : Fine c) where
  test_is : enters_first a s k c ≡ before (exit a s k) (past (cause_time c))
  unfolding enters_first
  test_is =
      ap (λ z. prior_of (onset_of (exit a s k)) z) (past_is c.at f.at.den_pos) ∙
      sym (is_before (exit a s k) (past (cause_time c)))

  pub enters_yes : enters_first a s k c ≡ true → exit a s k <ᶜ past (cause_time c)
  enters_yes e = before_true (sym test_is ∙ e)

  pub enters_no : enters_first a s k c ≡ false → past (cause_time c) ≤ᶜ exit a s k
  enters_no e = before_false (sym test_is ∙ e)

  -- an entry that comes first is not at 1 / 0
  pub enters_den : enters_first a s k c ≡ true → 0 < (exit a s k).den
  enters_den e = let h = enters_yes e in after_den (exit a s k) h.at h.above

  pub entry-before : (i j : ℕ) → enters_first a s k c ≡ true → Before (entry_key (onset_of (exit a s k)) i) (cause_key c j)
  unfolding enters_first prior_of
  entry-before i j e =
      let x = exit a s k in
      entry_lt (onset_of x).at i j c (enters_den e) f.at.den_pos x.late x.late_bit (ltb-true _ _ e)

  pub cause-before : (i j : ℕ) → enters_first a s k c ≡ false → 0 < (exit a s k).den → Before (cause_key c j) (entry_key (onset_of (exit a s k)) i)
  unfolding enters_first prior_of
  cause-before i j e p =
      let x = exit a s k in
      cause_lt (onset_of x).at i j c p f.at.den_pos x.late x.late_bit (ltb-false _ _ e)

-- ---- one tip

module _ (a : Track) (s : ℕ) (k : Cell) (c : Cause) where
  -- what holds of the entry's key where it comes first, and of the cause's where it does not, holds of the pending event's
  pub pending_by : (P : Key → Type 0) → (enters_first a s k c ≡ true → P (entry_key (onset_of (exit a s k)) a.id)) →
      (enters_first a s k c ≡ false → P (cause_key c a.id)) → P (pending_key a s k c)
  unfolding pending_key
  pending_by P y n = go (enters_first a s k c) refl
    where
      go : (b : Bool) → enters_first a s k c ≡ b → P (cond b (entry_key (onset_of (exit a s k)) a.id) (cause_key c a.id))
      go true e = y e
      go false e = n e

  pub key_id : (pending_key a s k c).id ≡ a.id
  key_id = pending_by (λ x. x.id ≡ a.id) (λ e. refl) (λ e. refl)

pub not-one : (b : Bool) → entry_late b ≡ 1 → ⊥
not-one true h = omega arith
not-one false h = omega arith

module _ (a : Track) (s : ℕ) (k : Cell) (c : Cause) (f : Fine c) where
  -- the tip enters its next cell at a time up to its cause's
  pub own_entry : ((pending_key a s k c).late ≡ 1 → ⊥) → exit a s k <ᶜ past (cause_time c)
  own_entry =
      pending_by a s k c (λ x. (x.late ≡ 1 → ⊥) → exit a s k <ᶜ past (cause_time c))
      (λ e h. enters_yes a s k c f e)
      (λ e h. absurd (h refl))

  -- it does not
  pub own_cause : (pending_key a s k c).late ≡ 1 → (past (cause_time c) ≤ᶜ exit a s k) × (pending_key a s k c ≡ cause_key c a.id)
  own_cause =
      pending_by a s k c (λ x. x.late ≡ 1 → (past (cause_time c) ≤ᶜ exit a s k) × (x ≡ cause_key c a.id))
      (λ e h. absurd (not-one (eqb (exit a s k).late 1) h))
      (λ e h. (enters_no a s k c f e, refl))

  pub not_after_cause : NotAfter (pending_key a s k c) (cause_key c a.id)
  not_after_cause =
      pending_by a s k c (λ x. NotAfter x (cause_key c a.id))
      (λ e. before_not_after (entry-before a s k c f a.id a.id e))
      (λ e. not_after_refl (cause_key c a.id))

  pub not_after_entry : 0 < (exit a s k).den → NotAfter (pending_key a s k c) (entry_key (onset_of (exit a s k)) a.id)
  not_after_entry p =
      pending_by a s k c (λ x. NotAfter x (entry_key (onset_of (exit a s k)) a.id))
      (λ e. not_after_refl (entry_key (onset_of (exit a s k)) a.id))
      (λ e. before_not_after (cause-before a s k c f a.id a.id e p))

-- ---- two tips: what is reached first of all

module _ (a : Track) (s : ℕ) (k : Cell) (c : Cause) (f : Fine c) (b : Track) (l : Cell) (d : Cause) (g : Fine d) where
  -- it ends its tip before the other's cause does, and the other tip enters its next cell only after that
  pub leads_cause : (pending_key a s k c).late ≡ 1 → NotAfter (pending_key a s k c) (pending_key b s l d) →
      ((cause_time c <ᵗ cause_time d) ⊎ ((cause_time c ≈ᵗ cause_time d) × (a.id ≤ b.id))) × (past (cause_time c) ≤ᶜ exit b s l)
  leads_cause o h = (causes (not_after_trans first (not_after_cause b s l d g)), cells (enters_first b s l c) refl)
    where
      first : NotAfter (cause_key c a.id) (pending_key b s l d)
      first = subst (λ (z : Key). NotAfter z (pending_key b s l d)) (own_cause a s k c f o).1 h

      causes : NotAfter (cause_key c a.id) (cause_key d b.id) → (cause_time c <ᵗ cause_time d) ⊎ ((cause_time c ≈ᵗ cause_time d) × (a.id ≤ b.id))
      causes (sooner x) = inl x
      causes (milder x y) = absurd (omega arith)
      causes (level x y z) = inr (x, z)

      cells : (t : Bool) → enters_first b s l c ≡ t → past (cause_time c) ≤ᶜ exit b s l
      cells false e = enters_no b s l c f e
      cells true e =
          absurd
          (not-both (entry-before b s l c f b.id a.id e)
          (not_after_trans first (not_after_entry b s l d g (enters_den b s l c f e))))

-- ---- one tip, two causes

cause_order : (c d : Cause) (i : ℕ) → cause_time d ≤ᵗ cause_time c → NotAfter (cause_key d i) (cause_key c i)
cause_order c d i h = go (≤ᵗ_or_<ᵗ (cause_time c) (cause_time d))
  where
    go : (cause_time c ≤ᵗ cause_time d) ⊎ (cause_time d <ᵗ cause_time c) → NotAfter (cause_key d i) (cause_key c i)
    go (inl x) = level (≈ᵗ_of h x) refl (le_refl i)
    go (inr x) = sooner x

module _ (a : Track) (s : ℕ) (k : Cell) (c d : Cause) (f : Fine c) (g : Fine d) where
  pub sooner-cause : cause_time d ≤ᵗ cause_time c → NotAfter (pending_key a s k d) (pending_key a s k c)
  sooner-cause h =
      pending_by a s k c (λ x. NotAfter (pending_key a s k d) x)
      (λ e. not_after_entry a s k d g (enters_den a s k c f e))
      (λ e. not_after_trans (not_after_cause a s k d g) (cause_order c d a.id h))

-- ---- the event that leaves with the key

reached_late : (n : Class) (i : ℕ) (b : Bool) → late_of (reached_of n i) b ≡ 1
unfolding reached_of
reached_late class.Track i b = refl
reached_late class.Wall i b = refl
reached_late class.Edge i b = refl

-- the event is of the kind that its key was ordered by
pub event_late : (a : Track) (s : ℕ) (k : Cell) (c : Cause) →
    late_of (event_of (pending_key a s k c).late (next a s k) c) (eqb (exit a s k).late 1) ≡ (pending_key a s k c).late
unfolding event_of
event_late a s k c =
    pending_by a s k c (λ x. late_of (event_of x.late (next a s k) c) (eqb (exit a s k).late 1) ≡ x.late)
    (λ e. entered (eqb (exit a s k).late 1))
    (λ e. reached_late c.class c.id (eqb (exit a s k).late 1))
  where
    entered : (b : Bool) → late_of (event_of (entry_late b) (next a s k) c) b ≡ entry_late b
    entered true = refl
    entered false = refl

-- ---- two tips: what is entered first of all

lt_of : (n d m e : ℕ) → 0 < d → 0 < e → fraction n d <ᵗ fraction m e → n * e < m * d
lt_of n zero m e p q h = absurd (omega arith)
lt_of n (suc d) m zero p q h = absurd (omega arith)
lt_of n (suc d) m (suc e) p q h = h.lt

eq_of : (n d m e : ℕ) → 0 < d → 0 < e → fraction n d ≈ᵗ fraction m e → n * e ≡ m * d
eq_of n zero m e p q h = absurd (omega arith)
eq_of n (suc d) m zero p q h = absurd (omega arith)
eq_of n (suc d) m (suc e) p q h = h.eq

late_order : (o o' : ℕ) → o ≤ 1 → o' ≤ 1 → entry_late (eqb o 1) ≤ entry_late (eqb o' 1) → o ≤ o'
late_order zero o' p q h = omega arith
late_order (suc zero) zero p q h = absurd (omega arith)
late_order (suc zero) (suc o') p q h = omega arith
late_order (suc (suc o)) o' p q h = absurd (omega arith)

entry_order : (x y : Cut) (i j : ℕ) → 0 < x.den → 0 < y.den → NotAfter (entry_key (onset_of x) i) (entry_key (onset_of y) j) → x ≤ᶜ y
entry_order x y i j p q (sooner h) = not-less y x (omega (arith, lt_of x.num x.den y.num y.den p q h, x.late_bit))
entry_order x y i j p q (milder h k) = not-less y x (omega (arith, eq_of x.num x.den y.num y.den p q h, late_order x.late y.late x.late_bit y.late_bit (omega arith)))
entry_order x y i j p q (level h k l) = not-less y x (omega (arith, eq_of x.num x.den y.num y.den p q h, late_order x.late y.late x.late_bit y.late_bit (omega arith)))

-- no other tip enters its next cell before the one whose entry is first of all
pub leads_entry : (a : Track) (s : ℕ) (k : Cell) (c : Cause) (f : Fine c) (b : Track) (l : Cell) (d : Cause) (g : Fine d) → ((pending_key a s k c).late ≡ 1 → ⊥) → NotAfter (pending_key a s k c) (pending_key b s l d) → exit a s k ≤ᶜ exit b s l
leads_entry a s k c f b l d g =
    pending_by a s k c (λ x. (x.late ≡ 1 → ⊥) → NotAfter x (pending_key b s l d) → exit a s k ≤ᶜ exit b s l)
    (λ e n h. go e h (eq-zero-or-pos (exit b s l).den))
    (λ e n h. absurd (n refl))
  where
    go : enters_first a s k c ≡ true → NotAfter (entry_key (onset_of (exit a s k)) a.id) (pending_key b s l d) → ((exit b s l).den ≡ 0) ⊎ (0 < (exit b s l).den) → exit a s k ≤ᶜ exit b s l
    go e h (inl z) = record { to = λ t x. absurd (let y = after_den (exit b s l) t x in omega arith) }
    go e h (inr p) = entry_order (exit a s k) (exit b s l) a.id b.id (enters_den a s k c f e) p (not_after_trans h (not_after_entry b s l d g p))
