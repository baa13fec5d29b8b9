-- What the code's onsets are of the cuts of crate `cells`: `rise_yes` to `fall_no` for one border, `entry_by`, `exit_by`, `arrives` and `passes` for a cell.
use mathlib.Core.Path.{◌≡◌, refl, sym, ap, ap₂, ◌∙◌, subst}
use mathlib.Core.Bool.{Bool, true, false, cond}
use Prim.Native.Nat.{ℕ, suc, pred, ◌+◌, ◌*◌, ◌-◌, ◌≤◌, ◌<◌}
use native.Mathlib.Nat.{mul-le-mul}
use native.Mathlib.Omega.{arith}
use lib.Dec.{ltb}
use lib.IntN.{ℤ, pos}
use mir.Syntax.{w8, w64}
use mir.Val.{Fits, to_z, of_z}
use Rattle.fraction.specs.declared.Fraction.{Fraction}
use Rattle.fraction.specs.Time.{as_time, later_by}
use Rattle.fraction.specs.Sizes.{greatest_part, Timely}
use Rattle.fraction.proofs.Bounds.{fits-nat, bounded_back}
use Rattle.fraction.proofs.Sizes.{later_in}
use Rattle.sheet.specs.declared.Track.{Track}
use Rattle.sheet.specs.Accepted.{TrackOk}
use Rattle.cells.specs.declared.Cell.{Cell}
use Rattle.cells.specs.Cut.{Cut, before, later, sooner, plusᶜ, past}
use Rattle.cells.specs.OneCell.{border, enter, leave, entryᵃ, exitᵃ, entry, exit, has_point}
use Rattle.cells.proofs.Border.{Numbers, start_numbers, up_start, down-start, up_numbers, down_numbers}
use Rattle.cells.proofs.Entry.{has_point_true, point_den}
use Rattle.cell_walk.specs.declared.Onset.{Onset}
use Rattle.std.specs.Prelude.{Some, None}
use Rattle.cell_walk.specs.Arrivals.{arrival_of, Arrives}
use Rattle.cell_walk.specs.Onsets.{onset, onset_of, Ready, Early, Gives, GivesEarly, prior_of, later_of, sooner_of, opened_of, fall}

-- ---- one border

abbrev onset_at : ℕ → ℕ → ℕ → Onset
onset_at n d o = onset (record { num = n; den = d }) o

same : {k : Cut} {n d o : ℕ} → Numbers k n d o → onset_at n d o ≡ onset_of k
same e = λ i. onset_at (sym e.its_num i) (sym e.its_den i) (sym e.its_late i)

small : (n d o : ℕ) → n ≤ greatest_part → d ≤ greatest_part → o ≤ 1 → Early (onset_at n d o)
small n d o h k i = record { num_in = h; den_in = k; late_in = i }

at-start : (k : Cut) → Numbers k 0 1 0 → GivesEarly (onset_of k) (onset_at 0 1 0)
at-start k e = record { is = same e; early = small 0 1 0 (omega arith) (omega arith) (omega arith) }

module _ (x w b : ℕ) where
  pub rise_yes : b ≤ x → GivesEarly (onset_of (border x (pos w) b)) (onset_at 0 1 0)
  rise_yes h = at-start (border x (pos w) b) (subst (λ (z : Cut). Numbers z 0 1 0) (sym (up_start x w b h)) start_numbers)

  pub rise_no : x < b → b ≤ 21000000 → w ≤ 63 → GivesEarly (onset_of (border x (pos w) b)) (onset_at (b - x) w 0)
  rise_no h i j = record { is = same (up_numbers x w b h); early = small (b - x) w 0 (omega arith) (omega arith) (omega arith) }

  pub fall_yes : b ≤ x → x ≤ 4095 → 0 < w → w ≤ 63 → GivesEarly (onset_of (border x (fall w) b)) (onset_at (x - b) w 1)
  fall_yes h i p j =
      let e = down_numbers x (pred w) b h in
      let q : suc (pred w) ≡ w = omega arith in
      record {
        is = same {k = border x (fall w) b} (record { its_num = e.its_num; its_den = e.its_den ∙ q; its_late = e.its_late });
        early = small (x - b) w 1 (omega arith) (omega arith) (omega arith);
      }

  pub fall_no : x < b → GivesEarly (onset_of (border x (fall w) b)) (onset_at 0 1 0)
  fall_no h = at-start (border x (fall w) b) (subst (λ (z : Cut). Numbers z 0 1 0) (sym (down-start x (pred w) b h)) start_numbers)

pub border_in : (c s : ℕ) → c ≤ 5001 → s ≤ 4096 → c * s ≤ 21000000
border_in c s h k = omega (arith, mul-le-mul h k)

pub border-fits : (c s : ℕ) → c ≤ 5001 → s ≤ 4096 → Fits w64 (c * s)
border-fits c s h k = fits-nat w64 c s 5001 4096 h k tt

-- ---- the order, the later and the sooner

pub prior_by : (k l : Onset) {p q : ℕ} → p ≡ k.at.num * l.at.den → q ≡ l.at.num * k.at.den → ltb (2 * p + k.late) (2 * q + l.late) ≡ prior_of k l
unfolding prior_of
prior_by k l e f = rw (e, f) refl

-- one of the two
one_of : (P : Onset → Type 0) (b : Bool) {k l : Onset} → P k → P l → P (cond b l k)
one_of P true h i = i
one_of P false h i = h

module _ (P : Onset → Type 0) {k l r : Onset} (h : P k) (i : P l) where
  pub later-has : r ≡ later_of k l → P r
  unfolding later_of
  later-has e = subst P (sym e) (one_of P (prior_of k l) h i)

  pub sooner-has : r ≡ sooner_of k l → P r
  unfolding sooner_of
  sooner-has e = subst P (sym e) (one_of P (prior_of l k) h i)

pub is_before : (k l : Cut) → before k l ≡ prior_of (onset_of k) (onset_of l)
unfolding before prior_of
is_before k l = refl

is_cond : (b : Bool) (k l : Cut) → cond b (onset_of l) (onset_of k) ≡ onset_of (cond b l k)
is_cond true k l = refl
is_cond false k l = refl

is_later : (k l : Cut) → later_of (onset_of k) (onset_of l) ≡ onset_of (later k l)
unfolding later later_of before prior_of
is_later k l = is_cond (before k l) k l

is_sooner : (k l : Cut) → sooner_of (onset_of k) (onset_of l) ≡ onset_of (sooner k l)
unfolding sooner sooner_of before prior_of
is_sooner k l = is_cond (before l k) k l

-- the cut just after a time
pub past_is : (t : Fraction) → 0 < t.den → onset t 1 ≡ onset_of (past (as_time t))
unfolding past
past_is t p = let e : t.den ≡ suc (pred t.den) = omega arith in λ i. onset_at t.num (e i) 1

pub past_ready : {t : Fraction} → Timely t → Ready (onset t 1)
past_ready h = record { num_in = h.num_in; den_in = h.den_in; late_in = omega arith }

-- ---- a cell

-- what the code's shift gives
pub opened_gives : (n : ℕ) (k : Onset) {t : Fraction} → Early k → n ≤ 4095 → t ≡ later_by n k.at → Gives (opened_of n k) (onset t k.late)
opened_gives n k h l e =
    record {
      is = ap (λ (z : Fraction). onset z k.late) e;
      ready = subst (λ (z : Fraction). Ready (onset z k.late)) (sym e) (record { num_in = later_in k.at.num k.at.den n (omega (arith, h.num_in)) h.den_in l; den_in = omega (arith, h.den_in); late_in = h.late_in });
    }

-- an onset by ages, shifted, is one of times
pub opened_is : (n : ℕ) (c : Cut) {k r : Onset} → k ≡ onset_of c → Gives (opened_of n k) r → Gives (onset_of (plusᶜ n c)) r
unfolding plusᶜ
opened_is n c e g = record { is = g.is ∙ ap (opened_of n) e; ready = g.ready }

module _ (a : Track) (s : ℕ) (k : Cell) where
  -- two columns, by the speeds as the code reads them
  both : (f : Onset → Onset → Onset) (cut : ℕ → ℤ → ℕ → ℕ → Cut) {i j r : Onset} → TrackOk a →
      GivesEarly (onset_of (cut a.x (to_z w8 (of_z w8 a.vx)) s k.column)) i → GivesEarly (onset_of (cut a.y (to_z w8 (of_z w8 a.vy)) s k.row)) j → r ≡ f i j →
      r ≡ f (onset_of (cut a.x a.vx s k.column)) (onset_of (cut a.y a.vy s k.row))
  both f cut ok g h e =
      let x = rw (bounded_back w8 a.vx ok.vx_in tt) at g in
      let y = rw (bounded_back w8 a.vy ok.vy_in tt) at h in
      e ∙ ap₂ f x.is y.is

  pub entry_by : {i j m r : Onset} → TrackOk a → GivesEarly (onset_of (enter a.x (to_z w8 (of_z w8 a.vx)) s k.column)) i → GivesEarly (onset_of (enter a.y (to_z w8 (of_z w8 a.vy)) s k.row)) j → m ≡ later_of i j → Gives (opened_of a.start m) r → Gives (onset_of (entry a s k)) r
  unfolding entry entryᵃ
  entry_by ok g h e = opened_is a.start (entryᵃ a s k) (both later_of enter ok g h e ∙ is_later (enter a.x a.vx s k.column) (enter a.y a.vy s k.row))

  pub exit_by : {i j m r : Onset} → TrackOk a → GivesEarly (onset_of (leave a.x (to_z w8 (of_z w8 a.vx)) s k.column)) i → GivesEarly (onset_of (leave a.y (to_z w8 (of_z w8 a.vy)) s k.row)) j → m ≡ sooner_of i j → Gives (opened_of a.start m) r → Gives (onset_of (exit a s k)) r
  unfolding exit exitᵃ
  exit_by ok g h e = opened_is a.start (exitᵃ a s k) (both sooner_of leave ok g h e ∙ is_sooner (leave a.x a.vx s k.column) (leave a.y a.vy s k.row))

  has_is : (t : Fraction) → 0 < t.den → prior_of (onset_of (entry a s k)) (sooner_of (onset_of (exit a s k)) (onset t 1)) ≡ has_point a (as_time t) s k
  unfolding has_point
  has_is t p =
      ap (λ (z : Onset). prior_of (onset_of (entry a s k)) z) (ap (λ (z : Onset). sooner_of (onset_of (exit a s k)) z) (past_is t p) ∙ is_sooner (exit a s k) (past (as_time t))) ∙
      sym (is_before (entry a s k) (sooner (exit a s k) (past (as_time t))))

  module _ (t : Fraction) (p : Timely t) {i j m : Onset} {b : Bool} (g : Gives (onset_of (entry a s k)) i) (h : Gives (onset_of (exit a s k)) j) (e : m ≡ sooner_of j (onset t 1)) (f : b ≡ prior_of i m) where
    told : b ≡ has_point a (as_time t) s k
    told = f ∙ ap₂ prior_of g.is (e ∙ ap (λ (z : Onset). sooner_of z (onset t 1)) h.is) ∙ has_is t p.den_pos

    pub arrives : b ≡ true → Arrives a (as_time t) s k (Some i.at)
    unfolding arrival_of
    arrives u =
        let y = sym told ∙ u in
        record {
          is = rw y (ap (λ (z : Onset). Some z.at) g.is);
          comparable = record { num_in = g.ready.num_in; den_in = g.ready.den_in; den_pos = subst (λ (z : Onset). 0 < z.at.den) (sym g.is) (point_den (has_point_true y)) };
        }

    pub passes : b ≡ false → Arrives a (as_time t) s k None
    unfolding arrival_of
    passes u = record { is = rw (sym told ∙ u) refl; comparable = tt }
