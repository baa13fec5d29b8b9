-- Causes that still count. Main theorems: `stale_means` (what the test says), `counts_live`, `live_counts`.
use mathlib.Core.Bool.{Bool, true, false, not, true≢false, Bool-discrete}
use Rattle.std.proofs.lemmas.Bool.{true_from_ne_false}
use mathlib.Core.List.{List}
use mathlib.Core.Path.{◌≡◌, refl, sym, subst}
use Prim.Native.Nat.{ℕ, ◌<◌}
use native.Mathlib.Decide.{ℕ_discrete}
use native.Mathlib.Omega.{arith}
use borrow.Author.Tests.{eq-eqb, ne_eqb}
use lib.ListN.{length}
use Rattle.fraction.specs.Time.{Time, ◌≤ᵗ◌, ◌<ᵗ◌, as_time, not_later}
use Rattle.fraction.proofs.TimeOrder.{<ᵗ_≤ᵗ_trans, <ᵗ_irrefl, told_not_later, told-later}
use Rattle.sheet.specs.Accepted.{Accepted}
use Rattle.sheet.specs.Listing.{Listing, ◌∈◌}
use Rattle.sheet.specs.declared.Track.{Track}
use Rattle.rule.specs.declared.Row.{Row}
use Rattle.rule.specs.Causes as rule
use Rattle.rule.proofs.OnSheet.{arrives_same}
use Rattle.rule.proofs.Selection.{up_fresh}
use Rattle.rule.specs.Meanwhile.{OpenedBy, Formal, Live}
use Rattle.cause.specs.declared.Cause.{Cause}
use Rattle.cause.specs.declared.Class.{Class}
use Rattle.cause.specs.declared.Class.TheVariants as class
use Rattle.cause.specs.Cause.{rank, tip_at, why_of, cand_of, Fine, Stands}
use Rattle.cause.proofs.Looking.{walls_live, gone_at, end_opened}
use Rattle.tips.specs.declared.Tip.{Tip}
use Rattle.tips.specs.Tips.{tip_in}
use Rattle.look.specs.Ends.{end_of, Ends}
use Rattle.look.specs.Counts.{Counts, no_track, runs, passed, MayTell, void, stale, Stale}

-- a track that had ended before it was there
pub void_none : {ts : List Tip} {c : Cause} → rank c.class ≡ 0 → ((tip_in ts c.who).ended ≡ false → ⊥) → end_of (tip_in ts c.who) <ᵗ as_time c.there → Counts ts c → ⊥
void_none z n h (no_track x) = x z
void_none z n h (runs _ x) = n x
void_none z n h (passed _ _ x) = <ᵗ_irrefl (<ᵗ_≤ᵗ_trans h x)

-- ---- the test, case by case

module _ (ts : List Tip) (c : Cause) where
  abbrev other : Tip
  other = tip_in ts c.who

  pub void_class : (rank c.class ≡ 0 → ⊥) → void ts c ≡ false
  unfolding void
  void_class n = rw (ne_eqb (rank c.class) 0 n) refl

  module _ (z : rank c.class ≡ 0) where
    pub void_runs : other.ended ≡ false → void ts c ≡ false
    unfolding void
    void_runs x = rw (eq-eqb (rank c.class) 0 z, x) refl

    pub void_ended : (other.ended ≡ false → ⊥) → void ts c ≡ not (not_later c.there other.best.at)
    unfolding void
    void_ended x = rw (eq-eqb (rank c.class) 0 z, true_from_ne_false other.ended x) refl

module _ (ts : List Tip) (i : ℕ) where
  pub stale_runs : (tip_in ts i).ended ≡ false → stale ts i ≡ void ts (tip_in ts i).best
  unfolding stale
  stale_runs x = rw x refl

  pub stale_ended : ((tip_in ts i).ended ≡ false → ⊥) → stale ts i ≡ false
  unfolding stale
  stale_ended x = rw (true_from_ne_false (tip_in ts i).ended x) refl

-- ---- what it says

-- an answer for a cause
record Void (ts : List Tip) (c : Cause) (r : Bool) : Type 0 where
  no_longer : r ≡ true → Counts ts c → ⊥
  still : r ≡ false → Counts ts c

counting : {ts : List Tip} {c : Cause} → Counts ts c → Void ts c false
counting x = record { no_longer = λ e. absurd (true≢false (sym e)); still = λ e. x }

told : {ts : List Tip} {c : Cause} (b : Bool) → (b ≡ true → Counts ts c) → (b ≡ false → Counts ts c → ⊥) → Void ts c (not b)
told true h k = counting (h refl)
told false h k = record { no_longer = λ e. k refl; still = λ e. absurd (true≢false e) }

void_means : (ts : List Tip) (c : Cause) → Fine c → (rank c.class ≡ 0 → ((tip_in ts c.who).ended ≡ false → ⊥) → Fine (tip_in ts c.who).best) → Void ts c (void ts c)
void_means ts c f g = go (ℕ_discrete (rank c.class) 0) (Bool-discrete (tip_in ts c.who).ended false)
  where
    late : rank c.class ≡ 0 → ((tip_in ts c.who).ended ≡ false → ⊥) → Void ts c (not (not_later c.there (tip_in ts c.who).best.at))
    late z x =
        let end = (tip_in ts c.who).best.at in
        told (not_later c.there end)
        (λ e. passed z x (told_not_later c.there end f.there.den_pos (g z x).at.den_pos e))
        (λ e. void_none z x (told-later c.there end f.there.den_pos (g z x).at.den_pos e))

    go : Dec (rank c.class ≡ 0) → Dec ((tip_in ts c.who).ended ≡ false) → Void ts c (void ts c)
    go (no n) d = subst (Void ts c) (sym (void_class ts c n)) (counting (no_track n))
    go (yes z) (yes x) = subst (Void ts c) (sym (void_runs ts c z x)) (counting (runs z x))
    go (yes z) (no x) = subst (Void ts c) (sym (void_ended ts c z x)) (late z x)

pub stale_means : {ts : List Tip} {i : ℕ} → MayTell ts i → Stale ts i (stale ts i)
stale_means {ts} {i} m = go (Bool-discrete (tip_in ts i).ended false)
  where
    means : (tip_in ts i).ended ≡ false → Void ts (tip_in ts i).best (void ts (tip_in ts i).best)
    means x = void_means ts (tip_in ts i).best m.fine (m.times x)

    go : Dec ((tip_in ts i).ended ≡ false) → Stale ts i (stale ts i)
    go (yes x) = subst (Stale ts i) (sym (stale_runs ts i x)) (record { yes_runs = λ e. x; yes_void = (means x).no_longer; no_counts = λ e _. (means x).still e })
    go (no x) = subst (Stale ts i) (sym (stale_ended ts i x)) (record { yes_runs = λ e. absurd (true≢false (sym e)); yes_void = λ e. absurd (true≢false (sym e)); no_counts = λ e y. absurd (x y) })

-- no tip ended before it opened
pub ends-opened : {S : Listing} {ts : List Tip} {done : List Row} → Ends S ts done → (k : ℕ) → k < length S.tracks → OpenedBy (tip_at S k) (rule.end_of done (tip_at S k).id)
ends-opened e k h = end_opened (e.running k h) (e.ended k h)

-- ---- what counts in the tips counts in the rule

module _ (S : Listing) (acc : Accepted S) (ts : List Tip) (done : List Row) (e : Ends S ts done) (a : Track) (here : a ∈ S.tracks) where
  by_run : (u s : Time) (k : Class) (w : ℕ) → rank k ≡ 0 → w < length S.tracks → Formal S a u (why_of S k w s) → (tip_in ts w).ended ≡ false → Live done u (why_of S k w s)
  unfolding why_of
  by_run u s class.Track w z h (m, n, f) x = subst (λ (t : Time). s ≤ᵗ t) (sym (up_fresh u done (tip_at S w) (e.running w h x))) (arrives_same acc here (tip_at S w) m n f).1
  by_run u s class.Wall w z h f x = absurd (omega arith)
  by_run u s class.Edge w z h f x = absurd (omega arith)

  by_end : (u s : Time) (k : Class) (w : ℕ) → rank k ≡ 0 → w < length S.tracks → ((tip_in ts w).ended ≡ false → ⊥) → s ≤ᵗ end_of (tip_in ts w) → Live done u (why_of S k w s)
  unfolding why_of
  by_end u s class.Track w z h n y = subst (λ (t : Time). s ≤ᵗ t) (sym (gone_at (e.ended w h n) u)) y
  by_end u s class.Wall w z h n y = absurd (omega arith)
  by_end u s class.Edge w z h n y = absurd (omega arith)

  by_stop : (u s : Time) (k : Class) (w : ℕ) → rank k ≡ 0 → w < length S.tracks → ((tip_in ts w).ended ≡ false → ⊥) → Live done u (why_of S k w s) → s ≤ᵗ end_of (tip_in ts w)
  unfolding why_of
  by_stop u s class.Track w z h n l = subst (λ (t : Time). s ≤ᵗ t) (gone_at (e.ended w h n) u) l
  by_stop u s class.Wall w z h n l = absurd (omega arith)
  by_stop u s class.Edge w z h n l = absurd (omega arith)

  pub counts_live : {c : Cause} → Stands S a c → Counts ts c → Live done (cand_of S c).u (cand_of S c).why
  counts_live {c} t (no_track n) = walls_live S done (as_time c.at) (as_time c.there) c.class c.who (omega (arith, n))
  counts_live {c} t (runs z x) = by_run (as_time c.at) (as_time c.there) c.class c.who z (t.known z) t.formal x
  counts_live {c} t (passed z n y) = by_end (as_time c.at) (as_time c.there) c.class c.who z (t.known z) n y

  -- a cause that counts in the rule counts in the tips
  pub live_counts : {c : Cause} → Stands S a c → Live done (cand_of S c).u (cand_of S c).why → Counts ts c
  live_counts {c} t l = go (ℕ_discrete (rank c.class) 0)
    where
      ran : rank c.class ≡ 0 → Dec ((tip_in ts c.who).ended ≡ false) → Counts ts c
      ran z (yes x) = runs z x
      ran z (no x) = passed z x (by_stop (as_time c.at) (as_time c.there) c.class c.who z (t.known z) x l)

      go : Dec (rank c.class ≡ 0) → Counts ts c
      go (yes z) = ran z (Bool-discrete (tip_in ts c.who).ended false)
      go (no z) = no_track z
