-- The rows as bytes, one after the other. Main theorems: `written_next`, `written_end`.
use mathlib.Core.List.{List, [], ◌∷◌, ◌++◌}
use mathlib.Core.Path.{◌≡◌, sym, ap, ◌∙◌, subst}
use Prim.Native.Nat.{ℕ, ◌+◌, ◌*◌, ◌≤◌, ◌<◌}
use native.Mathlib.Decide.{dec_lt}
use native.Mathlib.Numerals.{add-one}
use native.Mathlib.Omega.{arith}
use lib.ListN.{length, take}
use lib.Seq.{sets, take_all, take-suc}
use Rattle.sheet.specs.Accepted.{Accepted}
use Rattle.sheet.specs.Listing.{Listing}
use Rattle.rule.specs.declared.Row.{Row}
use Rattle.rule.specs.RowBytes.{row_bytes, row_width}
use Rattle.rule.specs.Selection.{roll_of}
use Rattle.rule.specs.Meanwhile.{Progress}
use Rattle.rule.proofs.Turn.{progress_end}
use Rattle.row.specs.Written.{Written}
use Rattle.row.proofs.Roll.{written-more}
use Rattle.ending.specs.Ended.{next_row}

-- the rows that are out are in the roll
in_roll : {A : Type 0} (l : List A) (k : ℕ) → length (take (k + 1) l) ≡ k + 1 → k < length l
in_roll l k h = go (dec_lt k (length l))
  where
    go : Dec (k < length l) → k < length l
    go (yes x) = x
    go (no x) = let e = take_all (k + 1) l (omega arith) in absurd (omega (arith, ap length e))

pub written_next :
    (S : Listing) (k : ℕ) {before after more : List ℕ} → length (take k (roll_of S)) ≡ k → length (take (k + 1) (roll_of S)) ≡ k + 1 → row_width * k + row_width ≤ length before →
    more ≡ sets after (row_width * k) (row_bytes (next_row S k)) → Written (take k (roll_of S)) before after → Written (take (k + 1) (roll_of S)) before more
written_next S k {before} {after} {more} e g h x w =
    let f : take (k + 1) (roll_of S) ≡ take k (roll_of S) ++ (next_row S k ∷ []) = rw add-one (take-suc (roll_of S) k _ (in_roll (roll_of S) k g)) in
    subst (λ (z : List Row). Written z before more) (sym f) (written-more w (next_row S k) (omega arith) (omega arith) x)

pub written_end : (S : Listing) (k : ℕ) {done : List Row} {before after : List ℕ} → Accepted S → Progress S (take k (roll_of S)) done → length (take k (roll_of S)) ≡ k → k ≡ length S.tracks → Written (take k (roll_of S)) before after → Written (roll_of S) before after
written_end S k {done} {before} {after} acc p o e w = subst (λ (z : List Row). Written z before after) (progress_end acc p (o ∙ e)) w

-- of the same sheet
pub written_of : {S T : Listing} {before after : List ℕ} → S ≡ T → Written (roll_of T) before after → Written (roll_of S) before after
written_of {before = before} {after} e w = subst (λ (z : Listing). Written (roll_of z) before after) (sym e) w
