-- Decimal digits. Main theorems: `decimal-one` and `decimal-more`, the digits as they are written; `decimal_short`, a number of 64 bits has at most 20; `decimal_back`, the digits read back give the number.
use mathlib.Core.Path.{◌≡◌, refl, sym, ap, ◌∙◌}
use mathlib.Core.Bool.{Bool, true, false}
use mathlib.Core.List.{List, [], ◌∷◌, ◌++◌}
use Prim.Native.Nat.{ℕ, zero, suc, ◌+◌, ◌*◌, ◌-◌, ◌/◌, ◌%◌, ◌^◌, ◌≤◌, ◌<◌}
use native.Mathlib.Nat.{pow-succ'}
use native.Mathlib.Omega.{arith}
use borrow.Author.Tests.{lt-ltb, le-ltb, ltb-true, ltb-false}
use lib.Dec.{ltb}
use lib.ListN.{length, length-append}
use Rattle.text.specs.Lines.{digits_within, decimal}

within-one : (f v : ℕ) → v < 10 → digits_within (suc f) v ≡ (48 + v) ∷ []
unfolding digits_within
within-one f v h = simp (lt-ltb v 10 h)

within_more : (f v : ℕ) → 10 ≤ v → digits_within (suc f) v ≡ digits_within f (v / 10) ++ ((48 + v % 10) ∷ [])
unfolding digits_within
within_more f v h = simp (le-ltb v 10 h)

-- more room than v needs changes nothing
enough : (f g v : ℕ) → v < f → v < g → digits_within f v ≡ digits_within g v
enough zero g v h k = absurd (omega arith)
enough (suc f) zero v h k = absurd (omega arith)
enough (suc f) (suc g) v h k = go (λ l. enough f g (v / 10) (omega arith) (omega arith)) (ltb v 10) refl
  where
    go : (10 ≤ v → digits_within f (v / 10) ≡ digits_within g (v / 10)) → (b : Bool) → ltb v 10 ≡ b → digits_within (suc f) v ≡ digits_within (suc g) v
    go ih true e = let l = ltb-true v 10 e in within-one f v l ∙ sym (within-one g v l)
    go ih false e =
        let l = ltb-false v 10 e in
        within_more f v l ∙ ap (λ (d : List ℕ). d ++ ((48 + v % 10) ∷ [])) (ih l) ∙ sym (within_more g v l)

pub decimal-one : (v : ℕ) → v < 10 → decimal v ≡ (48 + v) ∷ []
unfolding decimal
decimal-one v h = within-one v v h

pub decimal-more : (v : ℕ) → 10 ≤ v → decimal v ≡ decimal (v / 10) ++ ((48 + v % 10) ∷ [])
unfolding decimal
decimal-more v h = within_more v v h ∙ ap (λ (d : List ℕ). d ++ ((48 + v % 10) ∷ [])) (enough v (suc (v / 10)) (v / 10) (omega arith) (omega arith))

-- ---- how many

within_short : (k f v : ℕ) → v < 10 ^ suc k → length (digits_within f v) ≤ suc k
unfolding digits_within
within_short k zero v h = omega arith
within_short zero (suc f) v h = let l : v < 10 = h in simp (within-one f v l) (omega arith)
within_short (suc k) (suc f) v h = go (within_short k f (v / 10)) (ltb v 10) refl
  where
    go : (v / 10 < 10 ^ suc k → length (digits_within f (v / 10)) ≤ suc k) → (b : Bool) → ltb v 10 ≡ b → length (digits_within (suc f) v) ≤ suc (suc k)
    go ih true e = rw (within-one f v (ltb-true v 10 e)) (omega arith)
    go ih false e =
        let p = pow-succ' 10 (suc k) in
        let i = ih (omega arith) in
        rw (within_more f v (ltb-false v 10 e)) (simp length-append (omega arith))

pub decimal_short : (v : ℕ) → v < 18446744073709551616 → length (decimal v) ≤ 20
unfolding decimal
decimal_short v h = let p : 18446744073709551616 ≤ 10 ^ 20 = omega arith in within_short 19 (suc v) v (omega arith)

-- ---- what they mean

-- the number that digits behind those of n make
abbrev pub read_on : ℕ → List ℕ → ℕ
read_on n [] = n
read_on n (d ∷ l) = read_on (10 * n + (d - 48)) l

read_snoc : (n : ℕ) (l : List ℕ) (d : ℕ) → read_on n (l ++ (d ∷ [])) ≡ 10 * read_on n l + (d - 48)
read_snoc n [] d = refl
read_snoc n (x ∷ l) d = read_snoc (10 * n + (x - 48)) l d

within_back : (f v : ℕ) → v < f → read_on 0 (digits_within f v) ≡ v
within_back zero v h = absurd (omega arith)
within_back (suc f) v h = go (λ l. within_back f (v / 10) (omega arith)) (ltb v 10) refl
  where
    go : (10 ≤ v → read_on 0 (digits_within f (v / 10)) ≡ v / 10) → (b : Bool) → ltb v 10 ≡ b → read_on 0 (digits_within (suc f) v) ≡ v
    go ih true e = rw (within-one f v (ltb-true v 10 e)) (omega arith)
    go ih false e =
        let l = ltb-false v 10 e in
        let i = ih l in
        rw (within_more f v l, read_snoc) (omega arith)

pub decimal_back : (v : ℕ) → read_on 0 (decimal v) ≡ v
unfolding decimal
decimal_back v = within_back (suc v) v (omega arith)
