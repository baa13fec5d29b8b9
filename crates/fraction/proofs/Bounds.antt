-- Bounds of signed numbers, and that an operation fits its width: at a need `search (fits, needs)`. A result read back from its bits is `reads` (of a callee's ensures) or `back` (of a bound).
use mathlib.Core.Path.{◌≡◌, refl, sym, ◌∙◌, subst}
use Prim.Native.Nat.{ℕ, zero, suc, ◌+◌, ◌*◌, ◌^◌, ◌≤◌}
use native.Mathlib.Nat.{lt_of_lt_of_le, mul-le-mul}
use native.Mathlib.Omega.{arith}
use lib.Dec.{T, ltb, leb, ltb→lt, leb→le}
use lib.IntN.{ℤ, pos, negsuc, neg_ℤ, nat_abs, ◌+ℤ◌, ◌-ℤ◌, ◌*ℤ◌, +ℤ_idl}
use lib.Signed.{mag, nat_abs-le}
use mir.Syntax.{Width, w8, w16, w32, w64}
use mir.Val.{SFits, Fits, bits, hbits, to_z, of_z}
use mir.Facts.{to_z_pos, to_z-of_z, sfits_widen}
use lib.Pow.{pow_mono}
use Rattle.fraction.specs.Within.{Within}
use Rattle.fraction.proofs.Diff.{split, ring, add-diff, abs_diff}

pub within-pos : {n k : ℕ} → k ≤ n → Within n (pos k)
within-pos h = record { abs = h }

neg' : (z : ℤ) → nat_abs (neg_ℤ z) ≡ nat_abs z
neg' (pos zero) = refl
neg' (pos (suc n)) = refl
neg' (negsuc n) = refl

pub within-neg : {n : ℕ} {z : ℤ} → Within n z → Within n (neg_ℤ z)
within-neg {n} {z} h = record { abs = rw (neg' z) h.abs }

mul' : (y z : ℤ) → nat_abs (y *ℤ z) ≡ nat_abs y * nat_abs z
mul' (pos m) (pos n) = refl
mul' (pos m) (negsuc n) = neg' (pos (m * suc n))
mul' (negsuc m) (pos n) = neg' (pos (suc m * n))
mul' (negsuc m) (negsuc n) = refl

pub within-mul : {m n : ℕ} {y z : ℤ} → Within m y → Within n z → Within (m * n) (y *ℤ z)
within-mul {m} {n} {y} {z} h k = record { abs = rw (mul' y z) (mul-le-mul h.abs k.abs) }

pub within-add : {m n : ℕ} {y z : ℤ} → Within m y → Within n z → Within (m + n) (y +ℤ z)
within-add {m} {n} {y} {z} h k = record {
  abs = rw (split y, split z)
      (let g = simp abs_diff at (rw (split y) at h.abs) in
      let l = simp abs_diff at (rw (split z) at k.abs) in
      simp (add-diff, abs_diff) (omega arith));
}

pub within-sub : {m n : ℕ} {y z : ℤ} → Within m y → Within n z → Within (m + n) (y -ℤ z)
within-sub h k = within-add h (within-neg k)

-- a − b of two naturals: no more than the larger bound
pub within_pos_sub : {n a b : ℕ} → a ≤ n → b ≤ n → Within n (pos a -ℤ pos b)
within_pos_sub {a} {b} h k = record { abs = simp (ring, abs_diff) (omega arith) }

pub within_minus : {n : ℕ} {z : ℤ} → Within n z → Within n (pos 0 -ℤ z)
within_minus {n} {z} h = subst (λ (y : ℤ). Within n y) (sym (+ℤ_idl (neg_ℤ z))) (within-neg h)

pub within_more : {m n : ℕ} {z : ℤ} → Within m z → m ≤ n → Within n z
within_more h k = record { abs = omega (arith, h.abs) }

-- a bound that is known of what z is, and a wider one
pub within_is : {m n : ℕ} {y z : ℤ} → z ≡ y → Within m y → T (leb m n) → Within n z
within_is {m} {n} e h t = rw e (within_more h (leb→le m n t))

pub within_wide : {m n : ℕ} {z : ℤ} → Within m z → T (leb m n) → Within n z
within_wide {m} {n} h t = within_more h (leb→le m n t)

pub within-det : {k l m n p : ℕ} {a b c d : ℤ} → Within k a → Within l b → Within m c → Within n d → T (leb (k * l + m * n) p) → Within p (a *ℤ b -ℤ c *ℤ d)
within-det h i j k t = within_wide (within-sub (within-mul h i) (within-mul j k)) t

-- ---- what is bounded fits

mag_abs : (z : ℤ) → mag z ≤ nat_abs z
mag_abs (pos n) = omega arith
mag_abs (negsuc n) = omega arith

-- fits, where the bound is a numeral
pub within-fits : {w : Width} {n : ℕ} {z : ℤ} → Within n z → T (ltb n (2 ^ hbits w)) → SFits w z
within-fits {w} {n} {z} h t = record { sfits = omega (arith, mag_abs z, h.abs, ltb→lt n (2 ^ hbits w) t) }

pub bounded_fits : (w : Width) {n : ℕ} (z : ℤ) → nat_abs z ≤ n → T (ltb n (2 ^ hbits w)) → SFits w z
bounded_fits w z h t = within-fits {z = z} (record { abs = h }) t

pub within-nat : {w : Width} {n : ℕ} {z : ℤ} → Within n z → T (ltb n (2 ^ bits w)) → Fits w (nat_abs z)
within-nat {w} {n} {z} h t = record { fits = omega (arith, h.abs, ltb→lt n (2 ^ bits w) t) }

-- what a signed width holds
pub fits-within : {w : Width} {z : ℤ} → SFits w z → Within (2 ^ hbits w) z
fits-within {w} {z} h = record { abs = nat_abs-le z h.sfits }

-- a product of two unsigned numbers
pub fits-nat : (w : Width) (x y m n : ℕ) → x ≤ m → y ≤ n → T (ltb (m * n) (2 ^ bits w)) → Fits w (x * y)
fits-nat w x y m n h k t = record { fits = omega (arith, mul-le-mul h k, ltb→lt (m * n) (2 ^ bits w) t) }

-- ---- what was put into bits is read back

-- the bits of an unsigned number, read as signed where the type is wider
pub to_z_nat : (v w : Width) (n : ℕ) → Fits v n → T (leb (bits v) (hbits w)) → to_z w n ≡ pos n
to_z_nat v w n f t = to_z_pos w (lt_of_lt_of_le f.fits (pow_mono (leb→le (bits v) (hbits w) t)))

-- the bits of a small number
pub to_z_small : (n m : ℕ) → n ≤ m → T (ltb m (2 ^ hbits w64)) → to_z w64 n ≡ pos n
to_z_small n m h t = to_z_pos w64 (omega (arith, ltb→lt m (2 ^ hbits w64) t))

-- at the widths that casts to i64 start from: as a rewriting rule the law over the width is not tried, since no goal shows v
pub to_z_u8 : (n : ℕ) → Fits w8 n → to_z w64 n ≡ pos n
to_z_u8 n f = to_z_nat w8 w64 n f tt

pub to_z_u16 : (n : ℕ) → Fits w16 n → to_z w64 n ≡ pos n
to_z_u16 n f = to_z_nat w16 w64 n f tt

pub to_z_u32 : (n : ℕ) → Fits w32 n → to_z w64 n ≡ pos n
to_z_u32 n f = to_z_nat w32 w64 n f tt

-- an argument of a call is read back from its bits
pub back : (w : Width) {n : ℕ} {z : ℤ} → Within n z → T (ltb n (2 ^ hbits w)) → to_z w (of_z w z) ≡ z
back w h t = to_z-of_z (within-fits h t)

-- the same from a bound that is said by itself, as that of a speed
pub bounded_back : (w : Width) {n : ℕ} (z : ℤ) → nat_abs z ≤ n → T (ltb n (2 ^ hbits w)) → to_z w (of_z w z) ≡ z
bounded_back w z h t = to_z-of_z (bounded_fits w z h t)

pub reads : {n : ℕ} {y z : ℤ} → (z ≡ y) × Within n z → T (ltb n (2 ^ 63)) → to_z w64 (of_z w64 z) ≡ y
reads h t = back w64 h.1 t ∙ h.0

pub within_arg : (m n : ℕ) (z : ℤ) → Within m z → T (leb m n) → T (ltb m (2 ^ 63)) → Within n (to_z w64 (of_z w64 z))
within_arg m n z h t u = rw (back w64 h u) (within_wide h t)

-- ---- the shapes that `search` meets: each bound is taken from a hypothesis, so a shape is a lemma

pub fits-add : {w : Width} {m n : ℕ} {y z : ℤ} → Within m y → Within n z → T (ltb (m + n) (2 ^ hbits w)) → SFits w (y +ℤ z)
fits-add h k t = within-fits (within-add h k) t

pub fits_sub : {w : Width} {m n : ℕ} {y z : ℤ} → Within m y → Within n z → T (ltb (m + n) (2 ^ hbits w)) → SFits w (y -ℤ z)
fits_sub h k t = within-fits (within-sub h k) t

pub fits-mul : {w : Width} {m n : ℕ} {y z : ℤ} → Within m y → Within n z → T (ltb (m * n) (2 ^ hbits w)) → SFits w (y *ℤ z)
fits-mul h k t = within-fits (within-mul h k) t

pub fits-det : {w : Width} {k l m n : ℕ} {a b c d : ℤ} → Within k a → Within l b → Within m c → Within n d → T (ltb (k * l + m * n) (2 ^ hbits w)) → SFits w (a *ℤ b -ℤ c *ℤ d)
fits-det h i j k t = within-fits (within-sub (within-mul h i) (within-mul j k)) t

-- a + b × c
pub fits_line : {w : Width} {l m n : ℕ} {a b c : ℤ} → Within l a → Within m b → Within n c → T (ltb (l + m * n) (2 ^ hbits w)) → SFits w (a +ℤ b *ℤ c)
fits_line h i j t = within-fits (within-add h (within-mul i j)) t

pub within_line : {l m n p : ℕ} {a b c : ℤ} → Within l a → Within m b → Within n c → T (leb (l + m * n) p) → Within p (a +ℤ b *ℤ c)
within_line h i j t = within_wide (within-add h (within-mul i j)) t

pub fits_sum : {w : Width} {k l m n : ℕ} {a b c d : ℤ} → Within k a → Within l b → Within m c → Within n d → T (ltb (k * l + m * n) (2 ^ hbits w)) → SFits w (a *ℤ b +ℤ c *ℤ d)
fits_sum h i j k t = within-fits (within-add (within-mul h i) (within-mul j k)) t

pub within-sum : {k l m n p : ℕ} {a b c d : ℤ} → Within k a → Within l b → Within m c → Within n d → T (leb (k * l + m * n) p) → Within p (a *ℤ b +ℤ c *ℤ d)
within-sum h i j k t = within_wide (within-add (within-mul h i) (within-mul j k)) t

pub within_sub_wide : {m n p : ℕ} {y z : ℤ} → Within m y → Within n z → T (leb (m + n) p) → Within p (y -ℤ z)
within_sub_wide h k t = within_wide (within-sub h k) t

pub fits-gap : {w : Width} {n a b : ℕ} → a ≤ n → b ≤ n → T (ltb n (2 ^ hbits w)) → SFits w (pos a -ℤ pos b)
fits-gap h k t = within-fits (within_pos_sub h k) t

pub fits_gap_mul : {w : Width} {n m a b : ℕ} {v : ℤ} → a ≤ n → b ≤ n → Within m v → T (ltb (n * m) (2 ^ hbits w)) → SFits w ((pos a -ℤ pos b) *ℤ v)
fits_gap_mul h k i t = within-fits (within-mul (within_pos_sub h k) i) t

pub fits_gap_det : {w : Width} {n m a b c d : ℕ} {u v : ℤ} → a ≤ n → b ≤ n → c ≤ n → d ≤ n → Within m u → Within m v → T (ltb (n * m + n * m) (2 ^ hbits w)) → SFits w ((pos a -ℤ pos b) *ℤ u -ℤ (pos c -ℤ pos d) *ℤ v)
fits_gap_det h i j k l m t = within-fits (within-sub (within-mul (within_pos_sub h i) l) (within-mul (within_pos_sub j k) m)) t

pub fits_minus : {w : Width} {n : ℕ} {z : ℤ} → Within n z → T (ltb n (2 ^ hbits w)) → SFits w (pos 0 -ℤ z)
fits_minus h t = within-fits (within_minus h) t

-- `search (fits, needs)` at a need that a signed operation fits, and at an equation of what it gave. Kept short: with the lemmas of `Within` in it a search does not end
pub ruleset fits = (fits-add, fits_sub, fits-mul, fits-det, fits-gap, fits_gap_mul, fits_gap_det, fits_minus, to_z_u8, to_z_u16, to_z_u32, sfits_widen)
