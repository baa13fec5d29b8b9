-- Laws of numbers as bytes, over every width: `le_add` (of two widths one after the other), `le_back` and `le_write` (each undoes the other), their use in a record of fields, `field_at` and `field_write`, and the same for signed bytes.
use Prim.Native.Nat.{ℕ, zero, suc, ◌≤◌, ◌<◌, ◌-◌, ◌+◌, ◌*◌, ◌%◌, ◌/◌, ◌^◌}
use mathlib.Core.Path.{◌≡◌, refl, sym, ap, ◌∙◌}
use mathlib.Core.List.{List, [], ◌∷◌, ◌++◌, append_assoc}
use mathlib.Core.Bool.{Bool, true, false, cond}
use native.Mathlib.Numerals.{add-one}
use native.Mathlib.Nat.{mod-add-div, mod-eq_of_lt, mod-lt, div-div-eq-div-mul, pow-succ'}
use native.Mathlib.Omega.{arith}
use lib.ListN.{length, get_or, take, drop, length-append}
use lib.Seq.{get_or-drop, get_or-take, take-append_seam, drop-append_seam, drop-cons, drop-drop, take-add}
use lib.IntN.{ℤ, pos, negsuc}
use lib.Dec.{ltb, lit<}
use borrow.Author.Tests.{lt-ltb, le-ltb, ltb-true, ltb-false}
use mir.Syntax.{w8}
use mir.Val.{Fits, SFits}
use Rattle.byte_order.specs.Bytes.{le_bytes, le_of, signed_of, byte_of, AllBytes}

pub le_length : (w v : ℕ) → length (le_bytes w v) ≡ w
unfolding le_bytes
le_length zero v = refl
le_length (suc w) v = ap suc (le_length w (v / 256))

byte_at : (w v i : ℕ) → get_or (le_bytes w v) i 0 < 256
unfolding le_bytes
byte_at zero v i = lit< tt
byte_at (suc w) v zero = mod-lt v (lit< tt)
byte_at (suc w) v (suc i) = byte_at w (v / 256) i

pub le_bytes_lem : (w v : ℕ) → AllBytes (le_bytes w v)
le_bytes_lem w v = record { below = byte_at w v }

-- what the check knows of a lent slice of bytes
pub slice_bytes : (s : List ℕ) → ((i : ℕ) → Fits w8 (get_or s i 0)) → AllBytes s
slice_bytes s k = record { below = λ i. (k i).fits }

-- a read counts from the start of the part that it is in
pub le_drop : (w n : ℕ) (s : List ℕ) (at : ℕ) → le_of w (drop n s) at ≡ le_of w s (n + at)
unfolding le_of
le_drop zero n s at = refl
le_drop (suc w) n s at =
    let e : n + (at + 1) ≡ n + at + 1 = omega arith in
    rw (le_drop w n s (at + 1), e, get_or-drop)

pub le_behind : (w : ℕ) (pre s : List ℕ) (at : ℕ) → le_of w (pre ++ s) (length pre + at) ≡ le_of w s at
le_behind w pre s at = rw (← le_drop, drop-append_seam)

-- what stands past the bytes read has no part in the number
pub le_take : (w n : ℕ) (s : List ℕ) (at : ℕ) → at + w ≤ n → le_of w (take n s) at ≡ le_of w s at
unfolding le_of
le_take zero n s at h = refl
le_take (suc w) n s at h =
    let g : at + 1 + w ≤ n = omega arith in
    let l : at < n = omega arith in
    rw (le_take w n s (at + 1), get_or-take)

pub le_before : (w : ℕ) (s rest : List ℕ) (at : ℕ) → at + w ≤ length s → le_of w (s ++ rest) at ≡ le_of w s at
le_before w s rest at h = sym (le_take w (length s) (s ++ rest) at h) ∙ rw take-append_seam

pub le_one : (s : List ℕ) (at : ℕ) → le_of 1 s at ≡ get_or s at 0
unfolding le_of
le_one s at = omega arith

-- what v bytes stand for, and the next w bytes, which count 256 ^ v times as much
pub le_add : (v w : ℕ) (s : List ℕ) (at : ℕ) → le_of (v + w) s at ≡ le_of v s at + 256 ^ v * le_of w s (at + v)
unfolding le_of
le_add zero w s at =
    let e : 0 + w ≡ w = omega arith in
    let p : at + 0 ≡ at = omega arith in
    rw (e, p) (omega arith)
le_add (suc v) w s at =
    let e : suc v + w ≡ suc (v + w) = omega arith in
    let p : at + 1 + v ≡ at + suc v = omega arith in
    rw (e, le_add v w s (at + 1), p, pow-succ') (omega arith)

-- the low byte split off: m stands for 256 ^ w
split_mod : (v m : ℕ) → v % 256 + 256 * (v / 256 % m) ≡ v % (256 * m)
split_mod v m =
    let q = div-div-eq-div-mul v 256 m in
    omega (arith, mod-add-div v 256, mod-add-div (v / 256) m, rw (← q) at (mod-add-div v (256 * m)))

front : (w v : ℕ) (rest : List ℕ) → le_of w (le_bytes w v ++ rest) 0 ≡ v % 256 ^ w
unfolding le_of le_bytes
front zero v rest = omega arith
front (suc w) v rest =
    rw (pow-succ', ← split_mod)
    (ap (λ (n : ℕ). v % 256 + 256 * n) (le_behind w (v % 256 ∷ []) (le_bytes w (v / 256) ++ rest) 0 ∙ front w (v / 256) rest))

pub le_read : (w v at : ℕ) (pre rest : List ℕ) → length pre ≡ at → le_of w (pre ++ le_bytes w v ++ rest) at ≡ v % 256 ^ w
le_read w v at pre rest e =
    let z : at ≡ length pre + 0 = omega arith in
    rw (append_assoc, z, le_behind w pre (le_bytes w v ++ rest) 0) (front w v rest)

-- a number that the width holds is read back
pub le_back : (w v at : ℕ) (pre rest : List ℕ) → length pre ≡ at → v < 256 ^ w → le_of w (pre ++ le_bytes w v ++ rest) at ≡ v
le_back w v at pre rest e h = le_read w v at pre rest e ∙ mod-eq_of_lt h

pub le_bound : (w : ℕ) (s : List ℕ) (at : ℕ) → AllBytes s → le_of w s at < 256 ^ w
unfolding le_of
le_bound zero s at h = lit< tt
le_bound (suc w) s at h = rw pow-succ' (omega (arith, h.below at, le_bound w s (at + 1) h))

pub le_write : (w : ℕ) (s : List ℕ) (at : ℕ) → AllBytes s → at + w ≤ length s → le_bytes w (le_of w s at) ≡ take w (drop at s)
unfolding le_of le_bytes
le_write zero s at h g = refl
le_write (suc w) s at h g =
    let b = get_or s at 0 in
    let n = le_of w s (at + 1) in
    let l : b < 256 = h.below at in
    let low : (b + 256 * n) % 256 ≡ b = omega arith in
    let high : (b + 256 * n) / 256 ≡ n = omega arith in
    let i : at < length s = omega arith in
    rw (low, high, drop-cons s at 0, le_write w s (at + 1) h (omega arith), add-one at)

-- ---- a field of a record

-- read: the field has o bytes of its record before it, and the record stands anywhere
pub field_at :
    (w v o : ℕ) (a b row pre rest : List ℕ) → row ≡ a ++ le_bytes w v ++ b → length a ≡ o → v < 256 ^ w
    → le_of w (pre ++ (row ++ rest)) (length pre + o) ≡ v
field_at w v o a b row pre rest e n h =
    let l : o + w ≤ length row = rw e (simp (length-append, le_length) (omega arith)) in
    le_behind w pre (row ++ rest) o ∙ le_before w row rest o l ∙ rw e (le_back w v o a b n h)

-- written again as it was read, with the n bytes from the next place on
pub field_write : (w n : ℕ) (s : List ℕ) (at next : ℕ) (r : List ℕ) → AllBytes s → at + w ≤ length s → at + w ≡ next → r ≡ take n (drop next s) → le_bytes w (le_of w s at) ++ r ≡ take (w + n) (drop at s)
field_write w n s at next r h l e f = rw (le_write w s at h l, f, ← e, take-add, drop-drop)

-- ---- signed bytes

pub signed_byte : (b : ℕ) → b < 256 → byte_of (signed_of b) ≡ b
unfolding signed_of byte_of
signed_byte b h = go (ltb b 128) refl
  where
    go : (t : Bool) → ltb b 128 ≡ t → byte_of (signed_of b) ≡ b
    go true e = simp e
    go false e = simp e (omega arith)

pub byte_signed : (z : ℤ) → SFits w8 z → signed_of (byte_of z) ≡ z
unfolding signed_of byte_of
byte_signed (pos n) h = simp (lt-ltb n 128 h.sfits)
byte_signed (negsuc n) h =
    let g : 128 ≤ 255 - n = omega arith in
    let e : 255 - (255 - n) ≡ n = omega arith in
    simp (le-ltb (255 - n) 128 g, e)

pub signed_fits : (b : ℕ) → b < 256 → SFits w8 (signed_of b)
unfolding signed_of
signed_fits b h = go (ltb b 128) refl
  where
    go : (t : Bool) → ltb b 128 ≡ t → SFits w8 (cond t (pos b) (negsuc (255 - b)))
    go true e = record { sfits = ltb-true b 128 e }
    go false e = record { sfits = omega (arith, ltb-false b 128 e) }

pub byte_below : (z : ℤ) → SFits w8 z → byte_of z < 256
unfolding byte_of
byte_below (pos n) h = omega arith
byte_below (negsuc n) h = omega arith
