-- Laws of numbers high byte first: `be_length`; `be_more`, one byte of it stored from the end back; `be_back`, a number that the width holds is read back.
use Prim.Native.Nat.{ℕ, zero, suc, ◌≤◌, ◌<◌, ◌-◌, ◌+◌, ◌%◌, ◌/◌, ◌^◌}
use mathlib.Core.Path.{◌≡◌, refl, sym, ap, ◌∙◌}
use mathlib.Core.List.{List, [], ◌∷◌, ◌++◌, reverse, reverse-cons, reverse-reverse, append-nil}
use native.Mathlib.Omega.{arith}
use lib.ListN.{length, set, take, drop, length-reverse}
use lib.Seq.{sets, take-append_seam, drop-append_seam}
use Rattle.byte_order.specs.Bytes.{le_bytes, le_of}
use Rattle.byte_order.specs.Orders.{be_bytes, be_of}
use Rattle.byte_order.proofs.Bytes.{le_length, le_back}
use Rattle.byte_order.proofs.Stores.{sets-both}

pub be_length : (w v : ℕ) → length (be_bytes w v) ≡ w
unfolding be_bytes
be_length w v = length-reverse (le_bytes w v) ∙ le_length w v

pub be_none : (v : ℕ) → be_bytes 0 v ≡ []
unfolding be_bytes le_bytes
be_none v = refl

be_snoc : (w v : ℕ) → be_bytes (suc w) v ≡ be_bytes w (v / 256) ++ (v % 256 ∷ [])
unfolding be_bytes le_bytes
be_snoc w v = reverse-cons (v % 256) (le_bytes w (v / 256))

-- stores at two places may change their order
set-swap : (l : List ℕ) (i j a b : ℕ) → i < j → set (set l i a) j b ≡ set (set l j b) i a
set-swap [] i j a b h = refl
set-swap (x ∷ l) zero zero a b h = absurd (omega arith)
set-swap (x ∷ l) zero (suc j) a b h = refl
set-swap (x ∷ l) (suc i) zero a b h = absurd (omega arith)
set-swap (x ∷ l) (suc i) (suc j) a b h = ap (λ s. x ∷ s) (set-swap l i j a b (omega arith))

sets-swap : (vs l : List ℕ) (i j b : ℕ) → i + length vs ≤ j → set (sets l i vs) j b ≡ sets (set l j b) i vs
sets-swap [] l i j b h = refl
sets-swap (a ∷ vs) l i j b h = sets-swap vs (set l i a) (suc i) j b (omega arith) ∙ ap (λ m. sets m (suc i) vs) (set-swap l i j a b (omega arith))

be_last : (l : List ℕ) (at w v : ℕ) → sets (set l (at + w) (v % 256)) at (be_bytes w (v / 256)) ≡ sets l at (be_bytes (suc w) v)
be_last l at w v =
    let f = be_bytes w (v / 256) in
    let e : at + length f ≡ at + w = ap (λ k. at + k) (be_length w (v / 256)) in
    sym (sets-swap f l at (at + w) (v % 256) (omega arith))
    ∙ ap (λ k. set (sets l at f) k (v % 256)) (sym e)
    ∙ sets-both f (v % 256 ∷ []) l at
    ∙ ap (sets l at) (sym (be_snoc w v))

pub be_more : (l : List ℕ) (at w v : ℕ) → 0 < w → sets (set l (at + (w - 1)) (v % 256)) at (be_bytes (w - 1) (v / 256)) ≡ sets l at (be_bytes w v)
be_more l at zero v h = absurd (omega arith)
be_more l at (suc w) v h = let e : suc w - 1 ≡ w = omega arith in rw e (be_last l at w v)

-- written and read again
pub be_back : (w v at : ℕ) (pre rest : List ℕ) → length pre ≡ at → v < 256 ^ w → be_of w (pre ++ (be_bytes w v ++ rest)) at ≡ v
unfolding be_of
be_back w v at pre rest e h =
    let b = be_bytes w v in
    let d : drop at (pre ++ (b ++ rest)) ≡ b ++ rest = rw (← e) (drop-append_seam pre (b ++ rest)) in
    let t : take w (b ++ rest) ≡ b = ap (λ k. take k (b ++ rest)) (sym (be_length w v)) ∙ take-append_seam b rest in
    let r : reverse b ≡ le_bytes w v = (unfold be_bytes in reverse-reverse (le_bytes w v)) in
    rw (d, t, r) (ap (λ l. le_of w l 0) (sym (append-nil (le_bytes w v))) ∙ le_back w v 0 [] [] refl h)
