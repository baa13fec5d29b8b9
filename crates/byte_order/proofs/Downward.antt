-- A number read from its highest byte down. Main theorems: `le_step`, one byte more; `le_room`, there is room for it.
use mathlib.Core.Path.{◌≡◌}
use mathlib.Core.List.{List}
use Prim.Native.Nat.{ℕ, ◌+◌, ◌*◌, ◌-◌, ◌^◌, ◌≤◌, ◌<◌}
use native.Mathlib.Nat.{lt_of_lt_of_le, pow-le-pow_right}
use native.Mathlib.Omega.{arith}
use lib.Dec.{lit<}
use lib.ListN.{get_or}
use Rattle.byte_order.specs.Bytes.{le_of, AllBytes}
use Rattle.byte_order.proofs.Bytes.{le_one, le_add, le_bound}

-- one byte more of a number, below those read
pub le_step : (s : List ℕ) (at w i : ℕ) → 0 < i → i ≤ w → get_or s (at + (i - 1)) 0 + 256 * le_of (w - i) s (at + i) ≡ le_of (w - (i - 1)) s (at + (i - 1))
le_step s at w i h k =
    let e : w - (i - 1) ≡ 1 + (w - i) = omega arith in
    let p : at + (i - 1) + 1 ≡ at + i = omega arith in
    rw (e, le_add 1 (w - i) s (at + (i - 1)), le_one, p)

-- a number not yet whole, of 8 bytes at most, leaves room for one byte more
pub le_room : (s : List ℕ) (at w i : ℕ) → AllBytes s → 0 < i → w ≤ 8 → le_of (w - i) s (at + i) < 256 ^ 7
le_room s at w i b h k =
    let l : w - i ≤ 7 = omega arith in
    lt_of_lt_of_le (le_bound (w - i) s (at + i) b) (pow-le-pow_right (lit< tt) l)
