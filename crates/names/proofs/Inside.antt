-- A name that is found lies within its list: `name_inside`.
use Prim.Native.Nat.{ℕ, zero, suc, ◌≤◌, ◌<◌, ◌-◌, ◌+◌}
use mathlib.Core.Path.{◌≡◌, refl, sym, subst}
use mathlib.Core.List.{List}
use native.Mathlib.Decide.{dec_le, ℕ_discrete}
use native.Mathlib.Omega.{arith}
use lib.ListN.{length}
use Rattle.byte_order.specs.Bytes.{le_of}
use Rattle.std.specs.Prelude.{Option, Some, None}
use Rattle.names.specs.NameList.{name_of}
use Rattle.names.proofs.Search.{found, from_start, cut_short, hit, miss}

-- what is found lies within n bytes
abbrev pub Inside : ℕ → Option (ℕ × ℕ) → Type 0
Inside n (Some (start, size)) = start + size ≤ n
Inside n None = 0 ≤ n

-- at one place: the entry is cut short, or it is the one, or a later one is
module _ (s : List ℕ) (at q size : ℕ) (sized : size ≡ le_of 1 s (at + 2)) (later : 3 ≤ length s - at → Inside (length s) (found s (at + 3 + size) q)) where
  by_id : 3 + size ≤ length s - at → Dec (le_of 2 s at ≡ q) → Inside (length s) (found s at q)
  by_id h (yes e) = subst (Inside (length s)) (sym (hit s at q size sized h e)) (omega arith)
  by_id h (no e) = subst (Inside (length s)) (sym (miss s at q size sized h e)) (later (omega arith))

  by_width : Dec (3 + size ≤ length s - at) → Inside (length s) (found s at q)
  by_width (yes h) = by_id h (ℕ_discrete (le_of 2 s at) q)
  by_width (no h) = subst (Inside (length s)) (sym (cut_short s at q size sized (omega arith))) (omega arith)

from_place : (n : ℕ) (s : List ℕ) (at q : ℕ) → length s - at < n → Inside (length s) (found s at q)
from_place zero s at q h = absurd (omega arith)
from_place (suc n) s at q h =
    let size = le_of 1 s (at + 2) in
    by_width s at q size refl (λ g. from_place n s (at + 3 + size) q (omega arith)) (dec_le (3 + size) (length s - at))

pub name_inside : (s : List ℕ) (q : ℕ) → Inside (length s) (name_of s q)
name_inside s q = subst (Inside (length s)) (from_start s q) (from_place (suc (length s)) s 0 q (omega arith))
