-- The whole entries of a name list, read from its front: `whole_front`, `cut_front` (the count in `whole_entries` plays no part).
use Prim.Native.Nat.{ℕ, zero, suc, ◌≤◌, ◌<◌}
use mathlib.Core.Path.{◌≡◌, refl, ap, ◌∙◌}
use mathlib.Core.List.{List, [], ◌∷◌}
use native.Mathlib.Omega.{arith}
use lib.ListN.{length, drop, length-drop}
use borrow.Author.Tests.{le-leb, lt-leb}
use Rattle.names.specs.NameList.{Entry, entry_width, entry_in, whole_entries, entries_of}

-- any count that is not below the number of bytes gives the same entries
enough : (n m : ℕ) (s : List ℕ) → length s ≤ n → length s ≤ m → whole_entries n s ≡ whole_entries m s
unfolding whole_entries
enough zero zero s h g = refl
enough zero (suc m) s h g = simp (lt-leb (entry_width s) (length s) (omega arith))
enough (suc n) zero s h g = simp (lt-leb (entry_width s) (length s) (omega arith))
enough (suc n) (suc m) s h g =
    let u : length (drop (entry_width s) s) ≤ n = simp length-drop (omega arith) in
    let v : length (drop (entry_width s) s) ≤ m = simp length-drop (omega arith) in
    rw (enough n m (drop (entry_width s) s) u v)

module _ (s : List ℕ) where
  one_more : entries_of s ≡ whole_entries (suc (length s)) s
  unfolding entries_of
  one_more = enough (length s) (suc (length s)) s (omega arith) (omega arith)

  pub whole_front : entry_width s ≤ length s → entries_of s ≡ entry_in s ∷ entries_of (drop (entry_width s) s)
  unfolding entries_of whole_entries
  whole_front h =
      let rest = drop (entry_width s) s in
      let u : length rest ≤ length s = simp length-drop (omega arith) in
      one_more ∙ simp (le-leb _ _ h) (ap (λ (l : List Entry). entry_in s ∷ l) (enough (length s) (length rest) rest u (omega arith)))

  pub cut_front : length s < entry_width s → entries_of s ≡ []
  unfolding whole_entries
  cut_front h = one_more ∙ simp (lt-leb _ _ h)
