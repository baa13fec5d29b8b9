-- One step of the search, at the place that it has reached: `hit` and `miss` where a whole entry stands, `cut_short` where none does.
use Prim.Native.Nat.{ℕ, ◌≤◌, ◌<◌, ◌-◌, ◌+◌}
use mathlib.Core.Path.{◌≡◌, refl, sym, ap, ◌∙◌}
use mathlib.Core.List.{List, [], ◌∷◌}
use native.Mathlib.Omega.{arith}
use lib.ListN.{length, take, drop, length-take, length-drop}
use lib.Seq.{drop-drop}
use borrow.Author.Tests.{eq-eqb, ne_eqb}
use Rattle.byte_order.specs.Bytes.{le_of}
use Rattle.byte_order.proofs.Bytes.{le_drop}
use Rattle.std.specs.Prelude.{Option, Some, None}
use Rattle.names.specs.NameList.{Entry, entry, entry_width, entries_of, first_named, name_of}
use Rattle.names.proofs.Entries.{whole_front, cut_front}

-- what is found in the entries from a place on
abbrev pub found : List ℕ → ℕ → ℕ → Option (ℕ × ℕ)
found s at q = first_named at (entries_of (drop at s)) q

pub from_start : (s : List ℕ) (q : ℕ) → found s 0 q ≡ name_of s q
unfolding name_of
from_start s q = refl

pub none : (at q : ℕ) → first_named at [] q ≡ None
unfolding first_named
none at q = refl

pub first : (at : ℕ) (e : Entry) (l : List Entry) (q : ℕ) → e.id ≡ q → first_named at (e ∷ l) q ≡ Some (at + 3, length e.name)
unfolding first_named
first at e l q h = simp (eq-eqb _ _ h)

pub next : (at : ℕ) (e : Entry) (l : List Entry) (q : ℕ) → (e.id ≡ q → ⊥) → first_named at (e ∷ l) q ≡ first_named (at + 3 + length e.name) l q
unfolding first_named
next at e l q h = simp (ne_eqb _ _ h)

-- ---- at a place

module _ (s : List ℕ) (at q size : ℕ) (sized : size ≡ le_of 1 s (at + 2)) where
  -- the same length, in the part that starts at the place
  length-there : le_of 1 (drop at s) 2 ≡ size
  length-there = le_drop 1 at s 2 ∙ sym sized

  pub cut_short : length s - at < 3 + size → found s at q ≡ None
  cut_short h =
      let short : length (drop at s) < entry_width (drop at s) = rw length-there (simp length-drop h) in
      ap (λ (l : List Entry). first_named at l q) (cut_front (drop at s) short) ∙ none at q

  module _ (fits : 3 + size ≤ length s - at) where
    name_length : length (take size (drop 3 (drop at s))) ≡ size
    name_length = simp (length-take, length-drop) (omega arith)

    whole : entries_of (drop at s) ≡ entry (le_of 2 s at) (take size (drop 3 (drop at s))) ∷ entries_of (drop (at + 3 + size) s)
    whole =
        let h : entry_width (drop at s) ≤ length (drop at s) = rw length-there (simp length-drop fits) in
        let z : at + 0 ≡ at = omega arith in
        let p : at + (3 + size) ≡ at + 3 + size = omega arith in
        rw (length-there, le_drop 2 at s 0, z, drop-drop (3 + size) at s, p) at (whole_front (drop at s) h)

    pub hit : le_of 2 s at ≡ q → found s at q ≡ Some (at + 3, size)
    hit h = ap (λ (l : List Entry). first_named at l q) whole ∙ first at _ _ q h ∙ ap (λ (n : ℕ). Some (at + 3, n)) name_length

    pub miss : (le_of 2 s at ≡ q → ⊥) → found s at q ≡ found s (at + 3 + size) q
    miss h =
        ap (λ (l : List Entry). first_named at l q) whole ∙ next at _ _ q h
        ∙ ap (λ (n : ℕ). first_named (at + 3 + n) (entries_of (drop (at + 3 + size) s)) q) name_length
