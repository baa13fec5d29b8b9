-- Where no mark has been set: `square_blank`, `no_mark`.
use mathlib.Core.Bool.{Bool, false, false≢true}
use mathlib.Core.List.{List, []}
use mathlib.Core.Path.{◌≡◌, refl, sym, ap, ◌∙◌}
use Prim.Native.Nat.{ℕ, zero, suc}
use lib.ListN.{length, get_or, replicate, length-replicate, get_or-replicate}
use Rattle.pair_marks.specs.Marks.{Marked, Square}

abbrev pub unmarked : List (List Bool)
unmarked = replicate 256 (replicate 256 false)

pub square_blank : Square unmarked
square_blank =
    record {
      rows_long = length-replicate {A = List Bool} 256 (replicate 256 false);
      row_long = λ i h. ap length (get_or-replicate {A = List Bool} 256 i (replicate 256 false) [] h) ∙ length-replicate {A = Bool} 256 false;
    }

-- a list of the same, read anywhere
same_at : (n j : ℕ) → get_or (replicate n false) j false ≡ false
same_at zero j = refl
same_at (suc n) zero = refl
same_at (suc n) (suc j) = same_at n j

none_at : (m n i j : ℕ) → get_or (get_or (replicate m (replicate n false)) i []) j false ≡ false
none_at zero n i j = refl
none_at (suc m) n zero j = same_at n j
none_at (suc m) n (suc i) j = none_at m n i j

pub no_mark : (i j : ℕ) → Marked unmarked i j → ⊥
no_mark i j x = false≢true (sym (none_at 256 256 i j) ∙ x)
