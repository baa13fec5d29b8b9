-- The first place at which the closure's test holds.
use borrow.Author.Rules.{rules}
use native.Mathlib.Omega.{arith}
use mathlib.Core.Path.{◌≡◌}
use Prim.Native.Nat.{ℕ, ◌*◌, ◌<◌, ◌≤◌}
use mathlib.Core.List.{List}
use Rattle.std.specs.Prelude.{Option, Some, None, MatchOption}
use Rattle.std.proofs.Common.{tests}
use Rattle.std.proofs.lemmas.Iterator.{first_from_Range}
use Rattle.rule.specs.RowBytes.{row_width}
use Rattle.row.specs.Stored.{id_from}
use Rattle.passages.specs.Placed.{NoPlace, PlaceOf}
use Rattle.passages.proofs.place_of.Goals as goal

abbrev Has : List ℕ → ℕ → ℕ → Type 0
Has rows id k = id_from rows (row_width * k) ≡ id

first : (rows : List ℕ) (n id : ℕ) (r : Option ℕ)
    → MatchOption r ((k : ℕ) → 0 ≤ k → k < n → ¬ Has rows id k) (λ i. (0 ≤ i) × (i < n) × Has rows id i × ((k : ℕ) → 0 ≤ k → k < i → ¬ Has rows id k))
    → MatchOption r (NoPlace rows n id) (PlaceOf rows n id)
first rows n id None h = λ i l. h i (omega arith) l
first rows n id (Some k) h = record { below = h.1; none_before = λ i l. h.3 i (omega arith) l; there = h.2 }

pub returns : goal.returns
returns c =
    let a = c.args in
    first a.rows.now a.n a.id c.find.result
    (first_from_Range _ _ _ c.find.result (Has a.rows.now a.id) (λ k. ¬ Has a.rows.now a.id k) c.find.ensures.ran
    (λ x q k. search (rules, tests)) (λ x q k. search (rules, tests)))
