-- A tip's end as it is read from the roll's bytes. Nobody need believe this file: `ends_of_roll` in proofs/Ends.antt shows that it is the time in the tip's row.
use Rattle.std.specs.Prelude.{cond, List, ℕ, zero, suc, ◌+◌, eqb}
use Rattle.fraction.specs.declared.Fraction.{Fraction}
use Rattle.fraction.specs.Time.{Time, as_time}
use Rattle.rule.specs.RowBytes.{row_width}
use Rattle.row.specs.Stored.{id_from, time_from}

-- from place `at` on, of n rows: the first with this id
unfoldable pub end_of : ℕ → List ℕ → ℕ → ℕ → Fraction
end_of zero rows at id = record { num = 0; den = 1 }
end_of (suc n) rows at id = cond (eqb (id_from rows at) id) (time_from rows at) (end_of n rows (at + row_width) id)

abbrev pub end_time : ℕ → List ℕ → ℕ → Time
end_time n rows id = as_time (end_of n rows 0 id)
