-- Name lists (SHEETS 8.1, 8.3): their entries, and the name of an id.
use Rattle.std.specs.Prelude.{cond, Option, Some, None, List, [], ◌∷◌, ◌++◌, ℕ, zero, suc, ◌+◌, eqb, leb, length, take, drop}
use Rattle.byte_order.specs.Bytes.{le_bytes, le_of}

-- an id and a name (SHEETS 8.1)
pub record Entry : Type 0 where
  pub id : ℕ
  pub name : List ℕ

abbrev pub entry : ℕ → List ℕ → Entry
entry i n = record { id = i; name = n }

-- ---- writing

-- an entry's bytes (SHEETS 8.1)
unfoldable pub entry_bytes : Entry → List ℕ
entry_bytes e = le_bytes 2 e.id ++ (le_bytes 1 (length e.name) ++ e.name)

-- the entries one behind the other (SHEETS 8.1)
unfoldable pub list_bytes : List Entry → List ℕ
list_bytes [] = []
list_bytes (e ∷ l) = entry_bytes e ++ list_bytes l

-- ---- reading

-- how many bytes the entry at the front of s says that it has: three, and its name
abbrev pub entry_width : List ℕ → ℕ
entry_width s = 3 + le_of 1 s 2

-- the entry at the front of s
abbrev pub entry_in : List ℕ → Entry
entry_in s = entry (le_of 2 s 0) (take (le_of 1 s 2) (drop 3 s))

-- the first whole entries, at most n, met before any entry that is cut short; past the end a byte reads as 0, so one or two bytes alone are cut short too
unfoldable pub whole_entries : ℕ → List ℕ → List Entry
whole_entries zero s = []
whole_entries (suc n) s =
    cond (leb (entry_width s) (length s)) (entry_in s ∷ whole_entries n (drop (entry_width s) s)) []

-- all of them (SHEETS 8.1): an entry has three bytes or more, so the count never ends the reading
unfoldable pub entries_of : List ℕ → List Entry
entries_of s = whole_entries (length s) s

-- ---- looking up

-- the name's bytes in the first entry with an id (SHEETS 8.3): their place and their number, for entries that start at a place
unfoldable pub first_named : ℕ → List Entry → ℕ → Option (ℕ × ℕ)
first_named at [] q = None
first_named at (e ∷ l) q =
    cond (eqb e.id q) (Some (at + 3, length e.name)) (first_named (at + 3 + length e.name) l q)

-- where the name of an id lies in a list (SHEETS 8.3)
unfoldable pub name_of : List ℕ → ℕ → Option (ℕ × ℕ)
name_of s q = first_named 0 (entries_of s) q
