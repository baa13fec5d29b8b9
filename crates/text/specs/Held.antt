-- A line while it is put together: its text is the first `length` of its bytes.
use Rattle.std.specs.Prelude.{◌≡◌, List, ℕ, ◌+◌, ◌≤◌, length, take}
use Rattle.text.specs.declared.Draft.{Draft}

-- room for every line: eight fields of at most 21 bytes
abbrev pub draft_length : ℕ
draft_length = 168

abbrev pub text_in : Draft → List ℕ
text_in line = take line.length line.bytes

-- n bytes more go into the line
pub record Room (line : Draft) (n : ℕ) : Type 0 where
  pub sized : length line.bytes ≡ draft_length
  pub fit : line.length + n ≤ draft_length

-- the line's text
pub record Holds (text : List ℕ) (line : Draft) : Type 0 where
  pub sized : length line.bytes ≡ draft_length
  pub is : text_in line ≡ text
  pub long : line.length ≡ length text
