-- A text put into a buffer behind what is there.
use Rattle.std.specs.Prelude.{◌≡◌, List, ◌++◌, ℕ, ◌+◌, length, take, Result, Ok, Err}
use Rattle.sheet.specs.declared.Refusal.{Refusal}

-- behind the first `at` bytes, up to `end`
pub record Behind (text : List ℕ) (at : ℕ) (before : List ℕ) (end : ℕ) (exit : List ℕ) : Type 0 where
  pub is : take end exit ≡ take at before ++ text
  pub long : end ≡ at + length text
  pub same : length exit ≡ length before

-- the length of a text that was written
abbrev pub length_in : Result ℕ Refusal → ℕ
length_in (Ok n) = n
length_in (Err r) = 0
