-- Numbers in either byte order, of a given width (SHEETS 1.4, 12.2): written and read.
use Rattle.std.specs.Prelude.{ℕ, List, reverse, take, drop}
use Rattle.byte_order.specs.declared.Order.{Order}
use Rattle.byte_order.specs.declared.Order.TheVariants.{LowFirst, HighFirst}
use Rattle.byte_order.specs.Bytes.{le_bytes, le_of}

-- the w low bytes of v, high byte first: the same bytes turned round (SHEETS 12.2)
unfoldable pub be_bytes : ℕ → ℕ → List ℕ
be_bytes w v = reverse (le_bytes w v)

-- the number that the w bytes of s from place at on stand for, high byte first (SHEETS 12.2)
unfoldable pub be_of : ℕ → List ℕ → ℕ → ℕ
be_of w s at = le_of w (reverse (take w (drop at s))) 0

-- in the order named
abbrev pub number_bytes : Order → ℕ → ℕ → List ℕ
number_bytes LowFirst w v = le_bytes w v
number_bytes HighFirst w v = be_bytes w v
