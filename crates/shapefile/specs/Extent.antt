-- The box (SHEETS 12.6), in whole 64ths: `inside` and `reached` in proofs/Least.antt say that it is the least and the greatest.
use Rattle.std.specs.Prelude.{List, [], ◌∷◌, ℕ, min, max}

pub record Point : Type 0 where
  pub x : ℕ
  pub y : ℕ

pub record Extent : Type 0 where
  pub left : ℕ
  pub low : ℕ
  pub right : ℕ
  pub high : ℕ

-- widened to take in a point
abbrev pub wider : Extent → Point → Extent
wider e p =
    record {
      left = min e.left p.x;
      low = min e.low p.y;
      right = max e.right p.x;
      high = max e.high p.y;
    }

unfoldable pub widest : Extent → List Point → Extent
widest e [] = e
widest e (p ∷ l) = widest (wider e p) l

-- zeros where there is no point (SHEETS 12.6)
unfoldable pub extent : List Point → Extent
unfolding widest
extent [] = record { left = 0; low = 0; right = 0; high = 0 }
extent (p ∷ l) = widest (record { left = p.x; low = p.y; right = p.x; high = p.y }) l
