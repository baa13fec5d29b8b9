-- The commands before a place of a sheet's bytes, one behind the other (SHEETS 2.1).
use Rattle.std.specs.Prelude.{◌≡◌, cond, List, [], ◌∷◌, ℕ, ◌+◌, eqb, length}
use Rattle.sheet.specs.declared.Command.{Command}
use Rattle.sheet.specs.declared.Command.TheVariants.{AddTrack, AddWall}
use Rattle.sheet.specs.declared.Item.TheVariants.{Add}
use Rattle.sheet.specs.Format.{item_at, width}
use Rattle.sheet.specs.Listing.{tracks_of, walls_of}

-- a place at which a whole command stands (SHEETS 2.1)
abbrev pub WholeAt : List ℕ → ℕ → Type 0
WholeAt s at = (c : Command) × (item_at s at ≡ Add c)

-- the bytes of the command that a byte names, if it is one of 01, 02 and 03 (SHEETS 2.1)
abbrev pub named : ℕ → ℕ
named b = cond (eqb b 1) 9 11

-- from place p up to place q these commands stand, one behind the other (SHEETS 2.1)
abbrev pub Walk : List ℕ → ℕ → ℕ → List Command → Type 0
Walk s p q [] = p ≡ q
Walk s p q (c ∷ l) = (item_at s p ≡ Add c) × Walk s (p + width c) q l

-- these commands stand before a place, so many of each kind
pub record SoFar (s : List ℕ) (at tracks walls : ℕ) (before : List Command) : Type 0 where
  pub walk : Walk s 0 at before
  pub tracks_are : tracks ≡ length (tracks_of before)
  pub walls_are : walls ≡ length (walls_of before)

-- of a number for tracks and one for walls, that of a command's kind
abbrev pub of_kind : Command → ℕ → ℕ → ℕ
of_kind (AddTrack a p) tracks walls = tracks
of_kind (AddWall w) tracks walls = walls
