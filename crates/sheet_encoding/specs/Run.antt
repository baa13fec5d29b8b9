-- Commands one behind the other, without the end.
use Rattle.std.specs.Prelude.{◌≡◌, false, List, [], ◌∷◌, ◌++◌, ℕ, ◌+◌, ◌*◌, length}
use Rattle.std.proofs.lemmas.List.Edits.{sets}
use Rattle.sheet.specs.declared.Command.{Command}
use Rattle.sheet.specs.declared.Command.TheVariants.{AddTrack, AddWall}
use Rattle.sheet.specs.Format.{encode}
use Rattle.sheet.specs.HandedIn.{no_track}

unfoldable pub run : List Command → List ℕ
run [] = []
run (c ∷ l) = encode c ++ run l

-- what a store of commands from a place on leaves, and the place behind them
pub record Ran (at : ℕ) (l : List Command) (before after : List ℕ) (end : ℕ) : Type 0 where
  pub stored : after ≡ sets before at (run l)
  pub ends : end ≡ at + length (run l)

abbrev pub id_of : Command → ℕ
id_of (AddTrack a p) = a.id
id_of (AddWall w) = w.id

-- what stands past the end of an array of commands
abbrev pub no_command : Command
no_command = AddTrack no_track false

-- the bytes of the longest sheet that records handed in stand for: 256 tracks by 03, a blank by 01, 257 walls and 00 (SHEETS 2.9)
abbrev pub longest_listed : ℕ
longest_listed = 256 * 11 + 9 + 257 * 11 + 1
