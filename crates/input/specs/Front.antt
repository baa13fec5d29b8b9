-- What a read that failed on its way has taken of the input.
use Rattle.std.specs.Prelude.{Option, List, ℕ, ◌≤◌, length, take}
use Rattle.std.specs.Io.KnownBytes.{Consumes}

-- some of the next bytes, which stand at the start of the buffer
abbrev pub ConsumesFront : Option (List ℕ) → Option (List ℕ) → List ℕ → Type 0
ConsumesFront old new buf = (n : ℕ) × (n ≤ length buf) × Consumes old new (take n buf)
