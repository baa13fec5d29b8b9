-- The roll, the ways of its tips, and their file.
use native.Mathlib.Omega.{arith}
use Rattle.sheet.specs.HandedIn.{handed_in}
use Rattle.shape_layers.proofs.Outcome.{of_ways}
use Rattle.shape_layers.proofs.export.Goals as goal

pub returns : goal.returns
returns c =
    let a = c.args in
    of_ways a.layer a.part (handed_in a.sheet) c.passages_of-passages.ensures c.write.ensures
