-- A file is refused as its sheet is refused.
use borrow.Author.Rules.{rules}
use Rattle.shape_layers.specs.Layers.{layer_file}
use Rattle.shape_layers.proofs.Outcome.{as_refused}
use Rattle.shape_layers.proofs.layer_file.Goals as goal

pub returns-in_err-sheet : goal.returns-in_err-sheet
returns-in_err-sheet g c =
    let a = c.args in
    let f = as_refused (layer_file a.layer a.part (g.S.Source.records a.from)) a.out.now _ c.in_err-sheet.ensures in
    search rules
