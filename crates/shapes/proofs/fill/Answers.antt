-- What the export gives, or nothing.
use Rattle.std.proofs.Common.{sym, ap, ◌∙◌}
use Rattle.sheet.specs.Answer.{answered}
use Rattle.sheet.specs.Listing.{listing}
use Rattle.sheet.specs.Scan.{verdict_of, commands_of}
use Rattle.sheet.proofs.Decided.{decided}
use Rattle.shape_layers.specs.Layers.{layer_file}
use Rattle.shapes.proofs.Ready.{given, not_given}
use Rattle.shapes.proofs.fill.Goals as goal

pub returns-in-Ok : goal.returns-in-Ok
returns-in-Ok c =
    let a = c.args in
    let h = c.layer_file.ensures in
    given (verdict_of a.sheet.now) (decided a.sheet.now) (layer_file a.layer a.part (listing (commands_of a.sheet.now))) a.out.now _ h.buffer (sym (ap answered c.in-Ok.is) ∙ h.answer)

pub returns-in-Err : goal.returns-in-Err
returns-in-Err c =
    let a = c.args in
    let h = c.layer_file.ensures in
    not_given (verdict_of a.sheet.now) (decided a.sheet.now) (layer_file a.layer a.part (listing (commands_of a.sheet.now))) a.out.now _ h.buffer (sym (ap answered c.in-Err.is) ∙ h.answer)
