-- The fields of records handed in fit as their types say, so those that the check accepts are ready for a run.
use mathlib.Core.Path.{refl, sym, ap, ◌∙◌}
use Rattle.sheet.specs.Returned.{verdict}
use Rattle.source.proofs.Prepared.{handed_ready}
use Rattle.source.proofs.SheetSource.accept.Goals as goal

pub returns : goal.returns
returns c =
    let ok = sym c.check.ensures ∙ ap verdict c.in_ok-check.was in
    record { accepts = ok; handed = handed_ready c.args.self c.well_formed.0 ok; same = refl }
