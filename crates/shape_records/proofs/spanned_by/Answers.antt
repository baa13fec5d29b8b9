-- The first point, widened by the second.
use Rattle.shape_records.proofs.Contents.{spanned_sound}
use Rattle.shape_records.specs.Shapes.{spanned}
use mathlib.Core.Path.{◌≡◌}
use Rattle.shape_records.proofs.spanned_by.Goals as goal

pub returns : goal.returns
returns c =
    let a = c.args in
    let e : c.widened_to.result ≡ spanned a.p a.q = (unfold spanned in c.widened_to.ensures) in
    (e, rw e (spanned_sound a.p a.q c.requires.0 c.requires.1))
