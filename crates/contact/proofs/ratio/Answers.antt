-- `ratio` meets its contract.
use mir.Syntax.{w64}
use Rattle.fraction.proofs.Bounds.{back}
use Rattle.contact.proofs.Quotients.{ratio_never, ratio_at}
use Rattle.contact.proofs.ratio.Goals as goal

pub returns-then-n-lt0 : goal.returns-then-n-lt0
returns-then-n-lt0 c = (ratio_never _ _ (rw (back w64 c.requires.0 tt) at c.if-n-lt0.true), tt)

pub returns : goal.returns
returns c =
    let p = c.requires in
    let b = back w64 p.0 tt in
    rw b
    (ratio_at _ _ p.1 (rw b at c.if-n-lt0.false), record { num_in = p.0.abs; den_in = p.2; den_pos = p.1 })
