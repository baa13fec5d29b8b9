-- `crossing` meets its contract.
use mir.Syntax.{w64}
use Rattle.fraction.proofs.Bounds.{back, reads}
use Rattle.contact.proofs.Answers.{asked_none, asked_some, pair_first, pair_second, pair_hit}
use Rattle.contact.proofs.crossing.Goals as goal

pub returns-in_err-own : goal.returns-in_err-own
returns-in_err-own c =
    rw c.from_residual.ensures (pair_first _ _ (asked_none (reads c.cross.ensures tt) (back w64 c.requires tt) c.quotient.ensures c.in_err-own.was), tt)

pub returns-in_err-other : goal.returns-in_err-other
returns-in_err-other c =
    let d = back w64 c.requires tt in
    let h = asked_some (reads c.cross.ensures tt) d c.quotient.ensures c.in_ok-own.was in
    rw c.from_residual-in_err-other.ensures (pair_second _ _ h (asked_none (reads c.cross-2.ensures tt) d c.quotient-2.ensures c.in_err-other.was), tt)

pub returns : goal.returns
returns c =
    let d = back w64 c.requires tt in
    let h = asked_some (reads c.cross.ensures tt) d c.quotient.ensures c.in_ok-own.was in
    let s = asked_some (reads c.cross-2.ensures tt) d c.quotient-2.ensures c.in_ok-other.was in
    (pair_hit _ _ h s, (h.young, s.young))
