-- Each way out by one law.
use borrow.Author.Rules.{rules}
use lib.ListN.{length, drop}
use Rattle.byte_order.proofs.Bytes.{slice_bytes}
use Rattle.sheet.specs.Returned.{gives}
use Rattle.fissures_c.specs.Steps.{shown, roll_of_bytes}
use Rattle.fissures_c.proofs.Stepped.{refused-gives, running}
use Rattle.fissures_c.proofs.left.Goals as goal

pub returns-in_err-held : goal.returns-in_err-held
returns-in_err-held c =
    let z = c.args in
    let h = refused-gives z.s.now z.session.now (gives (length (drop (shown z.session.now) (roll_of_bytes z.s.now)))) c.in_err-held.ensures in
    search rules

pub returns : goal.returns
returns c =
    let z = c.args in
    let j = c.in_ok-held.ensures in
    running z.s.now z.session.now (slice_bytes z.s.now c.type_inv.s) j.0 j.1 c.running.ensures
