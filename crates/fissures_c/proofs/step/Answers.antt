-- Each way out by one law.
use borrow.Author.Rules.{rules}
use native.Mathlib.Omega.{arith}
use Prim.Native.Nat.{◌*◌}
use mathlib.Core.List.{[], ◌∷◌}
use lib.ListN.{length}
use Rattle.byte_order.proofs.Bytes.{slice_bytes}
use Rattle.rule.specs.RowBytes.{roll_bytes, row_width}
use Rattle.sheet.specs.Lent.{or_short}
use Rattle.fissures_c.specs.Steps.{rows_behind, shown_then}
use Rattle.fissures_c.proofs.Stepped.{fits, refused-gives, refused-leaves, buffer_then, said, stored, kept_numbers}
use Rattle.fissures_c.proofs.step.Goals as goal

pub returns-in_err-held-clause-returned : goal.returns-in_err-held-clause-returned
returns-in_err-held-clause-returned c =
    let z = c.args in
    let rows = rows_behind z.s.now z.session.now z.n in
    let h = refused-gives z.s.now z.session.now (or_short (row_width * length rows) (length z.out.now) (length rows)) c.in_err-held.ensures in
    search rules

pub returns-in_err-held-clause-held : goal.returns-in_err-held-clause-held
returns-in_err-held-clause-held c =
    let z = c.args in
    let rows = rows_behind z.s.now z.session.now z.n in
    refused-leaves z.s.now z.session.now (or_short (row_width * length rows) (length z.out.now) (length rows)) c.in_err-held.ensures (shown_then z.s.now z.session.now z.n ∷ []) z.session.now

pub returns-in_err-held-clause-rows : goal.returns-in_err-held-clause-rows
returns-in_err-held-clause-rows c =
    let z = c.args in
    let rows = rows_behind z.s.now z.session.now z.n in
    refused-leaves z.s.now z.session.now (or_short (row_width * length rows) (length z.out.now) (length rows)) c.in_err-held.ensures (roll_bytes rows) z.out.now

pub returns-in_err-rows-clause-returned : goal.returns-in_err-rows-clause-returned
returns-in_err-rows-clause-returned c =
    let z = c.args in
    let j = c.in_ok-held.ensures in
    let h = said z.s.now z.session.now (slice_bytes z.s.now c.type_inv.s) j.0 z.n z.out.now j.1 c.advance.ensures in
    search rules

pub returns-in_err-rows-clause-held : goal.returns-in_err-rows-clause-held
returns-in_err-rows-clause-held c =
    let z = c.args in
    let j = c.in_ok-held.ensures in
    kept_numbers z.s.now z.session.now (slice_bytes z.s.now c.type_inv.s) j.0 z.n z.out.now j.1 c.advance.ensures c.in_err-rows.was

pub returns-in_err-rows-clause-rows : goal.returns-in_err-rows-clause-rows
returns-in_err-rows-clause-rows c =
    let z = c.args in
    let j = c.in_ok-held.ensures in
    buffer_then z.s.now z.session.now (slice_bytes z.s.now c.type_inv.s) j.0 z.n z.out.now j.1 c.advance.ensures

pub bounds-session-0 : goal.bounds-session-0
bounds-session-0 c = let f = fits c.args.s.now c.args.session.now c.in_ok-held.ensures.0 in omega (arith, f.room)

pub returns-clause-returned : goal.returns-clause-returned
returns-clause-returned c =
    let z = c.args in
    let j = c.in_ok-held.ensures in
    let h = said z.s.now z.session.now (slice_bytes z.s.now c.type_inv.s) j.0 z.n z.out.now j.1 c.advance.ensures in
    search rules

pub returns-clause-held : goal.returns-clause-held
returns-clause-held c =
    let z = c.args in
    let j = c.in_ok-held.ensures in
    stored z.s.now z.session.now (slice_bytes z.s.now c.type_inv.s) j.0 z.n z.out.now j.1 c.advance.ensures c.in_ok-rows.was

pub returns-clause-rows : goal.returns-clause-rows
returns-clause-rows c =
    let z = c.args in
    let j = c.in_ok-held.ensures in
    buffer_then z.s.now z.session.now (slice_bytes z.s.now c.type_inv.s) j.0 z.n z.out.now j.1 c.advance.ensures
