-- Each way out by one law.
use borrow.Author.Rules.{rules}
use native.Mathlib.Omega.{arith}
use Prim.Native.Nat.{◌*◌}
use lib.ListN.{length}
use Rattle.rule.specs.RowBytes.{roll_bytes, row_width}
use Rattle.sheet.specs.Lent.{or_short}
use Rattle.c_sessions.specs.Steps.{numbers_at, rows_behind, shown_then}
use Rattle.c_sessions.proofs.Stepped.{fits, refused-gives, refused-leaves, buffer, step_refused, advanced}
use Rattle.c_sessions.proofs.step.Goals as goal

pub returns-in_err-sheet-clause-returned : goal.returns-in_err-sheet-clause-returned
returns-in_err-sheet-clause-returned c =
    let z = c.args in
    let rows = rows_behind z.s.now z.session.now z.n in
    let h = refused-gives z.s.now z.session.now (or_short (row_width * length rows) (length z.out.now) (length rows)) c.in_err-sheet.ensures in
    search rules

pub returns-in_err-sheet-clause-held : goal.returns-in_err-sheet-clause-held
returns-in_err-sheet-clause-held c =
    let z = c.args in
    let rows = rows_behind z.s.now z.session.now z.n in
    refused-leaves z.s.now z.session.now (or_short (row_width * length rows) (length z.out.now) (length rows)) c.in_err-sheet.ensures (numbers_at z.s.now (shown_then z.s.now z.session.now z.n)) z.session.now

pub returns-in_err-sheet-clause-rows : goal.returns-in_err-sheet-clause-rows
returns-in_err-sheet-clause-rows c =
    let z = c.args in
    let rows = rows_behind z.s.now z.session.now z.n in
    refused-leaves z.s.now z.session.now (or_short (row_width * length rows) (length z.out.now) (length rows)) c.in_err-sheet.ensures (roll_bytes rows) z.out.now

pub bounds-session-0 : goal.bounds-session-0
bounds-session-0 c = let f = fits c.args.s.now c.args.session.now c.in_ok-sheet.ensures.accepts in omega (arith, f.room)

pub advance-requires : goal.advance-requires
advance-requires c = c.in_ok-sheet.ensures.handed

pub returns-in_err-stepped-clause-returned : goal.returns-in_err-stepped-clause-returned
returns-in_err-stepped-clause-returned c =
    let z = c.args in
    let h = (step_refused z.s.now z.session.now c.in_ok-sheet.ensures z.n z.out.now c.advance.ensures c.in_err-stepped.was).0 in
    search rules

pub returns-in_err-stepped-clause-held : goal.returns-in_err-stepped-clause-held
returns-in_err-stepped-clause-held c =
    let z = c.args in
    (step_refused z.s.now z.session.now c.in_ok-sheet.ensures z.n z.out.now c.advance.ensures c.in_err-stepped.was).1

pub returns-in_err-stepped-clause-rows : goal.returns-in_err-stepped-clause-rows
returns-in_err-stepped-clause-rows c =
    let z = c.args in
    buffer z.s.now z.session.now c.in_ok-sheet.ensures z.n z.out.now c.advance.ensures

pub store-requires : goal.store-requires
store-requires c = (fits c.args.s.now c.args.session.now c.in_ok-sheet.ensures.accepts).room

pub returns : goal.returns
returns c =
    let z = c.args in
    let h = advanced z.s.now z.session.now c.in_ok-sheet.ensures z.n z.out.now c.advance.ensures c.in_ok-stepped.was c.store.ensures in
    record { returned = h.0; held = h.1; rows = buffer z.s.now z.session.now c.in_ok-sheet.ensures z.n z.out.now c.advance.ensures }
