-- Each return is a case of `item_at`.
use native.Mathlib.Omega.{arith}
use mathlib.Core.Path.{sym}
use Rattle.sheet_reader.proofs.Items.{no_byte, is_end, is_unknown, is_cut, is_whole}
use Rattle.sheet_reader.proofs.item_at.Goals as goal

pub returns-then-s-at : goal.returns-then-s-at
returns-then-s-at c = sym (no_byte _ _ c.if-s-at.true)

pub returns-then-b-eq0 : goal.returns-then-b-eq0
returns-then-b-eq0 c = sym (is_end _ _ c.if-s-at.false c.if-b-eq0.true)

pub returns-then-b-gt3 : goal.returns-then-b-gt3
returns-then-b-gt3 c = sym (is_unknown _ _ c.if-s-at.false c.if-b-gt3.true)

pub returns-then-s-at-2 : goal.returns-then-s-at-2
returns-then-s-at-2 c =
    let n = c.bytes_named.ensures in
    sym (is_cut _ _ c.if-b-eq0.false c.if-b-gt3.false c.if-s-at.false (omega arith))

pub command_at-c-requires : goal.command_at-c-requires
command_at-c-requires c =
    let n = c.bytes_named.ensures in
    is_whole _ _ c.if-b-eq0.false c.if-b-gt3.false (omega arith)
