-- The verdict from `at` on, after the commands before it, is the verdict on the whole.
use borrow.Author.Rules.{rules}
use mathlib.Core.Path.{sym, ap, ◌∙◌}
use Rattle.sheet_rules.specs.Judged.{line_of}
use Rattle.sheet_reader.proofs.Items.{end_is, whole-fits}
use Rattle.sheet_reader.proofs.Turns.{from_unknown, from_cut, from_end, some_width}
use Rattle.sheet_reader.proofs.Scanning.{scanned_none, one-kind, scanned_refused, scanned_more, some_line}
use Rattle.sheet_reader.proofs.scan.Goals as goal

pub loop-c-init : goal.loop-c-init
loop-c-init c = scanned_none _

pub returns-in-Unknown : goal.returns-in-Unknown
returns-in-Unknown c =
    let h = c.loop-c.invariant in
    sym (from_unknown _ _ h.before (sym c.item_at-item.ensures ∙ c.in-Unknown.is)) ∙ h.on

pub returns-in-Cut : goal.returns-in-Cut
returns-in-Cut c =
    let h = c.loop-c.invariant in
    sym (from_cut _ _ h.before (sym c.item_at-item.ensures ∙ c.in-Cut.is)) ∙ h.on

pub end_at-requires : goal.end_at-requires
end_at-requires c = (end_is _ _ (sym c.item_at-item.ensures ∙ c.in-End.is)).0

pub returns-in-End : goal.returns-in-End
returns-in-End c =
    let h = c.loop-c.invariant in
    c.end_at.ensures ∙ sym (from_end _ _ h.before (sym c.item_at-item.ensures ∙ c.in-End.is)) ∙ h.on

pub returns-in-Some : goal.returns-in-Some
returns-in-Some c =
    let h = c.loop-c.invariant in
    let e = sym c.item_at-item.ensures ∙ c.in-Add.is in
    let k = ap line_of (sym c.in-Some.is) ∙ c.broken_at.ensures h.before h.counts in
    scanned_refused h _ e k (some_line c.in-Some.kind)

pub overflow_add-at : goal.overflow_add-at
overflow_add-at c =
    let f = whole-fits _ _ _ (sym c.item_at-item.ensures ∙ c.in-Add.is) in
    let w = c.bytes_of-at.ensures in
    search rules

pub overflow_add-tracks : goal.overflow_add-tracks
overflow_add-tracks c =
    let f = whole-fits _ _ _ (sym c.item_at-item.ensures ∙ c.in-Add.is) in
    let n = one-kind c.in-Add.c in
    let k = c.loop-c.invariant.few in
    let w = c.of_kind-tracks.ensures in
    search rules

pub overflow_add-walls : goal.overflow_add-walls
overflow_add-walls c =
    let f = whole-fits _ _ _ (sym c.item_at-item.ensures ∙ c.in-Add.is) in
    let n = one-kind c.in-Add.c in
    let k = c.loop-c.invariant.few in
    let w = c.of_kind-walls.ensures in
    search rules

pub loop-c-smaller : goal.loop-c-smaller
loop-c-smaller c =
    let f = whole-fits _ _ _ (sym c.item_at-item.ensures ∙ c.in-Add.is) in
    let n = some_width c.in-Add.c in
    let w = c.bytes_of-at.ensures in
    search rules

pub loop-c-preserved : goal.loop-c-preserved
loop-c-preserved c =
    let h = c.loop-c.invariant in
    let e = sym c.item_at-item.ensures ∙ c.in-Add.is in
    let k = c.broken_at.ensures h.before h.counts in
    rw (c.bytes_of-at.ensures, c.of_kind-tracks.ensures, c.of_kind-walls.ensures)
    (scanned_more h _ e (sym k ∙ ap line_of c.in_default.is))
