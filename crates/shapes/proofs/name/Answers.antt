-- One part behind the other, where there is room for both.
use Rattle.std.proofs.Common.{List, ℕ, ◌+◌, ◌-◌, ◌++◌, length, drop, sym, ap, ◌∙◌, append-nil, arith}
use borrow.Rule.Slice.PartMut.{post_of}
use lib.Seq.{take-length, drop-length}
use Rattle.shapes.proofs.Ready.{nothing, no_room, joined}
use Rattle.shapes.proofs.name.Goals as goal

pub returns-then-path-m : goal.returns-then-path-m
returns-then-path-m c =
    let a = c.args in
    nothing a.path.now (no_room a.base.now a.ending.now (length a.path.now) (omega (arith, c.if-path-m.true)))

pub returns-then-path-m-2 : goal.returns-then-path-m-2
returns-then-path-m-2 c =
    let a = c.args in
    nothing a.path.now (no_room a.base.now a.ending.now (length a.path.now) (omega (arith, c.if-path-m-2.true, c.if-path-m.false)))

pub returns : goal.returns
returns c =
    let a = c.args in
    let base = a.base.now in
    let ending = a.ending.now in
    let path = c.copy_from_slice.new.self ++ drop (length base) a.path.now in
    joined base ending a.path.now ending (post_of (length base) (length base + length ending - length base) path)
    (ap (λ (l : List ℕ). l ++ drop (length base) a.path.now) (c.copy_from_slice.ensures.after ∙ sym (take-length base)))
    (c.copy_from_slice-2.ensures.after ∙ sym (append-nil ending) ∙ ap (λ (l : List ℕ). ending ++ l) (sym (drop-length ending))
    ∙ ap (λ (l : List ℕ). l ++ drop (length ending) ending) (sym (take-length ending)))
    (omega (arith, c.if-path-m-2.false, c.if-path-m.false))
