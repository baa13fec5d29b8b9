-- `rows` rolls an accepted sheet by the grid, or returns 13 or 12.
use mathlib.Core.Path.{refl, sym, ◌∙◌}
use Rattle.sheet.specs.HandedIn.{handed_in}
use Rattle.cells.proofs.Figures.{is_figure_lem}
use Rattle.plain_run.proofs.Outcome.{too_short, all-rows}
use Rattle.grid_run.proofs.Outcome.{none_count, rows_count, no_figure, as_plain}
use Rattle.grid_run.proofs.rows.Goals as goal

pub returns-then-not-is_figure : goal.returns-then-not-is_figure
returns-then-not-is_figure c =
    let a = c.args in
    no_figure (handed_in a.sheet) a.g a.out.now (sym c.is_figure.ensures ∙ c.if-not-is_figure.true)

pub returns-then-out-needed : goal.returns-then-out-needed
returns-then-out-needed c =
    let a = c.args in
    let f = sym c.is_figure.ensures ∙ c.if-not-is_figure.false in
    as_plain (handed_in a.sheet) a.g a.out.now f refl (sym (none_count 12 _ _)) (too_short c.requires a.out.now c.if-out-needed.true)

pub roll-cells-requires : goal.roll-cells-requires
roll-cells-requires c = (c.requires, is_figure_lem _ (sym c.is_figure.ensures ∙ c.if-not-is_figure.false), c.if-out-needed.false)

pub returns : goal.returns
returns c =
    let a = c.args in
    let f = sym c.is_figure.ensures ∙ c.if-not-is_figure.false in
    let ran = c.roll-cells.ensures in
    as_plain (handed_in a.sheet) a.g a.out.now f refl (ran.counted ∙ sym (rows_count _ _)) (all-rows c.requires a.out.now c.if-out-needed.false ran.written)
