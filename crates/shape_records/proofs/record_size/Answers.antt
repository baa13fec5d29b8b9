-- The length of each form.
use Rattle.shapefile.proofs.Lengths.{null_content_length}
use Rattle.shape_records.proofs.Contents.{end_length, still-content, line_content_lem, line_length}
use mathlib.Core.Path.{sym, ◌∙◌}
use native.Mathlib.Omega.{arith}
use Rattle.shape_records.proofs.record_size.Goals as goal

pub returns-in-End : goal.returns-in-End
returns-in-End c = rw (c.in-End.is, end_length) (omega arith)

pub returns-then-is_still : goal.returns-then-is_still
returns-then-is_still c = rw (c.in-Trace.is, still-content _ _ _ _ (sym c.is_still.ensures ∙ c.if-is_still.true), null_content_length) (omega arith)

pub returns-else-is_still : goal.returns-else-is_still
returns-else-is_still c = rw (c.in-Trace.is, line_content_lem _ _ _ _ (sym c.is_still.ensures ∙ c.if-is_still.false), line_length) (omega arith)
