-- A record of each form.
use Rattle.shape_records.proofs.Records.{null_put}
use mathlib.Core.Path.{refl, sym, ◌∙◌}
use Rattle.shape_records.proofs.Contents.{end_length, still-content, line_content_lem, line_length}
use Rattle.shapefile.proofs.Lengths.{null_content_length}
use Rattle.shape_records.specs.Shapes.{Sound, content_of}
use native.Mathlib.Omega.{arith}
use Rattle.shape_records.proofs.put_record.Goals as goal

pub put_end-requires : goal.put_end-requires
unfolding Sound
put_end-requires c =
    let p = rw (c.in-End.is, end_length) at c.requires in
    (omega arith, p.1)

pub put_head-requires : goal.put_head-requires
put_head-requires c =
    let t = sym c.is_still.ensures ∙ c.if-is_still.true in
    let p = rw (c.in-Trace.is, still-content _ _ _ _ t, null_content_length) at c.requires in
    omega arith

pub put_line-requires : goal.put_line-requires
unfolding Sound
put_line-requires c =
    let t = sym c.is_still.ensures ∙ c.if-is_still.false in
    let p = rw (c.in-Trace.is, line_content_lem _ _ _ _ t, line_length) at c.requires in
    (omega arith, p.1)

pub returns-in-End : goal.returns-in-End
returns-in-End c =
    rw (c.in-End.is, end_length) (refl, (unfold content_of in c.put_end.ensures))

pub returns-then-is_still : goal.returns-then-is_still
returns-then-is_still c =
    let t = sym c.is_still.ensures ∙ c.if-is_still.true in
    rw (c.in-Trace.is, still-content _ _ _ _ t, null_content_length) (refl, null_put _ _ _ c.put_head.ensures)

pub returns-else-is_still : goal.returns-else-is_still
returns-else-is_still c =
    let t = sym c.is_still.ensures ∙ c.if-is_still.false in
    rw (c.in-Trace.is, line_content_lem _ _ _ _ t, line_length) (refl, c.put_line.ensures)
