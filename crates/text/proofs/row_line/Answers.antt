-- Eight fields of at most 21 bytes.
use Rattle.text.proofs.Lines.{eight}
use Rattle.text.proofs.row_line.Goals as goal

pub returns : goal.returns
returns c =
    eight c.args.row c.kind_of.ensures c.partner_of.ensures c.side_number.ensures
    c.empty-line.ensures
    c.put_field.ensures.0
    c.put_field-2.ensures.0
    c.put_field-3.ensures.0
    c.put_field-4.ensures.0
    c.put_field-5.ensures.0
    c.put_field-6.ensures.0
    c.put_field-7.ensures.0
    c.put_field-8.ensures.0
