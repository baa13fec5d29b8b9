-- Word, number, number.
use Rattle.text.proofs.Lines.{refusal_done}
use Rattle.text.proofs.refusal_line.Goals as goal

pub returns : goal.returns
returns c =
    refusal_done c.args.number c.args.place
    c.empty-line.ensures
    c.put_word.ensures
    c.put_field.ensures.0
    c.put_field-2.ensures.0
