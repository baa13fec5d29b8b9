-- Word, number, word, number.
use Rattle.text.proofs.Lines.{head_done}
use Rattle.text.proofs.head_line.Goals as goal

pub returns : goal.returns
returns c =
    head_done c.args.tracks c.args.cells
    c.empty-line.ensures
    c.put_word.ensures
    c.put_field.ensures.0
    c.put_word-2.ensures
    c.put_field-2.ensures.0
