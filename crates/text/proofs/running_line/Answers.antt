-- Number, word.
use Rattle.text.proofs.Lines.{still-done}
use Rattle.text.proofs.running_line.Goals as goal

pub returns : goal.returns
returns c =
    still-done c.args.running
    c.empty-line.ensures
    c.put_field.ensures.0
    c.put_word.ensures
