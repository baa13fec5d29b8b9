-- What was read has the text of the whole input.
use Rattle.std.proofs.Common.{List, ℕ, length, arith}
use Rattle.input.proofs.Answered.{answered}
use Rattle.sheet.specs.Listing.{listing}
use Rattle.sheet.specs.Scan.{verdict_of, commands_of}
use Rattle.page.specs.Answer.{answer_of}
use Rattle.roll.proofs.ReadsEnough.{reads_enough}
use Rattle.roll.proofs.answer.Goals as goal

text_of : List ℕ → List ℕ
text_of s = answer_of (verdict_of s) (listing (commands_of s))

pub returns : goal.returns
unfolding text_of
returns g c =
    answered text_of text_of (length c.read_full.new.buf) (λ s. reads_enough _ s (omega arith)) c.write_all.result _ _ _ _ _ c.in_ok-n.ensures.first
    c.answer-m.ensures.0 c.write_all.ensures.bytes
