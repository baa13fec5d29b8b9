-- What was read is the start of the input, as much as decides it.
use Rattle.std.proofs.Common.{length, take, ap, arith, ◌≡◌}
use Rattle.input.proofs.Answered.{answered}
use Rattle.sheet.specs.declared.TheConstants.{DECIDING}
use Rattle.bulletin.specs.Bulletin.{bulletin_of}
use Rattle.bulletin.proofs.answer.Goals as goal

pub returns : goal.returns
returns g c =
    let m : length c.read_full.new.buf ≡ DECIDING = omega arith in
    answered bulletin_of (λ s. bulletin_of (take DECIDING s)) (length c.read_full.new.buf) (λ s. ap (λ k. bulletin_of (take k s)) m) c.write_all.result _ _ _ _ _
    c.in_ok-length.ensures.first c.bulletin-n.ensures.0 c.write_all.ensures.bytes
