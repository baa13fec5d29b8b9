-- The line's text, and behind it the buffer as lent.
use mathlib.Core.Path.{ap}
use mathlib.Core.List.{List, ◌++◌}
use Prim.Native.Nat.{ℕ}
use lib.ListN.{drop}
use Rattle.text.proofs.Lines.{text_length}
use Rattle.text.proofs.Copy.{short, copied}
use Rattle.text.proofs.Draft.give.Goals as goal

pub returns-then-out-n : goal.returns-then-out-n
returns-then-out-n c = short _ _ (text_length c.requires) c.if-out-n.true

pub returns : goal.returns
returns c = copied _ _ (text_length c.requires) c.if-out-n.false (ap (λ (t : List ℕ). t ++ drop c.args.self.now.length c.args.out.now) c.copy_from_slice.ensures.after)
