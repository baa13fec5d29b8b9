-- `side_of` meets its contract.
use mathlib.Core.Path.{sym, ◌∙◌}
use Rattle.fraction.proofs.Bounds.{reads}
use Rattle.contact.proofs.Sides.{side_minus, side-zero, side_plus}
use Rattle.contact.proofs.side_of.Goals as goal

pub returns-in-Minus : goal.returns-in-Minus
returns-in-Minus c = let n = reads c.cross.ensures tt in side_minus _ (sym c.in-Minus.is ∙ rw n at c.sign_of.ensures)

pub returns-in-Zero : goal.returns-in-Zero
returns-in-Zero c = let n = reads c.cross.ensures tt in side-zero _ (sym c.in-Zero.is ∙ rw n at c.sign_of.ensures)

pub returns-in-Plus : goal.returns-in-Plus
returns-in-Plus c = let n = reads c.cross.ensures tt in side_plus _ (sym c.in-Plus.is ∙ rw n at c.sign_of.ensures)
