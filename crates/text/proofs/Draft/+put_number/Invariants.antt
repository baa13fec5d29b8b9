-- The digits above the last by a call for v / 10, which is less than v, and the last behind them.
use Rattle.text.proofs.Draft.+put_number.Given as goal

abbrev pub decreases-put_number : goal.decreases-put_number
decreases-put_number l = l.v
