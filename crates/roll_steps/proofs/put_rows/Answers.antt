-- `put_rows` copies a part of the roll, which stands whole in the function's own buffer.
use native.Mathlib.Omega.{arith}
use Prim.Native.Nat.{ℕ}
use mathlib.Core.Path.{◌≡◌, refl, sym, subst}
use lib.ListN.{take, drop}
use Rattle.sheet.specs.HandedIn.{handed_in}
use Rattle.rule.specs.Selection.{roll_of}
use Rattle.row.specs.Written.{Written}
use Rattle.roll_steps.proofs.Outcome.{every_row, none, copied}
use Rattle.roll_steps.proofs.put_rows.Goals as goal

pub returns-then-count-eq0 : goal.returns-then-count-eq0
returns-then-count-eq0 c =
    let z = c.args in
    let e : z.count ≡ 0 = c.if-count-eq0.true in
    subst (λ (k : ℕ). Written (take k (drop z.from (roll_of (handed_in z.sheet)))) z.out.now z.out.now) (sym e) (none (drop z.from (roll_of (handed_in z.sheet))) z.out.now)

pub returns : goal.returns
returns c =
    let z = c.args in
    copied z.from z.count (roll_of (handed_in z.sheet)) _ (omega (arith, c.requires.1, every_row c.requires.0)) c.roll_for_step.ensures.is c.copy_from_slice.ensures.after refl
