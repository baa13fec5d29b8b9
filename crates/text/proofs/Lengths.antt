-- How long the lines are: `line_short`, `head_short`, `refusal_short`, `still_short`.
use Prim.Native.Nat.{ℕ, ◌≤◌, ◌<◌}
use native.Mathlib.Omega.{arith}
use lib.ListN.{length, length-append}
use Rattle.rule.specs.declared.Row.{Row}
use Rattle.rule.specs.declared.Side.{Side}
use Rattle.rule.specs.declared.Side.TheVariants.{NoSide, Left, Right, Along}
use Rattle.rule.specs.RowBytes.{kind_of, partner_of, RowFits}
use Rattle.rule.specs.Side.{side_number}
use Rattle.rule.proofs.RowBytes.{kind_in}
use Rattle.text.specs.Lines.{digits_within, decimal, field, line_of, head_of, refused_of, still_of, longest_line, longest_head, longest_refusal, longest_still}
use Rattle.text.proofs.Decimal.{decimal_short}

field_short : (v mark : ℕ) → v < 18446744073709551616 → length (field v mark) ≤ 21
unfolding field
field_short v mark h = let d = decimal_short v h in simp length-append (omega arith)

-- one digit
side_short : (d : Side) (mark : ℕ) → length (field (side_number d) mark) ≤ 2
unfolding field decimal digits_within side_number
side_short NoSide mark = omega arith
side_short Left mark = omega arith
side_short Right mark = omega arith
side_short Along mark = omega arith

pub line_short : (r : Row) → RowFits r → length (line_of r) ≤ longest_line
unfolding line_of
line_short r f =
    let i = field_short r.id 32 (omega (arith, f.id)) in
    let k = field_short (kind_of r.ending) 32 (omega (arith, kind_in r.ending)) in
    let q = field_short (partner_of r.ending) 32 (omega (arith, f.partner)) in
    let n = field_short r.at.num 47 (omega (arith, f.num)) in
    let d = field_short r.at.den 32 (omega (arith, f.den)) in
    let x = field_short r.x 32 (omega (arith, f.x)) in
    let y = field_short r.y 32 (omega (arith, f.y)) in
    let s = side_short r.side 10 in
    simp length-append (omega arith)

pub head_short : (tracks cells : ℕ) → tracks < 18446744073709551616 → cells < 18446744073709551616 → length (head_of tracks cells) ≤ longest_head
unfolding head_of
head_short tracks cells h k =
    let t = field_short tracks 32 h in
    let c = field_short cells 10 k in
    simp length-append (omega arith)

pub refusal_short : (number place : ℕ) → number < 18446744073709551616 → place < 18446744073709551616 → length (refused_of number place) ≤ longest_refusal
unfolding refused_of
refusal_short number place h k =
    let n = field_short number 32 h in
    let p = field_short place 10 k in
    simp length-append (omega arith)

pub still_short : (tracks : ℕ) → tracks < 18446744073709551616 → length (still_of tracks) ≤ longest_still
unfolding still_of
still_short tracks h = let t = field_short tracks 32 h in simp length-append (omega arith)
