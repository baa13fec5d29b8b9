-- The table's lines taken apart: 7, what a command breaks by itself, its least clash with those before. Main theorem: `table_by_parts`.
-- A walk over those before keeps the least clash by `worst_start` and `worst_step`.
use mathlib.Core.Path.{◌≡◌, refl, ◌∙◌, ap}
use mathlib.Core.Bool.{Bool, true, false, cond, ◌||◌}
use mathlib.Core.List.{List, [], ◌∷◌}
use Prim.Native.Nat.{ℕ, ◌≤◌}
use native.Mathlib.Omega.{arith}
use lib.Dec.{eqb, lit≤}
use Rattle.sheet.specs.declared.Command.{Command}
use Rattle.sheet.specs.Table.{table, no_line, first_broken, any, too_many, off_sheet, wrong_speed, equal_ends, same_id, start_used, start_on_wall}
use Rattle.sheet_rules.specs.Judged.{alone_of, clash_of, lesser, worst_of}
use Rattle.sheet_rules.proofs.Choices.{choice_above, lesser-right, lesser_is_right, lesser_assoc, lesser-choice}

-- ---- the walk

worst_small : (c : Command) (l : List Command) → worst_of c l ≤ no_line
unfolding worst_of
worst_small c [] = omega arith
worst_small c (d ∷ l) = omega (arith, lesser-right (clash_of c d) (worst_of c l), worst_small c l)

pub worst_start : (c : Command) (l : List Command) → lesser no_line (worst_of c l) ≡ worst_of c l
worst_start c l = lesser_is_right no_line (worst_of c l) (worst_small c l)

pub worst_step : (w : ℕ) (c d : Command) (l : List Command) → lesser (lesser w (clash_of c d)) (worst_of c l) ≡ lesser w (worst_of c (d ∷ l))
unfolding worst_of
worst_step w c d l = lesser_assoc w (clash_of c d) (worst_of c l)

-- ---- the least clash goes by the lines in their order

pick : Bool → Bool → Bool → ℕ
pick p q r = cond p 8 (cond q 9 (cond r 10 no_line))

pick-lesser : (p q r p' q' r' : Bool) → lesser (pick p q r) (pick p' q' r') ≡ pick (p || p') (q || q') (r || r')
unfolding pick
pick-lesser p q r p' q' r' =
    lesser-choice p p' (eight q r) (eight q' r')
    ∙ ap (cond (p || p') 8) (lesser-choice q q' (nine r) (nine r')
    ∙ ap (cond (q || q') 9) (lesser-choice r r' (lit≤ tt) (lit≤ tt)))
  where
    nine : (r : Bool) → 9 ≤ cond r 10 no_line
    nine r = choice_above r (lit≤ tt) (lit≤ tt)

    eight : (q r : Bool) → 8 ≤ cond q 9 (cond r 10 no_line)
    eight q r = choice_above q (lit≤ tt) (omega (arith, nine r))

worst_by_lines : (c : Command) (l : List Command) → worst_of c l ≡ pick (any (same_id c) l) (any (start_used c) l) (any (start_on_wall c) l)
unfolding worst_of clash_of any pick
worst_by_lines c [] = refl
worst_by_lines c (d ∷ l) = rw (worst_by_lines c l) (pick-lesser (same_id c d) (start_used c d) (start_on_wall c d) _ _ _)

-- ---- the table

alone : Bool → Bool → Bool → ℕ
alone a b e = cond a 4 (cond b 5 (cond e 6 no_line))

by_parts : (t a b e p q r : Bool) →
    cond t 7 (cond a 4 (cond b 5 (cond e 6 (cond p 8 (cond q 9 (cond r 10 no_line))))))
    ≡ cond t 7 (cond (eqb (alone a b e) no_line) (pick p q r) (alone a b e))
unfolding pick alone
by_parts true a b e p q r = refl
by_parts false true b e p q r = refl
by_parts false false true e p q r = refl
by_parts false false false true p q r = refl
by_parts false false false false true q r = refl
by_parts false false false false false true r = refl
by_parts false false false false false false true = refl
by_parts false false false false false false false = refl

pub table_by_parts :
    (before : List Command) (c : Command) →
    first_broken table before c
    ≡ cond (too_many before c) 7 (cond (eqb (alone_of c) no_line) (worst_of c before) (alone_of c))
unfolding first_broken table alone_of alone
table_by_parts before c =
    rw (worst_by_lines c before)
    (by_parts (too_many before c) (off_sheet c) (wrong_speed c) (equal_ends c) (any (same_id c) before) (any (start_used c) before) (any (start_on_wall c) before))
