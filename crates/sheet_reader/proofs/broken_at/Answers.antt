-- The table's lines in the order of SHEETS 3.4: the count, the command by itself, the commands before it.
use mathlib.Core.Path.{sym, ap, ◌∙◌}
use Rattle.sheet_rules.specs.Judged.{line_of}
use Rattle.sheet_reader.proofs.Scanning.{breaks_count, breaks_alone, breaks_pair, some_line}
use Rattle.sheet_reader.proofs.broken_at.Goals as goal

pub returns-then-of_kind-ge256 : goal.returns-then-of_kind-ge256
returns-then-of_kind-ge256 c = λ before b. breaks_count b _ (rw c.of_kind.ensures at c.if-of_kind-ge256.true)

pub returns-in-Some : goal.returns-in-Some
returns-in-Some c =
    λ before b.
    let few = rw c.of_kind.ensures at c.if-of_kind-ge256.false in
    let k = c.in-Some.kind in
    let alone = ap line_of (sym c.in-Some.is) ∙ c.alone.ensures in
    alone ∙ breaks_alone b _ few (λ z. some_line k (alone ∙ z))

pub returns-in-None : goal.returns-in-None
returns-in-None c =
    λ before b.
    let few = rw c.of_kind.ensures at c.if-of_kind-ge256.false in
    let alone = sym c.alone.ensures ∙ ap line_of c.in-None.is in
    c.clash_before.ensures before b.walk ∙ breaks_pair b _ few alone
