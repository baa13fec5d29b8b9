-- Track by track.
use native.Mathlib.Omega.{arith}
use Prim.Native.Nat.{ℕ}
use mathlib.Core.Path.{◌≡◌, sym, ◌∙◌}
use Rattle.passages.proofs.Ways.{room, has_place, row-there, ways-more, all_ways}
use Rattle.passages.proofs.passages_of.Goals as goal

pub place_of-requires : goal.place_of-requires
place_of-requires c = room c.requires.0 c.requires.1

pub returns-in_default : goal.returns-in_default
returns-in_default c = absurd (has_place c.requires.0 c.requires.1 c.loop-j-test.true c.in_default.ensures)

pub returns-in_default-row_at : goal.returns-in_default-row_at
returns-in_default-row_at c =
    let (r, e) = row-there c.requires.0 c.requires.1 c.loop-j-test.true c.in-Some.ensures in
    let q = sym c.in_default-row_at.is ∙ c.row_at.ensures ∙ e in
    let w : ◌≡◌ {A = ℕ} 0 1 = cc in
    absurd (omega arith)

pub loop-j-preserved : goal.loop-j-preserved
loop-j-preserved c =
    let f = sym c.row_at.ensures ∙ c.in-Some-row_at.is in
    rw c.way_of.ensures (ways-more c.requires.0 c.requires.1 c.loop-j-test.true c.in-Some.ensures f c.loop-j.invariant)

pub returns : goal.returns
returns c = all_ways c.requires.0 c.requires.1 (omega arith) c.loop-j.invariant
