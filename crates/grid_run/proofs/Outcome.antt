-- What the grid run returns and leaves, in each of its endings.
use Prim.Native.Nat.{ℕ}
use Rattle.std.specs.Prelude.{Result, Err}
use mathlib.Core.Path.{◌≡◌, refl, sym, ap, ◌∙◌, subst}
use mathlib.Core.Bool.{true, false}
use mathlib.Core.List.{List}
use lib.ListN.{length}
use Rattle.sheet.specs.Lent.{and_then, after}
use Rattle.sheet.specs.Listing.{Listing}
use Rattle.sheet.specs.Returned.{Returned, accepted, gives, refused, number_of, refusal}
use Rattle.sheet.proofs.Lent as ending
use Rattle.rule.specs.RowBytes.{roll_bytes}
use Rattle.rule.specs.Selection.{roll_of}
use Rattle.cells.specs.CellsEntered.{cells_entered}
use Rattle.cells.specs.Grid.{is_figure, figure_check}
use Rattle.cells.proofs.Figures.{figure_checked, not-figure}
use Rattle.sheet.specs.declared.Refusal.{Refusal}
use Rattle.sheet.specs.declared.RefusalKind.TheVariants.{GridFigure}
use Rattle.sheet.specs.Answer.{answered}
use Rattle.plain_run.specs.Rolled.{needed, roll_returns, Rolls}
use Rattle.grid_run.specs.declared.GridRoll.{GridRoll}
use Rattle.grid_run.specs.GridRolled.{grid_rolled, grid_returns, with_rows, GridRolls}

-- with one of the six figures an accepted sheet is answered as by the plain run
pub figured : (S : Listing) (g lent : ℕ) → is_figure g ≡ true → grid_returns accepted S g lent ≡ roll_returns accepted S lent
unfolding and_then
figured S g lent e = ap (λ (v : Returned). roll_returns v S lent) (figure_checked g e)

-- rows have the count, a refusal has none
pub none_count : (n p c : ℕ) → with_rows (refused n p) c ≡ 0
unfolding with_rows
none_count n p c = refl

pub rows_count : (n c : ℕ) → with_rows (gives n) c ≡ c
unfolding with_rows
rows_count n c = refl

-- what the parts of an answer come to, whether the run gives rows or refuses
pub reported : (R : Returned) (c : ℕ) (r : Result GridRoll Refusal) → (grid_rolled r).returned ≡ R → (grid_rolled r).cells ≡ with_rows (grid_rolled r).returned c → grid_rolled r ≡ record { returned = R; cells = with_rows R c }
reported R c r e f = λ i. record { returned = e i; cells = (f ∙ ap (λ (z : Returned). with_rows z c) e) i }

module _ (S : Listing) (g : ℕ) (before : List ℕ) where
  refused_by : {v : Returned} (r : Refusal) → and_then v (figure_check g) ≡ refusal r → GridRolls v S g before before (Err r)
  refused_by r e =
      let (a, b) = ending.as_refused (roll_bytes (roll_of S)) before (needed S) (length S.tracks) e in
      record { answer = reported _ (cells_entered S g) (Err r) a (sym (none_count (number_of r.kind) r.place (cells_entered S g))); buffer = b }

  -- as the sheet is refused
  pub as_refused : {v : Returned} (r : Refusal) → v ≡ refusal r → GridRolls v S g before before (Err r)
  as_refused r e = refused_by r (ending.said_refused (figure_check g) e)

  -- as an accepted sheet goes on
  pub as_accepted : {v : Returned} {exit : List ℕ} {r : Result GridRoll Refusal} → v ≡ accepted → GridRolls accepted S g before exit r → GridRolls v S g before exit r
  as_accepted {v} {exit} {r} e h = subst (λ (z : Returned). GridRolls z S g before exit r) (sym e) h

  -- as the figure is refused
  pub no_figure : is_figure g ≡ false → GridRolls accepted S g before before (Err (record { kind = GridFigure; place = g }))
  unfolding and_then
  no_figure e = refused_by (record { kind = GridFigure; place = g }) (not-figure g e)

  -- as the plain run does
  pub as_plain : {exit : List ℕ} {p : Result ℕ Refusal} {r : Result GridRoll Refusal} → is_figure g ≡ true → (grid_rolled r).returned ≡ answered p → (grid_rolled r).cells ≡ with_rows (grid_rolled r).returned (cells_entered S g) → Rolls accepted S before exit p → GridRolls accepted S g before exit r
  as_plain {r = r} e q k h =
      let x = figured S g (length before) e in
      record { answer = reported _ (cells_entered S g) r (q ∙ h.answer ∙ sym x) k; buffer = h.buffer ∙ ap (λ (z : Returned). after z (roll_bytes (roll_of S)) before) (sym x) }

-- of the same records
pub of_same : {S S' : Listing} {v : Returned} {g : ℕ} {before exit : List ℕ} {r : Result GridRoll Refusal} → S ≡ S' → GridRolls v S g before exit r → GridRolls v S' g before exit r
of_same {v = v} {g} {before} {exit} {r} e h = subst (λ (z : Listing). GridRolls v z g before exit r) e h
