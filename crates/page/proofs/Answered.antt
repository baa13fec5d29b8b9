-- What is printed for a sheet. Main theorems: `prints_roll`, the head and the lines of the roll's own rows; `prints_refusal`.
use mathlib.Core.Path.{◌≡◌, refl, sym, ap, ◌∙◌, subst}
use mathlib.Core.List.{List, ◌++◌}
use Prim.Native.Nat.{ℕ, ◌≤◌}
use native.Mathlib.Omega.{arith}
use lib.ListN.{length, take, drop}
use Rattle.byte_order.specs.Bytes.{AllBytes}
use Rattle.sheet.specs.Lent.{and_then}
use Rattle.sheet.specs.Listing.{Listing, listing}
use Rattle.sheet.specs.Returned.{Returned, accepted, gives, refused, refusal}
use Rattle.sheet.specs.Scan.{verdict_of, commands_of}
use Rattle.sheet.proofs.Decided.{Decided, decided}
use Rattle.sheet.proofs.Lent.{said_given, put, gave, refused_so}
use Rattle.sheet.proofs.RoundTrip.{accepted_records}
use Rattle.rule.specs.RowBytes.{roll_bytes, longest_roll}
use Rattle.rule.specs.Selection.{roll_of}
use Rattle.rule.proofs.Existence.{roll_length}
use Rattle.cells.specs.Grid.{figure_check, g8}
use Rattle.cells.specs.CellsEntered.{cells_entered}
use Rattle.cells.proofs.Figures.{figure_is, figure_checked}
use Rattle.plain_run.specs.Rolled.{needed}
use Rattle.std.specs.Prelude.{Result, Ok, Err}
use Rattle.sheet.specs.declared.Refusal.{Refusal}
use Rattle.grid_run.specs.declared.GridRoll.{GridRoll}
use Rattle.grid_run.specs.GridRolled.{Reported, grid_rolled, grid_returns, with_rows, GridRolls}
use Rattle.grid_run.proofs.Outcome.{rows_count}
use Rattle.row.specs.Stored.{rows_in}
use Rattle.row.proofs.ReadBack.{roll_back}
use Rattle.text.specs.Lines.{head_of, refused_of}
use Rattle.page.specs.Behind.{Behind}
use Rattle.page.specs.Rows.{lines_of}
use Rattle.page.proofs.Putting.{and_behind}
use Rattle.page.specs.Answer.{answer_of}

-- 8 is one of the six figures
same_said : (v : Returned) → and_then v (figure_check 8) ≡ v
unfolding and_then
same_said accepted = figure_checked 8 (figure_is g8)
same_said (gives n) = refl
same_said (refused n p) = refl

-- what the buffer of 256 rows holds where rows are given
pub record Read (s rows : List ℕ) (n cells : ℕ) : Type 0 where
  pub accepts : verdict_of s ≡ accepted
  pub count : n ≡ length (listing (commands_of s)).tracks
  pub few : n ≤ 256
  pub are : rows_in rows n ≡ roll_of (listing (commands_of s))
  pub counted : cells ≡ cells_entered (listing (commands_of s)) 8

module _ (s : List ℕ) (bytes : AllBytes s) {before rows : List ℕ} (long : length before ≡ longest_roll) {r : Result GridRoll Refusal} (h : GridRolls (verdict_of s) (listing (commands_of s)) 8 before rows r) where
  abbrev S : Listing
  S = listing (commands_of s)

  abbrev v : Returned
  v = and_then (verdict_of s) (figure_check 8)

  v_decided : Decided v
  v_decided = subst Decided (sym (same_said (verdict_of s))) (decided s)

  enough : verdict_of s ≡ accepted → needed S ≤ length before
  enough e = omega (arith, long, (accepted_records s bytes e).few_tracks)

  returned : (grid_rolled r).returned ≡ grid_returns (verdict_of s) S 8 (length before)
  returned = ap (λ (z : Reported). z.returned) h.answer

  entered : {roll : GridRoll} → r ≡ Ok roll → roll.cells ≡ cells_entered S 8
  entered {roll} q =
      let e = sym (ap (λ (z : Result GridRoll Refusal). (grid_rolled z).cells) q) ∙ ap (λ (z : Reported). z.cells) h.answer in
      let f = sym returned ∙ ap (λ (z : Result GridRoll Refusal). (grid_rolled z).returned) q in
      e ∙ ap (λ (z : Returned). with_rows z (cells_entered S 8)) f ∙ rows_count roll.rows (cells_entered S 8)

  pub rows-read : {roll : GridRoll} → r ≡ Ok roll → Read s rows roll.rows roll.cells
  rows-read {roll} q =
      let R = roll_of S in
      let g = gave (needed S) (length before) (length S.tracks) v_decided (sym (ap (λ (z : Result GridRoll Refusal). (grid_rolled z).returned) q) ∙ returned) in
      let ok : verdict_of s ≡ accepted = sym (same_said (verdict_of s)) ∙ g.accepts in
      let acc = accepted_records s bytes ok in
      let x = h.buffer ∙ put (roll_bytes R) before (said_given (needed S) (length before) (length S.tracks) g.accepts g.room) in
      let c : length R ≡ roll.rows = roll_length S acc ∙ sym g.count in
      record {
        accepts = ok;
        count = g.count;
        few = omega (arith, g.count, acc.few_tracks);
        are = ap (λ (b : List ℕ). rows_in b roll.rows) x ∙ ap (rows_in (roll_bytes R ++ drop (length (roll_bytes R)) before)) (sym c) ∙ roll_back S acc (drop (length (roll_bytes R)) before);
        counted = entered q;
      }

  pub as_refused : {f : Refusal} → r ≡ Err f → verdict_of s ≡ refusal f
  as_refused q =
      sym (same_said (verdict_of s))
      ∙ refused_so (needed S) (length before) (length S.tracks) v_decided (λ e. enough (sym (same_said (verdict_of s)) ∙ e)) (sym (ap (λ (z : Result GridRoll Refusal). (grid_rolled z).returned) q) ∙ returned)

module _ (s : List ℕ) {out exit : List ℕ} {end : ℕ} where
  pub prints_roll : {rows mid : List ℕ} {at n cells : ℕ} → Read s rows n cells → Behind (head_of n cells) 0 out at mid → Behind (lines_of (rows_in rows n)) at mid end exit → take end exit ≡ answer_of (verdict_of s) (listing (commands_of s))
  unfolding answer_of
  prints_roll d h k = (and_behind h k).is ∙ rw (d.accepts, d.are, d.count, d.counted) refl

  pub prints_refusal : {n p : ℕ} → verdict_of s ≡ refused n p → Behind (refused_of n p) 0 out end exit → take end exit ≡ answer_of (verdict_of s) (listing (commands_of s))
  unfolding answer_of
  prints_refusal e b = b.is ∙ rw e refl
