-- One sheet, one roll (SHEETS 10.1, 10.2): `demand`; `demand_bytes` for a sheet's bytes, `demand_records` for records handed in. The statement is specs/Demand.antt.
use Rattle.std.specs.Prelude.{Result, Ok, Err}
use mathlib.Core.Path.{◌≡◌, refl, sym, ap, ◌∙◌, subst}
use mathlib.Core.Bool.{Bool, true, false}
use mathlib.Core.List.{List, ◌++◌}
use Prim.Native.Nat.{ℕ, ◌*◌, ◌≤◌, ◌<◌}
use native.Mathlib.Omega.{arith}
use borrow.Author.Tests.{ltb-true, ltb-false}
use lib.Dec.{ltb}
use lib.ListN.{length, take, drop}
use lib.Seq.{take-append_seam}
use Rattle.byte_order.specs.Bytes.{AllBytes}
use Rattle.sheet.specs.declared.Command.{Command}
use Rattle.sheet.specs.declared.Sheet.{Sheet}
use Rattle.sheet.specs.Accepted.{Accepted}
use Rattle.sheet.specs.HandedIn.{handed_in, check_of}
use Rattle.sheet.specs.Lent.{after}
use Rattle.sheet.specs.Listing.{Listing, listing, Reordered}
use Rattle.sheet.specs.Ordered.{commands_in}
use Rattle.sheet.specs.Returned.{Returned, accepted, gives, refused}
use Rattle.sheet.specs.Scan.{verdict_of, commands_of}
use Rattle.sheet.proofs.Lent.{said_short, said_given, kept, put}
use Rattle.sheet.proofs.Order.{accepted_reordered}
use Rattle.sheet.proofs.RoundTrip.{Fit, all_fit, accepted_exactly, accepted_records}
use Rattle.rule.specs.declared.Row.{Row}
use Rattle.rule.specs.RowBytes.{roll_bytes, row_width}
use Rattle.rule.specs.Selection.{roll_of}
use Rattle.rule.proofs.Existence.{roll_of_lem, roll_is, roll_length}
use Rattle.rule.proofs.OneRoll.{rows_unique}
use Rattle.rule.proofs.OrderFree.{meets_order, roll_order}
use Rattle.rule.proofs.RowBytes.{roll_bytes_length}
use Rattle.rule.proofs.Starts.{accepted_proper}
use Rattle.cells.specs.Grid.{Figure}
use Rattle.cells.specs.CellsEntered.{cells_entered}
use Rattle.cells.proofs.CellsEntered.{is_counted, the_count, trace_few, count_few, count_same}
use Rattle.cells.proofs.Figures.{figure_is}
use Rattle.sheet.specs.declared.Refusal.{Refusal}
use Rattle.sheet.specs.Answer.{answered}
use Rattle.plain_run.specs.Rolled.{needed, roll_returns, Rolls}
use Rattle.grid_run.specs.declared.GridRoll.{GridRoll}
use Rattle.grid_run.specs.GridRolled.{Reported, grid_rolled, with_rows, GridRolls}
use Rattle.grid_run.specs.Demand.{Given, Outcome, too_short, written, Reports, Demand3}
use Rattle.grid_run.proofs.Given.{given_accepted, given_records}
use Rattle.grid_run.proofs.Outcome.{figured, rows_count}

-- ---- what a run of an accepted sheet comes to

module _ (S : Listing) (acc : Accepted S) (before exit : List ℕ) (r : Returned) (answer : r ≡ roll_returns accepted S (length before)) (buffer : exit ≡ after (roll_returns accepted S (length before)) (roll_bytes (roll_of S)) before) where
  lent_short : length before < row_width * length S.tracks → Outcome (roll_of S) before exit r
  lent_short h =
      let e = roll_length S acc in
      let t = said_short {v = accepted} (needed S) (length before) (length S.tracks) refl h in
      let q : r ≡ refused 12 (row_width * length (roll_of S)) = rw e (answer ∙ t) in
      subst (Outcome (roll_of S) before exit) (sym q) (too_short (rw e h) (buffer ∙ kept (roll_bytes (roll_of S)) before t))

  lent_long : row_width * length S.tracks ≤ length before → Outcome (roll_of S) before exit r
  lent_long h =
      let e = roll_length S acc in
      let t = said_given {v = accepted} (needed S) (length before) (length S.tracks) refl h in
      let q : r ≡ gives (length (roll_of S)) = rw e (answer ∙ t) in
      let x = put (roll_bytes (roll_of S)) before t ∙ ap (λ (n : ℕ). roll_bytes (roll_of S) ++ drop n before) (roll_bytes_length (roll_of S)) in
      subst (Outcome (roll_of S) before exit) (sym q) (written (rw e h) (buffer ∙ x))

  outcome : Outcome (roll_of S) before exit r
  outcome = go (ltb (length before) (row_width * length S.tracks)) refl
    where
      go : (b : Bool) → ltb (length before) (row_width * length S.tracks) ≡ b → Outcome (roll_of S) before exit r
      go true e = lent_short (ltb-true (length before) (row_width * length S.tracks) e)
      go false e = lent_long (ltb-false (length before) (row_width * length S.tracks) e)

-- the rows stand at the buffer's start
front : {roll : List Row} {before exit : List ℕ} {r : Returned} → Outcome roll before exit r → row_width * length roll ≤ length before → take (row_width * length roll) exit ≡ roll_bytes roll
front (too_short h e) k = absurd (omega arith)
front {roll} {before} (written h e) k =
    ap (take (row_width * length roll)) e
    ∙ ap (λ (n : ℕ). take n (roll_bytes roll ++ drop (row_width * length roll) before)) (sym (roll_bytes_length roll))
    ∙ take-append_seam (roll_bytes roll) (drop (row_width * length roll) before)

-- ---- a sheet in any order

module _ (l : List Command) (acc : Accepted (listing l)) where
  abbrev S : Listing
  S = listing l

  module _ (v : Returned) (T : Listing) (i : Given l v T) where
    p : Reordered S T
    p = given_records acc i

    plainly : (before exit : List ℕ) (r : Result ℕ Refusal) → Rolls v T before exit r → Outcome (roll_of S) before exit (answered r)
    plainly before exit r h =
        let k = subst (λ (z : Returned). Rolls z T before exit r) (given_accepted acc i) h in
        subst (λ (z : List Row). Outcome z before exit (answered r)) (sym (roll_order p acc)) (outcome T (accepted_reordered p acc) before exit (answered r) k.answer k.buffer)

    gridly : (g : ℕ) → Figure g → (before exit : List ℕ) (r : Result GridRoll Refusal) → GridRolls v T g before exit r → Outcome (roll_of S) before exit (grid_rolled r).returned × Reports (cells_entered S g) r
    gridly g f before exit r h =
        let k = subst (λ (z : Returned). GridRolls z T g before exit r) (given_accepted acc i) h in
        let e = figured T g (length before) (figure_is f) in
        let q = ap (λ (z : Reported). z.returned) k.answer in (
          subst (λ (z : List Row). Outcome z before exit (grid_rolled r).returned) (sym (roll_order p acc))
              (outcome T (accepted_reordered p acc) before exit (grid_rolled r).returned (q ∙ e) (k.buffer ∙ ap (λ (z : Returned). after z (roll_bytes (roll_of T)) before) e)),
          reports r q (ap (λ (z : Reported). z.cells) k.answer),
        )
      where
        reports : (r : Result GridRoll Refusal) {R : Returned} → (grid_rolled r).returned ≡ R → (grid_rolled r).cells ≡ with_rows R (cells_entered T g) → Reports (cells_entered S g) r
        reports (Ok roll) q c = c ∙ ap (λ (z : Returned). with_rows z (cells_entered T g)) (sym q) ∙ rows_count roll.rows (cells_entered T g) ∙ sym (count_same acc g p)
        reports (Err o) q c = tt

  pub demand : Demand3 l
  demand =
      record {
        roll = roll_of S;
        is_roll = roll_of_lem S acc;
        no_other_roll = roll_is S acc;
        no_other_set = λ q m r. (rows_unique S q (roll_of S) (accepted_proper acc) m (roll_of_lem S acc).meets r, rows_unique S (roll_of S) q (accepted_proper acc) (roll_of_lem S acc).meets m r);
        one_each = roll_length S acc;
        counted = λ g f. is_counted acc f;
        no_other_count = λ g n f c. the_count acc f c;
        few = λ g f a m k c. trace_few acc f a m k c;
        few_in_all = λ g f. count_few acc f;
        all_accepted = λ v T i. given_accepted acc i;
        one_rule = λ v T i q. meets_order (given_records acc i);
        by_plain = plainly;
        by_grid = λ v T g i f. gridly v T i g f;
        equal = λ v w T T' g i j f a a' b b' p r h k m n. front (plainly v T i a a' p h) m ∙ sym (front (gridly w T' j g f b b' r k).0 n);
      }

pub demand_bytes : (s : List ℕ) → AllBytes s → verdict_of s ≡ accepted → Demand3 (commands_of s)
demand_bytes s b e = demand (commands_of s) (accepted_records s b e)

-- records' fields are within their widths, as their types say
pub demand_records : (s : Sheet) → Fit (handed_in s) → check_of s ≡ accepted → Demand3 (commands_in (handed_in s))
demand_records s f e = demand (commands_in (handed_in s)) ((accepted_exactly (all_fit (handed_in s) f)).0 e)
