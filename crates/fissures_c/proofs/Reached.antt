-- Writing what was read is writing the sheet's ordered form (`as_written`), and what is refused is not written (`not-read`). A count goes with rows
-- only (`counted`, `not_counted`).
use mathlib.Core.Path.{◌≡◌, refl, sym, ap, ◌∙◌, subst}
use mathlib.Core.List.{List}
use Prim.Native.Nat.{ℕ}
use lib.ListN.{length}
use Rattle.byte_order.specs.Bytes.{AllBytes}
use Rattle.sheet.specs.declared.Sheet.{Sheet}
use Rattle.sheet.specs.Listing.{listing}
use Rattle.sheet.specs.Returned.{Returned, accepted, gives, refused}
use Rattle.sheet.specs.Scan.{verdict_of, commands_of}
use Rattle.sheet.specs.Ordered.{ordered_form}
use Rattle.sheet.specs.HandedIn.{check_of, sheet_of}
use Rattle.sheet.specs.Lent.{and_then, or_short, after}
use Rattle.sheet.proofs.Lent as ending
use Rattle.sheet.proofs.RoundTrip.{written_read}
use Rattle.sheet_reader.specs.Reading.{records_of, if_accepted}
use Rattle.sheet_writer.specs.Written.{form_of, write_of, buffer_after}
use Rattle.grid_run.specs.GridRolled.{with_rows}
use Rattle.fissures_c.specs.Calls.{order_returns, count_after}

-- ---- reading and writing

module _ (s lent : List ℕ) where
  pub not-read : {n p : ℕ} → verdict_of s ≡ refused n p → (refused n p ≡ order_returns s (length lent)) × (lent ≡ after (order_returns s (length lent)) (ordered_form (records_of s)) lent)
  not-read e = let w = ordered_form (records_of s) in ending.as_refused w lent (length w) (length w) e

  pub as_written : AllBytes s → verdict_of s ≡ accepted → {sheet : Sheet} → sheet ≡ sheet_of (listing (commands_of s)) → (write_of sheet (length lent) ≡ order_returns s (length lent)) × (buffer_after sheet lent ≡ after (order_returns s (length lent)) (ordered_form (records_of s)) lent)
  as_written b e {sheet} q =
      let S = listing (commands_of s) in
      let w = written_read s b e in
      let f : form_of sheet ≡ ordered_form (records_of s) = ap form_of q ∙ w.written ∙ ap (λ v. ordered_form (if_accepted v S)) (sym e) in
      let r : write_of sheet (length lent) ≡ order_returns s (length lent) = (λ i. and_then ((ap check_of q ∙ w.checked ∙ sym e) i) (or_short (length (f i)) (length lent) (length (f i)))) in
      (r, λ i. after (r i) (f i) lent)

-- ---- the count of cells

module _ {R : Returned} (entered lent : ℕ) where
  pub counted : {n c : ℕ} → gives n ≡ R → c ≡ with_rows R entered → c ≡ count_after R entered lent
  unfolding with_rows count_after
  counted {c = c} e h = subst (λ (Q : Returned). c ≡ with_rows Q entered → c ≡ count_after Q entered lent) e (λ k. k) h

  pub not_counted : {n p : ℕ} → refused n p ≡ R → lent ≡ count_after R entered lent
  unfolding count_after
  not_counted e = subst (λ (Q : Returned). lent ≡ count_after Q entered lent) e refl
