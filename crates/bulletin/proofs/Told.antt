-- What the bulletin prints. Main theorems: `tells`, the lines of the first three rows of the one roll and the number of the rows behind them; `tells_refusal`.
use mathlib.Core.Path.{◌≡◌, refl, sym, ap, ◌∙◌, subst}
use mathlib.Core.List.{List, ◌++◌}
use Prim.Native.Nat.{ℕ, ◌+◌, ◌*◌, ◌≤◌, min}
use native.Mathlib.Omega.{arith}
use lib.ListN.{length, take, drop, length-take, length-drop}
use Rattle.byte_order.specs.Bytes.{AllBytes}
use Rattle.sheet.specs.HandedIn.{handed_in, check_of, sheet_of}
use Rattle.sheet.specs.Lent.{and_then}
use Rattle.sheet.specs.Listing.{Listing, listing}
use Rattle.sheet.specs.Returned.{Returned, accepted, gives, refused, refusal}
use Rattle.sheet.specs.Scan.{verdict_of, commands_of}
use Rattle.sheet.proofs.Decided.{decided}
use Rattle.sheet.proofs.Lent.{said_given, put, gave, refused_so}
use Rattle.sheet.proofs.RoundTrip.{accepted_records, handed_back, written_read}
use Rattle.rule.specs.declared.Row.{Row}
use Rattle.rule.specs.RowBytes.{roll_bytes, row_width}
use Rattle.rule.specs.Selection.{roll_of}
use Rattle.std.specs.Prelude.{Ok, Err}
use Rattle.sheet.specs.declared.Refusal.{Refusal}
use Rattle.session.specs.declared.Session.{Session}
use Rattle.bulletin.specs.declared.FirstRows.{FirstRows}
use Rattle.sheet.specs.Answer.{answered}
use Rattle.session.proofs.Outcome.{opened_over}
use Rattle.session.specs.Stepping.{begun, advance_session, running_of}
use Rattle.row.specs.Stored.{rows_in}
use Rattle.row.proofs.ReadBack.{front_back}
use Rattle.text.specs.Lines.{refused_of}
use Rattle.page.specs.Behind.{Behind}
use Rattle.page.specs.Rows.{lines_of}
use Rattle.page.proofs.Putting.{and_behind}
use Rattle.bulletin.specs.Bulletin.{first_rows, first_returns, Shows, running_text, bulletin_for, bulletin_of}

-- the rows behind the first three, counted from those shown
left_behind : (roll : List Row) → length (drop (min 0 (length roll) + length (take 3 roll)) roll) ≡ length (drop 3 roll)
left_behind roll = simp (length-drop, length-take) (omega arith)

-- what is known where rows are given
pub record Read (s rows : List ℕ) (n : ℕ) (t : Session) : Type 0 where
  pub accepts : verdict_of s ≡ accepted
  pub few : n ≤ 3
  pub are : rows_in rows n ≡ first_rows s 3
  pub running : running_of (check_of t.sheet) t ≡ gives (length (drop 3 (roll_of (listing (commands_of s)))))

module _ (s : List ℕ) (bytes : AllBytes s) where
  abbrev S : Listing
  S = listing (commands_of s)

  abbrev F : List Row
  F = first_rows s 3

  three : length F ≤ 3
  three = simp length-take (omega arith)

  -- the session handed back has shown the first three
  still : verdict_of s ≡ accepted → {t : Session} → t ≡ advance_session (gives (length F)) (begun (sheet_of S)) → running_of (check_of t.sheet) t ≡ gives (length (drop 3 (roll_of S)))
  unfolding and_then advance_session
  still e {t} q =
      let i : handed_in (sheet_of S) ≡ S = handed_back S in
      let k : check_of (sheet_of S) ≡ accepted = (written_read s bytes e).checked in
      ap (λ (u : Session). running_of (check_of u.sheet) u) q
      ∙ (λ j. and_then (k j) (gives (length (drop (min 0 (length (roll_of (i j))) + length F) (roll_of (i j))))))
      ∙ ap gives (left_behind (roll_of S))

  module _ {before rows : List ℕ} (long : length before ≡ 3 * row_width) {r : FirstRows} (h : Shows s 3 before rows r) where
    pub rows-read : {n : ℕ} → r.count ≡ Ok n → Read s rows n r.session
    rows-read {n} q =
        let g = gave (row_width * length F) (length before) (length F) (decided s) (sym (ap answered q) ∙ h.answer) in
        let z = h.session ∙ ap (advance_session (first_returns s 3 (length before))) (opened_over s g.accepts refl) in
        let v = said_given (row_width * length F) (length before) (length F) g.accepts g.room in
        let x = h.buffer ∙ put (roll_bytes F) before v in
        let rest = drop (length (roll_bytes F)) before in
        record {
          accepts = g.accepts;
          few = omega (arith, g.count, three);
          are = ap (λ (b : List ℕ). rows_in b n) x ∙ subst (λ (k : ℕ). rows_in (roll_bytes F ++ rest) k ≡ F) (sym g.count) (front_back S (accepted_records s bytes g.accepts) 3 rest);
          running = still g.accepts (z ∙ ap (λ (R : Returned). advance_session R (begun (sheet_of S))) v);
        }

    pub as_refused : {f : Refusal} → r.count ≡ Err f → verdict_of s ≡ refusal f
    as_refused q = refused_so (row_width * length F) (length before) (length F) (decided s) (λ e. omega (arith, three, long)) (sym (ap answered q) ∙ h.answer)

  module _ {out exit : List ℕ} {end : ℕ} where
    pub tells : {rows mid : List ℕ} {at n : ℕ} {t : Session} → Read s rows n t → Behind (lines_of (rows_in rows n)) 0 out at mid → Behind (running_text (running_of (check_of t.sheet) t)) at mid end exit → take end exit ≡ bulletin_of s
    unfolding bulletin_for
    tells d h k = (and_behind h k).is ∙ rw (d.accepts, d.are, d.running) refl

    pub tells_refusal : {n p : ℕ} → verdict_of s ≡ refused n p → Behind (refused_of n p) 0 out end exit → take end exit ≡ bulletin_of s
    unfolding bulletin_for
    tells_refusal e b = b.is ∙ rw e refl
