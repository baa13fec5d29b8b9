-- A session just opened over a sheet's bytes shows the front of the sheet's one roll.
use mathlib.Core.Path.{◌≡◌, sym, ap, ◌∙◌}
use mathlib.Core.List.{List}
use Rattle.std.specs.Prelude.{Result, Err}
use Prim.Native.Nat.{ℕ, ◌*◌}
use lib.ListN.{length, take}
use Rattle.byte_order.specs.Bytes.{AllBytes}
use Rattle.sheet.specs.Lent.{or_short, after}
use Rattle.sheet.specs.Listing.{Listing, listing}
use Rattle.sheet.specs.Returned.{Returned, accepted, refusal}
use Rattle.sheet.specs.Scan.{verdict_of, commands_of}
use Rattle.sheet.specs.HandedIn.{handed_in, check_of, sheet_of}
use Rattle.sheet.proofs.Lent.{said_refused, kept}
use Rattle.sheet.proofs.RoundTrip.{handed_back, written_read}
use Rattle.rule.specs.declared.Row.{Row}
use Rattle.rule.specs.RowBytes.{roll_bytes, row_width}
use Rattle.rule.specs.Selection.{roll_of}
use Rattle.session.specs.declared.Session.{Session}
use Rattle.sheet.specs.declared.Refusal.{Refusal}
use Rattle.session.specs.Stepping.{begun, next_rows, advance_returns, advance_session, advance_of, Advances}
use Rattle.sheet_reader.specs.Reading.{records_of}
use Rattle.session.proofs.Outcome.{opened_over}
use Rattle.bulletin.specs.Bulletin.{first_rows, first_returns, Shows}

module _ (s : List ℕ) (n : ℕ) (lent : List ℕ) where
  abbrev S : Listing
  S = listing (commands_of s)

  abbrev F : List Row
  F = first_rows s n

  pub not_opened : {f : Refusal} → verdict_of s ≡ refusal f → {t : Session} → t ≡ begun (sheet_of (records_of s)) → Shows s n lent lent (record { count = Err f; session = t })
  unfolding advance_session
  not_opened e z =
      let q = said_refused (or_short (row_width * length F) (length lent) (length F)) e in
      record {
        answer = sym q;
        session = z ∙ sym (ap (λ (R : Returned). advance_session R (begun (sheet_of (records_of s)))) q);
        buffer = sym (kept (roll_bytes F) lent q);
      }

  module _ (b : AllBytes s) (e : verdict_of s ≡ accepted) {t t' : Session} (z : t ≡ begun (sheet_of (records_of s))) {exit : List ℕ} {r : Result ℕ Refusal} (h : Advances t n lent t' exit r) where
    y : t ≡ begun (sheet_of S)
    y = opened_over s e z

    same_records : handed_in t.sheet ≡ S
    same_records = ap (λ (u : Session). handed_in u.sheet) y ∙ handed_back S

    same_verdict : check_of t.sheet ≡ verdict_of s
    same_verdict = ap (λ (u : Session). check_of u.sheet) y ∙ (written_read s b e).checked ∙ sym e

    same_rows : next_rows t n ≡ F
    same_rows = ap (λ (u : Session). next_rows u n) y ∙ ap (λ (T : Listing). take n (roll_of T)) (ap (λ (u : Session). handed_in u.sheet) (sym y) ∙ same_records)

    same_answer : advance_of t n (length lent) ≡ first_returns s n (length lent)
    same_answer = (λ j. advance_returns (same_verdict j) (same_rows j) (length lent))

    pub opened : Shows s n lent exit (record { count = r; session = t' })
    opened =
        record {
          answer = h.answer ∙ same_answer;
          session = h.session ∙ (λ j. advance_session (same_answer j) (z j));
          buffer = h.buffer ∙ (λ j. after (same_answer j) (roll_bytes (same_rows j)) lent);
        }
