-- What the calls on a session return and leave, in each of their endings.
use Rattle.std.specs.Prelude.{Result, Ok, Err}
use mathlib.Core.Path.{◌≡◌, refl, sym, ap, ◌∙◌, subst}
use mathlib.Core.List.{List}
use Prim.Native.Nat.{ℕ, ◌+◌, ◌-◌, ◌*◌, min}
use native.Mathlib.Omega.{arith}
use lib.ListN.{length, length-drop}
use Rattle.sheet.specs.Returned.{Returned, accepted, gives, refusal}
use Rattle.sheet.specs.HandedIn.{handed_in, listed_form, check_of, sheet_of}
use Rattle.sheet.specs.Scan.{verdict_of, commands_of}
use Rattle.sheet_reader.specs.Reading.{if_accepted, records_of}
use Rattle.sheet.specs.Lent.{and_then}
use Rattle.sheet.proofs.Decided.{decided}
use Rattle.sheet.proofs.Lent as ending
use Rattle.rule.specs.RowBytes.{roll_bytes, row_width}
use Rattle.rule.specs.Selection.{roll_of}
use Rattle.rule.proofs.Existence.{roll_length}
use Rattle.source.specs.Accepts.{Ready}
use Rattle.sheet.specs.declared.Sheet.{Sheet}
use Rattle.sheet.specs.declared.Refusal.{Refusal}
use Rattle.sheet.specs.Accepted.{Accepted}
use Rattle.sheet.specs.Listing.{Listing, listing}
use Rattle.plain_run.proofs.Outcome.{tracks_count}
use Rattle.sheet.specs.Lent.{after}
use Rattle.cursor.specs.declared.NextRows.{NextRows}
use Rattle.roll_steps.specs.declared.NoRoom.{NoRoom}
use Rattle.roll_steps.specs.Stepped.{step_returns, stepped, step_of, Stands, GoesOn}
use Rattle.session.specs.declared.Session.{Session}
use Rattle.session.specs.Stepping.{roll_in, rows_left, next_rows, shown_in, restart, begun, Restarts, advance_session, advance_of, Advances, running_of}

-- a session opened over accepted bytes has the records that they list
pub opened_over : (b : List ℕ) {s : Session} → verdict_of b ≡ accepted → s ≡ begun (sheet_of (records_of b)) → s ≡ begun (sheet_of (listing (commands_of b)))
opened_over b e q = q ∙ ap (λ (v : Returned). begun (sheet_of (if_accepted v (listing (commands_of b))))) e

-- an accepted sheet has as many rows as tracks
pub every_row : (s : Session) {v : Returned} {sheet : Sheet} → Ready v (handed_in s.sheet) sheet → length (roll_in s) ≡ sheet.ntracks
every_row s h =
    roll_length (handed_in s.sheet) (subst Accepted h.same h.handed.accepted)
    ∙ ap (λ (S : Listing). length S.tracks) (sym h.same)
    ∙ tracks_count h.handed

module _ (s : Session) (n : ℕ) (before : List ℕ) where
  -- as the sheet is refused
  pub sheet_refused : (r : Refusal) → check_of s.sheet ≡ refusal r → Advances s n before s before (Err r)
  unfolding advance_session
  sheet_refused r e =
      let (x, b) = ending.as_refused (roll_bytes (next_rows s n)) before (row_width * length (next_rows s n)) (length (next_rows s n)) e in
      record { answer = x; session = rw (sym x) refl; buffer = b }

  -- as the step through its roll goes
  module _ {S : Listing} {exit : List ℕ} {r : Result NextRows NoRoom} (ok : check_of s.sheet ≡ accepted) (o : S ≡ handed_in s.sheet) (h : GoesOn (roll_of S) s.shown n before exit r) where
    on : GoesOn (roll_in s) s.shown n before exit r
    on = subst (λ (T : Listing). GoesOn (roll_of T) s.shown n before exit r) o h

    goes : step_returns (next_rows s n) (length before) ≡ advance_of s n (length before)
    unfolding and_then
    goes = rw ok refl

    pub step_refused : (f : NoRoom) → r ≡ Err f → Advances s n before s exit (Err f.refusal)
    unfolding advance_session
    step_refused f e =
        let x = sym (ap stepped e) ∙ on.answer ∙ goes in
        record { answer = x; session = rw (sym x) refl; buffer = on.buffer ∙ ap (λ (R : Returned). after R (roll_bytes (next_rows s n)) before) goes }

    pub step_on : (step : NextRows) → r ≡ Ok step → Advances s n before (record { sheet = s.sheet; shown = step.shown }) exit (Ok step.count)
    unfolding advance_session
    step_on step e =
        let x = sym (ap stepped e) ∙ on.answer ∙ goes in
        let stands : Stands (roll_in s) s.shown n step = subst (λ (z : Result NextRows NoRoom). Stands (roll_in s) s.shown n (step_of z)) e on.stands in
        let rows = next_rows s n in
        let count = (ending.gave (row_width * length rows) (length before) (length rows) (decided (listed_form s.sheet)) x).count in
        let shown = stands.shown ∙ ap (λ (j : ℕ). shown_in s + j) (sym count) in
        record { answer = x; session = rw (sym x) (ap (λ (j : ℕ). record { sheet = s.sheet; shown = j }) shown); buffer = on.buffer ∙ ap (λ (R : Returned). after R (roll_bytes (next_rows s n)) before) goes }

module _ (s : Session) where
  pub restarted : check_of s.sheet ≡ accepted → Restarts s (begun s.sheet) (Ok tt)
  unfolding restart
  restarted ok = record { answer = sym ok; session = rw ok refl }

  pub as_it_was : (r : Refusal) → check_of s.sheet ≡ refusal r → Restarts s s (Err r)
  unfolding restart
  as_it_was r e = record { answer = sym e; session = rw e refl }

  -- the number still running
  pub runs_on : {all from : ℕ} → check_of s.sheet ≡ accepted → length (roll_in s) ≡ all → from ≡ min s.shown all → gives (all - from) ≡ running_of (check_of s.sheet) s
  unfolding and_then
  runs_on {all} {from} ok a f =
      let e : all - from ≡ length (rows_left s) = omega (arith, length-drop s.shown (roll_in s)) in
      rw ok (ap gives e)

  pub not_running : (r : Refusal) → check_of s.sheet ≡ refusal r → refusal r ≡ running_of (check_of s.sheet) s
  not_running r e = sym (ending.said_refused (gives (length (rows_left s))) e)
