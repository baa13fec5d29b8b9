-- What a step writes and returns. Main theorems: `copied` and `none`, a part of a roll in the buffer; `too_short` and `steps_on`, the two endings of
-- a step. `every_row`: an accepted sheet has as many rows as tracks.
use Rattle.std.specs.Prelude.{Ok, Err}
use mathlib.Core.Path.{◌≡◌, refl, sym, ap, ◌∙◌}
use mathlib.Core.List.{List, ◌++◌}
use Prim.Native.Nat.{ℕ, ◌+◌, ◌-◌, ◌*◌, ◌≤◌, ◌<◌, min}
use native.Mathlib.Omega.{arith}
use lib.ListN.{length, take, drop, length-take, length-drop}
use Rattle.sheet.specs.declared.Sheet.{Sheet}
use Rattle.sheet.specs.HandedIn.{handed_in}
use Rattle.sheet.specs.Lent.{and_then}
use Rattle.sheet.specs.Returned.{accepted}
use Rattle.sheet.specs.declared.RefusalKind.TheVariants.{OutputTooShort}
use Rattle.sheet.proofs.Lent as ending
use Rattle.rule.specs.declared.Row.{Row}
use Rattle.rule.specs.RowBytes.{roll_bytes, row_width}
use Rattle.rule.specs.Selection.{roll_of}
use Rattle.rule.proofs.Existence.{roll_length}
use Rattle.rule.proofs.RowBytes.{roll_bytes_length}
use Rattle.records.specs.Records.{Handed}
use Rattle.plain_run.proofs.Outcome.{tracks_count}
use Rattle.row.specs.Written.{Written}
use Rattle.cursor.specs.declared.NextRows.{NextRows}
use Rattle.cursor.specs.Cursor.{Passes}
use Rattle.roll_steps.specs.Stepped.{next_of, shown_then, Stands, GoesOn}
use Rattle.roll_steps.proofs.Parts.{take_min, drop_min, rows_at}

pub every_row : {s : Sheet} → Handed s → length (roll_of (handed_in s)) ≡ s.ntracks
every_row {s} h = roll_length (handed_in s) h.accepted ∙ tracks_count h

-- ---- rows in the buffer

pub none : (roll : List Row) (before : List ℕ) → Written (take 0 roll) before before
unfolding roll_bytes
none roll before = record { is = refl }

pub copied :
    (from count : ℕ) (roll : List Row) (rest : List ℕ) {before exit whole part : List ℕ} → from + count ≤ length roll → whole ≡ roll_bytes roll ++ rest
    → part ≡ take (row_width * from + row_width * count - row_width * from) (drop (row_width * from) whole) → exit ≡ part ++ drop (row_width * count) before
    → Written (take count (drop from roll)) before exit
copied from count roll rest {before} {exit} {whole} {part} h w p q =
    let rows = take count (drop from roll) in
    let i : row_width * from + row_width * count - row_width * from ≡ row_width * count = omega arith in
    let many : count ≡ length rows = omega (arith, length-take count (drop from roll), length-drop from roll, h) in
    let g : part ≡ roll_bytes rows =
    p
    ∙ ap (λ (j : ℕ). take j (drop (row_width * from) whole)) i
    ∙ ap (λ (x : List ℕ). take (row_width * count) (drop (row_width * from) x)) w
    ∙ rows_at from count roll rest h in
    record {
      is = q
          ∙ ap (λ (y : List ℕ). y ++ drop (row_width * count) before) g
          ∙ ap (λ (j : ℕ). roll_bytes rows ++ drop (row_width * j) before) many;
    }

-- ---- a step

module _ (roll : List Row) (shown n : ℕ) (before : List ℕ) {step : NextRows} (p : Passes (length roll) shown n step) where
  abbrev rows : List Row
  rows = next_of roll shown n

  as_many : length rows ≡ step.count
  as_many = length-take n (drop shown roll) ∙ omega (arith, length-drop shown roll, p.count)

  same_rows : take step.count (drop step.from roll) ≡ rows
  same_rows =
      let c : step.count ≡ min n (length (drop shown roll)) = omega (arith, length-drop shown roll, p.count) in
      ap (λ (i : ℕ). take step.count (drop i roll)) p.from
      ∙ ap (take step.count) (drop_min shown roll)
      ∙ ap (λ (j : ℕ). take j (drop shown roll)) c
      ∙ take_min n (drop shown roll)

  shown_then_lem : step.shown ≡ shown_then roll shown n
  shown_then_lem = omega (arith, p.shown, p.from, as_many)

  running_then : step.running ≡ length (drop step.shown roll)
  running_then = p.running ∙ sym (length-drop step.shown roll)

  stands : Stands roll shown n step
  stands = record { shown = shown_then_lem; running = running_then }

  pub too_short : length before < row_width * step.count → GoesOn roll shown n before before (Err (record { refusal = record { kind = OutputTooShort; place = row_width * step.count }; step = step }))
  unfolding and_then
  too_short h =
      let (a, b) = ending.too_short {v = accepted} (roll_bytes rows) before (length rows) refl (ap (λ (j : ℕ). row_width * j) as_many) h in
      record { answer = a; stands = stands; buffer = b }

  pub steps_on : {exit : List ℕ} → row_width * step.count ≤ length before → Written (take step.count (drop step.from roll)) before exit → GoesOn roll shown n before exit (Ok step)
  unfolding and_then
  steps_on {exit} h w =
      let g : exit ≡ roll_bytes rows ++ drop (length (roll_bytes rows)) before =
      w.is
      ∙ ap (λ (l : List Row). roll_bytes l ++ drop (row_width * length l) before) same_rows
      ∙ ap (λ (j : ℕ). roll_bytes rows ++ drop j before) (sym (roll_bytes_length rows)) in
      let (a, b) = ending.stored {v = accepted} (roll_bytes rows) before (row_width * length rows) refl as_many (omega (arith, as_many)) g in
      record { answer = a; stands = stands; buffer = b }
