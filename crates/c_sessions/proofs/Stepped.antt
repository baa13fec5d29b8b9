-- A session as numbers. Main theorems: `not_accepted`, `short` and `enough`, what is judged; `refused-gives` and `refused-leaves`, what each call
-- gives and leaves where that is refused; `started`, `advanced` and `running`, what it gives and leaves else.
use mathlib.Core.Path.{◌≡◌, refl, sym, ap, ◌∙◌, subst}
use mathlib.Core.Bool.{Bool, true, false}
use mathlib.Core.List.{List, [], ◌∷◌}
use Prim.Native.Nat.{ℕ, ◌-◌, ◌*◌, ◌≤◌, ◌<◌}
use native.Mathlib.Omega.{arith}
use Rattle.std.specs.Prelude.{Result, Ok, Err}
use borrow.Author.Tests.{lt-ltb, le-ltb, ltb-false}
use lib.Dec.{ltb}
use lib.ListN.{length, drop, set, length-drop}
use Rattle.sheet.specs.declared.Sheet.{Sheet}
use Rattle.sheet.specs.HandedIn.{handed_in}
use Rattle.sheet.specs.Lent.{and_then, or_short, after}
use Rattle.sheet.specs.Listing.{listing}
use Rattle.sheet.specs.Returned.{Returned, accepted, gives, refused, refusal}
use Rattle.sheet.specs.Scan.{verdict_of, commands_of}
use Rattle.sheet.proofs.Decided.{Decided, decided}
use Rattle.sheet.proofs.Lent.{said_refused, kept, put}
use Rattle.rule.specs.declared.Row.{Row}
use Rattle.rule.specs.RowBytes.{roll_bytes, row_width}
use Rattle.rule.specs.Selection.{roll_of}
use Rattle.source.specs.Accepts.{Ready}
use Rattle.cursor.specs.declared.NextRows.{NextRows}
use Rattle.roll_steps.specs.declared.NoRoom.{NoRoom}
use Rattle.roll_steps.specs.Stepped.{step_returns, stepped, step_of, Stands, GoesOn}
use Rattle.roll_steps.proofs.Outcome.{every_row}
use Rattle.c_sessions.specs.Steps.{session_size, shown, session_fits, judge, roll_of_bytes, numbers_at, start_gives, rows_behind, shown_then, advance_gives, running_gives}

-- two numbers put in front
pub two-set : (l : List ℕ) (a b : ℕ) → session_size ≤ length l → set (set l 0 a) 1 b ≡ a ∷ (b ∷ drop session_size l)
two-set [] a b h = absurd (omega arith)
two-set (x ∷ []) a b h = absurd (omega arith)
two-set (x ∷ (y ∷ l)) a b h = refl

-- ---- what is judged

pub record Fits (s session : List ℕ) : Type 0 where
  pub accepts : verdict_of s ≡ accepted
  pub room : session_size ≤ length session

fits_so : (v : Returned) (session : List ℕ) → Decided v → and_then v (session_fits session) ≡ accepted → (v ≡ accepted) × (session_size ≤ length session)
unfolding and_then session_fits
fits_so accepted session d e = (refl, go (ltb (length session) session_size) refl)
  where
    go : (b : Bool) → ltb (length session) session_size ≡ b → session_size ≤ length session
    go true q = absurd (let z : ◌≡◌ {A = ℕ} 0 1 = cc (rw q at e) in omega arith)
    go false q = ltb-false (length session) session_size q
fits_so (gives n) session d e = absurd d
fits_so (refused n p) session d e = absurd (let z : ◌≡◌ {A = ℕ} 0 1 = cc in omega arith)

module _ (s session : List ℕ) where
  pub fits : judge s session ≡ accepted → Fits s session
  fits e = let f = fits_so (verdict_of s) session (decided s) e in record { accepts = f.0; room = f.1 }

  pub not_accepted : {n p : ℕ} → verdict_of s ≡ refused n p → judge s session ≡ refused n p
  not_accepted e = said_refused (session_fits session) e

  pub short : verdict_of s ≡ accepted → length session < session_size → judge s session ≡ refused 12 session_size
  unfolding and_then session_fits
  short e h = rw (e, lt-ltb (length session) session_size h) refl

  pub enough : verdict_of s ≡ accepted → session_size ≤ length session → judge s session ≡ accepted
  unfolding and_then session_fits
  enough e h = rw (e, le-ltb (length session) session_size h) refl

  -- ---- the calls on a refused sheet, or on too few numbers

  module _ {n p : ℕ} (w : Returned) (e : judge s session ≡ refused n p) where
    pub refused-gives : refused n p ≡ and_then (judge s session) w
    refused-gives = sym (said_refused w e)

    pub refused-leaves : (bytes lent : List ℕ) → lent ≡ after (and_then (judge s session) w) bytes lent
    refused-leaves bytes lent = sym (kept bytes lent (said_refused w e))

  -- ---- the calls on an accepted one

  module _ {sheet : Sheet} (q : Ready (judge s session) (listing (commands_of s)) sheet) where
    same_roll : roll_of (handed_in sheet) ≡ roll_of_bytes s
    same_roll = ap roll_of q.same

    every : length (roll_of_bytes s) ≡ sheet.ntracks
    every = ap length (sym same_roll) ∙ every_row q.handed

    said : (w : Returned) → w ≡ and_then (judge s session) w
    unfolding and_then
    said w = sym (ap (λ (v : Returned). and_then v w) q.accepts)

    pub started : {then : List ℕ} → then ≡ 0 ∷ (sheet.ntracks ∷ drop session_size session) → (gives 0 ≡ start_gives s session) × (then ≡ after (start_gives s session) (numbers_at s 0) session)
    started f = (said (gives 0), f ∙ ap (λ (k : ℕ). 0 ∷ (k ∷ drop session_size session)) (sym every) ∙ sym (put (numbers_at s 0) session (sym (said (gives 0)))))

    pub running : {k : ℕ} → k ≡ sheet.ntracks - shown session → gives k ≡ running_gives s session
    running f =
        let rows = roll_of_bytes s in
        ap gives (f ∙ ap (λ (m : ℕ). m - shown session) (sym every) ∙ sym (length-drop (shown session) rows)) ∙ said (gives (length (drop (shown session) rows)))

    module _ (n : ℕ) (out : List ℕ) {exit : List ℕ} {a : Result NextRows NoRoom} (h : GoesOn (roll_of (handed_in sheet)) (shown session) n out exit a) where
      abbrev rows : List Row
      rows = rows_behind s session n

      abbrev R : Returned
      R = advance_gives s session n (length out)

      pub goes : GoesOn (roll_of_bytes s) (shown session) n out exit a
      goes = subst (λ (l : List Row). GoesOn l (shown session) n out exit a) same_roll h

      step_said : step_returns rows (length out) ≡ R
      step_said = said (or_short (row_width * length rows) (length out) (length rows))

      pub buffer : exit ≡ after R (roll_bytes rows) out
      buffer = goes.buffer ∙ ap (λ (v : Returned). after v (roll_bytes rows) out) step_said

      pub step_refused : {e : NoRoom} → a ≡ Err e → (refusal e.refusal ≡ R) × (session ≡ after R (numbers_at s (shown_then s session n)) session)
      step_refused {e} g =
          let j : refusal e.refusal ≡ R = ap stepped (sym g) ∙ goes.answer ∙ step_said in
          (j, sym (kept (numbers_at s (shown_then s session n)) session (sym j)))

      pub advanced : {step : NextRows} {then : List ℕ} → a ≡ Ok step → then ≡ step.shown ∷ (step.running ∷ drop session_size session) → (gives step.count ≡ R) × (then ≡ after R (numbers_at s (shown_then s session n)) session)
      advanced {step} g f =
          let j : gives step.count ≡ R = ap stepped (sym g) ∙ goes.answer ∙ step_said in
          let w : Stands (roll_of_bytes s) (shown session) n step = subst (λ (x : Result NextRows NoRoom). Stands (roll_of_bytes s) (shown session) n (step_of x)) g goes.stands in
          let c : step.running ≡ length (drop (shown_then s session n) (roll_of_bytes s)) = w.running ∙ ap (λ (k : ℕ). length (drop k (roll_of_bytes s))) w.shown in
          (j, f ∙ (λ i. w.shown i ∷ (c i ∷ drop session_size session)) ∙ sym (put (numbers_at s (shown_then s session n)) session (sym j)))
