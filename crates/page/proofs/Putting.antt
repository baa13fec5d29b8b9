-- Texts put into a buffer one behind the other. Main theorems: `in_front` and `in_part`, what a line written into the buffer or into its rest leaves there; `one_row_more`, the line of the next row.
use mathlib.Core.Path.{◌≡◌, refl, sym, ap, ◌∙◌}
use mathlib.Core.List.{List, [], ◌∷◌, ◌++◌, append_assoc, append-nil}
use Prim.Native.Nat.{ℕ, ◌+◌, ◌-◌, ◌≤◌}
use native.Mathlib.Numerals.{add-one}
use native.Mathlib.Omega.{arith}
use lib.ListN.{length, take, drop, length-append, length-drop, length-take}
use lib.Seq.{length-take-le, take_at}
use borrow.Rule.Slice.PartMut.{mid_of, post_of, mid_len}
use Rattle.sheet.specs.Lent.{and_then}
use Rattle.sheet.specs.Returned.{accepted, gives}
use Rattle.sheet.proofs.Lent.{said_given, put}
use Rattle.rule.specs.declared.Row.{Row}
use Rattle.std.specs.Prelude.{Option, Some, None, Result, Ok, Err}
use Rattle.row.specs.Stored.{row_in, rows_in}
use Rattle.sheet.specs.declared.Refusal.{Refusal}
use Rattle.text.specs.Lines.{line_of}
use Rattle.sheet.specs.Answer.{answered}
use Rattle.text.specs.Printed.{Prints}
use Rattle.page.specs.Rows.{lines_of}
use Rattle.page.specs.Behind.{Behind, length_in}

-- ---- one text

length_given : (t : Result ℕ Refusal) (n : ℕ) → answered t ≡ gives n → length_in t ≡ n
length_given (Ok m) n e = cc
length_given (Err r) n e = absurd (let z : ◌≡◌ {A = ℕ} 0 1 = cc in omega arith)

module _ {text before exit : List ℕ} {t : Result ℕ Refusal} (h : Prints text before exit t) (room : length text ≤ length before) where
  pub text_long : length_in t ≡ length text
  unfolding and_then
  text_long = length_given t (length text) (h.answer ∙ said_given {v = accepted} (length text) (length before) (length text) refl room)

  text_there : exit ≡ text ++ drop (length text) before
  unfolding and_then
  text_there = h.buffer ∙ put text before (said_given {v = accepted} (length text) (length before) (length text) refl room)

  pub in_front : {end : ℕ} → end ≡ 0 + length_in t → Behind text 0 before end exit
  in_front {end} e =
      let n : length text ≡ end = omega (arith, text_long) in
      record {
        is = ap (take end) text_there ∙ take_at text (drop (length text) before) end n;
        long = omega arith;
        same = ap length text_there ∙ length-append text (drop (length text) before) ∙ omega (arith, length-drop (length text) before);
      }

-- the part of a buffer from `at` on that is lent
module _ (at : ℕ) (out : List ℕ) (h : at ≤ length out) where
  pub mid_long : length (mid_of at (length out - at) out) ≡ length out - at
  mid_long = mid_len at (length out) out (omega arith)

  pub post_none : at + (length (mid_of at (length out - at) out) + length (post_of at (length out - at) out)) ≡ length out
  post_none = omega (arith, mid_long, length-drop at out, length-drop (length out - at) (drop at out))

-- into the part of a buffer from `at` on, of which `lent` is lent
pub in_part : {text before lent part : List ℕ} {t : Result ℕ Refusal} {at end : ℕ} (more : List ℕ) → Prints text lent part t → length text ≤ length lent → end ≡ at + length_in t
    → at + (length lent + length more) ≡ length before → Behind text at before end (take at before ++ (part ++ more))
in_part {text} {before} {lent} {part} {t} {at} {end} more h room e sizes =
    let n = text_long h room in
    let p = text_there h room in
    let d = length-drop (length text) lent in
    let rest = drop (length text) lent in
    let a : length (take at before) ≡ at = length-take-le at before (omega arith) in
    let q : take at before ++ (part ++ more) ≡ (take at before ++ text) ++ (rest ++ more) = ap (λ (y : List ℕ). take at before ++ (y ++ more)) p ∙ simp append_assoc in
    let w : length (take at before ++ text) ≡ end = length-append (take at before) text ∙ omega arith in
    record {
      is = ap (take end) q ∙ take_at (take at before ++ text) (rest ++ more) end w;
      long = omega arith;
      same = ap length q ∙ simp length-append (omega arith);
    }

-- ---- one behind the other

pub nothing_put : (at : ℕ) (before : List ℕ) → Behind [] at before at before
nothing_put at before = record { is = sym (append-nil (take at before)); long = omega arith; same = refl }

pub and_behind : {a b before mid exit : List ℕ} {at here end : ℕ} → Behind a at before here mid → Behind b here mid end exit → Behind (a ++ b) at before end exit
and_behind {a} {b} {before} {mid} {exit} {at} {here} {end} h k =
    record {
      is = k.is ∙ ap (λ (y : List ℕ). y ++ b) h.is ∙ append_assoc (take at before) a b;
      long = omega (arith, h.long, k.long, length-append a b);
      same = k.same ∙ h.same;
    }

-- the text's end is in the buffer
pub within : {text before exit : List ℕ} {end : ℕ} → Behind text 0 before end exit → end ≤ length exit
within {exit = exit} {end} b = omega (arith, ap length b.is, length-take end exit, b.long)

-- ---- rows

lines_snoc : (l : List Row) (r : Row) → lines_of (l ++ (r ∷ [])) ≡ lines_of l ++ line_of r
unfolding lines_of
lines_snoc [] r = append-nil (line_of r)
lines_snoc (q ∷ l) r = rw (lines_snoc l r, append_assoc)

pub no_rows_yet : (s : List ℕ) (at : ℕ) (before : List ℕ) → Behind (lines_of (rows_in s 0)) at before at before
unfolding lines_of rows_in
no_rows_yet s at before = nothing_put at before

module _ (s : List ℕ) (k : ℕ) {at : ℕ} {before : List ℕ} {here : ℕ} {mid : List ℕ} {o : Option Row} (h : Behind (lines_of (rows_in s k)) at before here mid) (e : o ≡ row_in s k) where
  pub one_row_more : {row : Row} {end : ℕ} {exit : List ℕ} → o ≡ Some row → Behind (line_of row) here mid end exit → Behind (lines_of (rows_in s (k + 1))) at before end exit
  unfolding rows_in
  one_row_more {row} f b = let g : row_in s k ≡ Some row = sym e ∙ f in rw (add-one, g, lines_snoc (rows_in s k) row) (and_behind h b)

  pub no_row_more : o ≡ None → Behind (lines_of (rows_in s (k + 1))) at before here mid
  unfolding rows_in
  no_row_more f = let g : row_in s k ≡ None = sym e ∙ f in rw (add-one, g, append-nil) h
