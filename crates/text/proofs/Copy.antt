-- A line copied to the caller's buffer. Main theorems: `short` and `copied`, what the call returns and leaves where the buffer is too short and where it is not; `prints`, the same for the text that a line is known to hold.
use mathlib.Core.Path.{◌≡◌, refl, sym, ap, subst, ◌∙◌}
use mathlib.Core.List.{List, ◌++◌}
use Prim.Native.Nat.{ℕ, ◌≤◌, ◌<◌}
use native.Mathlib.Omega.{arith}
use lib.ListN.{length, drop}
use Rattle.sheet.specs.Lent.{and_then}
use Rattle.sheet.specs.Returned.{accepted}
use Rattle.sheet.proofs.Lent as ending
use Rattle.text.specs.declared.Draft.{Draft}
use Rattle.std.specs.Prelude.{Result, Ok, Err}
use Rattle.sheet.specs.declared.Refusal.{Refusal}
use Rattle.sheet.specs.declared.RefusalKind.TheVariants.{OutputTooShort}
use Rattle.text.specs.Printed.{Prints}
use Rattle.text.specs.Held.{text_in, Holds}

module _ (text before : List ℕ) {n : ℕ} (e : length text ≡ n) where
  pub short : length before < n → Prints text before before (Err (record { kind = OutputTooShort; place = n }))
  unfolding and_then
  short h = let (a, b) = ending.too_short {v = accepted} text before (length text) refl e h in record { answer = a; buffer = b }

  pub copied : {exit : List ℕ} → n ≤ length before → exit ≡ text ++ drop n before → Prints text before exit (Ok n)
  unfolding and_then
  copied h k =
      let (a, b) = ending.stored {v = accepted} text before (length text) refl e (omega arith) (k ∙ ap (λ (m : ℕ). text ++ drop m before) (sym e)) in
      record { answer = a; buffer = b }

pub prints : {text before exit : List ℕ} {line : Draft} {r : Result ℕ Refusal} → Holds text line → Prints (text_in line) before exit r → Prints text before exit r
prints {text} {before} {exit} {line} {r} h p = subst (λ (t : List ℕ). Prints t before exit r) h.is p
