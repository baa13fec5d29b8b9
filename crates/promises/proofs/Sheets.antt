-- Accepted sheets. Main theorems: `of_bytes` and `of_records`, what holds of every accepted sheet holds of the one in some bytes and of records handed in;
-- `checks`, records that were read can be handed in.
use mathlib.Core.Path.{◌≡◌, sym, ap, ◌∙◌, subst}
use mathlib.Core.List.{List}
use Prim.Native.Nat.{ℕ}
use Rattle.byte_order.specs.Bytes.{AllBytes}
use Rattle.sheet.specs.declared.Command.{Command}
use Rattle.sheet.specs.declared.Sheet.{Sheet}
use Rattle.sheet.specs.Accepted.{Accepted}
use Rattle.sheet.specs.Format.{encode_all}
use Rattle.sheet.specs.HandedIn.{handed_in, check_of, sheet_of}
use Rattle.sheet.specs.Listing.{Listing, listing}
use Rattle.sheet.specs.Ordered.{commands_in}
use Rattle.sheet.specs.Returned.{accepted}
use Rattle.sheet.specs.Scan.{verdict_of, commands_of}
use Rattle.sheet.proofs.RoundTrip.{Fit, all_fit, accepted_exactly, accepted_records, listed, handed_back}
use Rattle.grid_run.proofs.Given.{records_fit}

module _ (P : List Command → Type 0) (h : (l : List Command) → Accepted (listing l) → P l) where
  pub of_bytes : (s : List ℕ) → AllBytes s → verdict_of s ≡ accepted → P (commands_of s)
  of_bytes s b e = h (commands_of s) (accepted_records s b e)

  pub of_records : (s : Sheet) → Fit (handed_in s) → check_of s ≡ accepted → P (commands_in (handed_in s))
  of_records s f e = h (commands_in (handed_in s)) ((accepted_exactly (all_fit (handed_in s) f)).0 e)

pub checks : (S : Listing) → Accepted S → check_of (sheet_of S) ≡ accepted
checks S h =
    ap (λ (T : Listing). verdict_of (encode_all (commands_in T))) (handed_back S)
    ∙ (accepted_exactly (all_fit S (records_fit h))).1 (subst Accepted (sym (listed S)) h)
