-- What the plain run returns and leaves, in each of its endings.
use Rattle.std.specs.Prelude.{Result, Ok, Err}
use Prim.Native.Nat.{ℕ, ◌*◌, ◌≤◌, ◌<◌}
use mathlib.Core.Path.{◌≡◌, refl, sym, ap, ◌∙◌, subst}
use mathlib.Core.List.{List, [], ◌∷◌, ◌++◌}
use native.Mathlib.Omega.{arith}
use lib.ListN.{length, drop, length-append}
use lib.Seq.{length-take-le}
use Rattle.sheet.specs.Listing.{Listing}
use Rattle.sheet.specs.declared.RefusalKind.TheVariants.{OutputTooShort}
use Rattle.sheet.specs.Returned.{Returned, accepted, refusal}
use Rattle.sheet.specs.HandedIn.{handed_in, no_track}
use Rattle.sheet.specs.declared.Sheet.{Sheet}
use Rattle.sheet.proofs.Lent as ending
use Rattle.rule.specs.RowBytes.{roll_bytes, row_width}
use Rattle.rule.specs.Selection.{roll_of}
use Rattle.row.specs.Written.{Written}
use Rattle.records.specs.Records.{Handed}
use Rattle.rule.proofs.RowBytes.{roll_bytes_length}
use Rattle.sheet.specs.declared.Refusal.{Refusal}
use Rattle.plain_run.specs.Rolled.{needed, Rolls}

module _ (S : Listing) (before : List ℕ) where
  -- as the sheet is refused
  pub as_refused : {v : Returned} (r : Refusal) → v ≡ refusal r → Rolls v S before before (Err r)
  as_refused r e = let (a, b) = ending.as_refused (roll_bytes (roll_of S)) before (needed S) (length S.tracks) e in record { answer = a; buffer = b }

  -- as an accepted sheet goes on
  pub as_accepted : {v : Returned} {exit : List ℕ} {r : Result ℕ Refusal} → v ≡ accepted → Rolls accepted S before exit r → Rolls v S before exit r
  as_accepted {v} {exit} {r} e h = subst (λ (z : Returned). Rolls z S before exit r) (sym e) h

-- of the same records
pub of_same : {S T : Listing} {v : Returned} {before exit : List ℕ} {r : Result ℕ Refusal} → S ≡ T → Rolls v S before exit r → Rolls v T before exit r
of_same {v = v} {before} {exit} {r} e h = subst (λ (z : Listing). Rolls v z before exit r) e h

pub tracks_count : {s : Sheet} → Handed s → length (handed_in s).tracks ≡ s.ntracks
tracks_count {s} r = length-take-le s.ntracks (s.tracks ++ (no_track ∷ [])) (simp length-append (omega (arith, r.tracks_long, r.tracks_in)))

module _ {s : Sheet} (r : Handed s) (before : List ℕ) where
  pub too_short : length before < row_width * s.ntracks → Rolls accepted (handed_in s) before before (Err (record { kind = OutputTooShort; place = row_width * s.ntracks }))
  too_short h =
      let S = handed_in s in
      let (a, b) = ending.too_short {v = accepted} (roll_bytes (roll_of S)) before (length S.tracks) refl (ap (λ (n : ℕ). row_width * n) (tracks_count r)) h in
      record { answer = a; buffer = b }

  pub all-rows : {exit : List ℕ} → row_width * s.ntracks ≤ length before → Written (roll_of (handed_in s)) before exit → Rolls accepted (handed_in s) before exit (Ok s.ntracks)
  all-rows h w =
      let S = handed_in s in
      let g = w.is ∙ ap (λ (n : ℕ). roll_bytes (roll_of S) ++ drop n before) (sym (roll_bytes_length (roll_of S))) in
      let (a, b) = ending.stored {v = accepted} (roll_bytes (roll_of S)) before (needed S) refl (tracks_count r) (omega (arith, tracks_count r)) g in
      record { answer = a; buffer = b }
