-- Two listings of the same records: `exchange_agrees`, both runs accept or neither does, and they write the same rows.
use Rattle.std.specs.Prelude.{Result}
use mathlib.Core.Path.{◌≡◌, ap, ◌∙◌, subst}
use mathlib.Core.List.Permᴰ
use mathlib.Core.List.{List}
use Prim.Native.Nat.{ℕ, ◌*◌}
use lib.ListN.{take}
use Rattle.byte_order.specs.Bytes.{AllBytes}
use Rattle.sheet.specs.Format.{encode_all}
use Rattle.sheet.specs.Listing.{listing, Reordered}
use Rattle.sheet.specs.Returned.{accepted}
use Rattle.sheet.specs.Scan.{verdict_of, commands_of}
use Rattle.sheet.proofs.Decoded.{commands_fit}
use Rattle.sheet.proofs.Order.{reordered, reordered_back}
use Rattle.sheet.proofs.RoundTrip.{accepted_records, relisted}
use Rattle.sheet.specs.declared.Refusal.{Refusal}
use Rattle.rule.specs.RowBytes.{row_width}
use Rattle.plain_run.specs.Rolled.{Rolls}
use Rattle.grid_run.specs.declared.GridRoll.{GridRoll}
use Rattle.grid_run.specs.GridRolled.{GridRolls}
use Rattle.grid_run.specs.Exchanged.{SameRecords, AtEntry, Agree}
use Rattle.grid_run.specs.Demand.{in_bytes}
use Rattle.grid_run.proofs.Demand.{demand_bytes}

other_accepted : {s t : List ℕ} → AllBytes s → AllBytes t → t ≡ encode_all (commands_of t) → Reordered (listing (commands_of s)) (listing (commands_of t)) → verdict_of s ≡ accepted → verdict_of t ≡ accepted
other_accepted {s} {t} b b' whole p e = ap verdict_of whole ∙ relisted (accepted_records s b e) (commands_fit t b') p

module _ (e : AtEntry) (b : AllBytes e.first) (b' : AllBytes e.second) {plain grid : List ℕ} {p : Result ℕ Refusal} {r : Result GridRoll Refusal}
    (by_plain : Rolls (verdict_of e.first) (listing (commands_of e.first)) e.plain plain p)
    (by_grid : GridRolls (verdict_of e.second) (listing (commands_of e.second)) e.figure e.grid grid r) where
  pub exchange_agrees : SameRecords e.first e.second → Agree e plain grid
  exchange_agrees o =
      record {
        alike = (other_accepted b b' o.second_whole o.records, other_accepted b' b o.first_whole (reordered_back o.records));
        equal = λ ok f long long'.
            let l = commands_of e.first in
            let k = commands_of e.second in
            let d = demand_bytes e.first b ok in
            let h = subst (λ (s : List ℕ). Rolls (verdict_of s) (listing (commands_of s)) e.plain plain p) o.first_whole by_plain in
            let h' = subst (λ (s : List ℕ). GridRolls (verdict_of s) (listing (commands_of s)) e.figure e.grid grid r) o.second_whole by_grid in
            let n = ap (λ (m : ℕ). row_width * m) d.one_each in
            subst (λ (m : ℕ). take m plain ≡ take m grid) n
            (d.equal _ _ _ _ e.figure (in_bytes l (commands_fit e.first b) (reordered (Permᴰ.refl l))) (in_bytes k (commands_fit e.second b') o.records) f e.plain plain e.grid grid p r h h' (rw d.one_each long) (rw d.one_each long'));
      }
