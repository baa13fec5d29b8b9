-- Ids in bytes: as many as there are (`bytes-length`), and one more in the buffer (`found-more`).
use mathlib.Core.Path.{◌≡◌, refl, sym, ap, ◌∙◌}
use mathlib.Core.List.{List, [], ◌∷◌, ◌++◌, map, append_assoc, append-nil, map-append}
use Prim.Native.Nat.{ℕ, ◌+◌, ◌*◌, ◌≤◌, ◌<◌}
use native.Mathlib.Omega.{arith}
use lib.ListN.{length, take, length-append}
use lib.Seq.{sets, sets-eq, take_at, length-take-le}
use Rattle.byte_order.specs.Bytes.{le_bytes}
use Rattle.byte_order.proofs.Bytes.{le_length}
use Rattle.sheet.specs.declared.Track.{Track}
use Rattle.cell_listing.specs.Listed.{id_width, id_bytes}
use Rattle.cell_listing.specs.Waiting.{IdsFound}

pub bytes-length : (ids : List ℕ) → length (id_bytes ids) ≡ id_width * length ids
unfolding id_bytes
bytes-length [] = refl
bytes-length (i ∷ ids) = let h = bytes-length ids in simp (length-append, le_length) (omega arith)

bytes_snoc : (ids : List ℕ) (i : ℕ) → id_bytes (ids ++ (i ∷ [])) ≡ id_bytes ids ++ le_bytes id_width i
unfolding id_bytes
bytes_snoc [] i = append-nil (le_bytes id_width i)
bytes_snoc (j ∷ ids) i = rw (bytes_snoc ids i, append_assoc)

pub found_none : (found : List ℕ) → IdsFound [] found 0
unfolding id_bytes
found_none found = record { count = refl; few = omega arith; bytes = refl }

pub found-more :
    (l : List Track) (a : Track) {found after : List ℕ} {m : ℕ} → IdsFound l found m → m < 256 → id_width * m + id_width ≤ length found → after ≡ sets found (id_width * m) (le_bytes id_width a.id)
    → IdsFound (l ++ (a ∷ [])) after (m + 1)
found-more l a {found} {after} {m} h less room f =
    let v = le_bytes id_width a.id in
    let id : Track → ℕ = λ b. b.id in
    let p : length (take (id_width * m) found ++ v) ≡ id_width * (m + 1) = omega (arith, length-append (take (id_width * m) found) v, length-take-le (id_width * m) found (omega arith), le_length id_width a.id) in
    record {
      count = omega (arith, h.count, length-append l (a ∷ []));
      few = omega arith;
      bytes = ap (take (id_width * (m + 1))) (f ∙ sets-eq v found (id_width * m) (omega (arith, le_length id_width a.id)))
          ∙ take_at (take (id_width * m) found ++ v) _ (id_width * (m + 1)) p ∙ ap (λ (z : List ℕ). z ++ v) h.bytes ∙ sym (ap id_bytes (map-append id l (a ∷ [])) ∙ bytes_snoc (map id l) a.id);
    }
