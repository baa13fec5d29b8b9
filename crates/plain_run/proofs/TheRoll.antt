-- What the plain run writes is the roll (SHEETS 4.12, 5.5): `the_roll`, and `sheet_roll` for a sheet's bytes.
use Rattle.std.specs.Prelude.{Result}
use mathlib.Core.Path.{◌≡◌, refl, ap, ◌∙◌}
use mathlib.Core.List.{List, ◌++◌}
use Prim.Native.Nat.{ℕ, ◌*◌, ◌≤◌}
use lib.ListN.{length, drop}
use Rattle.byte_order.specs.Bytes.{AllBytes}
use Rattle.sheet.specs.Accepted.{Accepted}
use Rattle.sheet.specs.Listing.{Listing, listing}
use Rattle.sheet.specs.Returned.{accepted}
use Rattle.sheet.specs.Scan.{verdict_of, commands_of}
use Rattle.sheet.proofs.Lent.{said_given, put}
use Rattle.sheet.proofs.RoundTrip.{accepted_records}
use Rattle.rule.specs.declared.Row.{Row}
use Rattle.rule.specs.Roll.{RollOf}
use Rattle.rule.specs.RowBytes.{roll_bytes, row_width}
use Rattle.rule.specs.Selection.{roll_of}
use Rattle.rule.proofs.Existence.{roll_of_lem, roll_is, roll_length}
use Rattle.rule.proofs.RowBytes.{roll_bytes_length}
use Rattle.sheet.specs.declared.Refusal.{Refusal}
use Rattle.plain_run.specs.Rolled.{needed, Rolls}

-- `rows` is a roll of S, there is no other, and its bytes stand in front of the buffer's rest
pub record TheRoll (S : Listing) (before exit : List ℕ) : Type 0 where
  pub rows : List Row
  pub is_roll : RollOf S rows
  pub no_other : (l : List Row) → RollOf S l → l ≡ rows
  pub written : exit ≡ roll_bytes rows ++ drop (row_width * length S.tracks) before

pub the_roll : (S : Listing) (before exit : List ℕ) (r : Result ℕ Refusal) → Accepted S → Rolls accepted S before exit r → needed S ≤ length before → TheRoll S before exit
the_roll S before exit r acc h room =
    record {
      rows = roll_of S;
      is_roll = roll_of_lem S acc;
      no_other = roll_is S acc;
      written =
          let n = roll_bytes_length (roll_of S) ∙ ap (λ (k : ℕ). row_width * k) (roll_length S acc) in
          h.buffer ∙ put (roll_bytes (roll_of S)) before (said_given {v = accepted} (needed S) (length before) (length S.tracks) refl room) ∙ ap (λ (k : ℕ). roll_bytes (roll_of S) ++ drop k before) n;
    }

pub sheet_roll : (s before exit : List ℕ) (r : Result ℕ Refusal) → AllBytes s → verdict_of s ≡ accepted → Rolls (verdict_of s) (listing (commands_of s)) before exit r → needed (listing (commands_of s)) ≤ length before → TheRoll (listing (commands_of s)) before exit
sheet_roll s before exit r b e h room = the_roll (listing (commands_of s)) before exit r (accepted_records s b e) (rw e at h) room
