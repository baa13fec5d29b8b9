-- What the runs of an accepted sheet leave. Main theorems: `left`, with room for it every run leaves the one roll; `front`, its bytes stand at the buffer's start;
-- `in_roll` and `reads`, the rows read back are the roll's own.
use Rattle.std.specs.Prelude.{Some}
use mathlib.Core.Path.{◌≡◌, refl, sym, ap, ◌∙◌, subst}
use mathlib.Core.List.{List, ◌++◌}
use Prim.Native.Nat.{ℕ, ◌*◌, ◌<◌}
use native.Mathlib.Omega.{arith}
use lib.ListN.{length, take, drop, get_or}
use lib.Seq.{take_at}
use Rattle.sheet.specs.declared.Command.{Command}
use Rattle.sheet.specs.Accepted.{Accepted}
use Rattle.sheet.specs.Lent.{and_then, after}
use Rattle.sheet.specs.Listing.{Listing, listing, ◌∈◌, Reordered}
use Rattle.sheet.specs.Returned.{Returned, accepted, gives}
use Rattle.sheet.proofs.Lent.{Ends, said_given, put, gave}
use Rattle.sheet.proofs.Lists.{mem_at, at_mem, perm_length}
use Rattle.rule.specs.declared.Row.{Row}
use Rattle.rule.specs.declared.Ending.TheVariants.{Edge}
use Rattle.rule.specs.declared.Side.TheVariants.{NoSide}
use Rattle.rule.specs.RowBytes.{roll_bytes, row_width}
use Rattle.rule.specs.Selection.{roll_of}
use Rattle.rule.proofs.Existence.{roll_length}
use Rattle.rule.proofs.OrderFree.{roll_order}
use Rattle.rule.proofs.RowBytes.{roll_bytes_length}
use Rattle.rule.proofs.Widths.{roll_fits}
use Rattle.cells.specs.Grid.{figure_check}
use Rattle.cells.proofs.Figures.{figure_is, figure_checked}
use Rattle.plain_run.specs.Rolled.{roll_returns}
use Rattle.grid_run.proofs.Given.{given_accepted, given_records}
use Rattle.row.specs.Stored.{row_in}
use Rattle.row.proofs.ReadBack.{row_back}
use Rattle.grid_run.specs.GridRolled.{Reported}
use Rattle.promises.specs.Runs.{Run, plain, grid, row_count, Room, Reads, InRoll}

blank : Row
blank = record { id = 0; at = record { num = 0; den = 1 }; x = 0; y = 0; ending = Edge; side = NoSide }

module _ (l : List Command) (acc : Accepted (listing l)) where
  abbrev S : Listing
  S = listing l

  -- ---- what a run leaves

  -- what is said of the records in any order is said of them as l lists them
  as_listed :
      (before exit : List ℕ) (x : Returned) {v : Returned} {T : Listing} → v ≡ accepted → Reordered S T
      → x ≡ roll_returns v T (length before) → exit ≡ after (roll_returns v T (length before)) (roll_bytes (roll_of T)) before
      → Ends (roll_returns accepted S (length before)) (roll_bytes (roll_of S)) before x exit
  as_listed before exit x {v} {T} e p answer buffer =
      let n = perm_length p.tracks in
      let r = roll_order p acc in
      let q : roll_returns v T (length before) ≡ roll_returns accepted S (length before) = rw (e, n) refl in
      (answer ∙ q, rw (q, ← r) at buffer)

  ran : {before exit : List ℕ} {x : Returned} → Run l before exit x → Ends (roll_returns accepted S (length before)) (roll_bytes (roll_of S)) before x exit
  unfolding and_then
  ran {before} {exit} (plain r i h) = as_listed before exit _ (given_accepted acc i) (given_records acc i) h.answer h.buffer
  ran {before} {exit} (grid {g = g} r i f h) =
      as_listed before exit _ (ap (λ (v : Returned). and_then v (figure_check g)) (given_accepted acc i) ∙ figure_checked g (figure_is f)) (given_records acc i) (ap (λ (z : Reported). z.returned) h.answer) h.buffer

  pub left : {before exit : List ℕ} {x : Returned} → Run l before exit x → Room l before → (x ≡ gives (row_count l)) × (exit ≡ roll_bytes (roll_of S) ++ drop (length (roll_bytes (roll_of S))) before)
  left {before} c h =
      let (p, q) = ran c in
      let t = said_given {v = accepted} (row_width * row_count l) (length before) (row_count l) refl h in
      (p ∙ t, q ∙ put (roll_bytes (roll_of S)) before t)

  pub front : {before exit : List ℕ} {x : Returned} → Run l before exit x → Room l before → take (row_width * row_count l) exit ≡ roll_bytes (roll_of S)
  front c h =
      let e = roll_bytes_length (roll_of S) ∙ ap (λ (n : ℕ). row_width * n) (roll_length S acc) in
      ap (take (row_width * row_count l)) (left c h).1 ∙ take_at (roll_bytes (roll_of S)) _ (row_width * row_count l) e

  -- ---- rows read back

  module _ (bytes rest : List ℕ) (e : bytes ≡ roll_bytes (roll_of S) ++ rest) where
    at_place : (k : ℕ) → k < row_count l → row_in bytes k ≡ Some (get_or (roll_of S) k blank)
    at_place k h =
        let i : k < length (roll_of S) = omega (arith, roll_length S acc) in
        ap (λ (b : List ℕ). row_in b k) e ∙ row_back (roll_of S) rest k blank i (roll_fits S acc (get_or (roll_of S) k blank) (mem_at blank (roll_of S) k i))

    pub reads : (r : Row) → r ∈ roll_of S → Reads bytes (row_count l) r
    reads r m =
        let (k, h, q) = at_mem blank (roll_of S) r m in
        let i : k < row_count l = omega (arith, roll_length S acc) in
        record { place = k; below = i; found = at_place k i ∙ ap Some q }

    read_in : (r : Row) → Reads bytes (row_count l) r → r ∈ roll_of S
    read_in r h =
        let k = h.place in
        let i : k < length (roll_of S) = omega (arith, h.below, roll_length S acc) in
        let f : Some (get_or (roll_of S) k blank) ≡ Some r = sym (at_place k h.below) ∙ h.found in
        let q : get_or (roll_of S) k blank ≡ r = cc in
        subst (λ (z : Row). z ∈ roll_of S) q (mem_at blank (roll_of S) k i)

  pub in_roll : (r : Row) → InRoll l r → r ∈ roll_of S
  in_roll r h =
      let g = gave {v = accepted} (row_width * row_count l) (length h.before) (row_count l) tt (ran h.ran).0 in
      read_in h.exit _ (left h.ran g.room).1 r (subst (λ (n : ℕ). Reads h.exit n r) g.count h.reads)
