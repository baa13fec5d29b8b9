-- `cell-view`: what specs/CellView.antt says holds of every accepted sheet; of one in bytes and of records handed in by `of_bytes` and `of_records` in Sheets.antt.
use mathlib.Core.Path.{◌≡◌, refl, sym, ap, ◌∙◌}
use mathlib.Core.List.{List, ◌++◌}
use Prim.Native.Nat.{ℕ, ◌*◌, ◌≤◌, ◌<◌}
use borrow.Author.Tests.{lt-ltb}
use lib.ListN.{length, drop}
use Rattle.sheet.specs.declared.Command.{Command}
use Rattle.sheet.specs.Accepted.{Accepted}
use Rattle.sheet.specs.Lent.{and_then}
use Rattle.sheet.specs.Listing.{Listing, listing}
use Rattle.sheet.specs.Returned.{Returned, accepted}
use Rattle.sheet.proofs.Lent.{Ends, said_given, put}
use Rattle.rule.specs.Rows.{time_of}
use Rattle.rule.specs.Selection.{roll_of}
use Rattle.rule.proofs.Existence.{roll_of_lem}
use Rattle.cells.specs.declared.Cell.{Cell}
use Rattle.cells.specs.Grid.{Figure, figure_check, side}
use Rattle.cells.proofs.Figures.{figure_is}
use Rattle.cell_listing.specs.CellIds.{cell_ids}
use Rattle.cell_listing.specs.Listed.{id_width, id_bytes, cell, cell_check, list_returns}
use Rattle.cell_listing.proofs.IdBytes.{bytes-length}
use Rattle.cell_listing.proofs.Orders.{same_ids}
use Rattle.cell_listing.proofs.TheIds.{the_ids, no_other_ids}
use Rattle.promises.specs.CellView.{Call, call, CellList, Shown, CellView}
use Rattle.grid_run.proofs.Given.{given_accepted, given_records}

module _ (l : List Command) (acc : Accepted (listing l)) where
  abbrev S : Listing
  S = listing l

  view : (g : ℕ) (k : Cell) → CellList l (roll_of S) g k (cell_ids S g k)
  unfolding cell_ids
  view g k =
      let (h, r) = the_ids (time_of (roll_of S)) (side g) k S.tracks acc.track_ids in
      record { are = h; sorted = r; no_other = no_other_ids (time_of (roll_of S)) (side g) k S.tracks acc.track_ids }

  module _ (g column row : ℕ) where
    abbrev ids : List ℕ
    ids = cell_ids S g (cell column row)

    module _ {before : List ℕ} where
      -- what is said of the records in any order is said of them as l lists them
      as_listed : {exit : List ℕ} {x : Returned} → Call l g column row before exit x → Ends (list_returns accepted S g column row (length before)) (id_bytes ids) before x exit
      as_listed (call {v} {S = T} r i h) =
          let e = given_accepted acc i in
          let c = same_ids (given_records acc i) acc g (cell column row) in
          let q : list_returns v T g column row (length before) ≡ list_returns accepted S g column row (length before) = rw (e, c) refl in
          (h.answer ∙ q, rw (q, ← c) at h.buffer)

      shown : {exit : List ℕ} {x : Returned} → Call l g column row before exit x → Figure g → column < g → row < g → id_width * length ids ≤ length before → Shown ids before exit x
      unfolding and_then cell_check figure_check
      shown c f i j room =
          let (a, b) = as_listed c in
          let inside : and_then accepted (cell_check g column row) ≡ accepted = rw (figure_is f, lt-ltb column g i, lt-ltb row g j) refl in
          let told = said_given (id_width * length ids) (length before) (length ids) inside room in
          record { number = a ∙ told; bytes = b ∙ put (id_bytes ids) before told ∙ ap (λ (n : ℕ). id_bytes ids ++ drop n before) (bytes-length ids) }

      same : {exit exit' : List ℕ} {x x' : Returned} → Call l g column row before exit x → Call l g column row before exit' x' → (x ≡ x') × (exit ≡ exit')
      same c d = let (a, b) = as_listed c in let (e, f) = as_listed d in (a ∙ sym e, b ∙ sym f)

pub cell-view : (l : List Command) → Accepted (listing l) → CellView l
cell-view l acc =
    record {
      roll = roll_of (listing l);
      is_roll = roll_of_lem (listing l) acc;
      ids = cell_ids (listing l);
      view = view l acc;
      shown = λ {g} {column} {row} c. shown l acc g column row c;
      same = λ {g} {column} {row} c d. same l acc g column row c d;
    }
