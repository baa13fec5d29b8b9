-- The scan's loop: `breaks-…` (the code's tests in their order give the first broken line), `scanned_more` (one command passed), `scanned_refused`.
use Prim.Native.Nat.{ℕ, ◌≤◌, ◌<◌, ◌+◌}
use mathlib.Core.Path.{◌≡◌, refl, sym, ◌∙◌}
use mathlib.Core.List.{List, [], ◌∷◌, ◌++◌}
use mathlib.Core.Bool.{false}
use native.Mathlib.Omega.{arith}
use borrow.Author.Tests.{eq-eqb, ne_eqb, le-leb, lt-leb}
use lib.Dec.{leb}
use lib.ListN.{length, length-append}
use Rattle.sheet.specs.declared.Command.{Command}
use Rattle.sheet.specs.declared.Command.TheVariants.{AddTrack, AddWall}
use Rattle.sheet.specs.declared.Item.TheVariants.{Add}
use Rattle.sheet.specs.Format.{item_at, width}
use Rattle.sheet.specs.Listing.{tracks_of, walls_of}
use Rattle.sheet.specs.Table.{table, no_line, first_broken, too_many}
use Rattle.sheet.specs.declared.RefusalKind.{RefusalKind}
use Rattle.sheet.specs.declared.RefusalKind.TheVariants.{NoCommand, CutShort, BytesBehindEnd, OffSheet, WrongSpeed, EqualEnds, TooMany, IdTaken, StartTaken, StartOnWall, OutputTooShort, GridFigure, OutsideGrid}
use Rattle.sheet.specs.Returned.{number_of, refused}
use Rattle.sheet.specs.Scan.{verdict_of}
use Rattle.sheet.proofs.Acceptance.{tracks-append, walls_append}
use Rattle.sheet_rules.specs.Judged.{alone_of, worst_of}
use Rattle.sheet_reader.specs.Walk.{SoFar, of_kind}
use Rattle.sheet_rules.proofs.Parts.{table_by_parts}
use Rattle.sheet_reader.proofs.Turns.{verdict_from, from-add, some_width}
use Rattle.sheet_reader.proofs.Walking.{walk_more}

-- ---- the command at a place

module _ {s : List ℕ} {at tracks walls : ℕ} {before : List Command} (h : SoFar s at tracks walls before) (c : Command) where
  many : too_many before c ≡ leb 256 (of_kind c tracks walls)
  many = go c
    where
      go : (d : Command) → too_many before d ≡ leb 256 (of_kind d tracks walls)
      go (AddTrack a p) = rw h.tracks_are
      go (AddWall w) = rw h.walls_are

  pub breaks_count : 256 ≤ of_kind c tracks walls → 7 ≡ first_broken table before c
  breaks_count g = sym (table_by_parts before c ∙ simp (many ∙ le-leb _ _ g))

  module _ (g : of_kind c tracks walls < 256) where
    few : too_many before c ≡ false
    few = many ∙ lt-leb _ _ g

    pub breaks_alone : (alone_of c ≡ no_line → ⊥) → alone_of c ≡ first_broken table before c
    breaks_alone n = sym (table_by_parts before c ∙ simp (few, ne_eqb _ _ n))

    pub breaks_pair : alone_of c ≡ no_line → worst_of c before ≡ first_broken table before c
    breaks_pair e = sym (table_by_parts before c ∙ simp (few, eq-eqb _ _ e))

-- a kind of refusal has a number in the table
pub some_line : (k : RefusalKind) → number_of k ≡ no_line → ⊥
some_line = elim [
  | NoCommand ↦ λ e. omega arith
  | CutShort ↦ λ e. omega arith
  | BytesBehindEnd ↦ λ e. omega arith
  | OffSheet ↦ λ e. omega arith
  | WrongSpeed ↦ λ e. omega arith
  | EqualEnds ↦ λ e. omega arith
  | TooMany ↦ λ e. omega arith
  | IdTaken ↦ λ e. omega arith
  | StartTaken ↦ λ e. omega arith
  | StartOnWall ↦ λ e. omega arith
  | OutputTooShort ↦ λ e. omega arith
  | GridFigure ↦ λ e. omega arith
  | OutsideGrid ↦ λ e. omega arith
]

-- ---- the loop

pub record Scanned (s : List ℕ) (at tracks walls : ℕ) : Type 0 where
  pub before : List Command
  pub counts : SoFar s at tracks walls before
  pub on : verdict_from s at before ≡ verdict_of s
  pub few : tracks + walls ≤ at

pub scanned_none : (s : List ℕ) → Scanned s 0 0 0
unfolding verdict_of tracks_of walls_of
scanned_none s = record { before = []; counts = record { walk = refl; tracks_are = refl; walls_are = refl }; on = refl; few = omega arith }

-- a command is one of its kind
pub one-kind : (c : Command) → of_kind c 1 0 + of_kind c 0 1 ≡ 1
one-kind (AddTrack a p) = refl
one-kind (AddWall w) = refl

one-track : (c : Command) → of_kind c 1 0 ≡ length (tracks_of (c ∷ []))
unfolding tracks_of
one-track (AddTrack a p) = refl
one-track (AddWall w) = refl

one_wall : (c : Command) → of_kind c 0 1 ≡ length (walls_of (c ∷ []))
unfolding walls_of
one_wall (AddTrack a p) = refl
one_wall (AddWall w) = refl

module _ {s : List ℕ} {at tracks walls : ℕ} (h : Scanned s at tracks walls) (c : Command) (e : item_at s at ≡ Add c) where
  pub scanned_refused : {k : ℕ} → k ≡ first_broken table h.before c → (k ≡ no_line → ⊥) → refused k at ≡ verdict_of s
  scanned_refused q n = rw q (sym (from-add s at h.before c e ∙ simp (ne_eqb _ _ (λ z. n (q ∙ z)))) ∙ h.on)

  pub scanned_more : first_broken table h.before c ≡ no_line → Scanned s (at + width c) (tracks + of_kind c 1 0) (walls + of_kind c 0 1)
  scanned_more n =
      let b = h.before in
      record {
        before = b ++ (c ∷ []);
        counts =
            record {
              walk = walk_more s 0 at b c h.counts.walk e;
              tracks_are = rw (tracks-append, length-append, h.counts.tracks_are, one-track);
              walls_are = rw (walls_append, length-append, h.counts.walls_are, one_wall);
            };
        on = sym (from-add s at b c e ∙ simp (eq-eqb _ _ n)) ∙ h.on;
        few = omega (arith, one-kind c, some_width c, h.few);
      }
