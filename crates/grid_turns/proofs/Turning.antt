-- The loop over the events. Main theorems: `turned_on` (one turn), `all_ran` (what is left when there is no event).
use mathlib.Core.List.{List, [], ◌∷◌, ◌++◌}
use mathlib.Core.Logic.{inl, inr}
use mathlib.Core.Path.{◌≡◌, sym, ap, subst, ◌∙◌}
use Prim.Native.Nat.{ℕ, ◌+◌, ◌*◌, ◌≤◌, ◌<◌}
use native.Mathlib.Omega.{arith}
use lib.ListN.{length, take, length-append}
use lib.Seq.{length-take-le}
use Rattle.sheet.specs.declared.Sheet.{Sheet}
use Rattle.sheet.specs.HandedIn.{handed_in, no_track}
use Rattle.sheet.specs.Listing.{Listing}
use Rattle.rule.specs.Selection.{roll_of}
use Rattle.rule.specs.RowBytes.{row_width}
use Rattle.row.specs.Written.{Written}
use Rattle.row.proofs.Roll.{written_none, written-length}
use Rattle.records.specs.Records.{Handed}
use Rattle.ending.proofs.Rolling.{written_next, written_end}
use Rattle.grid_state.specs.Sweep.{Sweep}
use Rattle.grid_state.specs.Run.{Going}
use Rattle.grid_state.specs.ToDo.{to_do}
use Rattle.grid_state.proofs.Closing.{closed}
use Rattle.std.specs.Prelude.{Option, Some, None}
use Rattle.grid_turn.specs.Turned.{Wrote, no_row, one_row, Turned}
use Rattle.grid_turns.specs.Ran.{Ran}

-- `rows` rows are out, in the buffer that held `before`
pub record Turning (S : Listing) (g : ℕ) (before : List ℕ) (rows : ℕ) (w : Sweep) (out : List ℕ) : Type 0 where
  pub going : Going S g rows w
  pub written : Written (take rows (roll_of S)) before out

pub turning_start : {S : Listing} {g : ℕ} {w : Sweep} (out : List ℕ) → Going S g 0 w → Turning S g out 0 w out
turning_start out s = record { going = s; written = written_none out }

-- ---- one turn

rows_in_lem : {a b : ℕ} → Some a ≡ Some b → a ≡ b
rows_in_lem e = ap number e
  where
    number : Option ℕ → ℕ
    number (Some n) = n
    number None = 0

some≢none : {n : ℕ} → Some n ≡ None → ⊥
some≢none e = subst IsRows e tt
  where
    IsRows : Option ℕ → Type 0
    IsRows (Some k) = Unit {0}
    IsRows None = ⊥

module _ {S : Listing} {g : ℕ} {before : List ℕ} {rows : ℕ} {w : Sweep} {out : List ℕ} (room : row_width * length S.tracks ≤ length before) (z : Turning S g before rows w out) where
  few : rows ≤ length S.tracks
  few = let r = z.going.rows in omega (arith, r.out, r.progress.count)

  pub turning_long : length out ≡ length before
  turning_long = written-length z.written (omega (arith, few, z.going.rows.out))

  pub turn_room : row_width * length S.tracks ≤ length out
  turn_room = omega (arith, turning_long)

  -- an event happened
  module _ {o : Option ℕ} {r : ℕ} (is : o ≡ Some r) {w' : Sweep} (u : Turned S g rows w o w') where
    s : Turned S g rows w (Some r) w'
    s = subst (λ (a : Option ℕ). Turned S g rows w a w') is u

    row_written : {out' : List ℕ} → Wrote S rows out (Some r) out' → Written (take r (roll_of S)) before out'
    row_written (no_row (inl e) x) = absurd (some≢none e)
    row_written {out'} (no_row (inr e) x) =
        subst (λ (n : ℕ). Written (take n (roll_of S)) before out') (sym (rows_in_lem e)) (subst (Written (take rows (roll_of S)) before) (sym x) z.written)
    row_written {out'} (one_row e x) =
        let i = rows_in_lem e in
        let go = s.turns.going.rows in
        let o : length (take (rows + 1) (roll_of S)) ≡ rows + 1 = subst (λ (n : ℕ). length (take n (roll_of S)) ≡ n) i go.out in
        subst (λ (n : ℕ). Written (take n (roll_of S)) before out') (sym i)
        (written_next S rows z.going.rows.out o (omega (arith, i, go.out, go.progress.count)) x z.written)

    pub turned_on : {out' : List ℕ} → Wrote S rows out o out' → Turning S g before r w' out'
    turned_on {out'} x = record { going = s.turns.going; written = row_written (subst (λ (a : Option ℕ). Wrote S rows out a out') is x) }

    pub less_on : to_do (length S.tracks) w' r < to_do (length S.tracks) w rows
    less_on = s.turns.less

  -- there was none: all rows are out, and all cells entered
  module _ {o : Option ℕ} (is : o ≡ None) {w' : Sweep} (u : Turned S g rows w o w') where
    nothing : Turned S g rows w None w'
    nothing = subst (λ (a : Option ℕ). Turned S g rows w a w') is u

    row_none : {out' : List ℕ} → Wrote S rows out None out' → out' ≡ out
    row_none (no_row e x) = x
    row_none (one_row e x) = absurd (some≢none (sym e))

    pub all_ran : {out' : List ℕ} → Wrote S rows out o out' → {r : ℕ} → r ≡ w'.entered → Ran S g before out' r
    all_ran {out'} x f =
        let c = closed z.going nothing.turns.0 in
        let e = row_none (subst (λ (a : Option ℕ). Wrote S rows out a out') is x) in
        record {
          written = written_end S rows z.going.state.accepted z.going.rows.progress z.going.rows.out c.0 (subst (Written (take rows (roll_of S)) before) (sym e) z.written);
          counted = f ∙ ap (λ (v : Sweep). v.entered) nothing.turns.1 ∙ c.1;
        }

-- ---- the sheet that was handed in

-- there is room for the rows of as many tracks as were handed in
pub handed_room : {s : Sheet} → Handed s → (out : List ℕ) → row_width * s.ntracks ≤ length out → row_width * length (handed_in s).tracks ≤ length out
handed_room {s} h out room =
    let many = length-append s.tracks (no_track ∷ []) in
    let few = length-take-le s.ntracks (s.tracks ++ (no_track ∷ [])) (omega (arith, many, h.tracks_long, h.tracks_in)) in
    omega (arith, few)
