-- Sequences of calls on a session, each as its contract says. Main theorems: `so_far` (what has been shown since the last reset is the
-- front of the one roll, in order, as many rows as the steps named or those left). `within` and `kept` speak of any session. That it is
-- so for every order of the sheet's commands is the promise to the desk (crate `promises`).
use Rattle.std.specs.Prelude.{Ok, Err}
use mathlib.Core.Path.{◌≡◌, refl, sym, ap, ap₂, ◌∙◌, subst}
use mathlib.Core.List.{List, [], ◌++◌}
use Prim.Native.Nat.{ℕ, ◌+◌, ◌-◌, ◌*◌, ◌≤◌, min}
use native.Mathlib.Nat.{zero-min}
use native.Mathlib.Omega.{arith}
use lib.ListN.{length, take, drop, length-take, length-drop}
use lib.Seq.{take_at, take-add}
use Rattle.byte_order.specs.Bytes.{AllBytes}
use Rattle.sheet.specs.declared.Sheet.{Sheet}
use Rattle.sheet.specs.declared.Refusal.{Refusal}
use Rattle.sheet.specs.Listing.{Listing, listing}
use Rattle.sheet.specs.Returned.{Returned, accepted}
use Rattle.sheet.specs.Scan.{verdict_of, commands_of}
use Rattle.sheet.specs.HandedIn.{handed_in, listed_form, check_of, sheet_of}
use Rattle.sheet.proofs.Decided.{decided}
use Rattle.sheet.proofs.Lent as ending
use Rattle.sheet.proofs.RoundTrip.{handed_back, written_read}
use Rattle.sheet_reader.specs.Reading.{records_of}
use Rattle.rule.specs.declared.Row.{Row}
use Rattle.rule.specs.RowBytes.{roll_bytes, row_width}
use Rattle.rule.specs.Selection.{roll_of}
use Rattle.rule.proofs.RowBytes.{roll_bytes_length}
use Rattle.row.proofs.Roll.{roll_append}
use Rattle.session.specs.declared.Session.{Session}
use Rattle.session.specs.Stepping.{roll_in, rows_left, next_rows, shown_in, begun, restart, Begins, Restarts, advance_session, Advances}
use Rattle.session.proofs.Outcome.{opened_over}
use Rattle.roll_steps.proofs.Parts.{take_min, drop_min}

-- ---- one call on any session

-- an advance that gave k
pub record Went (s : Session) (n : ℕ) (exit : List ℕ) (after : Session) (k : ℕ) : Type 0 where
  pub ok : check_of s.sheet ≡ accepted
  pub count : k ≡ length (next_rows s n)
  pub session : after ≡ record { sheet = s.sheet; shown = shown_in s + k }
  pub bytes : take (row_width * k) exit ≡ roll_bytes (next_rows s n)

module _ {s : Session} {n : ℕ} {before : List ℕ} {t : Session} {exit : List ℕ} where
  pub went : {k : ℕ} → Advances s n before t exit (Ok k) → Went s n exit t k
  unfolding advance_session
  went {k} h =
      let rows = next_rows s n in
      let g = sym h.answer in
      let told = ending.gave (row_width * length rows) (length before) (length rows) (decided (listed_form s.sheet)) (sym g) in
      record {
        ok = told.accepts;
        count = told.count;
        session = rw g at h.session;
        bytes = ap (take (row_width * k)) (h.buffer ∙ ending.put (roll_bytes rows) before g) ∙ take_at (roll_bytes rows) _ (row_width * k) (roll_bytes_length rows ∙ ap (λ (j : ℕ). row_width * j) (sym told.count));
      }

  -- an accepted call leaves a session whose count is within its roll
  pub within : {k : ℕ} → Advances s n before t exit (Ok k) → t.shown ≤ length (roll_in t)
  within {k} h =
      let w = went h in
      let c = w.count ∙ length-take n (rows_left s) in
      let d = length-drop s.shown (roll_in s) in
      subst (λ (u : Session). u.shown ≤ length (roll_in u)) (sym w.session) (omega (arith, c, d))

  -- a refused call leaves the very session and changes no byte
  pub kept : {r : Refusal} → Advances s n before t exit (Err r) → (t ≡ s) × (exit ≡ before)
  unfolding advance_session
  kept h = let g = sym h.answer in (rw g at h.session, h.buffer ∙ ending.kept (roll_bytes (next_rows s n)) before g)

-- ---- sequences of calls

-- a session after some calls, of a sheet with these records, with the bytes shown since the last reset and the steps named since then
pub data Steps (S : Listing) : Session → List ℕ → ℕ → Type 0 where
  opened : (b : List ℕ) (s : Session) → AllBytes b → Begins (verdict_of b) (begun (sheet_of (records_of b))) (Ok s) → listing (commands_of b) ≡ S → Steps S s [] 0
  handed : (sheet : Sheet) (s : Session) → Begins (check_of sheet) (begun sheet) (Ok s) → handed_in sheet ≡ S → Steps S s [] 0
  advanced : (s : Session) (w : List ℕ) (a n : ℕ) (before : List ℕ) (t : Session) (exit : List ℕ) (k : ℕ) → Steps S s w a → Advances s n before t exit (Ok k) → Steps S t (w ++ take (row_width * k) exit) (a + n)
  not_advanced : (s : Session) (w : List ℕ) (a n : ℕ) (before : List ℕ) (t : Session) (exit : List ℕ) (r : Refusal) → Steps S s w a → Advances s n before t exit (Err r) → Steps S t w a
  reset : (s : Session) (w : List ℕ) (a : ℕ) (t : Session) (u : Unit {0}) → Steps S s w a → Restarts s t (Ok u) → Steps S t [] 0
  not_reset : (s : Session) (w : List ℕ) (a : ℕ) (t : Session) (r : Refusal) → Steps S s w a → Restarts s t (Err r) → Steps S t w a

-- the front of the one roll has been shown, in order
pub record SoFar (S : Listing) (s : Session) (w : List ℕ) (a : ℕ) : Type 0 where
  pub ok : check_of s.sheet ≡ accepted
  pub of_sheet : handed_in s.sheet ≡ S
  pub cursor : s.shown ≡ min a (length (roll_of S))
  pub bytes : w ≡ roll_bytes (take a (roll_of S))

begins : (S : Listing) (sheet : Sheet) (s : Session) → s ≡ begun sheet → check_of sheet ≡ accepted → handed_in sheet ≡ S → SoFar S s [] 0
unfolding roll_bytes
begins S sheet s e ok h =
    subst (λ (t : Session). SoFar S t [] 0) (sym e)
    (record { ok = ok; of_sheet = h; cursor = sym (zero-min (length (roll_of S))); bytes = refl })

steps_on : (S : Listing) (s : Session) (w : List ℕ) (a n : ℕ) {exit : List ℕ} {t : Session} {k : ℕ} → SoFar S s w a → Went s n exit t k → SoFar S t (w ++ take (row_width * k) exit) (a + n)
steps_on S s w a n {exit} {t} {k} p q =
    let R = roll_of S in
    let roll : roll_in s ≡ R = ap roll_of p.of_sheet in
    let next : next_rows s n ≡ take n (drop a R) =
    ap₂ (λ (j : ℕ) (l : List Row). take n (drop j l)) p.cursor roll ∙ ap (take n) (drop_min a R) in
    let count : k ≡ min n (length R - a) = q.count ∙ ap length next ∙ length-take n (drop a R) ∙ ap (min n) (length-drop a R) in
    let long : length (roll_in s) ≡ length R = ap length roll in
    subst (λ (u : Session). SoFar S u (w ++ take (row_width * k) exit) (a + n)) (sym q.session)
    (record {
      ok = p.ok;
      of_sheet = p.of_sheet;
      cursor = omega (arith, p.cursor, count, long);
      bytes = ap₂ (λ (x y : List ℕ). x ++ y) p.bytes (q.bytes ∙ ap roll_bytes next) ∙ sym (roll_append (take a R) (take n (drop a R))) ∙ ap roll_bytes (sym (take-add a n R));
    })

pub so_far : {S : Listing} {s : Session} {w : List ℕ} {a : ℕ} → Steps S s w a → SoFar S s w a
unfolding restart
so_far {S} (opened b s f h l) =
    begins S (sheet_of S) s (opened_over b h.0 h.1 ∙ ap (λ (T : Listing). begun (sheet_of T)) l) (subst (λ (T : Listing). check_of (sheet_of T) ≡ accepted) l (written_read b f h.0).checked) (handed_back S)
so_far {S} (handed sheet s h l) = begins S sheet s h.1 h.0 l
so_far {S} (advanced s w a n before t exit k p h) = steps_on S s w a n (so_far p) (went h)
so_far {S} (not_advanced s w a n before t exit r p h) = subst (λ (u : Session). SoFar S u w a) (sym (kept h).0) (so_far p)
so_far {S} (reset s w a t u p h) =
    let v = sym h.answer in
    begins S s.sheet t (h.session ∙ ap (λ (x : Returned). restart x s) v) v (so_far p).of_sheet
so_far {S} (not_reset s w a t r p h) =
    subst (λ (u : Session). SoFar S u w a) (sym (h.session ∙ ap (λ (x : Returned). restart x s) (sym h.answer))) (so_far p)

-- as many rows as the steps named or were left (SHEETS 7.2), which are those that the session counts
module _ {S : Listing} {s : Session} {w : List ℕ} {a : ℕ} (p : Steps S s w a) where
  pub as_many : length w ≡ row_width * min a (length (roll_of S))
  as_many = ap length (so_far p).bytes ∙ roll_bytes_length (take a (roll_of S)) ∙ ap (λ (j : ℕ). row_width * j) (length-take a (roll_of S))

  pub as_counted : w ≡ roll_bytes (take s.shown (roll_of S))
  as_counted =
      let g = so_far p in
      g.bytes ∙ ap roll_bytes (sym (take_min a (roll_of S)) ∙ ap (λ (j : ℕ). take j (roll_of S)) (sym g.cursor))
