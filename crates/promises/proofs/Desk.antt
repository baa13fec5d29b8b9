-- `desk`: what specs/Desk.antt says holds of every accepted sheet; of one in bytes and of records handed in by `of_bytes` and `of_records` in Sheets.antt.
use Rattle.std.specs.Prelude.{Result, Ok, Err}
use mathlib.Core.Path.{◌≡◌, refl, sym, ap, ap₂, ◌∙◌, subst}
use mathlib.Core.Bool.{Bool, true, false, cond}
use mathlib.Core.List.{List, [], ◌∷◌, ◌++◌, append-nil}
use Prim.Native.Nat.{ℕ, ◌+◌, ◌-◌, ◌*◌, ◌≤◌, ◌<◌, min}
use native.Mathlib.Omega.{arith}
use borrow.Author.Tests.{leb-true, leb-false, le-leb}
use lib.Dec.{leb}
use lib.ListN.{length, take, drop, length-take, length-drop}
use Rattle.sheet.specs.declared.Command.{Command}
use Rattle.sheet.specs.Accepted.{Accepted}
use Rattle.sheet.specs.Format.{encode_all}
use Rattle.sheet.specs.HandedIn.{handed_in, check_of, sheet_of}
use Rattle.sheet.specs.Lent.{and_then}
use Rattle.sheet.specs.Listing.{Listing, listing, Reordered}
use Rattle.sheet.specs.Returned.{Returned, accepted, gives, refused, number_of, refusal}
use Rattle.sheet.specs.Scan.{commands_of}
use Rattle.sheet.proofs.Lent.{said_given, said_short}
use Rattle.sheet.proofs.Order.{accepted_reordered}
use Rattle.sheet.proofs.RoundTrip.{read_back, handed_back}
use Rattle.rule.specs.declared.Row.{Row}
use Rattle.rule.specs.RowBytes.{roll_bytes, row_width}
use Rattle.rule.specs.Selection.{roll_of}
use Rattle.rule.proofs.Existence.{roll_of_lem}
use Rattle.rule.proofs.OrderFree.{roll_order}
use Rattle.sheet.specs.declared.Refusal.{Refusal}
use Rattle.sheet.specs.declared.RefusalKind.TheVariants.{OutputTooShort}
use Rattle.sheet.specs.Answer.{answered}
use Rattle.session.specs.declared.Session.{Session}
use Rattle.session.specs.declared.Unopened.{Unopened}
use Rattle.session.specs.Stepping.{roll_in, rows_left, next_rows, begun, Begins, Restarts, Advances}
use Rattle.roll_steps.proofs.Parts.{take_min}
use Rattle.session.proofs.Outcome.{opened_over}
use Rattle.session.proofs.Steps.{Steps, handed, advanced, not_advanced, reset, so_far}
use Rattle.promises.specs.Desk as keys
use Rattle.promises.specs.Desk.{Key, Opened, over_bytes, over_records, handed_out, adds, Pressed, cursor, View, SameView, Desk}
use Rattle.grid_run.specs.Demand.{in_bytes, in_records}
use Rattle.grid_run.proofs.Given.{given_accepted}
use Rattle.promises.proofs.Sheets.{checks}

-- ---- what an answer adds to the screen

adds-rows : (x : Result ℕ Refusal) (k : ℕ) (exit : List ℕ) → answered x ≡ gives k → adds x exit ≡ take (row_width * k) exit
adds-rows (Ok n) k exit e = let q : n ≡ k = cc in ap (λ (j : ℕ). take (row_width * j) exit) q
adds-rows (Err r) k exit e = absurd (let z : ◌≡◌ {A = ℕ} 0 1 = cc in omega arith)

adds_none : (x : Result ℕ Refusal) (n p : ℕ) (exit : List ℕ) → answered x ≡ refused n p → adds x exit ≡ []
adds_none (Ok k) n p exit e = absurd (let z : ◌≡◌ {A = ℕ} 0 1 = cc in omega arith)
adds_none (Err r) n p exit e = refl

-- ---- where an advance brings the cursor

module _ (m n room : ℕ) (ks : List Key) where
  abbrev more : ℕ
  more = min n (m - cursor m ks)

  moves : row_width * more ≤ room → cursor m (keys.advance n room ∷ ks) ≡ cursor m ks + more
  unfolding cursor
  moves h = ap (λ (b : Bool). cond b (cursor m ks + more) (cursor m ks)) (le-leb (row_width * more) room h)

  stays : leb (row_width * more) room ≡ false → cursor m (keys.advance n room ∷ ks) ≡ cursor m ks
  unfolding cursor
  stays e = ap (λ (b : Bool). cond b (cursor m ks + more) (cursor m ks)) e

module _ (l : List Command) (acc : Accepted (listing l)) where
  abbrev S : Listing
  S = listing l

  abbrev m : ℕ
  m = length (roll_of S)

  -- the calls that led to a session and a screen, with the rows asked for since the last reset
  record Reached (ks : List Key) (s : Session) (screen : List ℕ) : Type 0 where
    T : Listing
    same : Reordered S T
    asked : ℕ
    steps : Steps T s screen asked
    place : min asked m ≡ cursor m ks

  -- ---- opened

  begun_on : (s : Session) → Opened l (Ok s) → Reached [] s []
  unfolding cursor
  begun_on s (over_bytes k f p h) =
      let T = listing k in
      let q : listing (commands_of (encode_all k)) ≡ T = ap listing (read_back f) in
      let b : Begins (check_of (sheet_of T)) (begun (sheet_of T)) (Ok s) = (checks T (accepted_reordered p acc), opened_over (encode_all k) h.0 h.1 ∙ ap (λ (U : Listing). begun (sheet_of U)) q) in
      record { T = T; same = p; asked = 0; steps = handed (sheet_of T) s b (handed_back T); place = omega arith }
  begun_on s (over_records sheet p h) = record { T = handed_in sheet; same = p; asked = 0; steps = handed sheet s h refl; place = omega arith }

  not_refused : {v : Returned} (r : Refusal) → v ≡ accepted → v ≡ refusal r → ⊥
  not_refused r e f = let g : refused (number_of r.kind) r.place ≡ accepted = sym f ∙ e in let z : ◌≡◌ {A = ℕ} 0 1 = cc in omega arith

  never_unopened : (u : Unopened) → Opened l (Err u) → ⊥
  never_unopened u (over_bytes k f p h) = not_refused u.refusal (given_accepted acc (in_bytes k f p)) h.0
  never_unopened u (over_records sheet p h) = not_refused u.refusal (given_accepted acc (in_records sheet p)) h.0

  opens : (r : Result Session Unopened) → Opened l r → (s : Session) × (r ≡ Ok s)
  opens (Ok s) o = (s, refl)
  opens (Err u) o = absurd (never_unopened u o)

  begin : (r : Result Session Unopened) → Opened l r → Reached [] (handed_out r) []
  begin (Ok s) o = begun_on s o
  begin (Err u) o = absurd (never_unopened u o)

  -- ---- a reached session

  module _ {ks : List Key} {s : Session} {screen : List ℕ} (p : Reached ks s screen) where
    accepts : check_of s.sheet ≡ accepted
    accepts = (so_far p.steps).ok

    one_roll : roll_in s ≡ roll_of S
    one_roll = ap roll_of (so_far p.steps).of_sheet ∙ sym (roll_order p.same acc)

    at : s.shown ≡ cursor m ks
    at = (so_far p.steps).cursor ∙ ap (λ (R : List Row). min p.asked (length R)) (sym (roll_order p.same acc)) ∙ p.place

    rows_left_lem : rows_left s ≡ drop (cursor m ks) (roll_of S)
    rows_left_lem = ap₂ (λ (j : ℕ) (R : List Row). drop j R) at one_roll

    next-length : (n : ℕ) → length (next_rows s n) ≡ min n (m - cursor m ks)
    next-length n = length-take n (rows_left s) ∙ ap (λ (R : List Row). min n (length R)) rows_left_lem ∙ ap (min n) (length-drop (cursor m ks) (roll_of S))

    is_view : View (roll_of S) (cursor m ks) s screen
    unfolding and_then
    is_view =
        let R = roll_of S in
        let e = roll_order p.same acc in
        record {
          shown = (so_far p.steps).bytes ∙ ap (λ (Q : List Row). roll_bytes (take p.asked Q)) (sym e) ∙ ap roll_bytes (sym (take_min p.asked R)) ∙ ap (λ (j : ℕ). roll_bytes (take j R)) p.place;
          next = ap (take 1) rows_left_lem;
          running = ap (λ (v : Returned). and_then v (gives (length (rows_left s)))) accepts ∙ ap gives (ap length rows_left_lem ∙ length-drop (cursor m ks) R);
        }

    -- ---- an advance

    module _ (n : ℕ) (before : List ℕ) (t : Session) (exit : List ℕ) (r : Result ℕ Refusal) (h : Advances s n before t exit r) where
      abbrev k : ℕ
      k = length (next_rows s n)

      with_room : row_width * k ≤ length before → Reached (keys.advance n (length before) ∷ ks) t (screen ++ adds r exit)
      with_room f =
          let g = said_given (row_width * k) (length before) k accepts f in
          let c = next-length n in
          subst (Reached (keys.advance n (length before) ∷ ks) t) (ap (λ (w : List ℕ). screen ++ w) (sym (adds-rows r k exit (h.answer ∙ g))))
          (record {
            T = p.T;
            same = p.same;
            asked = p.asked + n;
            steps = advanced s screen p.asked n before t exit k p.steps (record { answer = sym g; session = h.session; buffer = h.buffer });
            place = omega (arith, p.place, moves m n (length before) ks (omega arith));
          })

      without : length before < row_width * k → leb (row_width * min n (m - cursor m ks)) (length before) ≡ false → Reached (keys.advance n (length before) ∷ ks) t (screen ++ adds r exit)
      without f b =
          let g = said_short (row_width * k) (length before) k accepts f in
          let e : Refusal = record { kind = OutputTooShort; place = row_width * k } in
          subst (Reached (keys.advance n (length before) ∷ ks) t) (sym (append-nil screen) ∙ ap (λ (w : List ℕ). screen ++ w) (sym (adds_none r 12 (row_width * k) exit (h.answer ∙ g))))
          (record {
            T = p.T;
            same = p.same;
            asked = p.asked;
            steps = not_advanced s screen p.asked n before t exit e p.steps (record { answer = sym g; session = h.session; buffer = h.buffer });
            place = p.place ∙ sym (stays m n (length before) ks b);
          })

      steps_on : Reached (keys.advance n (length before) ∷ ks) t (screen ++ adds r exit)
      steps_on = go (leb (row_width * min n (m - cursor m ks)) (length before)) refl
        where
          go : (b : Bool) → leb (row_width * min n (m - cursor m ks)) (length before) ≡ b → Reached (keys.advance n (length before) ∷ ks) t (screen ++ adds r exit)
          go true e = with_room (omega (arith, next-length n, leb-true (row_width * min n (m - cursor m ks)) (length before) e))
          go false e = without (omega (arith, next-length n, leb-false (row_width * min n (m - cursor m ks)) (length before) e)) e

  -- ---- any keys

  reached : {ks : List Key} {s : Session} {screen : List ℕ} → Pressed l ks s screen → Reached ks s screen
  unfolding cursor
  reached (keys.opened r o) = begin r o
  reached (keys.advanced n before t exit r p h) = steps_on (reached p) n before t exit r h
  reached (keys.restarted {s = s} {screen} t r p h) =
      let q = reached p in
      let again : Restarts s t (Ok tt) = record { answer = sym (accepts q); session = h.session } in
      record { T = q.T; same = q.same; asked = 0; steps = reset s screen q.asked t tt q.steps again; place = omega arith }

  view : {ks : List Key} {s : Session} {screen : List ℕ} → Pressed l ks s screen → View (roll_of S) (cursor m ks) s screen
  view p = is_view (reached p)

  same_view : {c : ℕ} {s s' : Session} {screen screen' : List ℕ} → View (roll_of S) c s screen → View (roll_of S) c s' screen' → SameView s s' screen screen'
  same_view v w = record { shown = v.shown ∙ sym w.shown; next = v.next ∙ sym w.next; running = v.running ∙ sym w.running }

  refresh : {ks : List Key} {room : ℕ} {s s' : Session} {screen screen' : List ℕ} → Pressed l ks s screen → Pressed l (keys.advance s.shown room ∷ []) s' screen' → row_width * s.shown ≤ room → SameView s s' screen screen'
  unfolding cursor
  refresh {ks} {room} {s} {s'} {screen} {screen'} p q h =
      let x = reached p in
      let e : cursor m (keys.advance s.shown room ∷ []) ≡ cursor m ks = omega (arith, at x, x.place, moves m s.shown room [] (omega arith)) in
      same_view (view p) (subst (λ (c : ℕ). View (roll_of S) c s' screen') e (view q))

pub desk : (l : List Command) → Accepted (listing l) → Desk l
desk l acc =
    record {
      roll = roll_of (listing l);
      is_roll = roll_of_lem (listing l) acc;
      opens = opens l acc;
      view = view l acc;
      same = λ p q. same_view l acc (view l acc p) (view l acc q);
      refreshed = refresh l acc;
    }
