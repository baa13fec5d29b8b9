-- A session as numbers. Main theorems: `not_taken`, `short` and `taken`, what a slice stands for; `refused-gives` and `refused-leaves`, what each
-- call gives and leaves where that is refused; `started`, `stored`, `running`: a session over what was read is one over the sheet's own roll.
use mathlib.Core.Path.{◌≡◌, refl, sym, ap, ◌∙◌, subst}
use mathlib.Core.Bool.{Bool, true, false}
use mathlib.Core.List.{List, [], ◌∷◌}
use Prim.Native.Nat.{ℕ, ◌+◌, ◌*◌, ◌≤◌, ◌<◌, min}
use native.Mathlib.Omega.{arith}
use Rattle.std.specs.Prelude.{Result, Ok, Err}
use borrow.Author.Tests.{lt-ltb, le-ltb, ltb-false}
use lib.Dec.{ltb}
use lib.ListN.{length, take, drop, set}
use Rattle.byte_order.specs.Bytes.{AllBytes}
use Rattle.sheet.specs.Listing.{Listing, listing}
use Rattle.sheet.specs.Returned.{Returned, accepted, gives, refused}
use Rattle.sheet.specs.Scan.{verdict_of, commands_of}
use Rattle.sheet.specs.HandedIn.{handed_in, check_of, sheet_of}
use Rattle.sheet.specs.Lent.{and_then, after}
use Rattle.sheet.proofs.Decided.{Decided, decided}
use Rattle.sheet.proofs.Lent.{said_refused, kept, put, gave}
use Rattle.sheet.proofs.RoundTrip.{handed_back, written_read}
use Rattle.rule.specs.RowBytes.{roll_bytes, row_width}
use Rattle.rule.specs.Selection.{roll_of}
use Rattle.sheet.specs.declared.Refusal.{Refusal}
use Rattle.sheet.specs.Answer.{answered}
use Rattle.session.specs.declared.Session.{Session}
use Rattle.session.specs.Stepping as stepping
use Rattle.fissures_c.specs.Steps.{shown, session_fits, judge, session_of, start_gives, rows_behind, shown_then, advance_gives, running_gives}

-- one number put in front
first-set : (l : List ℕ) (v : ℕ) → 1 ≤ length l → set l 0 v ≡ v ∷ drop 1 l
first-set [] v h = absurd (omega arith)
first-set (a ∷ l) v h = refl

-- ---- what a slice stands for

pub record Fits (s session : List ℕ) : Type 0 where
  pub accepts : verdict_of s ≡ accepted
  pub room : 1 ≤ length session

fits_so : (v : Returned) (session : List ℕ) → Decided v → and_then v (session_fits session) ≡ accepted → (v ≡ accepted) × (1 ≤ length session)
unfolding and_then session_fits
fits_so accepted session d e = (refl, go (ltb (length session) 1) refl)
  where
    go : (b : Bool) → ltb (length session) 1 ≡ b → 1 ≤ length session
    go true q = absurd (let z : ◌≡◌ {A = ℕ} 0 1 = cc (rw q at e) in omega arith)
    go false q = ltb-false (length session) 1 q
fits_so (gives n) session d e = absurd d
fits_so (refused n p) session d e = absurd (let z : ◌≡◌ {A = ℕ} 0 1 = cc in omega arith)

module _ (s session : List ℕ) where
  pub fits : judge s session ≡ accepted → Fits s session
  fits e = let f = fits_so (verdict_of s) session (decided s) e in record { accepts = f.0; room = f.1 }

  pub not_taken : {n p : ℕ} → verdict_of s ≡ refused n p → judge s session ≡ refused n p
  not_taken e = said_refused (session_fits session) e

  pub short : verdict_of s ≡ accepted → length session < 1 → judge s session ≡ refused 12 1
  unfolding and_then session_fits
  short e h = rw (e, lt-ltb (length session) 1 h)

  pub taken : verdict_of s ≡ accepted → 1 ≤ length session → judge s session ≡ accepted
  unfolding and_then session_fits
  taken e h = rw (e, le-ltb (length session) 1 h)

  -- ---- the calls on a refused sheet, or on too few numbers

  module _ {n p : ℕ} (w : Returned) (e : judge s session ≡ refused n p) where
    pub refused-gives : refused n p ≡ and_then (judge s session) w
    refused-gives = sym (said_refused w e)

    pub refused-leaves : (bytes lent : List ℕ) → lent ≡ after (and_then (judge s session) w) bytes lent
    refused-leaves bytes lent = sym (kept bytes lent (said_refused w e))

  -- ---- the calls on an accepted one

  pub started : judge s session ≡ accepted → (gives 0 ≡ start_gives s session) × (set session 0 0 ≡ after (start_gives s session) (0 ∷ []) session)
  unfolding and_then
  started e =
      let j : start_gives s session ≡ gives 0 = rw e in
      (sym j, first-set session 0 (fits e).room ∙ sym (put (0 ∷ []) session j))

  -- ---- the session over the sheet's own roll

  module _ (bytes : AllBytes s) (e : judge s session ≡ accepted) where
    same_records : handed_in (sheet_of (listing (commands_of s))) ≡ listing (commands_of s)
    same_records = handed_back (listing (commands_of s))

    same_verdict : check_of (sheet_of (listing (commands_of s))) ≡ judge s session
    same_verdict = (written_read s bytes (fits e).accepts).checked ∙ sym e

    pub running : {t : Session} {Q : Returned} → t ≡ session_of s session → Q ≡ stepping.running_of (check_of t.sheet) t → Q ≡ running_gives s session
    running q h = h ∙ ap (λ (u : Session). stepping.running_of (check_of u.sheet) u) q ∙ (λ j. and_then (same_verdict j) (gives (length (drop (shown session) (roll_of (same_records j))))))

    module _ (n : ℕ) (out : List ℕ) where
      abbrev R : Returned
      R = advance_gives s session n (length out)

      same_rows : stepping.next_rows (session_of s session) n ≡ rows_behind s session n
      same_rows = ap (λ (T : Listing). take n (drop (shown session) (roll_of T))) same_records

      same_answer : stepping.advance_of (session_of s session) n (length out) ≡ R
      same_answer = (λ j. stepping.advance_returns (same_verdict j) (same_rows j) (length out))

      module _ {t t' : Session} (q : t ≡ session_of s session) {exit : List ℕ} {r : Result ℕ Refusal} (a : stepping.Advances t n out t' exit r) where
        h : stepping.Advances (session_of s session) n out t' exit r
        h = subst (λ (u : Session). stepping.Advances u n out t' exit r) q a

        pub buffer_then : exit ≡ after R (roll_bytes (rows_behind s session n)) out
        buffer_then = h.buffer ∙ (λ j. after (same_answer j) (roll_bytes (same_rows j)) out)

        pub said : answered r ≡ R
        said = h.answer ∙ same_answer

        pub stored : {k : ℕ} → r ≡ Ok k → set session 0 t'.shown ≡ after R (shown_then s session n ∷ []) session
        unfolding stepping.advance_session
        stored {k} f =
            let rows = rows_behind s session n in
            let g : gives k ≡ stepping.advance_of (session_of s session) n (length out) = ap answered (sym f) ∙ h.answer in
            let G : gives k ≡ R = g ∙ same_answer in
            let c = (gave (row_width * length rows) (length out) (length rows) (accepted_decides (judge s session) e) G).count in
            let b : t'.shown ≡ min (shown session) (length (roll_of (handed_in (sheet_of (listing (commands_of s)))))) + k = ap (λ (u : Session). u.shown) (h.session ∙ ap (λ (Q : Returned). stepping.advance_session Q (session_of s session)) (sym g)) in
            let d : t'.shown ≡ shown_then s session n = b ∙ (λ j. min (shown session) (length (roll_of (same_records j))) + c j) in
            first-set session t'.shown (fits e).room ∙ ap (λ (v : ℕ). v ∷ drop 1 session) d ∙ sym (put (shown_then s session n ∷ []) session (sym G))
          where
            accepted_decides : (v : Returned) → v ≡ accepted → Decided v
            accepted_decides v q = rw q tt

        -- a refused advance leaves the numbers as they came
        pub kept_numbers : {f : Refusal} → r ≡ Err f → session ≡ after R (shown_then s session n ∷ []) session
        kept_numbers f = sym (kept (shown_then s session n ∷ []) session (sym said ∙ ap answered f))
