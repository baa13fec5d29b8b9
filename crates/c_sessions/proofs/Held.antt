-- Sequences of calls on a session as numbers, each as its contract says. Main theorem: `held`, from an opening on the second number is that of
-- the rows not yet shown, after any calls, refused ones among them (SHEETS 7.9, 11.4).
use mathlib.Core.Path.{◌≡◌, refl, sym, ap, subst}
use mathlib.Core.List.{List}
use Prim.Native.Nat.{ℕ}
use lib.ListN.{length, drop, get_or}
use Rattle.sheet.specs.Lent.{and_then, after}
use Rattle.sheet.specs.Returned.{Returned, accepted, gives, refused}
use Rattle.c_sessions.specs.Steps.{shown, judge, roll_of_bytes, numbers_at, start_call, shown_then, advance_gives, advance_call, running_call}

-- the session after some calls over one sheet, the first of them an accepted opening
pub data Calls (s : List ℕ) : List ℕ → Type 0 where
  opened : (lent session : List ℕ) (r second : ℕ) → judge s lent ≡ accepted → (r, second, session) ≡ start_call s lent → Calls s session
  started : (lent session : List ℕ) (r second : ℕ) → Calls s lent → (r, second, session) ≡ start_call s lent → Calls s session
  advanced : (lent session out exit : List ℕ) (r second n : ℕ) → Calls s lent → (r, second, session, exit) ≡ advance_call s lent n out → Calls s session
  asked : (session : List ℕ) (r second : ℕ) → Calls s session → (r, second) ≡ running_call s session → Calls s session

-- the second number is that of the rows not yet shown
abbrev pub Right : List ℕ → List ℕ → Type 0
Right s session = get_or session 1 0 ≡ length (drop (shown session) (roll_of_bytes s))

module _ (s : List ℕ) where
  stays_right : (R : Returned) (k : ℕ) (session : List ℕ) → Right s session → Right s (after R (numbers_at s k) session)
  unfolding after
  stays_right accepted k session h = h
  stays_right (gives n) k session h = refl
  stays_right (refused n p) k session h = h

  begins_right : (lent : List ℕ) → judge s lent ≡ accepted → Right s (after (and_then (judge s lent) (gives 0)) (numbers_at s 0) lent)
  unfolding after and_then
  begins_right lent e = subst (λ (v : Returned). Right s (after (and_then v (gives 0)) (numbers_at s 0) lent)) (sym e) refl

  pub held : {session : List ℕ} → Calls s session → Right s session
  held (opened lent session r second e h) = subst (Right s) (sym (ap (λ (x : ℕ × ℕ × List ℕ). x.2) h)) (begins_right lent e)
  held (started lent session r second p h) =
      subst (Right s) (sym (ap (λ (x : ℕ × ℕ × List ℕ). x.2) h)) (stays_right (and_then (judge s lent) (gives 0)) 0 lent (held p))
  held (advanced lent session out exit r second n p h) =
      subst (Right s) (sym (ap (λ (x : ℕ × ℕ × List ℕ × List ℕ). x.2) h)) (stays_right (advance_gives s lent n (length out)) (shown_then s lent n) lent (held p))
  held (asked session r second p h) = held p
