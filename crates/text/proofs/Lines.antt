-- A line put together piece by piece. Main theorems: `behind`, a piece put behind a known text; `eight`, the fields of a row's line.
use mathlib.Core.Path.{◌≡◌, sym, ap, subst, ◌∙◌}
use mathlib.Core.List.{List, [], ◌∷◌, ◌++◌, append_assoc}
use Prim.Native.Nat.{ℕ, ◌+◌, ◌/◌, ◌%◌, ◌≤◌, ◌<◌}
use native.Mathlib.Omega.{arith}
use lib.ListN.{length, length-append}
use lib.Seq.{length-take-le}
use Rattle.rule.specs.declared.Row.{Row}
use Rattle.rule.specs.RowBytes.{kind_of, partner_of}
use Rattle.rule.specs.Side.{side_number}
use Rattle.text.specs.declared.Draft.{Draft}
use Rattle.text.specs.Lines.{decimal, field, line_of, head_of, refused_of, still_of, tracks_word, cells_word, refused_word, running_word}
use Rattle.text.specs.Held.{draft_length, text_in, Holds, Room}
use Rattle.text.proofs.Decimal.{decimal-one, decimal-more, decimal_short}

-- the length of a line's text
pub text_length : {line : Draft} {n : ℕ} → Room line n → length (text_in line) ≡ line.length
text_length {line} r = length-take-le line.length line.bytes (omega (arith, r.sized, r.fit))

module _ {a : List ℕ} {line : Draft} (h : Holds a line) where
  -- room behind a known text
  pub room : (n : ℕ) → length a + n ≤ draft_length → Room line n
  room n k = record { sized = h.sized; fit = omega (arith, h.long) }

  -- a piece behind a known text
  pub behind : (b : List ℕ) {r : Draft} → Holds (text_in line ++ b) r → Holds (a ++ b) r
  behind b {r} k = subst (λ (t : List ℕ). Holds (t ++ b) r) h.is k

-- ---- a number's digits, the last by itself

module _ {line : Draft} (v : ℕ) (room_for : Room line (length (decimal v))) where
  pub one_room : v < 10 → Room line 1
  one_room h = rw (decimal-one v h) at room_for

  pub one-done : v < 10 → {r : Draft} → Holds (text_in line ++ ((48 + v) ∷ [])) r → Holds (text_in line ++ decimal v) r
  one-done h k = rw (decimal-one v h) k

  long_more : 10 ≤ v → length (decimal v) ≡ length (decimal (v / 10)) + 1
  long_more h = rw (decimal-more v h) (length-append (decimal (v / 10)) ((48 + v % 10) ∷ []))

  pub more_room : 10 ≤ v → Room line (length (decimal (v / 10)))
  more_room h = record { sized = room_for.sized; fit = omega (arith, long_more h, room_for.fit) }

  module _ (h : 10 ≤ v) {high : Draft} (k : Holds (text_in line ++ decimal (v / 10)) high) where
    pub last_room : Room high 1
    last_room = room k 1 (simp length-append (omega (arith, text_length room_for, long_more h, room_for.fit)))

    pub more-done : {r : Draft} → Holds (text_in high ++ ((48 + v % 10) ∷ [])) r → Holds (text_in line ++ decimal v) r
    more-done {r} m = subst (λ (t : List ℕ). Holds t r) (append_assoc (text_in line) (decimal (v / 10)) ((48 + v % 10) ∷ []) ∙ ap (λ (t : List ℕ). text_in line ++ t) (sym (decimal-more v h))) (behind k ((48 + v % 10) ∷ []) m)

-- ---- fields

pub less_room : (m n : ℕ) {line : Draft} → Room line m → n ≤ m → Room line n
less_room m n r h = record { sized = r.sized; fit = omega (arith, r.fit) }

module _ {line : Draft} (v mark : ℕ) (room_for : Room line 21) (h : v < 18446744073709551616) where
  pub digits_room : Room line (length (decimal v))
  digits_room = less_room 21 (length (decimal v)) room_for (omega (arith, decimal_short v h))

  module _ {l : Draft} (k : Holds (text_in line ++ decimal v) l) where
    pub mark_room : Room l 1
    mark_room = room k 1 (simp length-append (omega (arith, text_length room_for, decimal_short v h, room_for.fit)))

    pub field-done : {r : Draft} → Holds (text_in l ++ (mark ∷ [])) r → Holds (text_in line ++ field v mark) r × (r.length ≤ line.length + 21)
    unfolding field
    field-done {r} m =
        let g = behind k (mark ∷ []) m in
        let e : length ((text_in line ++ decimal v) ++ (mark ∷ [])) ≡ line.length + length (decimal v) + 1 = simp length-append (omega (arith, text_length room_for)) in
        (rw append_assoc at g, omega (arith, g.long, decimal_short v h))

-- ---- lines

pub eight :
    (r : Row) {k q n : ℕ} {l0 l1 l2 l3 l4 l5 l6 l7 l8 : Draft}
    → k ≡ kind_of r.ending → q ≡ partner_of r.ending → n ≡ side_number r.side → Holds [] l0
    → Holds (text_in l0 ++ field r.id 32) l1 → Holds (text_in l1 ++ field k 32) l2 → Holds (text_in l2 ++ field q 32) l3
    → Holds (text_in l3 ++ field r.at.num 47) l4 → Holds (text_in l4 ++ field r.at.den 32) l5
    → Holds (text_in l5 ++ field r.x 32) l6 → Holds (text_in l6 ++ field r.y 32) l7
    → Holds (text_in l7 ++ field n 10) l8 → Holds (line_of r) l8
unfolding line_of
eight r hk hq hn h0 h1 h2 h3 h4 h5 h6 h7 h8 =
    let g1 = behind h0 (field r.id 32) h1 in
    let g2 = behind g1 (field (kind_of r.ending) 32) (rw hk at h2) in
    let g3 = behind g2 (field (partner_of r.ending) 32) (rw hq at h3) in
    let g4 = behind g3 (field r.at.num 47) h4 in
    let g5 = behind g4 (field r.at.den 32) h5 in
    let g6 = behind g5 (field r.x 32) h6 in
    let g7 = behind g6 (field r.y 32) h7 in
    behind g7 (field (side_number r.side) 10) (rw hn at h8)

pub head_done :
    (tracks cells : ℕ) {l0 l1 l2 l3 l4 : Draft} → Holds [] l0 → Holds (text_in l0 ++ tracks_word) l1 → Holds (text_in l1 ++ field tracks 32) l2
    → Holds (text_in l2 ++ cells_word) l3 → Holds (text_in l3 ++ field cells 10) l4 → Holds (head_of tracks cells) l4
unfolding head_of
head_done tracks cells h0 h1 h2 h3 h4 =
    let g1 = behind h0 tracks_word h1 in
    let g2 = behind g1 (field tracks 32) h2 in
    let g3 = behind g2 cells_word h3 in
    let g4 = behind g3 (field cells 10) h4 in
    g4

pub refusal_done :
    (number place : ℕ) {l0 l1 l2 l3 : Draft} → Holds [] l0 → Holds (text_in l0 ++ refused_word) l1 → Holds (text_in l1 ++ field number 32) l2
    → Holds (text_in l2 ++ field place 10) l3 → Holds (refused_of number place) l3
unfolding refused_of
refusal_done number place h0 h1 h2 h3 =
    let g1 = behind h0 refused_word h1 in
    let g2 = behind g1 (field number 32) h2 in
    let g3 = behind g2 (field place 10) h3 in
    g3

pub still-done : (tracks : ℕ) {l0 l1 l2 : Draft} → Holds [] l0 → Holds (text_in l0 ++ field tracks 32) l1 → Holds (text_in l1 ++ running_word) l2 → Holds (still_of tracks) l2
unfolding still_of
still-done tracks h0 h1 h2 = behind (behind h0 (field tracks 32) h1) running_word h2
