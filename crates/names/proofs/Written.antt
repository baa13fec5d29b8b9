-- Entries written one after the other are read back, `read_back`, and every list of bytes is such entries and what is cut short, `every_list`.
use Prim.Native.Nat.{ℕ, zero, suc, ◌≤◌, ◌<◌, ◌+◌, ◌^◌}
use mathlib.Core.Path.{◌≡◌, refl, ap, ◌∙◌}
use mathlib.Core.List.{List, [], ◌∷◌, ◌++◌, append_assoc}
use native.Mathlib.Decide.{dec_le}
use native.Mathlib.Omega.{arith}
use lib.ListN.{length, take, drop, length-append, length-take, length-drop, take-append-drop}
use lib.Seq.{take_at, drop_at, get_or-drop}
use Rattle.byte_order.specs.Bytes.{le_bytes, le_of, AllBytes}
use Rattle.byte_order.proofs.Bytes.{le_length, le_back, le_bound, field_write}
use Rattle.names.specs.NameList.{Entry, entry_bytes, list_bytes, entry_width, entry_in, entries_of}
use Rattle.names.proofs.Entries.{whole_front, cut_front}

-- within the widths of the format
pub record EntryFits (e : Entry) : Type 0 where
  pub id : e.id < 256 ^ 2
  pub size : length e.name < 256 ^ 1

abbrev pub AllFit : List Entry → Type 0
AllFit [] = Unit {0}
AllFit (e ∷ l) = EntryFits e × AllFit l

-- no whole entry stands at the front: nothing, one or two bytes, or a name with fewer bytes than its length says
pub record CutShort (s : List ℕ) : Type 0 where
  pub short : length s < entry_width s

-- ---- reading what was written

pub entry_length : (e : Entry) → length (entry_bytes e) ≡ 3 + length e.name
unfolding entry_bytes
entry_length e = simp (length-append, le_length) (omega arith)

-- behind the three bytes of the header stands the name
pub behind_header : (e : Entry) (rest : List ℕ) → drop 3 (entry_bytes e ++ rest) ≡ e.name ++ rest
unfolding entry_bytes le_bytes
behind_header e rest = refl

module _ (e : Entry) (rest : List ℕ) (h : EntryFits e) where
  abbrev n : ℕ
  n = length e.name

  abbrev there : List ℕ
  there = entry_bytes e ++ rest

  id_there : le_of 2 there 0 ≡ e.id
  unfolding entry_bytes le_bytes
  id_there = le_back 2 e.id 0 [] (le_bytes 1 n ++ e.name ++ rest) refl h.id

  size-there : le_of 1 there 2 ≡ n
  unfolding entry_bytes le_bytes
  size-there = le_back 1 n 2 (le_bytes 2 e.id) (e.name ++ rest) (le_length 2 e.id) h.size

  pub read-entry : entries_of there ≡ e ∷ entries_of rest
  read-entry =
      let fits : entry_width there ≤ length there = rw size-there (simp (length-append, entry_length) (omega arith)) in
      let name : take n (drop 3 there) ≡ e.name = rw behind_header (take_at e.name rest n refl) in
      rw (id_there, size-there, name, drop_at (entry_bytes e) rest (3 + n) (entry_length e)) at (whole_front there fits)

pub read_back : (l : List Entry) (cut : List ℕ) → AllFit l → CutShort cut → entries_of (list_bytes l ++ cut) ≡ l
unfolding list_bytes
read_back [] cut h c = cut_front cut c.short
read_back (e ∷ l) cut h c =
    ap entries_of (append_assoc (entry_bytes e) (list_bytes l) cut)
    ∙ read-entry e (list_bytes l ++ cut) h.0
    ∙ ap (λ (r : List Entry). e ∷ r) (read_back l cut h.1 c)

-- ---- every list of bytes

-- s is its whole entries as they are written, and then what is cut short
pub record Written (s : List ℕ) : Type 0 where
  pub fit : AllFit (entries_of s)
  pub cut : List ℕ
  pub is_cut : CutShort cut
  pub bytes : s ≡ list_bytes (entries_of s) ++ cut

all-cut : (s : List ℕ) → CutShort s → Written s
unfolding list_bytes
all-cut s c =
    let e = cut_front s c.short in
    record { fit = rw e tt; cut = s; is_cut = c; bytes = rw e }

-- one whole entry, then the others
module _ (s : List ℕ) (b : AllBytes s) (l : entry_width s ≤ length s) where
  abbrev k : ℕ
  k = le_of 1 s 2

  sized : length (take k (drop 3 s)) ≡ k
  sized = simp (length-take, length-drop) (omega arith)

  front : entry_bytes (entry_in s) ≡ take (entry_width s) s
  unfolding entry_bytes
  front =
      let z : 2 + (1 + k) ≡ 3 + k = omega arith in
      let size = field_write 1 k s 2 3 (take k (drop 3 s)) b (omega arith) refl refl in
      rw (sized, field_write 2 (1 + k) s 0 2 _ b (omega arith) refl size, z)

  one_more : Written (drop (entry_width s) s) → Written s
  unfolding list_bytes
  one_more w =
      let e = whole_front s l in
      record {
        fit = rw e (record { id = le_bound 2 s 0 b; size = rw sized (le_bound 1 s 2 b) }, w.fit);
        cut = w.cut;
        is_cut = w.is_cut;
        bytes =
            rw (e, append_assoc (entry_bytes (entry_in s)) (list_bytes (entries_of (drop (entry_width s) s))) w.cut, ← w.bytes, front, take-append-drop (entry_width s) s);
      }

up_to : (n : ℕ) (s : List ℕ) → length s < n → AllBytes s → Written s
up_to zero s h b = absurd (omega arith)
up_to (suc n) s h b = go (dec_le (entry_width s) (length s)) (up_to n)
  where
    behind : AllBytes (drop (entry_width s) s)
    behind = record { below = λ i. rw get_or-drop (b.below (entry_width s + i)) }

    go : Dec (entry_width s ≤ length s) → ((t : List ℕ) → length t < n → AllBytes t → Written t) → Written s
    go (yes l) w = one_more s b l (w (drop (entry_width s) s) (simp length-drop (omega arith)) behind)
    go (no l) w = all-cut s (record { short = omega arith })

pub every_list : (s : List ℕ) → AllBytes s → Written s
every_list s b = up_to (suc (length s)) s (omega arith) b
