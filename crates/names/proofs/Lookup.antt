-- What a lookup gives, as SHEETS 8.3 and 8.4 say it: `lookup_first` and `lookup_none`, one of which applies (`first_or_none`), and `name_bytes`; of entries that were written, `first_found` and `not_found`.
use Prim.Native.Nat.{ℕ, ◌+◌}
use mathlib.Core.Path.{◌≡◌, refl, ap, ◌∙◌}
use mathlib.Core.Logic.{◌⊎◌, inl, inr}
use mathlib.Core.List.{List, [], ◌∷◌, ◌++◌, append_assoc}
use native.Mathlib.Decide.{ℕ_discrete}
use native.Mathlib.Omega.{arith}
use lib.ListN.{length, take, drop, length-append}
use lib.Seq.{take_at, drop-append-add}
use Rattle.byte_order.specs.Bytes.{AllBytes}
use Rattle.std.specs.Prelude.{Some, None}
use Rattle.names.specs.NameList.{Entry, entry_bytes, list_bytes, entries_of, first_named, name_of}
use Rattle.names.proofs.Search.{none, first, next}
use Rattle.names.proofs.Written.{AllFit, CutShort, entry_length, behind_header, read_back, every_list}

-- no entry has the id
abbrev pub Without : ℕ → List Entry → Type 0
Without q [] = Unit {0}
Without q (e ∷ l) = (e.id ≡ q → ⊥) × Without q l

-- the first entry with the id
pub record First (q : ℕ) (l : List Entry) : Type 0 where
  pub before : List Entry
  pub hit : Entry
  pub after : List Entry
  pub split : l ≡ before ++ hit ∷ after
  pub none_before : Without q before
  pub id : hit.id ≡ q

-- ---- among the entries

pub first_or_none : (q : ℕ) (l : List Entry) → First q l ⊎ Without q l
first_or_none q [] = inr tt
first_or_none q (e ∷ l) = go (ℕ_discrete e.id q) (first_or_none q l)
  where
    go : Dec (e.id ≡ q) → First q l ⊎ Without q l → First q (e ∷ l) ⊎ Without q (e ∷ l)
    go (yes h) r = inl (record { before = []; hit = e; after = l; split = refl; none_before = tt; id = h })
    go (no h) (inl f) =
        inl (record {
          before = e ∷ f.before;
          hit = f.hit;
          after = f.after;
          split = ap (λ (r : List Entry). e ∷ r) f.split;
          none_before = (h, f.none_before);
          id = f.id;
        })
    go (no h) (inr w) = inr (h, w)

none_of : (at : ℕ) (l : List Entry) (q : ℕ) → Without q l → first_named at l q ≡ None
none_of at [] q h = none at q
none_of at (e ∷ l) q h = next at e l q h.0 ∙ none_of (at + 3 + length e.name) l q h.1

first_of : (at : ℕ) (before : List Entry) (e : Entry) (after : List Entry) (q : ℕ) → Without q before → e.id ≡ q → first_named at (before ++ e ∷ after) q ≡ Some (at + length (list_bytes before) + 3, length e.name)
unfolding list_bytes
first_of at [] e after q h i = let z : at + 0 + 3 ≡ at + 3 = omega arith in first at e after q i ∙ rw z
first_of at (d ∷ before) e after q h i =
    let p = at + 3 + length d.name in
    let z : p + length (list_bytes before) + 3 ≡ at + length (entry_bytes d ++ list_bytes before) + 3 = simp (length-append, entry_length) (omega arith) in
    next at d (before ++ e ∷ after) q h.0 ∙ first_of p before e after q h.1 i ∙ rw z

-- ---- in any list

module _ (s : List ℕ) (q : ℕ) where
  pub lookup_none : Without q (entries_of s) → name_of s q ≡ None
  unfolding name_of
  lookup_none w = none_of 0 (entries_of s) q w

  -- the name stands behind the entries before, and three bytes of its own entry
  pub lookup_first : (f : First q (entries_of s)) → name_of s q ≡ Some (length (list_bytes f.before) + 3, length f.hit.name)
  unfolding name_of
  lookup_first f =
      let z : 0 + length (list_bytes f.before) + 3 ≡ length (list_bytes f.before) + 3 = omega arith in
      ap (λ (l : List Entry). first_named 0 l q) f.split
      ∙ first_of 0 f.before f.hit f.after q f.none_before f.id
      ∙ rw z

-- ---- in entries that were written, with what is cut short behind them

joined : (l m : List Entry) → list_bytes (l ++ m) ≡ list_bytes l ++ list_bytes m
unfolding list_bytes
joined [] m = refl
joined (e ∷ l) m = rw (joined l m, append_assoc)

module _ (before : List Entry) (e : Entry) (after : List Entry) (cut : List ℕ) where
  pub first_found : AllFit (before ++ e ∷ after) → CutShort cut → Without e.id before → name_of (list_bytes (before ++ e ∷ after) ++ cut) e.id ≡ Some (length (list_bytes before) + 3, length e.name)
  first_found h c w =
      lookup_first (list_bytes (before ++ e ∷ after) ++ cut) e.id
      (record {
        before = before;
        hit = e;
        after = after;
        split = read_back (before ++ e ∷ after) cut h c;
        none_before = w;
        id = refl;
      })

  -- the bytes at that place
  pub its_bytes : take (length e.name) (drop (length (list_bytes before) + 3) (list_bytes (before ++ e ∷ after) ++ cut)) ≡ e.name
  unfolding list_bytes
  its_bytes =
      rw (joined before (e ∷ after), append_assoc (list_bytes before) (entry_bytes e ++ list_bytes after) cut, drop-append-add (list_bytes before) (entry_bytes e ++ list_bytes after ++ cut) 3, append_assoc (entry_bytes e) (list_bytes after) cut, behind_header e (list_bytes after ++ cut))
      (take_at e.name (list_bytes after ++ cut) (length e.name) refl)

pub not_found : (l : List Entry) (cut : List ℕ) (q : ℕ) → AllFit l → CutShort cut → Without q l → name_of (list_bytes l ++ cut) q ≡ None
not_found l cut q h c w = lookup_none (list_bytes l ++ cut) q (rw (read_back l cut h c) w)

-- ---- in any list of bytes

pub name_bytes : (s : List ℕ) (q : ℕ) → AllBytes s → (f : First q (entries_of s)) → take (length f.hit.name) (drop (length (list_bytes f.before) + 3) s) ≡ f.hit.name
name_bytes s q b f =
    let w = every_list s b in
    ap (λ (t : List ℕ). take (length f.hit.name) (drop (length (list_bytes f.before) + 3) t)) (w.bytes ∙ rw f.split)
    ∙ its_bytes f.before f.hit f.after w.cut
