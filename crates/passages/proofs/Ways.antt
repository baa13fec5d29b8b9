-- The ways stored so far: `ways-first`, `ways-more`; what is read of the roll: `room`, `row-there`, `has_place`; all of it: `all_ways`.
use Prim.Native.Nat.{ℕ, ◌≤◌, ◌<◌, ◌+◌, ◌*◌, ◌/◌}
use mathlib.Core.Path.{◌≡◌, sym, ap, ap₂, subst, ◌∙◌}
use mathlib.Core.Bool.{Bool, true, false, cond}
use mathlib.Core.List.{List, [], ◌∷◌, map}
use native.Mathlib.Decide.{ℕ_discrete}
use native.Mathlib.Omega.{arith}
use lib.Dec.{ltb}
use lib.ListN.{length, get_or, take, set, length-append, length-map, length-set, get_or-map}
use lib.Seq.{ext_get_or, get_or-take, get_or-set_same, get_or-set_other, length-take-le, take-append-le}
use Rattle.sheet.specs.declared.Sheet.{Sheet}
use Rattle.sheet.specs.declared.Track.{Track}
use Rattle.sheet.specs.HandedIn.{no_track, handed_in}
use Rattle.sheet.specs.Listing.{◌∈◌}
use Rattle.sheet.proofs.Lists.{mem_at, at_mem, pairs-at}
use Rattle.rule.specs.declared.Row.{Row}
use Rattle.rule.specs.declared.Side.TheVariants.{NoSide}
use Rattle.rule.specs.declared.Ending.TheVariants.{Edge}
use Rattle.rule.specs.RowBytes.{row_width, roll_bytes}
use Rattle.rule.specs.Rows.{MeetsRows}
use Rattle.rule.specs.Selection.{roll_of}
use Rattle.rule.proofs.Existence.{roll_of_lem, roll_length}
use Rattle.rule.proofs.RowBytes.{roll_bytes_length}
use Rattle.rule.proofs.Starts.{one_id}
use Rattle.rule.proofs.Widths.{roll_fits}
use Rattle.std.specs.Prelude.{Some, None}
use Rattle.row.specs.Stored.{holds_row, row_from, row_in}
use Rattle.row.proofs.ReadBack.{row_back}
use Rattle.records.specs.Records.{Handed}
use Rattle.plain_run.proofs.Outcome.{tracks_count}
use Rattle.shapefile.specs.declared.Passage.{Passage}
use Rattle.passages.specs.Passages.{track_with, passage_of, passages_of}
use Rattle.passages.specs.InFront.{InFront}
use Rattle.passages.specs.Placed.{way_of, NoPlace, PlaceOf}
use Rattle.passages.proofs.OwnTrack.{own_track}

-- not at the first k places, and not at place k
pub none_more : (P : ℕ → Type 0) (k : ℕ) → ((i : ℕ) → i < k → ¬ P i) → ¬ P k → (i : ℕ) → i < k + 1 → ¬ P i
none_more P k f g i h x = go (ℕ_discrete i k)
  where
    go : Dec (i ≡ k) → ⊥
    go (yes e) = g (subst P e x)
    go (no e) = f i (omega arith) x

abbrev no_row : Row
no_row = record { id = 0; at = record { num = 0; den = 1 }; x = 0; y = 0; ending = Edge; side = NoSide }

-- the i-th track, and the k-th row as it is read
abbrev tip : List Track → ℕ → Track
tip tracks i = get_or tracks i no_track

abbrev read : List ℕ → ℕ → Row
read rows k = row_from rows (row_width * k)

-- the ways of the first j tracks, each at the place of its row
pub record Ways (rows : List ℕ) (tracks : List Track) (n : ℕ) (l : List Passage) (j : ℕ) : Type 0 where
  pub some : j ≤ n
  pub long : length l ≡ 256
  pub each : (d : Passage) (i k : ℕ) → i < j → k < n → (read rows k).id ≡ (tip tracks i).id → get_or l k d ≡ way_of (tip tracks i) (read rows k)

pub ways-first : {rows : List ℕ} {tracks : List Track} {n : ℕ} {l : List Passage} → length l ≡ 256 → Ways rows tracks n l 0
ways-first e = record { some = omega arith; long = e; each = λ d i k h. absurd (omega arith) }

-- a row that is found is the one whose bytes stand there
found_is : (rows : List ℕ) (k : ℕ) {r : Row} → row_in rows k ≡ Some r → read rows k ≡ r
unfolding row_in
found_is rows k {r} e = go (ltb k (length rows / row_width)) (holds_row rows (row_width * k)) e
  where
    go : (a b : Bool) → cond a (cond b (Some (read rows k)) None) None ≡ Some r → read rows k ≡ r
    go true true h = cc
    go true false h = absurd (let z : ◌≡◌ {A = ℕ} 0 1 = cc in omega arith)
    go false b h = absurd (let z : ◌≡◌ {A = ℕ} 0 1 = cc in omega arith)

module _ {s : Sheet} (p : Handed s) where
  abbrev n : ℕ
  n = s.ntracks

  abbrev T : List Track
  T = (handed_in s).tracks

  abbrev R : List Row
  R = roll_of (handed_in s)

  meets : MeetsRows (handed_in s) R
  meets = (roll_of_lem (handed_in s) p.accepted).meets

  rows_count : length R ≡ n
  rows_count = roll_length (handed_in s) p.accepted ∙ tracks_count p

  tip_is : (i : ℕ) → i < n → get_or T i no_track ≡ tip s.tracks i
  tip_is i h =
      ap (λ (l : List Track). get_or l i no_track) (take-append-le n s.tracks (no_track ∷ []) (omega (arith, p.tracks_long, p.tracks_in)))
      ∙ get_or-take n s.tracks i no_track h

  tip_in : (i : ℕ) → i < n → tip s.tracks i ∈ T
  tip_in i h = subst (λ (a : Track). a ∈ T) (tip_is i h) (mem_at no_track T i (omega (arith, tracks_count p)))

  module _ {rows : List ℕ} (f : InFront R rows) where
    pub room : row_width * n ≤ length rows
    room = let e = ap length f.is ∙ length-append (roll_bytes R) f.rest in omega (arith, roll_bytes_length R, rows_count)

    found : (k : ℕ) → k < n → row_in rows k ≡ Some (get_or R k no_row)
    found k h =
        let g : k < length R = omega (arith, rows_count) in
        ap (λ (z : List ℕ). row_in z k) f.is ∙ row_back R f.rest k no_row g (roll_fits (handed_in s) p.accepted (get_or R k no_row) (mem_at no_row R k g))

    id_is : (k : ℕ) → k < n → (read rows k).id ≡ (get_or R k no_row).id
    id_is k h = ap (λ (r : Row). r.id) (found_is rows k (found k h))

    -- no two rows have one id
    one_row : (i k : ℕ) → i < n → k < n → (read rows i).id ≡ (read rows k).id → i ≡ k
    one_row i k h g e = go (ℕ_discrete i k)
      where
        go : Dec (i ≡ k) → i ≡ k
        go (yes q) = q
        go (no q) =
            let x = pairs-at no_row (λ r q. ¬ (q.id ≡ r.id)) (λ r q x z. x (sym z)) R meets.is_set.distinct i k (omega (arith, rows_count)) (omega (arith, rows_count)) q in
            absurd (x (sym (id_is k g) ∙ sym e ∙ id_is i h))

    -- each track has a row
    pub has_place : {j : ℕ} → j < n → ¬ NoPlace rows n (tip s.tracks j).id
    unfolding row_from
    has_place {j} h q =
        let (r, m, e) = meets.is_set.each (tip s.tracks j) (tip_in j h) in
        let (i, g, x) = at_mem no_row R r m in
        let b : i < n = omega (arith, rows_count) in
        q i b (id_is i b ∙ ap (λ (z : Row). z.id) x ∙ e)

    module _ {j k : ℕ} (h : j < n) (q : PlaceOf rows n (tip s.tracks j).id k) where
      pub row-there : (r : Row) × (row_in rows k ≡ Some r)
      row-there = (get_or R k no_row, found k q.below)

      -- one track more
      pub ways-more : {l : List Passage} {r : Row} → row_in rows k ≡ Some r → Ways rows s.tracks n l j → Ways rows s.tracks n (set l k (way_of (tip s.tracks j) r)) (j + 1)
      unfolding row_from
      ways-more {l} {r} e w = record { some = omega arith; long = length-set l k way ∙ w.long; each = λ d i m a b x. here d i m a b x (ℕ_discrete m k) }
        where
          way : Passage
          way = way_of (tip s.tracks j) r

          -- at another place
          other : (d : Passage) (i m : ℕ) → ¬ (m ≡ k) → i < j + 1 → m < n → (read rows m).id ≡ (tip s.tracks i).id → Dec (i ≡ j) → get_or l m d ≡ way_of (tip s.tracks i) (read rows m)
          other d i m c a b x (yes z) = absurd (c (one_row m k b q.below (x ∙ ap (λ (y : ℕ). (tip s.tracks y).id) z ∙ sym q.there)))
          other d i m c a b x (no z) = w.each d i m (omega arith) b x

          here : (d : Passage) (i m : ℕ) → i < j + 1 → m < n → (read rows m).id ≡ (tip s.tracks i).id → Dec (m ≡ k) → get_or (set l k way) m d ≡ way_of (tip s.tracks i) (read rows m)
          here d i m a b x (yes c) =
              let z = sym q.there ∙ ap (λ (y : ℕ). (read rows y).id) (sym c) ∙ x in
              let t = one_id T p.accepted.track_ids (tip s.tracks j) (tip s.tracks i) (tip_in j h) (tip_in i (omega arith)) z in
              ap (λ (y : ℕ). get_or (set l k way) y d) c
              ∙ get_or-set_same l k way d (omega (arith, w.long, p.tracks_in, q.below))
              ∙ ap₂ way_of t (sym (ap (read rows) c ∙ found_is rows k e))
          here d i m a b x (no c) = get_or-set_other l k m way d c ∙ other d i m c a b x (ℕ_discrete i j)

    module _ {l : List Passage} {j : ℕ} (h : n ≤ j) (w : Ways rows s.tracks n l j) where
      -- each row has a track
      way_there : (d : Passage) (k : ℕ) → k < n → get_or l k d ≡ passage_of T (get_or R k no_row)
      unfolding passage_of
      way_there d k b =
          let r = get_or R k no_row in
          let (m, e) = own_track (handed_in s) p.accepted r (mem_at no_row R k (omega (arith, rows_count))) in
          let (i, g, x) = at_mem no_track T (track_with T r.id) m in
          let c : i < n = omega (arith, tracks_count p) in
          let a = sym (tip_is i c) ∙ x in
          w.each d i k (omega arith) b (id_is k b ∙ sym (ap (λ (z : Track). z.id) a ∙ e)) ∙ ap₂ way_of a (found_is rows k (found k b))

      pub all_ways : take n l ≡ passages_of T R
      unfolding passages_of
      all_ways =
          let e : length (take n l) ≡ n = length-take-le n l (omega (arith, w.long, p.tracks_in)) in
          ext_get_or d (take n l) (map (passage_of T) R) (e ∙ sym (length-map R (passage_of T) ∙ rows_count)) (λ k b. same k (omega arith))
        where
          d : Passage
          d = passage_of T no_row

          same : (k : ℕ) → k < n → get_or (take n l) k d ≡ get_or (map (passage_of T) R) k d
          same k b = get_or-take n l k d b ∙ way_there d k b ∙ sym (get_or-map (passage_of T) R k no_row)
