-- The one list of a cell. Main theorems: `the_ids`, it has exactly the tracks with a point in the cell, as they enter it; `no_other_ids`, no other list has; `same_tracks`, it is the same for every order of the tracks.
use mathlib.Core.Path.{◌≡◌, refl, sym, subst, ◌∙◌}
use mathlib.Core.Logic.{◌⊎◌, inl, inr}
use mathlib.Core.Bool.{Bool}
use mathlib.Core.List.Memᴰ
use mathlib.Core.List.Permᴰ
use mathlib.Core.List.{List, map, Permᴰ}
use Prim.Native.Nat.{ℕ}
use Rattle.fraction.specs.Time.{Time}
use Rattle.sheet.specs.declared.Track.{Track}
use Rattle.sheet.specs.Accepted.{Pairwise}
use Rattle.sheet.specs.Listing.{◌∈◌}
use Rattle.sheet.proofs.Lists.{pairwise_at, pairs-map, perm_mem, perm_pairs, sorted_same}
use Rattle.sheet.proofs.Sorted.{sort_perm, sort_sorted, sort_only}
use Rattle.cells.specs.declared.Cell.{Cell}
use Rattle.cells.specs.OneCell.{has_point}
use Rattle.cells.specs.Passing.{passing}
use Rattle.cells.specs.Touched.{HasPoint}
use Rattle.cells.proofs.Entry.{has_point_true, tested}
use Rattle.cells.proofs.Passing.{passing_in, in_passing, passing-pairs}
use Rattle.cell_listing.specs.CellIds.{CellIds, Precedes, ahead, cell_tracks}
use Rattle.cell_listing.proofs.EntryOrder.{LeavesBefore, Differ, by_entry, enters_before, not-both}

module _ (T : ℕ → Time) (s : ℕ) (k : Cell) where
  abbrev pub Has : Track → Type 0
  Has a = HasPoint a (T a.id) s k

  abbrev test : Track → Bool
  test a = has_point a (T a.id) s k

  module _ (tracks : List Track) where
    abbrev listed : List Track
    listed = cell_tracks T s k tracks

    pub listed_in : (a : Track) → a ∈ listed → (a ∈ tracks) × Has a
    unfolding cell_tracks
    listed_in a m = let (n, e) = passing_in test tracks (perm_mem (sort_perm (ahead s k) (passing test tracks)) a m) in (n, has_point_true e)

    pub in_listed : (a : Track) → a ∈ tracks → Has a → a ∈ listed
    unfolding cell_tracks
    in_listed a m h = perm_mem (Permᴰ.symm (sort_perm (ahead s k) (passing test tracks))) a (in_passing test tracks m (tested h))

    module _ (d : Pairwise Differ tracks) where
      passed_differ : Pairwise Differ (passing test tracks)
      passed_differ = passing-pairs test Differ tracks d

      listed_differ : Pairwise Differ listed
      unfolding cell_tracks
      listed_differ = perm_pairs Differ (λ a b f e. f (sym e)) (Permᴰ.symm (sort_perm (ahead s k) (passing test tracks))) passed_differ

      pub listed-sorted : Pairwise (LeavesBefore s k) listed
      unfolding cell_tracks
      listed-sorted = sort_sorted (by_entry s k) (passing test tracks) passed_differ

      pub listed_only : (l : List Track) → Pairwise (LeavesBefore s k) l → ((a : Track) → a ∈ l → (a ∈ tracks) × Has a) → ((a : Track) → a ∈ tracks → Has a → a ∈ l) → listed ≡ l
      unfolding cell_tracks
      listed_only l r f g =
          sort_only (by_entry s k) (passing test tracks) l passed_differ r
          (λ a m. let (n, e) = passing_in test tracks m in g a n (has_point_true e))
          (λ a m. let (n, h) = f a m in in_passing test tracks n (tested h))

      -- ---- their ids

      abbrev ids : List ℕ
      ids = map (λ (a : Track). a.id) listed

      abbrev InOrder : ℕ → ℕ → Type 0
      InOrder = Precedes T tracks s k

      id_of_lem : (i : ℕ) → i ∈ ids → (a : Track) × (a ∈ tracks) × (a.id ≡ i) × Has a
      id_of_lem i m = let (a, n, e) = Memᴰ.of_map (λ (a : Track). a.id) listed m in let (o, h) = listed_in a n in (a, o, e, h)

      of_id : (a : Track) → a ∈ tracks → Has a → a.id ∈ ids
      of_id a m h = Memᴰ.map (λ (a : Track). a.id) (in_listed a m h)

      precedes : (a b : Track) → a ∈ listed → b ∈ listed → LeavesBefore s k a b → InOrder a.id b.id
      precedes a b m n r =
          let (i, h) = listed_in a m in
          let (j, g) = listed_in b n in
          record { first = a; second = b; first_on = i; second_on = j; first_id = refl; second_id = refl; enters = enters_before h g r }

      -- exactly those, each once, in this order
      pub the_ids : CellIds T tracks s k ids × Pairwise InOrder ids
      the_ids = (
        record { once = pairs-map (λ (a : Track). a.id) Differ (λ i j. ¬ (i ≡ j)) listed (λ a b m n f. f) listed_differ; each = id_of_lem; all = of_id },
        pairs-map (λ (a : Track). a.id) (LeavesBefore s k) InOrder listed precedes listed-sorted,
      )

      -- one track for one id
      same_id_lem : (a b : Track) → a ∈ tracks → b ∈ tracks → a.id ≡ b.id → a ≡ b
      same_id_lem a b m n e = go (pairwise_at Differ tracks d m n)
        where
          go : (a ≡ b) ⊎ (Differ a b ⊎ Differ b a) → a ≡ b
          go (inl z) = z
          go (inr (inl f)) = absurd (f e)
          go (inr (inr f)) = absurd (f (sym e))

      one_way : (i j : ℕ) → InOrder i j → ¬ InOrder j i
      one_way i j p q =
          let x = same_id_lem p.first q.second p.first_on q.second_on (p.first_id ∙ sym q.second_id) in
          let y = same_id_lem p.second q.first p.second_on q.first_on (p.second_id ∙ sym q.first_id) in
          not-both p.enters (rw (x, y) q.enters)

      pub no_other_ids : (l : List ℕ) → CellIds T tracks s k l → Pairwise InOrder l → l ≡ ids
      no_other_ids l h r =
          sorted_same ℕ InOrder one_way l ids r the_ids.1
          (λ i m. let (a, n, e, x) = h.each i m in subst (λ (z : ℕ). z ∈ ids) e (of_id a n x))
          (λ i m. let (a, n, e, x) = id_of_lem i m in subst (λ (z : ℕ). z ∈ l) e (h.all a n x))

  -- in every order of the tracks
  pub same_tracks : {tracks tracks' : List Track} → Permᴰ tracks tracks' → Pairwise Differ tracks → cell_tracks T s k tracks ≡ cell_tracks T s k tracks'
  same_tracks {tracks} {tracks'} p d =
      listed_only tracks d (cell_tracks T s k tracks') (listed-sorted tracks' (perm_pairs Differ (λ a b f e. f (sym e)) p d))
      (λ a m. let (n, h) = listed_in tracks' a m in (perm_mem (Permᴰ.symm p) a n, h))
      (λ a m h. in_listed tracks' a (perm_mem p a m) h)
