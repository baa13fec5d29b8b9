-- How many bytes of a sheet decide it. Main theorem: `first-bytes`, the verdict on the first 5,643 bytes or more is the verdict on all, and an accepted sheet is no longer.
use mathlib.Core.Path.{◌≡◌, refl, sym, ap, ◌∙◌}
use mathlib.Core.Bool.{Bool, true, false, cond}
use mathlib.Core.List.{List, [], ◌∷◌, ◌++◌}
use Prim.Native.Nat.{ℕ, zero, suc, ◌+◌, ◌*◌, ◌≤◌, ◌<◌}
use native.Mathlib.Omega.{arith}
use borrow.Author.Tests.{eqb-true, ltb-true, ltb-false, leb-false, lt-leb, le-leb, ne_eqb}
use lib.Dec.{eqb, ltb}
use lib.ListN.{length, get_or, take, length-append}
use lib.Seq.{length-take-le, get_or-take, take_all}
use Rattle.byte_order.proofs.Bytes.{le_take}
use Rattle.sheet.specs.declared.Track.{Track}
use Rattle.sheet.specs.declared.Wall.{Wall}
use Rattle.sheet.specs.declared.Command.{Command}
use Rattle.sheet.specs.declared.Command.TheVariants.{AddTrack, AddWall}
use Rattle.sheet.specs.declared.Item.{Item}
use Rattle.sheet.specs.declared.Item.TheVariants.{Unknown, Cut, End, Add}
use Rattle.sheet.specs.Format.{item_at, width, track_at, late_at, wall_at}
use Rattle.sheet.specs.Listing.{tracks_of, walls_of}
use Rattle.sheet.specs.Returned.{Returned, accepted, refused}
use Rattle.sheet.specs.Scan.{at_item, scan, verdict_of}
use Rattle.sheet.specs.Table.{table, no_line, first_broken, too_many}
use Rattle.sheet.proofs.Acceptance.{clear, tracks-append, walls_append}
use Rattle.sheet.proofs.Encoded.{went_on}

-- 256 tracks by 03, 256 walls, and one command more with its operands (SHEETS 2.10)
abbrev pub deciding : ℕ
deciding = 5643

-- ---- what stands at a place with 11 bytes from it on

abbrev item_of : ℕ → Track → Wall → Track → Item
item_of b a w l = cond (eqb b 0) End (cond (eqb b 1) (Add (AddTrack a false)) (cond (eqb b 2) (Add (AddWall w)) (cond (eqb b 3) (Add (AddTrack l true)) Unknown)))

item_long : (s : List ℕ) (at : ℕ) → at + 11 ≤ length s → item_at s at ≡ item_of (get_or s at 0) (track_at s at) (wall_at s at) (late_at s at)
unfolding item_at
item_long s at h = simp (lt-leb (length s) at (omega arith), le-leb (at + 9) (length s) (omega arith), le-leb (at + 11) (length s) h)

module _ (s : List ℕ) (n at : ℕ) (h : at + 11 ≤ n) where
  track_same : track_at (take n s) at ≡ track_at s at
  unfolding track_at
  track_same =
      rw (
        le_take 2 n s (at + 1) (omega arith),
        le_take 2 n s (at + 3) (omega arith),
        le_take 2 n s (at + 5) (omega arith),
        get_or-take n s (at + 7) 0 (omega arith),
        get_or-take n s (at + 8) 0 (omega arith),
      )

  late_same : late_at (take n s) at ≡ late_at s at
  unfolding late_at
  late_same =
      rw (
        le_take 2 n s (at + 1) (omega arith),
        le_take 2 n s (at + 3) (omega arith),
        le_take 2 n s (at + 5) (omega arith),
        get_or-take n s (at + 7) 0 (omega arith),
        get_or-take n s (at + 8) 0 (omega arith),
        le_take 2 n s (at + 9) (omega arith),
      )

  wall_same : wall_at (take n s) at ≡ wall_at s at
  unfolding wall_at
  wall_same =
      rw (
        le_take 2 n s (at + 1) (omega arith),
        le_take 2 n s (at + 3) (omega arith),
        le_take 2 n s (at + 5) (omega arith),
        le_take 2 n s (at + 7) (omega arith),
        le_take 2 n s (at + 9) (omega arith),
      )

  item_same : n ≤ length s → item_at (take n s) at ≡ item_at s at
  item_same k =
      let l : length (take n s) ≡ n = length-take-le n s k in
      item_long (take n s) at (omega arith)
      ∙ rw (track_same, wall_same, late_same, get_or-take n s at 0 (omega arith)) (sym (item_long s at (omega arith)))

-- ---- how far the commands reach

-- at most 256 of each kind, each of at most 11 bytes, and the place behind them
record Counted (before : List Command) (at : ℕ) : Type 0 where
  tracks : length (tracks_of before) ≤ 256
  walls : length (walls_of before) ≤ 256
  all : length before ≡ length (tracks_of before) + length (walls_of before)
  place : at ≤ 11 * length (tracks_of before) + 11 * length (walls_of before)

none_yet : Counted [] 0
unfolding tracks_of walls_of
none_yet = record { tracks = omega arith; walls = omega arith; all = refl; place = omega arith }

width-most : (c : Command) → width c ≤ 11
width-most (AddTrack a false) = omega arith
width-most (AddTrack a true) = omega arith
width-most (AddWall v) = omega arith

one_more : {before : List Command} {at : ℕ} → Counted before at → (c : Command) → too_many before c ≡ false → Counted (before ++ (c ∷ [])) (at + width c)
unfolding tracks_of walls_of
one_more {before} {at} k (AddTrack a q) h =
    let b = width-most (AddTrack a q) in
    let l = leb-false 256 (length (tracks_of before)) h in
    let t : length (tracks_of (before ++ (AddTrack a q ∷ []))) ≡ length (tracks_of before) + 1 = rw tracks-append (length-append (tracks_of before) (a ∷ [])) in
    let w : length (walls_of (before ++ (AddTrack a q ∷ []))) ≡ length (walls_of before) + 0 = rw walls_append (length-append (walls_of before) []) in
    let n = length-append before (AddTrack a q ∷ []) in
    record { tracks = omega arith; walls = omega (arith, k.walls); all = omega (arith, k.all); place = omega (arith, k.place) }
one_more {before} {at} k (AddWall v) h =
    let l = leb-false 256 (length (walls_of before)) h in
    let t : length (tracks_of (before ++ (AddWall v ∷ []))) ≡ length (tracks_of before) + 0 = rw tracks-append (length-append (tracks_of before) []) in
    let w : length (walls_of (before ++ (AddWall v ∷ []))) ≡ length (walls_of before) + 1 = rw walls_append (length-append (walls_of before) (v ∷ [])) in
    let b = length-append before (AddWall v ∷ []) in
    record { tracks = omega (arith, k.tracks); walls = omega arith; all = omega (arith, k.all); place = omega (arith, k.place) }

-- ---- the scan

chosen : {X Y : Returned} (Z : Returned) (b : Bool) → (b ≡ true → X ≡ Y) → cond b X Z ≡ cond b Y Z
chosen Z true f = f refl
chosen Z false f = refl

-- a command that breaks no rule is counted with those before it
next : {before : List Command} {at : ℕ} → Counted before at → (c : Command) → eqb (first_broken table before c) no_line ≡ true → Counted (before ++ (c ∷ [])) (at + width c)
next {before} k c e = one_more k c (clear before c (eqb-true (first_broken table before c) no_line e)).room

module _ (s : List ℕ) (n : ℕ) (h : deciding ≤ n) (k : n ≤ length s) where
  at_item_lem : (at : ℕ) (N M : Command → Returned) → at ≤ 5632 → ((c : Command) → N c ≡ M c) → (i : Item) → at_item (take n s) at N i ≡ at_item s at M i
  at_item_lem at N M l e Unknown = refl
  at_item_lem at N M l e Cut = refl
  at_item_lem at N M l e End =
      rw (ne_eqb (at + 1) (length (take n s)) (λ q. omega (arith, length-take-le n s k)), ne_eqb (at + 1) (length s) (λ q. omega arith))
  at_item_lem at N M l e (Add c) = e c

  same_scan : (f g at : ℕ) (before : List Command) → Counted before at → 512 < f + length before → 512 < g + length before → scan f (take n s) at before ≡ scan g s at before
  unfolding scan
  same_scan zero g at before c p q = absurd (omega (arith, c.tracks, c.walls, c.all))
  same_scan (suc f) zero at before c p q = absurd (omega (arith, c.tracks, c.walls, c.all))
  same_scan (suc f) (suc g) at before c p q =
      let l : at ≤ 5632 = omega (arith, c.tracks, c.walls, c.place) in
      rw (item_same s n at (omega arith) k)
      (at_item_lem at _ _ l
      (λ d.
      let b = length-append before (d ∷ []) in
      chosen (refused (first_broken table before d) at) (eqb (first_broken table before d) no_line)
      (λ e. same_scan f g (at + width d) (before ++ (d ∷ [])) (next c d e) (omega arith) (omega arith)))
      (item_at s at))

-- ---- a sheet that is longer is refused

module _ (s : List ℕ) (h : deciding ≤ length s) where
  at_item_refused : (at : ℕ) (N : Command → Returned) → at ≤ 5632 → ((c : Command) → N c ≡ accepted → ⊥) → (i : Item) → at_item s at N i ≡ accepted → ⊥
  at_item_refused at N l e Unknown q = let z : ◌≡◌ {A = ℕ} 0 1 = cc in omega arith
  at_item_refused at N l e Cut q = let z : ◌≡◌ {A = ℕ} 0 1 = cc in omega arith
  at_item_refused at N l e End q =
      let r : refused 3 (at + 1) ≡ accepted = rw (ne_eqb (at + 1) (length s) (λ w. omega arith)) at q in
      let z : ◌≡◌ {A = ℕ} 0 1 = cc in
      omega arith
  at_item_refused at N l e (Add c) q = e c q

  never : (f at : ℕ) (before : List Command) → Counted before at → scan f s at before ≡ accepted → ⊥
  unfolding scan
  never zero at before c q = let z : ◌≡◌ {A = ℕ} 0 1 = cc in omega arith
  never (suc f) at before c q =
      at_item_refused at _ (omega (arith, c.tracks, c.walls, c.place))
      (λ d e.
      let w = went_on (first_broken table before d) at _ e in
      never f (at + width d) (before ++ (d ∷ [])) (one_more c d (clear before d w.0).room) w.1)
      (item_at s at) q

-- ---- the theorem

-- the first n bytes of a sheet decide it
pub record Decides (n : ℕ) (s : List ℕ) : Type 0 where
  pub verdict : verdict_of (take n s) ≡ verdict_of s
  pub whole : verdict_of s ≡ accepted → take n s ≡ s

pub first-bytes : (n : ℕ) (s : List ℕ) → deciding ≤ n → Decides n s
unfolding verdict_of
first-bytes n s h = go (ltb n (length s)) refl
  where
    go : (b : Bool) → ltb n (length s) ≡ b → Decides n s
    go true e =
        let k = ltb-true n (length s) e in
        let l = length-take-le n s (omega arith) in
        record {
          verdict = same_scan s n h (omega arith) (suc (length (take n s))) (suc (length s)) 0 [] none_yet (omega arith) (omega arith);
          whole = λ q. absurd (never s (omega arith) (suc (length s)) 0 [] none_yet q);
        }
    go false e =
        let t = take_all n s (ltb-false n (length s) e) in
        record { verdict = ap verdict_of t; whole = λ q. t }
