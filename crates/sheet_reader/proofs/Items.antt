-- What stands at a place, by its bytes: one law for each case, and `whole_is` (what a whole command says of its bytes).
use Prim.Native.Nat.{ℕ, ◌≤◌, ◌<◌, ◌+◌}
use mathlib.Core.Path.{◌≡◌, refl, subst}
use mathlib.Core.Bool.{true, false}
use mathlib.Core.List.{List}
use mathlib.Core.Logic.{◌⊎◌, inl, inr}
use native.Mathlib.Decide.{ℕ_discrete}
use native.Mathlib.Omega.{arith}
use borrow.Author.Tests.{le-leb, lt-leb, ne_eqb}
use lib.ListN.{length, get_or}
use Rattle.sheet.specs.declared.Command.{Command}
use Rattle.sheet.specs.declared.Command.TheVariants.{AddTrack, AddWall}
use Rattle.sheet.specs.declared.Item.{Item}
use Rattle.sheet.specs.declared.Item.TheVariants.{Unknown, Cut, End, Add}
use Rattle.sheet.specs.Format.{item_at, track_at, late_at, wall_at, width}
use Rattle.sheet.proofs.Decoded.{Stands, nothing, the_end, a_track, a_late, a_wall, unknown, stands}
use Rattle.sheet_reader.specs.Walk.{WholeAt, named}

module _ (s : List ℕ) (at : ℕ) where
  pub no_byte : length s ≤ at → item_at s at ≡ Cut
  unfolding item_at
  no_byte h = simp (le-leb _ _ h)

  module _ (h : at < length s) where
    pub is_end : get_or s at 0 ≡ 0 → item_at s at ≡ End
    unfolding item_at
    is_end e = simp (lt-leb _ _ h, e)

    pub is_unknown : 3 < get_or s at 0 → item_at s at ≡ Unknown
    unfolding item_at
    is_unknown g =
        let b = get_or s at 0 in
        simp (lt-leb _ _ h, ne_eqb b 0 (λ e. omega arith), ne_eqb b 1 (λ e. omega arith), ne_eqb b 2 (λ e. omega arith), ne_eqb b 3 (λ e. omega arith))

  pub is_track : get_or s at 0 ≡ 1 → at + 9 ≤ length s → item_at s at ≡ Add (AddTrack (track_at s at) false)
  unfolding item_at
  is_track e g = let h : at < length s = omega arith in simp (lt-leb _ _ h, e, le-leb _ _ g)

  pub is_wall : get_or s at 0 ≡ 2 → at + 11 ≤ length s → item_at s at ≡ Add (AddWall (wall_at s at))
  unfolding item_at
  is_wall e g = let h : at < length s = omega arith in simp (lt-leb _ _ h, e, le-leb _ _ g)

  pub is_late : get_or s at 0 ≡ 3 → at + 11 ≤ length s → item_at s at ≡ Add (AddTrack (late_at s at) true)
  unfolding item_at
  is_late e g = let h : at < length s = omega arith in simp (lt-leb _ _ h, e, le-leb _ _ g)

  -- a command byte, and whether all its operands are there
  module _ (some : get_or s at 0 ≡ 0 → ⊥) (known : get_or s at 0 ≤ 3) where
    which : (get_or s at 0 ≡ 1) ⊎ ((get_or s at 0 ≡ 2) ⊎ (get_or s at 0 ≡ 3))
    which = go (ℕ_discrete (get_or s at 0) 1) (ℕ_discrete (get_or s at 0) 2)
      where
        go : Dec (get_or s at 0 ≡ 1) → Dec (get_or s at 0 ≡ 2) → (get_or s at 0 ≡ 1) ⊎ ((get_or s at 0 ≡ 2) ⊎ (get_or s at 0 ≡ 3))
        go (yes e) d = inl e
        go (no n) (yes e) = inr (inl e)
        go (no n) (no m) = inr (inr (omega arith))

    pub is_cut : at < length s → length s < at + named (get_or s at 0) → item_at s at ≡ Cut
    unfolding item_at
    is_cut h g = go which
      where
        go : (get_or s at 0 ≡ 1) ⊎ ((get_or s at 0 ≡ 2) ⊎ (get_or s at 0 ≡ 3)) → item_at s at ≡ Cut
        go (inl e) = let k : length s < at + 9 = rw e at g in simp (lt-leb _ _ h, e, lt-leb _ _ k)
        go (inr (inl e)) = let k : length s < at + 11 = rw e at g in simp (lt-leb _ _ h, e, lt-leb _ _ k)
        go (inr (inr e)) = let k : length s < at + 11 = rw e at g in simp (lt-leb _ _ h, e, lt-leb _ _ k)

    pub is_whole : at + named (get_or s at 0) ≤ length s → WholeAt s at
    is_whole g = go which
      where
        go : (get_or s at 0 ≡ 1) ⊎ ((get_or s at 0 ≡ 2) ⊎ (get_or s at 0 ≡ 3)) → WholeAt s at
        go (inl e) = (AddTrack (track_at s at) false, is_track e (rw e at g))
        go (inr (inl e)) = (AddWall (wall_at s at), is_wall e (rw e at g))
        go (inr (inr e)) = (AddTrack (late_at s at) true, is_late e (rw e at g))

-- which of the three a whole command is
pub data Whole (s : List ℕ) (at : ℕ) (c : Command) : Type 0 where
  track : get_or s at 0 ≡ 1 → at + 9 ≤ length s → c ≡ AddTrack (track_at s at) false → Whole s at c
  wall : get_or s at 0 ≡ 2 → at + 11 ≤ length s → c ≡ AddWall (wall_at s at) → Whole s at c
  late : get_or s at 0 ≡ 3 → at + 11 ≤ length s → c ≡ AddTrack (late_at s at) true → Whole s at c

-- what an item says of the bytes at its place
abbrev Shows : List ℕ → ℕ → Item → Type 0
Shows s at Unknown = Unit {0}
Shows s at Cut = Unit {0}
Shows s at End = (at < length s) × (get_or s at 0 ≡ 0)
Shows s at (Add c) = Whole s at c

shown : (s : List ℕ) (at : ℕ) (i : Item) → Stands s at i → Shows s at i
shown s at i nothing = tt
shown s at i (the_end l e) = (l, e)
shown s at i (a_track l e) = track e l refl
shown s at i (a_wall l e) = wall e l refl
shown s at i (a_late l e) = late e l refl
shown s at i unknown = tt

pub whole_is : (s : List ℕ) (at : ℕ) (c : Command) → item_at s at ≡ Add c → Whole s at c
whole_is s at c h = subst (Shows s at) h (shown s at (item_at s at) (stands s at))

pub end_is : (s : List ℕ) (at : ℕ) → item_at s at ≡ End → (at < length s) × (get_or s at 0 ≡ 0)
end_is s at h = subst (Shows s at) h (shown s at (item_at s at) (stands s at))

pub whole-fits : (s : List ℕ) (at : ℕ) (c : Command) → item_at s at ≡ Add c → at + width c ≤ length s
whole-fits s at c h = go (whole_is s at c h)
  where
    go : Whole s at c → at + width c ≤ length s
    go (track e f q) = rw q f
    go (wall e f q) = rw q f
    go (late e f q) = rw q f

-- where a whole command is known to stand, its first byte tells which
module _ (s : List ℕ) (at : ℕ) (w : WholeAt s at) where
  pub known_inside : at < length s
  known_inside = go (whole_is s at w.0 w.1)
    where
      go : Whole s at w.0 → at < length s
      go (track e f q) = omega arith
      go (wall e f q) = omega arith
      go (late e f q) = omega arith

  pub known_track : get_or s at 0 ≡ 1 → at + 9 ≤ length s
  known_track h = go (whole_is s at w.0 w.1)
    where
      go : Whole s at w.0 → at + 9 ≤ length s
      go (track e f q) = f
      go (wall e f q) = absurd (omega arith)
      go (late e f q) = absurd (omega arith)

  pub known_wall : get_or s at 0 ≡ 2 → at + 11 ≤ length s
  known_wall h = go (whole_is s at w.0 w.1)
    where
      go : Whole s at w.0 → at + 11 ≤ length s
      go (track e f q) = absurd (omega arith)
      go (wall e f q) = f
      go (late e f q) = f

  pub known_late : (get_or s at 0 ≡ 1 → ⊥) → (get_or s at 0 ≡ 2 → ⊥) → (get_or s at 0 ≡ 3) × (at + 11 ≤ length s)
  known_late n m = go (whole_is s at w.0 w.1)
    where
      go : Whole s at w.0 → (get_or s at 0 ≡ 3) × (at + 11 ≤ length s)
      go (track e f q) = absurd (n e)
      go (wall e f q) = absurd (m e)
      go (late e f q) = (e, f)
