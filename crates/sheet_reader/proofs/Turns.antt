-- The scan turn by turn: `from-add` (one whole command), the laws of the other items, and what an accepted rest says of its first item.
use Prim.Native.Nat.{ℕ, zero, suc, ◌≤◌, ◌<◌, ◌+◌}
use mathlib.Core.Path.{◌≡◌, refl, sym, ap, ◌∙◌}
use mathlib.Core.List.{List, [], ◌∷◌, ◌++◌}
use mathlib.Core.Logic.{◌⊎◌, inl, inr}
use mathlib.Core.Bool.{true, false, cond}
use native.Mathlib.Omega.{arith}
use lib.Dec.{eqb}
use lib.ListN.{length}
use Rattle.sheet.specs.declared.Command.{Command}
use Rattle.sheet.specs.declared.Command.TheVariants.{AddTrack, AddWall}
use Rattle.sheet.specs.declared.Item.{Item}
use Rattle.sheet.specs.declared.Item.TheVariants.{Unknown, Cut, End, Add}
use Rattle.sheet.specs.Format.{item_at, width}
use Rattle.sheet.specs.Table.{table, no_line, first_broken}
use Rattle.sheet.specs.Returned.{Returned, accepted, refused}
use Rattle.sheet.specs.Scan.{scan, at_item, and_more, commands_from}
use Rattle.sheet.proofs.Encoded.{went_on}
use Rattle.sheet_reader.specs.Walk.{WholeAt}
use Rattle.sheet_reader.proofs.Items.{no_byte}

-- the verdict from a place on, and the commands from there on: with as much fuel as there are bytes, wherever the place is
abbrev pub verdict_from : List ℕ → ℕ → List Command → Returned
verdict_from s at before = scan (suc (length s)) s at before

abbrev pub commands_after : List ℕ → ℕ → List Command
commands_after s at = commands_from (suc (length s)) s at

pub some_width : (c : Command) → 0 < width c
some_width (AddTrack a false) = omega arith
some_width (AddTrack a true) = omega arith
some_width (AddWall w) = omega arith

-- fuel that reaches the last byte is enough
fuel : (n : ℕ) (s : List ℕ) (at : ℕ) (before : List Command) → length s ≤ n + at → scan n s at before ≡ scan (suc n) s at before
unfolding scan
fuel zero s at before h = let g : length s ≤ at = omega arith in rw (no_byte s at g)
fuel (suc n) s at before h = go (fuel n s) (item_at s at)
  where
    turn : ℕ → Command → Returned
    turn m c = let k = first_broken table before c in cond (eqb k no_line) (scan m s (at + width c) (before ++ (c ∷ []))) (refused k at)

    go : ((p : ℕ) (b : List Command) → length s ≤ n + p → scan n s p b ≡ scan (suc n) s p b) → (i : Item) → at_item s at (turn n) i ≡ at_item s at (turn (suc n)) i
    go ih Unknown = refl
    go ih Cut = refl
    go ih End = refl
    go ih (Add c) = let k = first_broken table before c in ap (λ (r : Returned). cond (eqb k no_line) r (refused k at)) (ih (at + width c) (before ++ (c ∷ [])) (omega (arith, some_width c)))

commands_fuel : (n : ℕ) (s : List ℕ) (at : ℕ) → length s ≤ n + at → commands_from n s at ≡ commands_from (suc n) s at
unfolding commands_from
commands_fuel zero s at h = let g : length s ≤ at = omega arith in rw (no_byte s at g)
commands_fuel (suc n) s at h = go (commands_fuel n s) (item_at s at)
  where
    go : ((p : ℕ) → length s ≤ n + p → commands_from n s p ≡ commands_from (suc n) s p) → (i : Item) → and_more (λ c. commands_from n s (at + width c)) i ≡ and_more (λ c. commands_from (suc n) s (at + width c)) i
    go ih Unknown = refl
    go ih Cut = refl
    go ih End = refl
    go ih (Add c) = ap (λ (l : List Command). c ∷ l) (ih (at + width c) (omega (arith, some_width c)))

module _ (s : List ℕ) (at : ℕ) where
  pub commands_add : (c : Command) → item_at s at ≡ Add c → commands_after s at ≡ c ∷ commands_after s (at + width c)
  unfolding commands_from
  commands_add c e = rw e (ap (λ (l : List Command). c ∷ l) (commands_fuel (length s) s (at + width c) (omega arith)))

  pub commands_end : item_at s at ≡ End → commands_after s at ≡ []
  unfolding commands_from
  commands_end e = rw e

  module _ (before : List Command) where
    pub from_unknown : item_at s at ≡ Unknown → verdict_from s at before ≡ refused 1 at
    unfolding scan
    from_unknown e = rw e

    pub from_cut : item_at s at ≡ Cut → verdict_from s at before ≡ refused 2 at
    unfolding scan
    from_cut e = rw e

    pub from_end : item_at s at ≡ End → verdict_from s at before ≡ cond (eqb (at + 1) (length s)) accepted (refused 3 (at + 1))
    unfolding scan
    from_end e = rw e

    pub from-add : (c : Command) → item_at s at ≡ Add c → verdict_from s at before ≡ (let k = first_broken table before c in cond (eqb k no_line) (verdict_from s (at + width c) (before ++ (c ∷ []))) (refused k at))
    unfolding scan
    from-add c e = rw e (let k = first_broken table before c in ap (λ (r : Returned). cond (eqb k no_line) r (refused k at)) (fuel (length s) s (at + width c) (before ++ (c ∷ [])) (omega arith)))

-- a command of an accepted sheet breaks nothing, and what follows it is accepted
pub accepted_add : (s : List ℕ) (at : ℕ) (before : List Command) (c : Command) → verdict_from s at before ≡ accepted → item_at s at ≡ Add c → (first_broken table before c ≡ no_line) × (verdict_from s (at + width c) (before ++ (c ∷ [])) ≡ accepted)
accepted_add s at before c h e = went_on (first_broken table before c) at _ (sym (from-add s at before c e) ∙ h)

-- 00 or a whole command stands where the rest is accepted
pub accepted_item : (s : List ℕ) (at : ℕ) (before : List Command) → verdict_from s at before ≡ accepted → (item_at s at ≡ End) ⊎ WholeAt s at
accepted_item s at before h = go (item_at s at) refl
  where
    go : (i : Item) → item_at s at ≡ i → (item_at s at ≡ End) ⊎ WholeAt s at
    go Unknown e = let f = from_unknown s at before e in let z : ◌≡◌ {A = ℕ} 0 1 = cc in absurd (omega arith)
    go Cut e = let f = from_cut s at before e in let z : ◌≡◌ {A = ℕ} 0 1 = cc in absurd (omega arith)
    go End e = inl e
    go (Add c) e = inr (c, e)
