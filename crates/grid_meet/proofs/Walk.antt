-- Along the list of a cell: what is known when the entries newer than e have been met. Main theorems: `walk_start`, `walk_step`, `walk_end`.
use mathlib.Core.List.Memᴰ
use mathlib.Core.List.{List, [], ◌∷◌}
use mathlib.Core.Logic.{◌⊎◌, inl, inr}
use mathlib.Core.Path.{◌≡◌, refl, sym, ap, subst, ◌∙◌}
use Prim.Native.Nat.{ℕ, zero, suc, ◌≤◌, ◌<◌}
use native.Mathlib.Omega.{arith}
use lib.ListN.{get_or}
use Rattle.sheet.specs.Listing.{Listing, ◌∈◌}
use Rattle.std.specs.Prelude.{Option, Some, None}
use Rattle.cell_members.specs.declared.Lists.{Lists}
use Rattle.cell_members.specs.Members.{CELLS, as_entry, newest_at, tip_at, older_at, rest, count_in, Linked, members_in}
use Rattle.cell_members.proofs.Chains.{rest-step, rest_none, members-at}
use Rattle.grid_state.specs.Sweep.{Crowd}
use Rattle.grid_state.specs.Meeting.{Paired, Meets, nobody, and_then, MayMeet}
use Rattle.grid_state.proofs.Meeting.{busy_paired}

-- the number of an entry, 0 for none
abbrev pub number : Option ℕ → ℕ
number None = 0
number (Some e) = e

HasEntry : Option ℕ → Type 0
HasEntry None = ⊥
HasEntry (Some e) = Unit {0}

pub entry_number : {o : Option ℕ} {e : ℕ} (n : ℕ) → o ≡ Some e → o ≡ as_entry n → (e ≡ n) × (0 < n)
unfolding as_entry HasEntry
entry_number zero x y = absurd (subst HasEntry (sym x ∙ y) tt)
entry_number (suc n) x y = (ap number (sym x ∙ y), omega arith)

pub no_number : {o : Option ℕ} (n : ℕ) → o ≡ None → o ≡ as_entry n → n ≡ 0
unfolding as_entry HasEntry
no_number zero x y = refl
no_number (suc n) x y = absurd (subst HasEntry (sym y ∙ x) tt)

pub as_number : {o : Option ℕ} (n : ℕ) → o ≡ as_entry n → number o ≡ n
unfolding as_entry
as_number zero e = ap number e
as_number (suc n) e = ap number e

-- the tips of the entries from e on are still to be met: that done, all of the cell have been
pub record Walking (S : Listing) (side i : ℕ) (l : Lists) (cell : ℕ) (w₀ : Crowd) (e : ℕ) (w : Crowd) : Type 0 where
  pub entry_in : e ≤ count_in l
  pub may : MayMeet S side i (rest l e) w
  pub onward : (w' : Crowd) → Meets S side i (rest l e) w w' → Meets S side i (get_or (members_in l) cell []) w₀ w'

module _ {S : Listing} {side i : ℕ} {l : Lists} {cell : ℕ} (k : Linked l) where
  pub walk_start : {w : Crowd} → cell < CELLS → MayMeet S side i (get_or (members_in l) cell []) w → Walking S side i l cell w (newest_at l cell) w
  walk_start {w} h c =
      record {
        entry_in = k.newest_in cell h;
        may = subst (λ (x : List ℕ). MayMeet S side i x w) (members-at k cell h) c;
        onward = λ w' x. subst (λ (x : List ℕ). Meets S side i x w w') (sym (members-at k cell h)) x;
      }

  module _ {w₀ : Crowd} {e : ℕ} {w : Crowd} (c : Walking S side i l cell w₀ e w) where
    module _ (more : 0 < e) where
      next : rest l e ≡ tip_at l e ∷ rest l (older_at l e)
      next = rest-step k e more c.entry_in

      pub walk_in : e ≤ 16128
      walk_in = omega (arith, c.entry_in, k.few)

      pub walk-less : older_at l e < e
      walk-less = k.older_in e more c.entry_in

      module _ {j : ℕ} (is : j ≡ tip_at l e) where
        ahead : (p : ℕ) → (p ≡ j) ⊎ (p ∈ rest l (older_at l e)) → p < c.may.frame.begun
        ahead p (inl x) = c.may.others_in p (subst (λ (y : List ℕ). p ∈ y) (sym next) (Memᴰ.head (x ∙ is)))
        ahead p (inr x) = c.may.others_in p (subst (λ (y : List ℕ). p ∈ y) (sym next) (Memᴰ.tail x))

        -- the next may be met
        pub walk_may : MayMeet S side i (j ∷ []) w
        walk_may = record { frame = c.may.frame; busy = c.may.busy; others_in = λ p x. one p (Memᴰ.cases_cons x) }
          where
            one : (p : ℕ) → (p ≡ j) ⊎ (p ∈ []) → p < c.may.frame.begun
            one p (inl x) = ahead p (inl x)
            one p (inr x) = absurd (Memᴰ.not-nil x)

        pub walk_step : {w' : Crowd} → Paired S side i j w w' → Walking S side i l cell w₀ (older_at l e) w'
        walk_step {w'} o =
            record {
              entry_in = omega (arith, walk-less, c.entry_in);
              may =
                  record {
                    frame = c.may.frame;
                    busy = (busy_paired c.may.busy j (ahead j (inl refl)) o).busy;
                    others_in = λ p x. ahead p (inr x);
                  };
              onward =
                  λ w₁ x.
                  c.onward w₁
                  (subst (λ (y : List ℕ). Meets S side i y w w₁) (ap (λ (p : ℕ). p ∷ rest l (older_at l e)) is ∙ sym next) (and_then o x));
            }

    pub walk_end : e ≡ 0 → Meets S side i (get_or (members_in l) cell []) w₀ w
    walk_end z = c.onward w (subst (λ (x : List ℕ). Meets S side i x w w) (sym (ap (rest l) z ∙ rest_none l)) (nobody refl))
