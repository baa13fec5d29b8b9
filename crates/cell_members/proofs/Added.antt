-- A new entry: `joined` (its tip is in front of its cell's list, and nothing else has changed), `still_linked`.
use Prim.Native.Nat.{ℕ, ◌+◌, ◌-◌, ◌<◌, ◌≤◌}
use mathlib.Core.Path.{◌≡◌, refl, sym, ap, subst, ◌∙◌}
use mathlib.Core.Bool.{Bool, true, false}
use mathlib.Core.Logic.{◌≢◌, ◌⊎◌, inl, inr}
use mathlib.Core.List.{List, [], ◌∷◌}
use native.Mathlib.Nat.{eq-or-lt_of_le}
use native.Mathlib.Omega.{arith}
use lib.Dec.{eqb}
use borrow.Author.Tests.{eqb-true, eqb-false}
use lib.ListN.{get_or, set, length-set}
use lib.Seq.{get_or-set_same, get_or-set_other, ext_get_or}
use native.Mathlib.Decide.{ℕ_discrete}
use Rattle.cell_members.specs.declared.Lists.{Lists}
use Rattle.cell_members.specs.declared.Member.{Member}
use Rattle.cell_members.specs.Members.{CELLS, MOST, newest_at, entry_at, tip_at, older_at, rest, members, members_in, entered, Chained, Linked, Joined}
use Rattle.cell_members.proofs.Chains.{Agree, rest_same, rest-step, members-at, members_long}

-- what holds of the first n entries and of the next holds of the first n + 1
one_more : (P : ℕ → Type 0) (n : ℕ) → ((e : ℕ) → 0 < e → e ≤ n → P e) → P (n + 1) → (e : ℕ) → 0 < e → e ≤ n + 1 → P e
one_more P n first next e p h = go (eq-or-lt_of_le h)
  where
    go : (e ≡ n + 1) ⊎ (e < n + 1) → P e
    go (inl q) = subst P (sym q) next
    go (inr q) = first e p (omega arith)

module _ (l : Lists) (cell tip : ℕ) (k : Linked l) (room : l.count < MOST) (in_grid : cell < CELLS) (small : tip < 256) where
  abbrev n : ℕ
  n = l.count

  abbrev member : Member
  member = record { tip = tip; older = newest_at l cell }

  after : Lists
  after = entered l (n + 1) cell tip

  -- what stands at each place
  at-cell : newest_at after cell ≡ n + 1
  unfolding after
  at-cell = get_or-set_same l.newest cell (n + 1) 0 (omega (arith, k.newest_long))

  at-other : (c : ℕ) → c ≢ cell → newest_at after c ≡ newest_at l c
  unfolding after
  at-other c ne = get_or-set_other l.newest cell c (n + 1) 0 ne

  at_new : entry_at after (n + 1) ≡ member
  unfolding after
  at_new = get_or-set_same l.entries (n + 1 - 1) member (record { tip = 0; older = 0 }) (omega (arith, k.entries_long))

  at_old : (e : ℕ) → 0 < e → e ≤ n → entry_at after e ≡ entry_at l e
  unfolding after
  at_old e p h = get_or-set_other l.entries (n + 1 - 1) (e - 1) member (record { tip = 0; older = 0 }) (λ q. omega arith)

  agree : Agree n l after
  agree =
      record {
        tip = λ e p h. ap (λ (x : Member). x.tip) (at_old e p h);
        older = λ e p h. ap (λ (x : Member). x.older) (at_old e p h);
      }

  kept : (e : ℕ) → e ≤ n → rest after e ≡ rest l e
  kept = rest_same after k agree

  there : (c : ℕ) → c < CELLS → c ≢ cell → members after c ≡ members l c
  there c h ne = rw (at-other c ne) (kept (newest_at l c) (k.newest_in c h))

  newest_in : (c : ℕ) → c < CELLS → newest_at after c ≤ n + 1
  newest_in c h = go (eqb c cell) refl
    where
      go : (b : Bool) → eqb c cell ≡ b → newest_at after c ≤ n + 1
      go true e = rw (eqb-true c cell e, at-cell) (omega arith)
      go false e = omega (arith, at-other c (eqb-false c cell e), k.newest_in c h)

  linked : Chained after (n + 1)
  unfolding after
  linked =
      record {
        newest_long = length-set l.newest cell (n + 1) ∙ k.newest_long;
        entries_long = length-set l.entries (n + 1 - 1) member ∙ k.entries_long;
        few = omega arith;
        newest_in = newest_in;
        older_in =
            one_more (λ e. older_at after e < e) n
            (λ e p h. omega (arith, agree.older e p h, k.older_in e p h))
            (omega (arith, ap (λ (x : Member). x.older) at_new, k.newest_in cell in_grid));
        tip_within =
            one_more (λ e. tip_at after e < 256) n
            (λ e p h. omega (arith, agree.tip e p h, k.tip_within e p h))
            (omega (arith, ap (λ (x : Member). x.tip) at_new));
      }

  pub still_linked : Linked (entered l (l.count + 1) cell tip)
  unfolding after
  still_linked = linked

  here : members after cell ≡ tip ∷ members l cell
  here =
      ap (rest after) at-cell ∙ rest-step linked (n + 1) (omega arith) (omega arith)
      ∙ ap (λ (x : Member). x.tip ∷ rest after x.older) at_new
      ∙ ap (λ (r : List ℕ). tip ∷ r) (kept (newest_at l cell) (k.newest_in cell in_grid))

  -- the lists as the view has them
  pub joined : Joined l cell tip (entered l (l.count + 1) cell tip)
  unfolding after
  joined =
      record {
        counted = refl;
        members =
            ext_get_or [] (members_in after) (set (members_in l) cell (tip ∷ get_or (members_in l) cell []))
            (members_long still_linked ∙ sym (length-set (members_in l) cell (tip ∷ get_or (members_in l) cell []) ∙ members_long k))
            (λ c b. go c (omega (arith, members_long still_linked)) (ℕ_discrete c cell));
      }
    where
      go : (c : ℕ) → c < CELLS → Dec (c ≡ cell) → get_or (members_in after) c [] ≡ get_or (set (members_in l) cell (tip ∷ get_or (members_in l) cell [])) c []
      go c h (yes e) =
          members-at still_linked c h ∙ ap (members after) e ∙ here ∙ ap (λ (r : List ℕ). tip ∷ r) (sym (members-at k cell in_grid))
          ∙ sym (ap (λ (i : ℕ). get_or (set (members_in l) cell (tip ∷ get_or (members_in l) cell [])) i []) e
          ∙ get_or-set_same (members_in l) cell (tip ∷ get_or (members_in l) cell []) [] (omega (arith, members_long k)))
      go c h (no ne) = members-at still_linked c h ∙ there c h ne ∙ sym (members-at k c h) ∙ sym (get_or-set_other (members_in l) cell c (tip ∷ get_or (members_in l) cell []) [] ne)
