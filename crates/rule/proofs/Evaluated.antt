-- The sheets whose tips open later or face each other: `evaluated_is`, `roll_of` evaluated; so the rule yields each roll of the table (`evaluated_roll`).
use mathlib.Core.Path.{◌≡◌, refl, sym, subst}
use mathlib.Core.Logic.{◌⊎◌, inl, inr}
use mathlib.Core.Bool.{Bool}
use mathlib.Core.List.Memᴰ
use mathlib.Core.List.{List, [], ◌∷◌}
use lib.Dec.{T}
use Rattle.sheet.specs.Accepted.{Accepted}
use Rattle.sheet.specs.Listing.{◌∈◌}
use Rattle.rule.specs.declared.Row.{Row}
use Rattle.rule.specs.Roll.{RollOf}
use Rattle.rule.specs.Selection.{roll_of}
use Rattle.rule.specs.Starred.{Starred, listing_of, evaluated}
use Rattle.rule.proofs.Tests.{all, all-at}
use Rattle.rule.proofs.Existence.{roll_of_lem}
use Rattle.rule.proofs.AcceptCheck.{accept, accept_sound}

Each : (Starred → Type 0) → List Starred → Type 0
Each P [] = Unit {0}
Each P (e ∷ l) = P e × Each P l

each_at : (P : Starred → Type 0) (l : List Starred) → Each P l → (e : Starred) → e ∈ l → P e
unfolding Each
each_at P [] h e m = absurd (Memᴰ.not-nil m)
each_at P (x ∷ l) h e m = go (Memᴰ.cases_cons m) (each_at P l h.1 e)
  where
    go : (e ≡ x) ⊎ (e ∈ l) → (e ∈ l → P e) → P e
    go (inl i) rec = subst P (sym i) h.0
    go (inr n) rec = rec n

Computed : Starred → Type 0
Computed e = roll_of (listing_of e) ≡ e.roll

table_ok : Each Computed evaluated
unfolding Each Computed evaluated roll_of
table_ok = (refl, (refl, (refl, (refl, (refl, (refl, (refl, tt)))))))

accept_ok : Starred → Bool
unfolding accept
accept_ok e = accept (listing_of e)

table_accepted : T (all accept_ok evaluated)
unfolding accept_ok evaluated
table_accepted = tt

pub evaluated_accepted : (e : Starred) → e ∈ evaluated → Accepted (listing_of e)
unfolding accept_ok
evaluated_accepted e m = accept_sound (listing_of e) (all-at accept_ok evaluated table_accepted e m)

pub evaluated_is : (e : Starred) → e ∈ evaluated → roll_of (listing_of e) ≡ e.roll
unfolding Computed
evaluated_is e m = each_at Computed evaluated table_ok e m

pub evaluated_roll : (e : Starred) → e ∈ evaluated → RollOf (listing_of e) e.roll
evaluated_roll e m = subst (λ (l : List Row). RollOf (listing_of e) l) (evaluated_is e m) (roll_of_lem (listing_of e) (evaluated_accepted e m))
