-- The step to the next cell. Main theorem: `cross_by`, what the code finds is `next` and its entry.
use mathlib.Core.Path.{◌≡◌, refl, sym, ap, ap₂, subst, ◌∙◌}
use mathlib.Core.Bool.{Bool, true, false, cond}
use Prim.Native.Nat.{ℕ}
use lib.IntN.{ℤ}
use Rattle.sheet.specs.declared.Track.{Track}
use Rattle.cells.specs.declared.Cell.{Cell}
use Rattle.cells.specs.Cut.{Cut, before, sooner}
use Rattle.cells.specs.OneCell.{leave, exitᵃ, exit}
use Rattle.cells.proofs.Cut.{before_true, <ᶜ_irrefl, <ᶜ_≤ᶜ_trans, <ᶜ→≤ᶜ}
use Rattle.cells.specs.Walk.{step, next, turn}
use Rattle.cell_walk.specs.declared.Onset.{Onset}
use Rattle.cell_walk.specs.declared.Crossing.{Crossing}
use Rattle.cell_walk.specs.Onsets.{onset_of, Early, Gives, GivesEarly, Crosses, prior_of, opened_of, turn_of, cross_of}
use Rattle.cell_walk.proofs.Onsets.{opened_is}

crossing : {m : Onset} {c c' r r' : ℕ} → c ≡ c' → r ≡ r' → ◌≡◌ {A = Crossing} (record { when = m; cell = record { column = c; row = r } }) (record { when = m; cell = record { column = c'; row = r' } })
crossing {m} p q = λ i. record { when = m; cell = record { column = p i; row = q i } }

module _ (lx ly : Onset) (u v : ℤ) (k : Cell) where
  pub turn-x : {q : ℕ} → prior_of lx ly ≡ true → q ≡ step u k.column → ◌≡◌ {A = Crossing} (record { when = lx; cell = record { column = q; row = k.row } }) (turn_of lx ly u v k)
  unfolding turn_of
  turn-x e f = rw e (crossing f refl)

  pub turn-y : {q : ℕ} → prior_of lx ly ≡ false → prior_of ly lx ≡ true → q ≡ step v k.row → ◌≡◌ {A = Crossing} (record { when = ly; cell = record { column = k.column; row = q } }) (turn_of lx ly u v k)
  unfolding turn_of
  turn-y e e' f = rw (e, e') (crossing refl f)

  pub turn-both : {q q' : ℕ} → prior_of lx ly ≡ false → prior_of ly lx ≡ false → q ≡ step u k.column → q' ≡ step v k.row → ◌≡◌ {A = Crossing} (record { when = lx; cell = record { column = q; row = q' } }) (turn_of lx ly u v k)
  unfolding turn_of
  turn-both e e' f f' = rw (e, e') (crossing f f')

  -- its onset is one of the two
  pub turn_early : Early lx → Early ly → Early (turn_of lx ly u v k).when
  unfolding turn_of
  turn_early h i = go (prior_of lx ly) (prior_of ly lx)
    where
      x : Crossing
      x = record { when = lx; cell = record { column = step u k.column; row = k.row } }

      y : Crossing
      y = record { when = ly; cell = record { column = k.column; row = step v k.row } }

      z : Crossing
      z = record { when = lx; cell = record { column = step u k.column; row = step v k.row } }

      go : (b b' : Bool) → Early (cond b x (cond b' y z)).when
      go true b' = h
      go false true = i
      go false false = h

asym : (k l : Cut) → before k l ≡ true → before l k ≡ false
asym k l e = go (before l k) refl
  where
    go : (b : Bool) → before l k ≡ b → b ≡ false
    go true f = absurd (<ᶜ_irrefl (<ᶜ_≤ᶜ_trans (before_true f) (<ᶜ→≤ᶜ (before_true e))))
    go false f = refl

module _ (a : Track) (s : ℕ) (k : Cell) where
  lx : Cut
  lx = leave a.x a.vx s k.column

  ly : Cut
  ly = leave a.y a.vy s k.row

  -- by age
  cross_is : turn_of (onset_of (leave a.x a.vx s k.column)) (onset_of (leave a.y a.vy s k.row)) a.vx a.vy k ≡ record { when = onset_of (exitᵃ a s k); cell = next a s k }
  unfolding next turn exitᵃ sooner turn_of before prior_of lx ly
  cross_is = go (before lx ly) (before ly lx) (asym lx ly)
    where
      go : (b b' : Bool) → (b ≡ true → b' ≡ false) →
          ◌≡◌ {A = Crossing}
          (cond b (record { when = onset_of lx; cell = record { column = step a.vx k.column; row = k.row } })
          (cond b' (record { when = onset_of ly; cell = record { column = k.column; row = step a.vy k.row } })
          (record { when = onset_of lx; cell = record { column = step a.vx k.column; row = step a.vy k.row } })))
          (record { when = onset_of (cond b' ly lx); cell = turn a k b b' })
      go true b' h = rw (h refl) refl
      go false true h = refl
      go false false h = refl

  module _ {i j : Onset} {c : Crossing} (g : GivesEarly (onset_of (leave a.x a.vx s k.column)) i) (h : GivesEarly (onset_of (leave a.y a.vy s k.row)) j) (e : c ≡ turn_of i j a.vx a.vy k) where
    pub cross_early : Early c.when
    cross_early = subst (λ (z : Crossing). Early z.when) (sym e) (turn_early i j a.vx a.vy k g.early h.early)

    pub cross_by : {o : Onset} → Gives (opened_of a.start c.when) o → Crosses (cross_of a s k) (record { when = o; cell = c.cell })
    unfolding exit
    cross_by {o} f =
        let x = e ∙ ap₂ (λ (m n : Onset). turn_of m n a.vx a.vy k) g.is h.is ∙ cross_is in
        let y = opened_is a.start (exitᵃ a s k) (ap (λ (z : Crossing). z.when) x) f in
        record { is = λ d. record { when = y.is d; cell = (x d).cell }; ready = y.ready }
