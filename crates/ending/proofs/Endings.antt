-- How a cause ends a tip, and the row that it gives. Main theorems: `ending_is`, `row_is`.
use mathlib.Core.Logic.{◌⊎◌, inl, inr}
use mathlib.Core.Path.{◌≡◌, refl, sym, ap, ap₂, ◌∙◌}
use Prim.Native.Nat.{ℕ}
use native.Mathlib.Omega.{arith}
use Rattle.fraction.specs.Time.{Time, ◌≤ᵗ◌, ◌<ᵗ◌, as_time}
use Rattle.fraction.specs.Order.{≤ᵗ_or_<ᵗ}
use Rattle.fraction.proofs.TimeOrder.{<ᵗ_≤ᵗ_trans, <ᵗ_irrefl}
use Rattle.sheet.specs.Listing.{Listing}
use Rattle.sheet.specs.declared.Track.{Track}
use Rattle.rule.specs.declared.Ending.{Ending}
use Rattle.rule.specs.declared.Ending.TheVariants.{ByTrack, Meeting, ByWall, Edge}
use Rattle.rule.specs.Causes.{who, row_of, kind, ending_of}
use Rattle.row.specs.RowAt.{row_at}
use Rattle.cause.specs.declared.Cause.{Cause}
use Rattle.cause.specs.declared.Class.{Class}
use Rattle.cause.specs.declared.Class.TheVariants as class
use Rattle.cause.specs.Cause.{rank, tip_at, why_of, cand_of, Stands}
use Rattle.ending.specs.Ended.{EndingOf, meets, crosses, strikes, leaves}

-- ---- the ending of a cause

module _ (S : Listing) (a : Track) (u s : Time) where
  met : (k : Class) (w i : ℕ) → rank k ≡ 0 → who (why_of S k w s) ≡ i → u ≤ᵗ s → Meeting i ≡ ending_of u (why_of S k w s)
  unfolding why_of ending_of kind
  met class.Track w i z e h = go (≤ᵗ_or_<ᵗ u s)
    where
      go : (q : (u ≤ᵗ s) ⊎ (s <ᵗ u)) → Meeting i ≡ kind u s q (tip_at S w).id
      go (inl q) = ap Meeting (sym e)
      go (inr q) = absurd (<ᵗ_irrefl (<ᵗ_≤ᵗ_trans q h))
  met class.Wall w i z e h = absurd (omega arith)
  met class.Edge w i z e h = absurd (omega arith)

  crossed : (k : Class) (w i : ℕ) → rank k ≡ 0 → who (why_of S k w s) ≡ i → s <ᵗ u → ByTrack i ≡ ending_of u (why_of S k w s)
  unfolding why_of ending_of kind
  crossed class.Track w i z e h = go (≤ᵗ_or_<ᵗ u s)
    where
      go : (q : (u ≤ᵗ s) ⊎ (s <ᵗ u)) → ByTrack i ≡ kind u s q (tip_at S w).id
      go (inl q) = absurd (<ᵗ_irrefl (<ᵗ_≤ᵗ_trans h q))
      go (inr q) = ap ByTrack (sym e)
  crossed class.Wall w i z e h = absurd (omega arith)
  crossed class.Edge w i z e h = absurd (omega arith)

  struck : (k : Class) (w i : ℕ) → rank k ≡ 1 → who (why_of S k w s) ≡ i → ByWall i ≡ ending_of u (why_of S k w s)
  unfolding why_of ending_of
  struck class.Track w i z e = absurd (omega arith)
  struck class.Wall w i z e = ap ByWall (sym e)
  struck class.Edge w i z e = absurd (omega arith)

  left : (k : Class) (w : ℕ) → (rank k ≡ 0 → ⊥) → (rank k ≡ 1 → ⊥) → Edge ≡ ending_of u (why_of S k w s)
  unfolding why_of ending_of
  left class.Track w x y = absurd (x refl)
  left class.Wall w x y = absurd (y refl)
  left class.Edge w x y = refl

pub ending_is : (S : Listing) (a : Track) {c : Cause} {r : Ending} → Stands S a c → EndingOf c r → r ≡ ending_of (cand_of S c).u (cand_of S c).why
ending_is S a {c} t (meets z h e) = e ∙ met S a (as_time c.at) (as_time c.there) c.class c.who c.id z t.named h
ending_is S a {c} t (crosses z h e) = e ∙ crossed S a (as_time c.at) (as_time c.there) c.class c.who c.id z t.named h
ending_is S a {c} t (strikes z e) = e ∙ struck S a (as_time c.at) (as_time c.there) c.class c.who c.id z t.named
ending_is S a {c} t (leaves x y e) = e ∙ left S a (as_time c.at) (as_time c.there) c.class c.who x y

-- ---- the row of a cause

pub row_is : (S : Listing) (a : Track) {c : Cause} {e : Ending} → Stands S a c → EndingOf c e → row_at a (as_time c.at) e c.side ≡ row_of a (cand_of S c)
row_is S a {c} t g = ap₂ (row_at a (as_time c.at)) (ending_is S a t g) t.sided
