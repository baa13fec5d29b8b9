-- What the tips say when the tip at i ends. Main theorem: `ends_next`.
use mathlib.Core.Bool.{true, false, true≢false, Bool-discrete}
use mathlib.Core.List.Memᴰ
use mathlib.Core.List.{List, ◌∷◌}
use mathlib.Core.Logic.{◌⊎◌, inl, inr, ◌≢◌}
use mathlib.Core.Path.{◌≡◌, refl, sym, ap, ◌∙◌, subst}
use Prim.Native.Nat.{ℕ, suc, pred, ◌<◌}
use native.Mathlib.Omega.{arith}
use lib.ListN.{length}
use Rattle.fraction.specs.Sizes.{Timely}
use Rattle.fraction.proofs.Sizes.{lowest_timely}
use Rattle.sheet.specs.Accepted.{Accepted}
use Rattle.sheet.specs.Listing.{Listing, ◌∈◌}
use Rattle.rule.specs.declared.Row.{Row}
use Rattle.rule.specs.Causes as rule
use Rattle.rule.specs.Causes.{Cand, low, row_of}
use Rattle.rule.specs.Contact.{when}
use Rattle.rule.specs.Rows.{time}
use Rattle.rule.specs.Meanwhile.{Fresh}
use Rattle.rule.proofs.Selection.{end_one}
use Rattle.rule.proofs.Tests.{eqb_self}
use Rattle.cause.specs.Cause.{tip_at, cand_of, Fine}
use Rattle.cause.specs.Offer.{Closed}
use Rattle.cause.specs.Looked.{Gone}
use Rattle.tips.specs.declared.Tip.{Tip}
use Rattle.tips.specs.Tips.{tip_in, at-time}
use Rattle.look.specs.Ends.{end_of, Ends}
use Rattle.tips.proofs.Put.{at_put}
use Rattle.ending.specs.Finished.{finish}
use Rattle.ending.proofs.Ended.{apart}

-- a tip without a row runs
pub runs_on : {S : Listing} {ts : List Tip} {done : List Row} → Ends S ts done → (j : ℕ) → j < length S.tracks → Fresh done (tip_at S j) → (tip_in ts j).ended ≡ false
runs_on {S} {ts} {done} e j h f = go (Bool-discrete (tip_in ts j).ended false)
  where
    go : Dec ((tip_in ts j).ended ≡ false) → (tip_in ts j).ended ≡ false
    go (yes x) = x
    go (no x) = let g = e.ended j h x in absurd (f g.row g.written g.named)

abbrev pub over : Tip → Tip
over t = record { best = at-time t.best (low (end_of t)); base = t.base; ended = true; cell = t.cell }

pub over_fine : (t : Tip) → Fine t.best → Fine (over t).best
over_fine t f =
    let e : suc (pred t.best.at.den) ≡ t.best.at.den = omega (arith, f.at.den_pos) in
    record { at = lowest_timely (subst (λ (d : ℕ). Timely (record { num = t.best.at.num; den = d })) (sym e) f.at); there = f.there }

-- ---- the tip at i ends by its cause

module _ {S : Listing} (acc : Accepted S) {ts : List Tip} {done : List Row} (e : Ends S ts done) {i : ℕ} (place : i < length S.tracks) (room : i < length ts) where
  abbrev cand : Cand
  cand = cand_of S (tip_in ts i).best

  abbrev row : Row
  row = row_of (tip_at S i) cand

  id_apart : (j : ℕ) → j < length S.tracks → j ≢ i → row.id ≢ (tip_at S j).id
  id_apart j h n = apart S.tracks acc.track_ids i j place h (λ x. n (sym x))

  fresh_next : (j : ℕ) → j < length S.tracks → j ≢ i → Fresh done (tip_at S j) → Fresh (row ∷ done) (tip_at S j)
  fresh_next j h n g d m x = go (Memᴰ.cases_cons m)
    where
      go : (d ≡ row) ⊎ (d ∈ done) → ⊥
      go (inl y) = id_apart j h n (ap (λ (z : Row). z.id) (sym y) ∙ x)
      go (inr y) = g d y x

  gone-next : (j : ℕ) → j < length S.tracks → j ≢ i → Gone done (tip_at S j) (tip_in ts j).best.at → Gone (row ∷ done) (tip_at S j) (tip_in ts j).best.at
  gone-next j h n g =
      record {
        row = g.row;
        written = Memᴰ.tail g.written;
        named = g.named;
        ends = go (end_one row done (tip_at S j).id) ∙ g.ends;
        closed = g.closed;
      }
    where
      go : ((row.id ≡ (tip_at S j).id) × (rule.end_of (row ∷ done) (tip_at S j).id ≡ when (time row))) ⊎ (rule.end_of (row ∷ done) (tip_at S j).id ≡ rule.end_of done (tip_at S j).id) → rule.end_of (row ∷ done) (tip_at S j).id ≡ rule.end_of done (tip_at S j).id
      go (inl x) = absurd (id_apart j h n x.0)
      go (inr x) = x

  module _ (closed : Closed (tip_at S i) row.at) where
    -- it ended at the time of its cause
    gone-here : Gone (row ∷ done) (tip_at S i) (over (tip_in ts i)).best.at
    unfolding rule.end_of
    gone-here =
        record {
          row = row;
          written = Memᴰ.head refl;
          named = refl;
          ends = rw (eqb_self (tip_at S i).id, rule.end_of) refl;
          closed = closed;
        }

    pub ends_next : Ends S (finish ts i) (row ∷ done)
    ends_next =
        record {
          running =
              at_put (λ (j : ℕ) (t : Tip). j < length S.tracks → t.ended ≡ false → Fresh (row ∷ done) (tip_at S j)) ts i (over (tip_in ts i)) room (λ h x. absurd (true≢false x))
              (λ j n h x. fresh_next j h n (e.running j h x));
          ended =
              at_put (λ (j : ℕ) (t : Tip). j < length S.tracks → (t.ended ≡ false → ⊥) → Gone (row ∷ done) (tip_at S j) t.best.at) ts i (over (tip_in ts i)) room (λ h x. gone-here)
              (λ j n h x. gone-next j h n (e.ended j h x));
        }
