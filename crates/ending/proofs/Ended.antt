-- The row of the tip that ends is the next of the roll. Main theorems: `rows_next`, `row_next`, `out_next`, `progress_next`, `closed-next`; and `apart`.
use mathlib.Core.List.Memᴰ
use mathlib.Core.List.{List, [], ◌∷◌, ◌++◌, append_assoc}
use mathlib.Core.Logic.{◌≢◌}
use mathlib.Core.Path.{◌≡◌, refl, sym, ap, ◌∙◌, subst}
use Prim.Native.Nat.{ℕ, ◌+◌, ◌<◌}
use native.Mathlib.Omega.{arith}
use lib.ListN.{length, get_or, take, length-append}
use lib.Seq.{take_at, get_or_at}
use Rattle.sheet.specs.Accepted.{Accepted}
use Rattle.sheet.specs.Listing.{Listing, ◌∈◌}
use Rattle.sheet.specs.HandedIn.{no_track}
use Rattle.sheet.specs.declared.Track.{Track}
use Rattle.sheet.proofs.Lists.{pairs-at}
use Rattle.rule.specs.declared.Row.{Row}
use Rattle.rule.specs.Selection.{roll_of}
use Rattle.rule.proofs.SmallTimes.{roll_small}
use Rattle.rule.proofs.Starts.{Ids}
use Rattle.rule.specs.Meanwhile.{Progress}
use Rattle.rule.proofs.Turn.{progress_begins}
use Rattle.cause.specs.Offer.{Closed}
use Rattle.ending.specs.Ended.{next_row}

-- tracks at two places have different ids
pub apart : (l : List Track) → Ids l → (i k : ℕ) → i < length l → k < length l → i ≢ k → (get_or l i no_track).id ≢ (get_or l k no_track).id
apart l p i k h g n = pairs-at no_track (λ a b. a.id ≢ b.id) (λ a b f e. f (sym e)) l p i k h g n

-- rows that begin the roll
begins : (l rows more : List Row) (r d : Row) (k : ℕ) → length rows ≡ k → l ≡ (rows ++ (r ∷ [])) ++ more → (take (k + 1) l ≡ rows ++ (r ∷ [])) × (get_or l k d ≡ r)
begins l rows more r d k h e = (
  ap (take (k + 1)) e ∙ take_at (rows ++ (r ∷ [])) more (k + 1) (simp length-append (omega arith)),
  ap (λ (z : List Row). get_or z k d) (e ∙ append_assoc rows (r ∷ []) more) ∙ get_or_at rows r more d k h,
)

-- ---- its row is the next of the roll

module _ {S : Listing} (acc : Accepted S) {k : ℕ} {row : Row} {done : List Row} (out : length (take k (roll_of S)) ≡ k) (p : Progress S (take k (roll_of S) ++ (row ∷ [])) (row ∷ done)) where
  after : (take (k + 1) (roll_of S) ≡ take k (roll_of S) ++ (row ∷ [])) × (next_row S k ≡ row)
  after = let (more, e) = progress_begins acc p in begins (roll_of S) (take k (roll_of S)) more row _ k out e

  pub rows_next : take (k + 1) (roll_of S) ≡ take k (roll_of S) ++ (row ∷ [])
  rows_next = after.0

  pub row_next : next_row S k ≡ row
  row_next = after.1

  pub out_next : length (take (k + 1) (roll_of S)) ≡ k + 1
  out_next = ap length rows_next ∙ length-append (take k (roll_of S)) (row ∷ []) ∙ omega (arith, out)

  pub progress_next : Progress S (take (k + 1) (roll_of S)) (row ∷ done)
  progress_next = subst (λ (z : List Row). Progress S z (row ∷ done)) (sym rows_next) p

  -- its time is that of a row, no sooner than its tip opened
  pub closed-next : (a : Track) → a ∈ S.tracks → row.id ≡ a.id → Closed a row.at
  closed-next a m e =
      let (more, x) = progress_begins acc p in
      let i : row ∈ roll_of S = subst (λ (l : List Row). row ∈ l) (sym x) (Memᴰ.append_left more (Memᴰ.append_right (take k (roll_of S)) (Memᴰ.head refl))) in
      record { small = (roll_small S acc row i).time_in; opened = p.honest.opened_by row a (Memᴰ.head refl) e m }
