-- The side of a row. Main theorems: `side_back`, its number tells a side; `came_once`, a tip has one side of a partner; `came_on`, in whatever order the sheet lists its tracks and walls.
use mathlib.Core.Path.{◌≡◌, refl, sym, ap, ◌∙◌, subst}
use Prim.Native.Nat.{ℕ, ◌≤◌}
use native.Mathlib.Omega.{arith}
use lib.Dec.{eqb, eqb→eq, T}
use Rattle.sheet.specs.declared.Track.{Track}
use Rattle.sheet.specs.declared.Wall.{Wall}
use Rattle.sheet.specs.Listing.{Listing, ◌∈◌}
use Rattle.rule.specs.declared.Ending.{Ending}
use Rattle.rule.specs.declared.Ending.TheVariants.{ByTrack, Meeting, ByWall, Edge}
use Rattle.rule.specs.declared.Side.{Side}
use Rattle.rule.specs.declared.Side.TheVariants.{NoSide, Left, Right, Along}
use Rattle.rule.specs.Side.{track_side, wall_side, side_number, side_from}
use Rattle.rule.specs.Rows.{FromTrack, CameFrom}

-- ---- numbers

pub side_back : (d : Side) → side_from (side_number d) ≡ d
unfolding side_from side_number
side_back NoSide = refl
side_back Left = refl
side_back Right = refl
side_back Along = refl

pub side_in : (d : Side) → side_number d ≤ 3
unfolding side_number
side_in NoSide = omega arith
side_in Left = omega arith
side_in Right = omega arith
side_in Along = omega arith

pub same_side : (d e : Side) → T (eqb (side_number d) (side_number e)) → d ≡ e
same_side d e h = sym (side_back d) ∙ ap side_from (eqb→eq _ _ h) ∙ side_back e

-- ---- one side of one partner

module _ {S : Listing} (one_id : (a b : Track) → a ∈ S.tracks → b ∈ S.tracks → a.id ≡ b.id → a ≡ b)
    (one_wall : (v w : Wall) → v ∈ S.walls → w ∈ S.walls → v.id ≡ w.id → v ≡ w) (a : Track) where
  from_once : {q : ℕ} {d e : Side} → FromTrack S a q d → FromTrack S a q e → d ≡ e
  from_once f g = f.side ∙ ap (track_side a) (one_id f.tip g.tip f.on_sheet g.on_sheet (f.named ∙ sym g.named)) ∙ sym g.side

  came_to : (e : Ending) (d d' : Side) → CameFrom S a e d → CameFrom S a e d' → d ≡ d'
  came_to (ByTrack q) d d' f g = from_once f g
  came_to (Meeting q) d d' f g = from_once f g
  came_to (ByWall q) d d' f g = f.side ∙ ap (wall_side a) (one_wall f.which g.which f.on_sheet g.on_sheet (f.named ∙ sym g.named)) ∙ sym g.side
  came_to Edge d d' f g = f ∙ sym g

  pub came_once : {e e' : Ending} {d d' : Side} → e ≡ e' → CameFrom S a e d → CameFrom S a e' d' → d ≡ d'
  came_once {e} {e'} {d} {d'} h f g = came_to e d d' f (subst (λ (z : Ending). CameFrom S a z d') (sym h) g)

-- ---- the same tracks and walls

module _ {S S' : Listing} (tracks_to : (b : Track) → b ∈ S.tracks → b ∈ S'.tracks) (walls_to : (w : Wall) → w ∈ S.walls → w ∈ S'.walls) (a : Track) where
  from_on : {q : ℕ} {d : Side} → FromTrack S a q d → FromTrack S' a q d
  from_on f = record { tip = f.tip; named = f.named; on_sheet = tracks_to f.tip f.on_sheet; side = f.side }

  pub came_on : (e : Ending) (d : Side) → CameFrom S a e d → CameFrom S' a e d
  came_on (ByTrack q) d f = from_on f
  came_on (Meeting q) d f = from_on f
  came_on (ByWall q) d f = record { which = f.which; named = f.named; on_sheet = walls_to f.which f.on_sheet; side = f.side }
  came_on Edge d f = f
