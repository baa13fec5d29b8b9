-- The first of the edge and the walls, and then of the tracks. Main theorems: `base_found`, `seen_of`.
use mathlib.Core.Bool.{Bool}
use mathlib.Core.List.{List}
use mathlib.Core.Logic.{inl}
use Prim.Native.Nat.{ℕ, ◌<◌}
use native.Mathlib.Omega.{arith}
use lib.ListN.{length}
use Rattle.fraction.specs.Time.{as_time}
use Rattle.sheet.specs.declared.Track.{Track}
use Rattle.sheet.specs.declared.Wall.{Wall}
use Rattle.sheet.specs.Accepted.{Accepted, WallOk}
use Rattle.sheet.specs.HandedIn.{no_wall}
use Rattle.sheet.specs.Listing.{Listing}
use Rattle.sheet.proofs.Lists.{mem_at}
use Rattle.rule.specs.declared.Row.{Row}
use Rattle.rule.specs.Causes.{by_bar, by_rim, ◌≼◌}
use Rattle.rule.specs.EdgeTime.{rim}
use Rattle.rule.proofs.Existence.{cand_trans}
use Rattle.rule.specs.Meanwhile.{Live}
use Rattle.cause.specs.declared.Cause.{Cause}
use Rattle.cause.specs.Cause.{tip_at, wall_at, cand_of, Stands}
use Rattle.cause.specs.Looked.{Near, FirstOfWalls, FirstOfTracks}
use Rattle.cause.specs.Offer.{AtEdge}
use Rattle.cause.proofs.Looking.{edge_first, walls_live}
use Rattle.look.specs.Tracks.{Flagged}
use Rattle.plain_turns.specs.State.{Foremost, Based, Seen}

-- ---- the walls

-- all walls come to the whole sheet
near_all : {w : Wall} → WallOk w → Near (record { left = 0; right = 4096; low = 0; high = 4096 }) w
near_all h = record { across = (inl (omega (arith, h.ax_in)), inl (omega arith)); along = (inl (omega (arith, h.ay_in)), inl (omega arith)) }

-- a cause that is not behind c is foremost too
pub foremost_better : {S : Listing} {a : Track} {c r : Cause} → Stands S a r → cand_of S r ≼ cand_of S c → Foremost S a c → Foremost S a r
foremost_better {S} {a} {c} {r} t h f =
    record {
      stands = t;
      at_rim = cand_trans (cand_of S r) (cand_of S c) (record { u = rim a; why = by_rim }) h f.at_rim;
      at_walls = λ j l u e. cand_trans (cand_of S r) (cand_of S c) (record { u = u; why = by_bar (wall_at S j) }) h (f.at_walls j l u e);
    }

pub base_found : {S : Listing} → Accepted S → {a : Track} {c r : Cause} → AtEdge a c → FirstOfWalls S a (record { left = 0; right = 4096; low = 0; high = 4096 }) c r → Based S a r
base_found {S} acc {a} {c} {r} e f =
    let o = edge_first S a e in
    record {
      foremost = record {
        stands = f.stands;
        at_rim = cand_trans (cand_of S r) (cand_of S c) (record { u = rim a; why = by_rim }) f.first o.at_rim;
        at_walls = λ j k. f.at_walls j k (near_all (acc.walls_ok (wall_at S j) (mem_at no_wall S.walls j k)));
      };
      no_track = f.no_track o.no_track;
    }

-- ---- the tracks

module _ (S : Listing) {done : List Row} (i : ℕ) (known : List Bool) {c r : Cause} (b : Based S (tip_at S i) c) (f : FirstOfTracks S done (tip_at S i) (Flagged known) c r) where
  pub seen_of : ((j : ℕ) → j < length S.tracks → Flagged known j) → Seen S done i r
  seen_of all = record { foremost = foremost_better f.stands f.first b.foremost; at_tips = λ j h. f.at_tips j h (all j h) }

  pub live_of : Live done (cand_of S r).u (cand_of S r).why
  live_of = f.live (walls_live S done (as_time c.at) (as_time c.there) c.class c.who b.no_track)
