-- A sheet as a caller may give it. Main theorems: `given_accepted` and `given_records`, if its records are accepted, so is it, and it has the same records; `records_fit`, accepted records are within their widths.
use mathlib.Core.Path.{◌≡◌, sym, subst}
use mathlib.Core.List.{List}
use native.Mathlib.Omega.{arith}
use Rattle.fraction.proofs.Bounds.{within-fits}
use Rattle.sheet.specs.declared.Command.{Command}
use Rattle.sheet.specs.declared.Track.{Track}
use Rattle.sheet.specs.declared.Wall.{Wall}
use Rattle.sheet.specs.Accepted.{TrackOk, WallOk, Accepted}
use Rattle.sheet.specs.Format.{TrackFits, WallFits}
use Rattle.sheet.specs.HandedIn.{handed_in}
use Rattle.sheet.specs.Listing.{Listing, listing, Reordered}
use Rattle.sheet.specs.Returned.{Returned, accepted}
use Rattle.sheet.proofs.Order.{accepted_reordered}
use Rattle.sheet.proofs.RoundTrip.{Fit, all_fit, relisted, read_back, accepted_exactly, listed}
use Rattle.grid_run.specs.Demand.{Given, in_bytes, in_records}

-- ---- the widths

track-fits : {a : Track} → TrackOk a → TrackFits a
track-fits k =
    record {
      id = record { fits = omega arith };
      x = record { fits = omega arith };
      y = record { fits = omega arith };
      vx = within-fits (record { abs = k.vx_in }) tt;
      vy = within-fits (record { abs = k.vy_in }) tt;
      start = record { fits = omega arith };
    }

wall-fits : {w : Wall} → WallOk w → WallFits w
wall-fits k =
    record {
      id = record { fits = omega arith };
      ax = record { fits = omega arith };
      ay = record { fits = omega arith };
      bx = record { fits = omega arith };
      by = record { fits = omega arith };
    }

pub records_fit : {S : Listing} → Accepted S → Fit S
records_fit h = record { tracks = λ a m. track-fits (h.tracks_ok a m); walls = λ w m. wall-fits (h.walls_ok w m) }

-- ---- in whatever order the sheet is given

module _ {l : List Command} (acc : Accepted (listing l)) where
  pub given_accepted : {v : Returned} {T : Listing} → Given l v T → v ≡ accepted
  given_accepted (in_bytes k f p) = relisted acc f p
  given_accepted (in_records s p) =
      let a = accepted_reordered p acc in
      (accepted_exactly (all_fit (handed_in s) (records_fit a))).1 (subst Accepted (sym (listed (handed_in s))) a)

  pub given_records : {v : Returned} {T : Listing} → Given l v T → Reordered (listing l) T
  given_records (in_bytes k f p) = subst (λ (z : List Command). Reordered (listing l) (listing z)) (sym (read_back f)) p
  given_records (in_records s p) = p
