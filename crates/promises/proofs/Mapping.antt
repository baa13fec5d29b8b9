-- `mapping`: what specs/Mapping.antt says holds of every accepted sheet; of one in bytes and of records handed in by `of_bytes` and `of_records` in Sheets.antt.
use mathlib.Core.Path.{◌≡◌, sym, ap, ◌∙◌, subst, subst₂}
use mathlib.Core.List.{List}
use Prim.Native.Nat.{ℕ}
use Rattle.fraction.specs.Time.{Time, ◌≤ᵗ◌, ◌≈ᵗ◌}
use Rattle.sheet.specs.declared.Command.{Command}
use Rattle.sheet.specs.declared.Track.{Track}
use Rattle.sheet.specs.Accepted.{Accepted}
use Rattle.sheet.specs.Listing.{Listing, listing, ◌∈◌, tracks_of}
use Rattle.rule.specs.declared.Row.{Row}
use Rattle.rule.specs.declared.Ending.{Ending}
use Rattle.rule.specs.declared.Ending.TheVariants.{ByTrack, Meeting, ByWall, Edge}
use Rattle.rule.specs.Roll.{RollOf}
use Rattle.rule.specs.Rule.{Blocks}
use Rattle.rule.specs.Rows.{time, time_of, FirstTrack, FirstWall, Cause, FromTrack, FromWall, CameFrom}
use Rattle.rule.specs.declared.Side.{Side}
use Rattle.rule.specs.Side.{track_side, wall_side}
use Rattle.rule.specs.Selection.{roll_of}
use Rattle.rule.proofs.Consequences.{partner_ends, end_in}
use Rattle.rule.proofs.Existence.{roll_of_lem}
use Rattle.rule.proofs.Motion.{same_sym}
use Rattle.rule.proofs.OneRoll.{time_of-row, meets}
use Rattle.rule.proofs.SameTime.{same_at}
use Rattle.rule.proofs.Starts.{accepted_proper}
use Rattle.rule.proofs.WhichSide.{track-side, wall-side}
use Rattle.promises.specs.Mapping.{Lands, on_trace, together, on_wall, at_edge, EndPoint, Mapping}
use Rattle.promises.specs.Runs.{InRoll}
use Rattle.promises.proofs.Runs.{left, reads, in_roll}

module _ (l : List Command) (acc : Accepted (listing l)) where
  abbrev S : Listing
  S = listing l

  abbrev T : ℕ → Time
  T = time_of (roll_of S)

  the_roll : RollOf S (roll_of S)
  the_roll = roll_of_lem S acc

  -- the time in a tip's own row is when it ends
  own_time : (q : Row) → q ∈ roll_of S → (b : Track) → q.id ≡ b.id → T b.id ≡ time q
  own_time q m b e = ap T (sym e) ∙ time_of-row (roll_of S) q the_roll.meets.is_set.distinct m

  module _ (r : Row) (m : r ∈ roll_of S) (a : Track) (i : a ∈ tracks_of l) (e : r.id ≡ a.id) where
    -- the partner of a meeting ends at the row's time
    with_partner : {b : Track} {s : Time} → Blocks S T a (time r) b s → s ≈ᵗ time r → T b.id ≈ᵗ time r
    with_partner {b} {s} k h =
        let o = own_time r m a e in
        subst (λ (t : Time). T b.id ≈ᵗ t) o
        (partner_ends (meets the_roll.meets) i (subst (λ (t : Time). Blocks S T a t b s) (sym o) k) (subst (λ (t : Time). s ≈ᵗ t) (sym o) h))

    -- the track and the wall whose side the row gives is the one that it names
    track-named : {q : ℕ} {d : Side} (f : FirstTrack S T a (time r) q) → FromTrack S a q d → track_side a f.tip ≡ d
    track-named f g = ap (track_side a) ((accepted_proper acc).one_id f.tip g.tip f.blocks.on_sheet g.on_sheet (f.named ∙ sym g.named)) ∙ sym g.side

    wall-named : {q : ℕ} {d : Side} (f : FirstWall S a (time r) q) → FromWall S a q d → wall_side a f.which ≡ d
    wall-named f g = ap (wall_side a) ((accepted_proper acc).one_wall f.which g.which f.on_sheet g.on_sheet (f.named ∙ sym g.named)) ∙ sym g.side

    lands : (c : Ending) (d : Side) → Cause S T a (time r) c → CameFrom S a c d → Lands l a (time r) c d
    lands (ByTrack q) d (f, h) g =
        let k = f.blocks in
        subst₂ (λ (n : ℕ) (z : Side). Lands l a (time r) (ByTrack n) z) f.named (track-named f g)
        (on_trace f.tip f.when k.on_sheet k.other k.there h
        (λ o j d. subst (λ (t : Time). f.when ≤ᵗ t) (own_time o (in_roll l acc o j) f.tip d) k.running)
        (λ u. track-side k.there))
    lands (Meeting q) d (f, h) g =
        let k = f.blocks in
        subst₂ (λ (n : ℕ) (z : Side). Lands l a (time r) (Meeting n) z) f.named (track-named f g)
        (together f.tip k.on_sheet k.other (same_sym (same_at h (same_sym k.there)))
        (λ o j d. subst (λ (t : Time). t ≈ᵗ time r) (own_time o (in_roll l acc o j) f.tip d) (with_partner k h))
        (λ u. track-side k.there))
    lands (ByWall q) d (n, f) g =
        subst₂ (λ (n : ℕ) (z : Side). Lands l a (time r) (ByWall n) z) f.named (wall-named f g)
        (on_wall f.which f.on_sheet f.on_wall (λ u. wall-side f.on_wall))
    lands Edge d (n, w, h) g = subst (Lands l a (time r) Edge) (sym g) (at_edge h)

  ends : (r : Row) → InRoll l r → EndPoint l r
  ends r h =
      let m = in_roll l acc r h in
      let (a, i, e) = the_roll.meets.is_set.no_other r m in
      let k = the_roll.meets.by_rule r a m i e in
      record { tip = a; on_sheet = i; own = e; lands = lands r m a i e r.ending r.side k.cause k.came; x_rounded = k.rounded_x; y_rounded = k.rounded_y; inside = end_in acc r m }

pub mapping : (l : List Command) → Accepted (listing l) → Mapping l
mapping l acc =
    record {
      as_many = λ c h. (left l acc c h).0;
      each_track = λ {before} {exit} c h a i.
          let (r, m, e) = (the_roll l acc).meets.is_set.each a i in
          (r, reads l acc exit _ (left l acc c h).1 r m, e);
      each_row = ends l acc;
    }
