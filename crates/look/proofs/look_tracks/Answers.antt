-- The invariant: of the tracks so far.
use mathlib.Core.List.{List}
use mathlib.Core.Path.{◌≡◌, refl, sym, ap, subst}
use Prim.Native.Nat.{ℕ, ◌+◌, ◌<◌}
use native.Mathlib.Omega.{arith}
use lib.ListN.{length, get_or}
use Rattle.sheet.specs.HandedIn.{no_track}
use Rattle.sheet.specs.declared.Track.{Track}
use Rattle.cause.specs.Cause.{tip_at}
use Rattle.records.specs.SheetIn.{sheet_in}
use Rattle.tips.specs.Tips.{tips_in, tip_in}
use Rattle.look.proofs.Tracks.{TracksUpTo, track_ok, end_closed, offers, track-turn, track_skipped}
use Rattle.look.proofs.look_tracks.Goals as goal
use Rattle.look.proofs.look_tracks.Goals.{then-known-k, else-known-k}

pub on_trace-t-requires : goal.on_trace-t-requires
on_trace-t-requires c =
    let S = sheet_in c.args.records.now in
    let acc = c.args.records.now.handed.accepted in
    let k = c.loop-k.k in
    let e = c.tracks-tracks.ensures in
    let may = c.requires.1 in
    let in-k : k < length S.tracks = omega (arith, c.loop-k-test.true, ap length e) in
    let is : (j : ℕ) → get_or c.tracks-tracks.result.now j no_track ≡ tip_at S j = λ j. ap (λ (l : List Track). get_or l j no_track) e in
    (track_ok S acc c.args.i may.tip_within (is c.args.i), track_ok S acc k in-k (is k), end_closed may k in-k (tip_in (tips_in c.args.tips.now) k).best.at (is k) refl refl)

pub loop-k-preserved : goal.loop-k-preserved
loop-k-preserved c =
    let S = sheet_in c.args.records.now in
    let acc = c.args.records.now.handed.accepted in
    let i = c.args.i in
    let k = c.loop-k.k in
    let ts = tips_in c.args.tips.now in
    let known = c.args.known.now in
    let e = c.tracks-tracks.ensures in
    let in-i = c.requires.1.tip_within in
    let in-k : k < length S.tracks = omega (arith, c.loop-k-test.true, ap length e) in
    let is : (j : ℕ) → get_or c.tracks-tracks.result.now j no_track ≡ tip_at S j = λ j. ap (λ (l : List Track). get_or l j no_track) e in
    let after = TracksUpTo S i ts known (k + 1) c.args.c in
    elim c.if-known-k.branch [
      | then-known-k w ↦
          subst after (sym w.first-is)
          (track-turn S acc i in-i ts known k in-k
          (offers S acc i in-i ts known k in-k _ _ _ _ c.loop-k.first w.with_track-first.result w.on_trace-t.result (is i) (is k) refl refl w.on_trace-t.ensures w.with_track-first.ensures)
          c.loop-k.invariant)
      | else-known-k w ↦ subst after (sym w.first-is) (track_skipped S acc i in-i ts known k in-k w.if-known-k.false c.loop-k.invariant)
    ]
