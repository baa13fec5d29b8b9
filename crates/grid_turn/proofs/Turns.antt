-- What each event leaves. Main theorems: `turn-over`, `turn-entered`, `turn_reached`, `turn_walled`, `turn-left`.
use mathlib.Core.Logic.{inr}
use mathlib.Core.List.{List}
use mathlib.Core.Option.{none}
use mathlib.Core.Path.{◌≡◌, refl, sym, ap, ◌∙◌, subst}
use Prim.Native.Nat.{ℕ, ◌+◌, ◌*◌, ◌/◌, ◌<◌}
use native.Mathlib.Omega.{arith}
use lib.ListN.{set}
use lib.Seq.{sets}
use Rattle.sheet.specs.Listing.{Listing}
use Rattle.rule.specs.declared.Ending.{Ending}
use Rattle.rule.specs.declared.Ending.TheVariants.{ByWall, Edge}
use Rattle.rule.specs.declared.Row.{Row}
use Rattle.rule.specs.RowBytes.{row_bytes, row_width}
use Rattle.row.specs.RowAt.{row_at}
use Rattle.cause.specs.Cause.{tip_at}
use Rattle.ending.specs.Ended.{EndingOf, strikes, leaves, next_row}
use Rattle.ending.proofs.Endings.{row_is}
use Rattle.cells.specs.Grid.{Figure, g1, g2, g4, g8, g16, g32, side}
use Rattle.event_queue.specs.declared.Event.{Event}
use Rattle.event_queue.specs.declared.Event.TheVariants as event
use Rattle.event_queue.specs.Key.{time}
use Rattle.event_queue.specs.Queue.{Slots, First, Popped}
use Rattle.tips.specs.declared.Tip.{Tip}
use Rattle.tips.specs.Tips.{tip_in}
use Rattle.look.specs.Counts.{Counts}
use Rattle.look.specs.Ends.{end_of}
use Rattle.grid_steps.specs.Steps.{entry_in}
use Rattle.grid_state.specs.Sweep.{Crowd, Sweep}
use Rattle.grid_state.specs.Run.{Way, Going}
use Rattle.grid_state.specs.Meeting.{Enters}
use Rattle.grid_state.proofs.Events.{altered, Onward, event_here, event_stands, event_tell, track_event, wall_event, edge_event, entry-time, event_way, going_entered}
use Rattle.grid_state.proofs.Events.{again_looks, again_enters, going_again, fresh_counts, wall_counts, edge_counts, ended_row, ended_room, ended_endable, going_ended}
use Rattle.std.specs.Prelude.{Some, None}
use Rattle.ending.specs.Finished.{MayEnd, Finished}
use Rattle.grid_turn.specs.Reached.{OfTrack, MayReach, Reached, again, ended}
use Rattle.grid_turn.specs.Turned.{Wrote, no_row, one_row, InTime, Turned}

pub figure_some : {g : ℕ} → Figure g → 0 < g
figure_some g1 = omega arith
figure_some g2 = omega arith
figure_some g4 = omega arith
figure_some g8 = omega arith
figure_some g16 = omega arith
figure_some g32 = omega arith

-- the queue has given an event, and holds q
abbrev pub past : Sweep → Slots → Sweep
past w q = altered w w.crowd.tips q

module _ {S : Listing} {g k : ℕ} {w : Sweep} (h : Going S g k w) {q₁ : Slots} where
  pub turn-over : Popped w.crowd.pending q₁ None → Turned S g k w None (past w q₁)
  turn-over p = record { turns = (p.gives.0, ap (altered w w.crowd.tips) p.gives.1) }

  module _ {i : ℕ} {e : Event} (p : Popped w.crowd.pending q₁ (Some (i, e))) where
    first : First w.crowd.pending i e
    first = p.gives.0

    left : q₁ ≡ set w.crowd.pending i none
    left = p.gives.1

    in_time : InTime S g (tip_at S i) e (time p.gives.0.key)
    in_time = go e refl
      where
        go : (x : Event) → e ≡ x → InTime S g (tip_at S i) x (time p.gives.0.key)
        go (event.Cell x y) z = entry-time h p.gives.0 z
        go (event.Track x) z = tt
        go (event.Wall x) z = tt
        go event.Edge z = tt

    happened : {k' : ℕ} {w' : Sweep} → Onward S g k w k' w' → Turned S g k w (Some k') w'
    happened o = record { turns = record { tip = i; event = e; first = p.gives.0; in_time = in_time; going = o.0; less = o.1 } }

    -- ---- a cell is entered

    module _ {x y : ℕ} (c : e ≡ event.Cell x y) where
      pub enter_asks : Way S (4096 / g) i (record { column = x; row = y }) (past w q₁)
      unfolding side
      enter_asks = event_way h first c left

      pub turn-entered : {w' : Sweep} → Enters S (4096 / g) i (record { column = x; row = y }) (past w q₁) w' → Turned S g k w (Some k) w'
      unfolding side
      turn-entered a = happened (going_entered h first c left a)

    -- ---- the tip ends by its cause, which counts

    module _ (late : (entry_in S (side g) w.crowd.tips i).key.late ≡ 1) (counts : Counts w.crowd.tips (tip_in w.crowd.tips i).best) where
      may_end : MayEnd S i k w.crowd.tips
      may_end = record { tip_within = (event_here h first).0; endable = ended_endable h first late counts; more = ended_room h first late counts }

      module _ {ending : Ending} (kind : EndingOf (tip_in w.crowd.tips i).best ending) where
        is_next : row_at (tip_at S i) (end_of (tip_in w.crowd.tips i)) ending (tip_in w.crowd.tips i).best.side ≡ next_row S k
        is_next = row_is S (tip_at S i) (event_stands h first) kind ∙ sym (ended_row h first late counts)

        module _ {k' : ℕ} {out out' : List ℕ} {ts : List Tip} {q' : Slots} (n : k' ≡ k + 1) (f : Finished S i k ending w.crowd.tips out ts out') (z : q' ≡ q₁) where
          onward : Onward S g k w k' (altered w ts q')
          onward =
              subst (λ (r : ℕ). Onward S g k w r (altered w ts q')) (sym n)
              (subst (λ (us : List Tip). Onward S g k w (k + 1) (altered w us q')) (sym f.noted) (going_ended h first late counts (z ∙ left)))

          turn_ended : Turned S g k w (Some k') (altered w ts q') × Wrote S k out (Some k') out'
          turn_ended = (happened onward, one_row (ap Some n) (f.written ∙ ap (λ (r : Row). sets out (row_width * k) (row_bytes r)) is_next))

    module _ {x : ℕ} (c : e ≡ event.Wall x) where
      pub wall_asks : MayEnd S i k w.crowd.tips
      wall_asks = may_end (wall_event h first c).0 (wall_counts h first c)

      pub turn_walled : {k' : ℕ} {out out' : List ℕ} {ts : List Tip} → (k' ≡ k + 1) × Finished S i k (ByWall x) w.crowd.tips out ts out'
          → Turned S g k w (Some k') (altered w ts q₁) × Wrote S k out (Some k') out'
      turn_walled (n, f) =
          let z = wall_event h first c in
          turn_ended z.0 (wall_counts h first c) (strikes z.1 (ap ByWall (sym z.2))) n f refl

    module _ (c : e ≡ event.Edge) where
      pub edge_asks : MayEnd S i k w.crowd.tips
      edge_asks = may_end (edge_event h first c).0 (edge_counts h first c)

      pub turn-left : {k' : ℕ} {out out' : List ℕ} {ts : List Tip} → (k' ≡ k + 1) × Finished S i k Edge w.crowd.tips out ts out'
          → Turned S g k w (Some k') (altered w ts q₁) × Wrote S k out (Some k') out'
      turn-left (n, f) =
          let z = edge_event h first c in
          turn_ended z.0 (edge_counts h first c) (leaves z.1 z.2 refl) n f refl

    -- ---- a track is reached

    module _ {x : ℕ} (c : e ≡ event.Track x) where
      of_track : OfTrack i x w.crowd.tips
      of_track =
          let z = track_event h first c in
          record { tip_within = (event_here h first).1; fine = (event_stands h first).fine; a_track = z.1; named = z.2 }

      pub reach_asks : MayReach S (4096 / g) i x k (past w q₁).crowd
      unfolding side
      reach_asks =
          record {
            of_track = of_track;
            tell = event_tell h first;
            look = again_looks h first;
            enter = λ ts a. again_enters h first a;
            end = λ s. may_end (track_event h first c).0 (fresh_counts h first s);
          }

      pub turn_reached : {k' : ℕ} {out out' : List ℕ} {v : Crowd} → Reached S (4096 / g) i k (past w q₁).crowd out k' out' v → v.marks ≡ w.crowd.marks
          → Turned S g k w (Some k') (record { crowd = v; members = w.members; entered = w.entered }) × Wrote S k out (Some k') out'
      unfolding side
      turn_reached {k'} {out} {out'} {v} x e =
          let same : v ≡ (altered w v.tips v.pending).crowd = λ j. record { tips = v.tips; pending = v.pending; marks = e j } in
          let r = go (subst (Reached S (side g) i k (past w q₁).crowd out k' out') same x) in
          (subst (λ (u : Crowd). Turned S g k w (Some k') (record { crowd = u; members = w.members; entered = w.entered })) (sym same) r.0, r.1)
        where
          go : {ts : List Tip} {q' : Slots} → Reached S (side g) i k (past w q₁).crowd out k' out' (altered w ts q').crowd
              → Turned S g k w (Some k') (altered w ts q') × Wrote S k out (Some k') out'
          go {ts} {q'} (again s l z o n) = (
            happened (subst (λ (r : ℕ). Onward S g k w r (altered w ts q')) (sym n) (going_again h first l left z s)),
            no_row (inr (ap Some n)) o,
          )
          go (ended s ending kind f z n) = turn_ended (track_event h first c).0 (fresh_counts h first s) kind n f z
