-- An event leaves the queue, and is dealt with. Main theorems: `event_way` (a cell is entered) and `entry-time` (at the time of its key); `going_entered`, `going_again` (a cause no longer counts), `going_ended`: the run goes on, and there is less to do.
use mathlib.Core.Bool.{Bool, true, false, true≢false}
use mathlib.Core.List.{List, [], ◌∷◌}
use mathlib.Core.Logic.{◌≢◌}
use mathlib.Core.Option.{none, some, some-injective}
use mathlib.Core.Path.{◌≡◌, refl, sym, ap, ◌∙◌, subst}
use Prim.Native.Nat.{ℕ, ◌+◌, ◌≤◌, ◌<◌}
use native.Mathlib.Omega.{arith}
use lib.ListN.{length, get_or, set}
use Rattle.fraction.specs.Time.{as_time}
use Rattle.fraction.proofs.TimeOrder.{≤ᵗ_refl}
use Rattle.sheet.specs.HandedIn.{no_track}
use Rattle.sheet.specs.Listing.{Listing, ◌∈◌}
use Rattle.sheet.proofs.Lists.{mem_at}
use Rattle.rule.specs.declared.Row.{Row}
use Rattle.rule.specs.Causes.{low, row_of}
use Rattle.rule.specs.EdgeTime.{rim}
use Rattle.rule.proofs.OnSheet.{rim-opened}
use Rattle.rule.specs.Rows.{time_of}
use Rattle.rule.specs.Selection.{roll_of}
use Rattle.cause.specs.declared.Cause.{Cause}
use Rattle.cause.specs.Cause.{rank, tip_at, cand_of, Stands}
use Rattle.cause.specs.Looked.{FirstOfTracks}
use Rattle.cause.proofs.Looking.{walls_live}
use Rattle.ending.specs.Ended.{Endable, next_row}
use Rattle.ending.specs.Finished.{finish}
use Rattle.cells.specs.declared.Cell.{Cell}
use Rattle.cells.specs.EnteredAt.{EnteredAt}
use Rattle.cells.specs.Grid.{side}
use Rattle.cells.proofs.Count.{stay_rim}
use Rattle.cells.specs.Entered.{Entered}
use Rattle.cells.proofs.Entered.{entered_few}
use Rattle.cells.specs.Walk.{next}
use Rattle.event_queue.specs.declared.Entry.{Entry}
use Rattle.event_queue.specs.declared.Event.{Event}
use Rattle.event_queue.specs.declared.Event.TheVariants as event
use Rattle.event_queue.specs.declared.Key.{Key}
use Rattle.event_queue.specs.Key.{time}
use Rattle.event_queue.specs.Queue.{Slots, First}
use Rattle.pending_events.specs.Pending.{event_of}
use Rattle.tips.specs.declared.Tip.{Tip}
use Rattle.tips.specs.Tips.{tip_in}
use Rattle.look.specs.Ends.{end_of}
use Rattle.look.specs.Counts.{Counts, no_track as is_no_track, MayTell, stale}
use Rattle.look.specs.Tracks.{MayLookOn, LookedAgain}
use Rattle.pair_marks.specs.Marks.{Marked}
use Rattle.grid_steps.specs.Steps.{InGrid, MayEnter, entry_in}
use Rattle.grid_state.specs.Sweep.{Sweep}
use Rattle.grid_state.specs.State.{cells_at, Runs, Best, Base, Looked, Ahead, Placed, Queued}
use Rattle.grid_state.specs.Run.{StateOf, WayOf, Way, Rows, Going}
use Rattle.grid_state.specs.Meeting.{LiveCause, Enters}
use Rattle.grid_state.specs.ToDo.{to_do}
use Rattle.tips.proofs.Put.{at_put}
use Rattle.grid_state.proofs.Stores.{walls_better, store_best}
use Rattle.grid_state.proofs.Queue.{Left, none_out, ended_kept, queue_first, queue_back, queue_ended}
use Rattle.grid_state.proofs.Figures.{figure_in}
use Rattle.grid_state.proofs.EntryTime.{known_roll, cell-time}
use Rattle.grid_state.proofs.Entering.{good_in, next_stepped, next-entered, next-ahead}
use Rattle.grid_state.proofs.Ways.{way_room, way_end, way_later}
use Rattle.grid_state.proofs.Ending.{ending_inside, ending_row, looked_ended, placed_ended, rows_ended}
use Rattle.grid_state.proofs.ToDo.{Sure, StillSure, less_cells, less-stale, less-rows}
use Rattle.grid_state.proofs.Says.{is_cell, is_track, is_wall, is_edge}
use Rattle.grid_state.proofs.Sure.{may_tell, of_counts, sure_counts, live_sure, still_sure}

-- w with these tips and pending events
abbrev pub altered : Sweep → List Tip → Slots → Sweep
altered w ts q = record { crowd = record { tips = ts; pending = q; marks = w.crowd.marks }; members = w.members; entered = w.entered }

-- from k rows and w the run goes on to k' rows and w', and there is less to do
abbrev pub Onward : Listing → ℕ → ℕ → Sweep → ℕ → Sweep → Type 0
Onward S g k w k' w' = Going S g k' w' × (to_do (length S.tracks) w' k' < to_do (length S.tracks) w k)

-- a tip has looked from its base cause on at all that it has a mark beside
again_best : {S : Listing} {done : List Row} {s : ℕ} {l : List Cell} {marks : List (List Bool)} {i : ℕ} {c r : Cause} → Base S s l (tip_at S i) c → FirstOfTracks S done (tip_at S i) (Marked marks i) c r → Best S done s l marks i r
again_best o f = record { walls = walls_better f.stands f.first o.walls; at_tips = f.at_tips }

-- the event e of the tip at r is the first of all
module _ {S : Listing} {g k : ℕ} {w : Sweep} (go : Going S g k w) {r : ℕ} {e : Event} (f : First w.crowd.pending r e) where
  abbrev n : ℕ
  n = length S.tracks

  abbrev s : ℕ
  s = side g

  abbrev ts : List Tip
  ts = w.crowd.tips

  abbrev done : List Row
  done = go.done

  abbrev es : List (List Cell)
  es = go.es

  abbrev st : StateOf S s n 256 done es w
  st = go.state

  abbrev cause : Cause
  cause = (tip_in ts r).best

  few : n ≤ 256
  few = st.accepted.few_tracks

  left : Left S s n ts w.crowd.pending r e
  left = queue_first st.queued few f

  pub event_runs : Runs (length S.tracks) w.crowd.tips r
  event_runs = left.runs

  pub event_here : (r < length S.tracks) × (r < 256)
  event_here = (event_runs.0, omega (arith, event_runs.0, few))

  on : tip_at S r ∈ S.tracks
  on = mem_at no_track S.tracks r event_runs.0

  room : r < length ts
  room = omega (arith, event_here.1, st.looked.long)

  pub event_entry : entry_in S (side g) w.crowd.tips r ≡ record { key = f.key; event = e }
  event_entry = some-injective _ _ (sym (st.queued.due r event_runs (none_out few r event_runs.0)) ∙ f.held)

  abbrev to : Cell
  to = next (tip_at S r) s (tip_in ts r).cell

  event_is : e ≡ event_of (entry_in S s ts r).key.late to cause
  event_is = sym (ap (λ (x : Entry). x.event) event_entry)

  pub event_stands : Stands S (tip_at S r) (tip_in w.crowd.tips r).best
  event_stands = (st.looked.best r event_runs).walls.stands

  -- what the test of its cause asks
  pub event_tell : MayTell w.crowd.tips r
  event_tell = may_tell st.accepted st.looked r event_runs

  -- ---- what kind it is

  pub cell_event : {x y : ℕ} → e ≡ event.Cell x y → ((entry_in S (side g) w.crowd.tips r).key.late ≡ 1 → ⊥) × (next (tip_at S r) (side g) (tip_in w.crowd.tips r).cell ≡ record { column = x; row = y })
  cell_event {x} {y} z = is_cell (entry_in S s ts r).key.late to cause x y (sym z ∙ event_is)

  pub track_event : {x : ℕ} → e ≡ event.Track x → ((entry_in S (side g) w.crowd.tips r).key.late ≡ 1) × (rank (tip_in w.crowd.tips r).best.class ≡ 0) × ((tip_in w.crowd.tips r).best.id ≡ x)
  track_event {x} z = is_track (entry_in S s ts r).key.late to cause x (sym z ∙ event_is)

  pub wall_event : {x : ℕ} → e ≡ event.Wall x → ((entry_in S (side g) w.crowd.tips r).key.late ≡ 1) × (rank (tip_in w.crowd.tips r).best.class ≡ 1) × ((tip_in w.crowd.tips r).best.id ≡ x)
  wall_event {x} z = is_wall (entry_in S s ts r).key.late to cause x (sym z ∙ event_is)

  pub edge_event : e ≡ event.Edge → ((entry_in S (side g) w.crowd.tips r).key.late ≡ 1) × (rank (tip_in w.crowd.tips r).best.class ≡ 0 → ⊥) × (rank (tip_in w.crowd.tips r).best.class ≡ 1 → ⊥)
  edge_event z = is_edge (entry_in S s ts r).key.late to cause (sym z ∙ event_is)

  -- ---- a cell is entered

  module _ (entry : (entry_in S s ts r).key.late ≡ 1 → ⊥) where
    now-entered : Entered (tip_at S r) (rim (tip_at S r)) s to (to ∷ cells_at es r)
    now-entered = next-entered st.accepted go.figure (figure_in go.figure).0 st.looked st.marked st.placed r event_runs entry left.least

    now-ahead : Ahead S done s (tip_at S r) to
    now-ahead = next-ahead st.accepted go.figure (figure_in go.figure).0 st.looked st.marked st.placed r event_runs entry left.least

    to_in : InGrid s to
    to_in =
        let h = good_in st.accepted go.figure on now-entered.good in
        record { side_in = st.side_in; column_in = omega (arith, h.0, (figure_in go.figure).2); row_in = omega (arith, h.1, (figure_in go.figure).2) }

    short : length (cells_at es r) < 63
    short = let h = entered_few go.figure (stay_rim st.accepted on (rim-opened st.accepted on) (≤ᵗ_refl (rim (tip_at S r)))) now-entered in omega (arith, h, (figure_in go.figure).2)

    state_left : StateOf S s n r done es (altered w ts (set w.crowd.pending r none))
    state_left =
        record {
          accepted = st.accepted;
          es_long = st.es_long;
          begun_in = st.begun_in;
          side_in = st.side_in;
          looked = st.looked;
          marked = st.marked;
          placed = record {
            in_grid = λ j h d. st.placed.in_grid j h (none_out few j h);
            at = λ j u d. st.placed.at j u (none_out few j u.0);
            ahead = λ j u d. st.placed.ahead j u (none_out few j u.0);
          };
          listed = st.listed;
          queued = left.queued;
        }

    way_to : WayOf S s n r to done es (altered w ts (set w.crowd.pending r none))
    way_to = record { state = state_left; runs = event_runs; in_grid = to_in; short = short; entered = now-entered; ahead = now-ahead }

    time-to : EnteredAt (tip_at S r) (time_of (roll_of S) (tip_at S r).id) s to (time f.key)
    time-to =
        subst (λ (x : Key). EnteredAt (tip_at S r) (time_of (roll_of S) (tip_at S r).id) s to (time x)) (ap (λ (x : Entry). x.key) event_entry)
        (cell-time st.accepted (known_roll go.rows) on cause (st.looked.fine r event_runs.0)
        (next_stepped st.accepted go.figure (figure_in go.figure).0 st.looked st.marked st.placed r event_runs entry left.least)
        now-ahead entry)

  module _ {x y : ℕ} (c : e ≡ event.Cell x y) where
    -- when
    pub entry-time : EnteredAt (tip_at S r) (time_of (roll_of S) (tip_at S r).id) (side g) (record { column = x; row = y }) (time f.key)
    entry-time = subst (λ (z : Cell). EnteredAt (tip_at S r) (time_of (roll_of S) (tip_at S r).id) s z (time f.key)) (cell_event c).1 (time-to (cell_event c).0)

    module _ {q : Slots} (z : q ≡ set w.crowd.pending r none) where
      pub way_next : WayOf S (side g) (length S.tracks) r (record { column = x; row = y }) go.done go.es (altered w w.crowd.tips q)
      way_next =
          subst (λ (u : Slots). WayOf S s n r (record { column = x; row = y }) done es (altered w ts u)) (sym z)
          (subst (λ (u : Cell). WayOf S s n r u done es (altered w ts (set w.crowd.pending r none))) (cell_event c).1 (way_to (cell_event c).0))

      -- what `enter` asks
      pub event_way : Way S (side g) r (record { column = x; row = y }) (altered w w.crowd.tips q)
      event_way = record { begun = n; done = done; es = es; way = way_next }

      pub going_entered : {w' : Sweep} → Enters S (side g) r (record { column = x; row = y }) (altered w w.crowd.tips q) w' → Onward S g k w k w'
      going_entered {w'} a =
          let l = way_later way_next a in
          let u = way_end way_next a in (
            record { done = done; es = set es r (record { column = x; row = y } ∷ cells_at es r); figure = go.figure; state = u; rows = go.rows },
            less_cells n k w w' (way_room way_next) a.entered (still_sure st.accepted st.looked u.looked l.ended_same l.live_kept),
          )

  -- ---- a cause that no longer counts is looked for again

  -- what `look_again` asks
  pub again_looks : MayLookOn S w.crowd.tips r (tip_in w.crowd.tips r).base
  again_looks = record { tip_within = event_runs.0; stands = (st.looked.base r event_runs).walls.stands; closed = λ j h x. (st.looked.ends.ended j h x).closed }

  module _ {ts' : List Tip} (a : LookedAgain S r (get_or w.crowd.marks r []) w.crowd.tips ts') where
    abbrev new : Tip
    new = record { best = a.cause; base = (tip_in ts r).base; ended = (tip_in ts r).ended; cell = (tip_in ts r).cell }

    base_live : LiveCause S done (tip_in ts r).base
    base_live = let c = (tip_in ts r).base in walls_live S done (as_time c.at) (as_time c.there) c.class c.who (st.looked.base r event_runs).no_track

    found : FirstOfTracks S done (tip_at S r) (Marked w.crowd.marks r) (tip_in ts r).base a.cause
    found = a.looked.looked done st.looked.ends

    looked_again : Looked S done s es n ts' w.crowd.marks
    looked_again =
        subst (λ (z : List Tip). Looked S done s es n z w.crowd.marks) (sym a.stored)
        (store_best st.looked r event_here.1 event_runs a.cause a.looked.fine (again_best (st.looked.base r event_runs) found))

    placed_again : Placed S done s es n 256 ts'
    placed_again =
        subst (Placed S done s es n 256) (sym a.stored)
        (record {
          in_grid = at_put (λ (j : ℕ) (t : Tip). j < n → j ≢ 256 → InGrid s t.cell) ts r new room (st.placed.in_grid r) (λ j d. st.placed.in_grid j);
          at = at_put (λ (j : ℕ) (t : Tip). (j < n) × (t.ended ≡ false) → j ≢ 256 → Entered (tip_at S j) (rim (tip_at S j)) s t.cell (cells_at es j)) ts r new room (st.placed.at r) (λ j d. st.placed.at j);
          ahead = at_put (λ (j : ℕ) (t : Tip). (j < n) × (t.ended ≡ false) → j ≢ 256 → Ahead S done s (tip_at S j) t.cell) ts r new room (st.placed.ahead r) (λ j d. st.placed.ahead j);
        })

    ended_again : (j : ℕ) → (tip_in ts' j).ended ≡ (tip_in ts j).ended
    ended_again j = ap (λ (z : List Tip). (tip_in z j).ended) a.stored ∙ ended_kept ts r new refl j

    runs_again : Runs n ts' r
    runs_again = (event_runs.0, ended_again r ∙ event_runs.1)

    -- what `put_back` asks
    pub again_enters : MayEnter S (side g) ts' r
    again_enters =
        record {
          tip_within = event_runs.0;
          in_grid = placed_again.in_grid r event_runs.0 (none_out few r event_runs.0);
          fine = looked_again.fine r event_runs.0;
        }

    live_again : (j : ℕ) → LiveCause S done (tip_in ts j).best → LiveCause S done (tip_in ts' j).best
    live_again j x =
        subst (λ (z : List Tip). LiveCause S done (tip_in z j).best) (sym a.stored)
        (at_put (λ (i : ℕ) (t : Tip). LiveCause S done (tip_in ts i).best → LiveCause S done t.best) ts r new room (λ y. found.live base_live) (λ i d y. y) j x)

    live_own : LiveCause S done (tip_in ts' r).best
    live_own =
        subst (λ (z : List Tip). LiveCause S done (tip_in z r).best) (sym a.stored)
        (at_put (λ (i : ℕ) (t : Tip). i ≡ r → LiveCause S done t.best) ts r new room (λ y. found.live base_live) (λ i d y. absurd (d y)) r refl)

    pub again_sure : StillSure (length S.tracks) w.crowd.tips ts' × Sure ts' r
    again_sure = (still_sure st.accepted st.looked looked_again ended_again (λ j u. live_again j), live_sure st.accepted looked_again r runs_again live_own)

    queued_again : Queued S s n 256 ts' (set (set w.crowd.pending r none) r (some (entry_in S s ts' r)))
    queued_again =
        subst (λ (z : List Tip). Queued S s n 256 z (set (set w.crowd.pending r none) r (some (entry_in S s z r)))) (sym a.stored)
        (queue_back left.queued few event_runs new refl)

    module _ {q q' : Slots} (z : q ≡ set w.crowd.pending r none) (z' : q' ≡ set q r (some (entry_in S (side g) ts' r))) where
      pub again_state : StateOf S (side g) (length S.tracks) 256 go.done go.es (altered w ts' q')
      again_state =
          record {
            accepted = st.accepted;
            es_long = st.es_long;
            begun_in = st.begun_in;
            side_in = st.side_in;
            looked = looked_again;
            marked = st.marked;
            placed = placed_again;
            listed = st.listed;
            queued = subst (Queued S s n 256 ts') (sym (z' ∙ ap (λ (x : Slots). set x r (some (entry_in S s ts' r))) z)) queued_again;
          }

      pub going_again : stale w.crowd.tips r ≡ true → Onward S g k w k (altered w ts' q')
      going_again x = (
        record { done = done; es = es; figure = go.figure; state = again_state; rows = go.rows },
        less-stale n k w (altered w ts' q') r event_runs.0 refl again_sure.0 (λ y. true≢false (sym x ∙ y)) again_sure.1,
      )

  -- ---- something is reached that counts, and ends the tip

  -- a cause that is not stale counts
  pub fresh_counts : stale w.crowd.tips r ≡ false → Counts w.crowd.tips (tip_in w.crowd.tips r).best
  fresh_counts = sure_counts st.accepted st.looked r event_runs

  -- a wall and the edge always count
  pub wall_counts : {x : ℕ} → e ≡ event.Wall x → Counts w.crowd.tips (tip_in w.crowd.tips r).best
  wall_counts c = is_no_track (λ z. omega (arith, (wall_event c).1))

  pub edge_counts : e ≡ event.Edge → Counts w.crowd.tips (tip_in w.crowd.tips r).best
  edge_counts c = is_no_track (edge_event c).1

  module _ (late : (entry_in S (side g) w.crowd.tips r).key.late ≡ 1) (counts : Counts w.crowd.tips (tip_in w.crowd.tips r).best) where
    live : LiveCause S done cause
    live = of_counts st.accepted st.looked r event_runs counts

    abbrev row : Row
    row = row_of (tip_at S r) (cand_of S cause)

    pub ended_row : next_row S k ≡ row_of (tip_at S r) (cand_of S (tip_in w.crowd.tips r).best)
    ended_row = ending_row st.accepted (figure_in go.figure).0 st.looked st.marked st.placed go.rows r event_runs late left.least live

    pub ended_rows : Rows S (row_of (tip_at S r) (cand_of S (tip_in w.crowd.tips r).best) ∷ go.done) (k + 1)
    ended_rows = rows_ended st.accepted (figure_in go.figure).0 st.looked st.marked st.placed go.rows r event_runs late left.least live

    -- there is a row to come
    pub ended_room : k < length S.tracks
    ended_room = omega (arith, ended_rows.out, ended_rows.progress.count)

    pub ended_endable : Endable (tip_at S r) (tip_in w.crowd.tips r).best
    ended_endable =
        record {
          ok = st.accepted.tracks_ok (tip_at S r) on;
          fine = event_stands.fine;
          inside = ending_inside st.accepted (figure_in go.figure).0 st.looked st.marked st.placed go.rows r event_runs late left.least live;
        }

    module _ {q : Slots} (z : q ≡ set w.crowd.pending r none) where
      pub ended_state : StateOf S (side g) (length S.tracks) 256 (row_of (tip_at S r) (cand_of S (tip_in w.crowd.tips r).best) ∷ go.done) go.es (altered w (finish w.crowd.tips r) q)
      ended_state =
          record {
            accepted = st.accepted;
            es_long = st.es_long;
            begun_in = st.begun_in;
            side_in = st.side_in;
            looked = looked_ended st.accepted (figure_in go.figure).0 st.looked st.marked st.placed go.rows r event_runs late left.least live;
            marked = st.marked;
            placed = placed_ended st.accepted (figure_in go.figure).0 st.looked st.marked st.placed go.rows r event_runs late left.least live;
            listed = st.listed;
            queued = subst (Queued S s n 256 (finish ts r)) (sym z) (queue_ended left.queued (low (end_of (tip_in ts r))) few room);
          }

      pub going_ended : Onward S g k w (k + 1) (altered w (finish w.crowd.tips r) q)
      going_ended = (
        record { done = row ∷ done; es = es; figure = go.figure; state = ended_state; rows = ended_rows },
        less-rows n k w (altered w (finish ts r) q) few ended_room refl,
      )
