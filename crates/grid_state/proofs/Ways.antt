-- A tip on its way into a cell. Main theorems: `way_open` (it begins), `way_busy` (it has looked at the walls there), `way_end` and `way_later` (it has met the tips there, and is in the cell).
use mathlib.Core.Bool.{Bool, false}
use mathlib.Core.List.Memᴰ
use mathlib.Core.List.{List, [], ◌∷◌}
use mathlib.Core.Logic.{inl, inr, ◌≢◌}
use mathlib.Core.Option.{some}
use mathlib.Core.Path.{◌≡◌, refl, sym, ap, ◌∙◌, subst}
use Prim.Native.Nat.{ℕ, zero, suc, ◌+◌, ◌*◌, ◌≤◌, ◌<◌}
use native.Mathlib.Decide.{ℕ_discrete}
use native.Mathlib.Omega.{arith}
use lib.ListN.{length, get_or, set, length-set}
use lib.Seq.{get_or-set_other}
use Rattle.cell_members.specs.Members.{CELLS}
use Rattle.fraction.specs.Time.{as_time}
use Rattle.sheet.specs.HandedIn.{no_track}
use Rattle.sheet.specs.Listing.{Listing, ◌∈◌}
use Rattle.sheet.proofs.Lists.{mem_at}
use Rattle.rule.specs.declared.Row.{Row}
use Rattle.rule.specs.Causes.{Cand, ◌≼◌}
use Rattle.rule.specs.EdgeTime.{rim}
use Rattle.rule.proofs.OnSheet.{rim-opened}
use Rattle.rule.proofs.Turn.{progress_start}
use Rattle.cause.specs.declared.Cause.{Cause}
use Rattle.cause.specs.Cause.{tip_at, cand_of, Fine, Least}
use Rattle.cause.proofs.First.{below_comes}
use Rattle.cause.proofs.Looking.{OfEdge, walls_live, bare_edge}
use Rattle.cells.specs.declared.Cell.{Cell}
use Rattle.cells.specs.Grid.{Figure, side}
use Rattle.cells.specs.Walk.{first}
use Rattle.cells.proofs.Count.{first_good}
use Rattle.cells.specs.Entered.{Entered}
use Rattle.cells.proofs.Entered.{entered-first}
use Rattle.event_queue.specs.Queue.{Slots}
use Rattle.tips.specs.declared.Tip.{Tip}
use Rattle.tips.specs.Tips.{tip_in, with_best, with_base, with_cell}
use Rattle.pair_marks.specs.Marks.{Marked}
use Rattle.grid_steps.specs.Steps.{InGrid, MayLookHere, MayEnter, Offered, Here, entry_in}
use Rattle.grid_state.specs.Sweep.{Crowd, Sweep}
use Rattle.grid_state.specs.State.{code_of, cells_at, Looked, Marks, Ahead, Placed, Queued}
use Rattle.grid_state.specs.Meeting.{Noticed, Paired, Meets, Frame, Busy, MayMeet, LiveCause, Later, Enters}
use Rattle.grid_state.specs.Meeting.Noticed.{looks, has_ended}
use Rattle.grid_state.specs.Meeting.Paired.{known, looked}
use Rattle.grid_state.specs.Meeting.Meets.{nobody, and_then}
use Rattle.grid_state.specs.Run.{StateOf, WayOf, Starting, Going}
use Rattle.grid_state.proofs.Figures.{figure_in}
use Rattle.tips.proofs.Put.{at_put}
use Rattle.grid_state.proofs.Cells.{with_both, both_put, here_put, enter_walls, looked_moved, open_tip}
use Rattle.grid_state.proofs.Queue.{tip_same, queue_own, queue_back, queue_open}
use Rattle.grid_state.proofs.Entering.{first-ahead, good_in, marked_enter, listed-enter, count_room, placed_enter, placed_kept}
use Rattle.grid_state.proofs.Meeting.{Met, later_trans, busy_meets}

-- ---- what stays

-- what the new tip at i has in common with the one before
pub field_kept : {A : Type 0} (f : Tip → A) (ts : List Tip) (i : ℕ) (t : Tip) → f t ≡ f (tip_in ts i) → (j : ℕ) → f (tip_in (set ts i t) j) ≡ f (tip_in ts j)
field_kept f [] i t e j = refl
field_kept f (x ∷ ts) zero t e zero = e
field_kept f (x ∷ ts) zero t e (suc j) = refl
field_kept f (x ∷ ts) (suc i) t e zero = refl
field_kept f (x ∷ ts) (suc i) t e (suc j) = field_kept f ts i t e j

-- the cells, while the tips look at each other
offered_cells : {S : Listing} {i j : ℕ} {ts ts' : List Tip} → Offered S i j ts ts' → (m : ℕ) → (tip_in ts' m).cell ≡ (tip_in ts m).cell
offered_cells {S} {i} {j} {ts} o m = ap (λ (z : List Tip). (tip_in z m).cell) o.stored ∙ field_kept (λ (t : Tip). t.cell) ts i _ refl m

noticed_cells : {S : Listing} {side i j : ℕ} {ts ts' : List Tip} {s s' : Slots} → Noticed S side i j ts s ts' s' → (m : ℕ) → (tip_in ts' m).cell ≡ (tip_in ts m).cell
noticed_cells (looks r o e) m = offered_cells o m
noticed_cells (has_ended r e f) m = ap (λ (z : List Tip). (tip_in z m).cell) e

paired_cells : {S : Listing} {side i j : ℕ} {w w' : Crowd} → Paired S side i j w w' → (m : ℕ) → (tip_in w'.tips m).cell ≡ (tip_in w.tips m).cell
paired_cells (known x e) m = ap (λ (z : Crowd). (tip_in z.tips m).cell) e
paired_cells (looked n o) m = noticed_cells o.other m ∙ offered_cells o.own m

pub meets_cells : {S : Listing} {side i : ℕ} {l : List ℕ} {w w' : Crowd} → Meets S side i l w w' → (m : ℕ) → (tip_in w'.tips m).cell ≡ (tip_in w.tips m).cell
meets_cells (nobody e) m = ap (λ (z : Crowd). (tip_in z.tips m).cell) e
meets_cells (and_then p q) m = meets_cells q m ∙ paired_cells p m

-- ---- the tip at i sets out for cell k, looks at its walls, meets its tips, and is there

module _ {S : Listing} {side b i : ℕ} {k : Cell} {done : List Row} {es : List (List Cell)} {w : Sweep} (y : WayOf S side b i k done es w) where
  abbrev es' : List (List Cell)
  es' = set es i (k ∷ cells_at es i)

  few : b ≤ 256
  few = omega (arith, y.state.begun_in, y.state.accepted.few_tracks)

  pub way_place : (i < length S.tracks) × (i < 256)
  way_place = (omega (arith, y.runs.0, y.state.begun_in), omega (arith, y.runs.0, few))

  room : i < length es
  room = omega (arith, way_place.0, y.state.es_long)

  -- what `look_here` asks
  pub way_looks : MayLookHere S w.crowd.tips i
  way_looks =
      let base = y.state.looked.base i y.runs in
      let best = (y.state.looked.best i y.runs).walls in
      record {
        tip_within = way_place.0;
        fine = y.state.looked.fine i y.runs.0;
        base = base.walls.stands;
        bare = λ z.
            below_comes S (tip_at S i) best.stands base.walls.stands
            (subst (λ (d : Cand). cand_of S (tip_in w.crowd.tips i).best ≼ d) (sym (bare_edge S (tip_at S i) (tip_in w.crowd.tips i).base z base.walls.stands base.no_track)) best.at_rim);
      }

  pub way_code : code_of k < CELLS
  way_code = omega (arith, y.in_grid.column_in, y.in_grid.row_in)

  pub way_room : w.entered < 63 * length S.tracks
  way_room = omega (arith, count_room es i room k y.state.listed y.short, y.state.es_long)

  -- what `join` asks
  pub way_count : w.entered < 16128
  way_count = omega (arith, way_room, y.state.accepted.few_tracks)

  others_in : (j : ℕ) → j ∈ get_or w.members (code_of k) [] → j < b
  others_in j = y.state.listed.only (code_of k) j way_code

  abbrev pub way_frame : Frame
  way_frame = record { begun = b; done = done; ls = es'; es = es }

  -- it has looked at the walls
  module _ {seen : List Tip} (h : Here S side k i w.crowd.tips seen) where
    abbrev crowd_seen : Crowd
    crowd_seen = record { tips = seen; pending = w.crowd.pending; marks = w.crowd.marks }

    abbrev new : Tip
    new = record { best = h.best; base = h.base; ended = (tip_in w.crowd.tips i).ended; cell = (tip_in w.crowd.tips i).cell }

    seen_is : seen ≡ set w.crowd.tips i new
    seen_is = here_put y.state.looked i way_place.1 room y.runs k h

    ended_seen : (j : ℕ) → (tip_in seen j).ended ≡ (tip_in w.crowd.tips j).ended
    ended_seen j = ap (λ (z : List Tip). (tip_in z j).ended) seen_is ∙ field_kept (λ (t : Tip). t.ended) w.crowd.tips i new refl j

    cell_seen : (j : ℕ) → (tip_in seen j).cell ≡ (tip_in w.crowd.tips j).cell
    cell_seen j = ap (λ (z : List Tip). (tip_in z j).cell) seen_is ∙ field_kept (λ (t : Tip). t.cell) w.crowd.tips i new refl j

    pub way_busy : Busy S way_frame side i (record { tips = seen; pending = w.crowd.pending; marks = w.crowd.marks })
    way_busy =
        record {
          accepted = y.state.accepted;
          begun_in = y.state.begun_in;
          side_in = y.state.side_in;
          runs = (y.runs.0, ended_seen i ∙ y.runs.1);
          in_grid = λ j l n. subst (InGrid side) (sym (cell_seen j)) (y.state.placed.in_grid j l n);
          looked = enter_walls y.state.looked i way_place.1 room y.runs k h;
          marked = y.state.marked;
          queued = subst (λ (z : List Tip). Queued S side b i z w.crowd.pending) (sym seen_is) (queue_own y.state.queued new);
        }

    -- what `meet` asks
    pub way_meet : MayMeet S side i (get_or w.members (code_of k) []) (record { tips = seen; pending = w.crowd.pending; marks = w.crowd.marks })
    way_meet = record { frame = way_frame; busy = way_busy; others_in = others_in }

    -- a wall counts
    wall_live : Least (tip_in w.crowd.tips i).best h.base h.best → LiveCause S done (tip_in w.crowd.tips i).best → LiveCause S done h.best
    wall_live (inl (e, x)) z = subst (LiveCause S done) (sym e) z
    wall_live (inr (e, x)) z =
        subst (LiveCause S done) (sym e)
        (walls_live S done (as_time h.base.at) (as_time h.base.there) h.base.class h.base.who (h.looked.no_track (y.state.looked.base i y.runs).no_track))

    seen_later : Later S b done w.crowd crowd_seen
    seen_later =
        record {
          ended_same = ended_seen;
          marks_kept = λ p q x. x;
          live_kept = λ j r x. subst (λ (z : List Tip). LiveCause S done (tip_in z j).best) (sym seen_is)
              (at_put (λ (j : ℕ) (t : Tip). LiveCause S done (tip_in w.crowd.tips j).best → LiveCause S done t.best) w.crowd.tips i new (omega (arith, way_place.1, y.state.looked.long))
              (wall_live h.least) (λ j n z. z) j x);
        }

    -- it has met the tips
    module _ {met : Crowd} (m : Meets S side i (get_or w.members (code_of k) []) (record { tips = seen; pending = w.crowd.pending; marks = w.crowd.marks }) met) where
      has_met : Met S way_frame side i (get_or w.members (code_of k) []) crowd_seen met
      has_met = busy_meets way_busy others_in m

      abbrev moved : Tip
      moved = record { best = (tip_in met.tips i).best; base = (tip_in met.tips i).base; ended = (tip_in met.tips i).ended; cell = k }

      room_met : i < length met.tips
      room_met = omega (arith, way_place.1, has_met.busy.looked.long)

      -- what `put_back` asks
      pub way_back : {ts' : List Tip} → ts' ≡ with_cell met.tips i k → MayEnter S side ts' i
      way_back {ts'} e =
          let own : tip_in ts' i ≡ moved = ap (λ (z : List Tip). tip_in z i) e ∙ tip_same met.tips i moved room_met in
          record {
            tip_within = way_place.0;
            in_grid = subst (λ (t : Tip). InGrid side t.cell) (sym own) y.in_grid;
            fine = subst (λ (t : Tip). Fine t.best) (sym own) (has_met.busy.looked.fine i y.runs.0);
          }

  -- and is there
  module _ {w' : Sweep} (e : Enters S side i k w w') where
    abbrev tips_met : List Tip
    tips_met = e.met.tips

    after : Met S way_frame side i (get_or w.members (code_of k) []) (record { tips = e.seen; pending = w.crowd.pending; marks = w.crowd.marks }) e.met
    after = has_met e.walls e.meets

    marked_after : Marks es' b e.met.marks
    marked_after = marked_enter es i room k way_place.1 few after.busy.marked (λ j l n x. after.marked j (y.state.listed.member j k l x) n)

    placed_met : Placed S done side es b i tips_met
    placed_met = placed_kept (λ j. after.later.ended_same j ∙ ended_seen e.walls j) (λ j. meets_cells e.meets j ∙ cell_seen e.walls j) y.state.placed

    placed_after : Placed S done side es' b 256 (with_cell tips_met i k)
    placed_after = placed_enter es i room k (room_met e.walls e.meets) y.in_grid y.entered y.ahead placed_met

    pub way_end : StateOf S side b 256 done es' w'
    way_end =
        record {
          accepted = y.state.accepted;
          es_long = length-set es i (k ∷ cells_at es i) ∙ y.state.es_long;
          begun_in = y.state.begun_in;
          side_in = y.state.side_in;
          looked =
              subst (λ (z : List Tip). Looked S done side es' b z w'.crowd.marks) (sym e.tips)
              (subst (Looked S done side es' b (with_cell tips_met i k)) (sym e.marks) (looked_moved after.busy.looked i way_place.1 k));
          marked = subst (Marks es' b) (sym e.marks) marked_after;
          placed = subst (Placed S done side es' b 256) (sym e.tips) placed_after;
          listed = listed-enter es i room k y.runs.0 way_code y.short y.state.listed e.members e.entered;
          queued =
              subst (Queued S side b 256 w'.crowd.tips) (sym e.pending)
              (subst (λ (z : List Tip). Queued S side b 256 z (set e.met.pending i (some (entry_in S side z i)))) (sym e.tips) (queue_back after.busy.queued few after.busy.runs _ refl));
        }

    last : Later S b done e.met w'.crowd
    last =
        record {
          ended_same = λ j. ap (λ (z : List Tip). (tip_in z j).ended) e.tips ∙ field_kept (λ (t : Tip). t.ended) tips_met i _ refl j;
          marks_kept = λ p q. subst (λ (z : List (List Bool)). Marked z p q) (sym e.marks);
          live_kept = λ j r. subst (LiveCause S done) (sym (ap (λ (z : List Tip). (tip_in z j).best) e.tips ∙ field_kept (λ (t : Tip). t.best) tips_met i _ refl j));
        }

    pub way_later : Later S b done w.crowd w'.crowd
    way_later = later_trans (seen_later e.walls) (later_trans after.later last)

-- ---- a tip begins

-- with other tips
abbrev pub having : Sweep → List Tip → Sweep
having w ts = record { crowd = record { tips = ts; pending = w.crowd.pending; marks = w.crowd.marks }; members = w.members; entered = w.entered }

module _ {S : Listing} {g b : ℕ} (fig : Figure g) {done : List Row} {es : List (List Cell)} {w : Sweep} (st : StateOf S (side g) b 256 done es w)
    (more : b < length S.tracks) (runs : (tip_in w.crowd.tips b).ended ≡ false) (none : cells_at es b ≡ []) {c : Cause} (edge : OfEdge S (tip_at S b) c) where
  abbrev ts : List Tip
  ts = w.crowd.tips

  abbrev opened : Tip
  opened = record { best = c; base = c; ended = (tip_in ts b).ended; cell = (tip_in ts b).cell }

  abbrev start : Cell
  start = first (tip_at S b) (side g)

  small : b < 256
  small = omega (arith, more, st.accepted.few_tracks)

  room_open : b < length ts
  room_open = omega (arith, small, st.looked.long)

  in_grid_first : InGrid (side g) start
  in_grid_first =
      let h = good_in st.accepted fig (mem_at no_track S.tracks b more) (first_good (tip_at S b) (rim (tip_at S b)) (side g) (figure_in fig).0 (rim-opened st.accepted (mem_at no_track S.tracks b more))) in
      record { side_in = (figure_in fig).1; column_in = omega (arith, h.0, (figure_in fig).2); row_in = omega (arith, h.1, (figure_in fig).2) }

  empty : {A : Type 0} (j : ℕ) (k : Cell) → j ≡ b → k ∈ cells_at es j → A
  empty j k z x = absurd (Memᴰ.not-nil (subst (λ (l : List Cell). k ∈ l) none (subst (λ (q : ℕ). k ∈ cells_at es q) z x)))

  older : (j : ℕ) (k : Cell) → j < b + 1 → k ∈ cells_at es j → j < b
  older j k h x = pick (ℕ_discrete j b)
    where
      pick : Dec (j ≡ b) → j < b
      pick (yes z) = empty j k z x
      pick (no z) = omega arith

  before : (j : ℕ) → j < b + 1 → j ≢ b → (j < b) × (j ≢ 256)
  before j h n = (omega arith, λ z. omega (arith, small))

  state_open : StateOf S (side g) (b + 1) b done es (having w (with_both ts b c c))
  state_open =
      record {
        accepted = st.accepted;
        es_long = st.es_long;
        begun_in = omega (arith, more);
        side_in = st.side_in;
        looked = open_tip st.looked small runs none (λ q h x. let z = (st.marked.begun b q small (omega (arith, h, st.accepted.few_tracks)) x).0 in omega arith) edge;
        marked = record {
          square = st.marked.square;
          both = st.marked.both;
          begun = λ i j h k x. let z = st.marked.begun i j h k x in (omega (arith, z.0), omega (arith, z.1));
          share = λ i j k h q d x z. st.marked.share i j k (older i k h x) (older j k q z) d x z;
        };
        placed = record {
          in_grid = at_put (λ (j : ℕ) (t : Tip). j < b + 1 → j ≢ b → InGrid (side g) t.cell) ts b opened room_open (λ h n. absurd (n refl)) (λ j d h n. st.placed.in_grid j (before j h n).0 (before j h n).1);
          at = at_put (λ (j : ℕ) (t : Tip). (j < b + 1) × (t.ended ≡ false) → j ≢ b → Entered (tip_at S j) (rim (tip_at S j)) (side g) t.cell (cells_at es j)) ts b opened room_open
              (λ h n. absurd (n refl)) (λ j d h n. st.placed.at j ((before j h.0 n).0, h.1) (before j h.0 n).1);
          ahead = at_put (λ (j : ℕ) (t : Tip). (j < b + 1) × (t.ended ≡ false) → j ≢ b → Ahead S done (side g) (tip_at S j) t.cell) ts b opened room_open
              (λ h n. absurd (n refl)) (λ j d h n. st.placed.ahead j ((before j h.0 n).0, h.1) (before j h.0 n).1);
        };
        listed = record {
          long = st.listed.long;
          inside = λ j k h x. st.listed.inside j k (older j k h x) x;
          member = λ j k h x. st.listed.member j k (older j k h x) x;
          only = λ q j h x. let z = st.listed.only q j h x in omega arith;
          few = st.listed.few;
          counted = st.listed.counted;
        };
        queued = queue_open st.queued (omega (arith, small)) opened;
      }

  open_both : WayOf S (side g) (b + 1) b start done es (having w (with_both ts b c c))
  open_both =
      record {
        state = state_open;
        runs = (omega arith, field_kept (λ (t : Tip). t.ended) ts b opened refl b ∙ runs);
        in_grid = in_grid_first;
        short = omega (arith, ap length none);
        entered = subst (λ (z : List Cell). Entered (tip_at S b) (rim (tip_at S b)) (side g) start (start ∷ z)) (sym none) (entered-first (tip_at S b) (rim (tip_at S b)) (side g) (figure_in fig).0 (rim-opened st.accepted (mem_at no_track S.tracks b more)));
        ahead = first-ahead st.accepted st.looked.ends (mem_at no_track S.tracks b more) (side g) (figure_in fig).0;
      }

  pub way_open : WayOf S (side g) (b + 1) b (first (tip_at S b) (side g)) done es (having w (with_best (with_base w.crowd.tips b c) b c))
  way_open = subst (λ (z : List Tip). WayOf S (side g) (b + 1) b start done es (having w z)) (sym (both_put ts b c c room_open)) open_both

-- ---- the tips begin, one after another

module _ {S : Listing} {g i : ℕ} {w : Sweep} (st : Starting S g i w) (more : i < length S.tracks) {c : Cause} (edge : OfEdge S (tip_at S i) c) where
  pub start_way : WayOf S (side g) (i + 1) i (first (tip_at S i) (side g)) [] st.es (having w (with_best (with_base w.crowd.tips i c) i c))
  start_way = way_open st.figure st.state more (st.none_ended i) (st.none_in i (omega arith)) edge

  pub start-next : {w' : Sweep} → Enters S (side g) i (first (tip_at S i) (side g)) (having w (with_best (with_base w.crowd.tips i c) i c)) w' → Starting S g (i + 1) w'
  start-next e =
      record {
        es = set st.es i (first (tip_at S i) (side g) ∷ cells_at st.es i);
        figure = st.figure;
        state = way_end start_way e;
        none_ended =
            λ j.
            (way_later start_way e).ended_same j ∙ field_kept (λ (t : Tip). t.ended) (with_base w.crowd.tips i c) i _ refl j
            ∙ field_kept (λ (t : Tip). t.ended) w.crowd.tips i _ refl j ∙ st.none_ended j;
        none_in = λ j h. get_or-set_other st.es i j (first (tip_at S i) (side g) ∷ cells_at st.es i) [] (λ z. omega arith) ∙ st.none_in j (omega arith);
      }

pub starting_going : {S : Listing} {g : ℕ} {w : Sweep} → Starting S g (length S.tracks) w → Going S g 0 w
starting_going st =
    record {
      done = [];
      es = st.es;
      figure = st.figure;
      state = st.state;
      rows = record { out = refl; progress = progress_start st.state.accepted; known = λ d m. absurd (Memᴰ.not-nil m) };
    }
