-- A tip reaches its cause, and ends by it. Main theorems: `ending_progress` (with its row the rows so far are still right), `ending_cells` (its cells are exactly those that it has entered).
use mathlib.Core.Bool.{true≢false, Bool, false, Bool-discrete}
use mathlib.Core.List.Memᴰ
use mathlib.Core.List.{List, [], ◌∷◌, ◌++◌}
use mathlib.Core.Logic.{◌⊎◌, inl, inr, ◌≢◌}
use mathlib.Core.Path.{◌≡◌, refl, sym, ap, ◌∙◌, subst}
use Prim.Native.Nat.{ℕ, ◌+◌, ◌≤◌, ◌<◌}
use native.Mathlib.Omega.{arith}
use lib.ListN.{length, take, length-set}
use Rattle.fraction.specs.Time.{Time, ◌≤ᵗ◌, ◌<ᵗ◌, ◌≈ᵗ◌}
use Rattle.fraction.proofs.LowestTerms.{lowest_of_reduced, reduced_time}
use Rattle.fraction.proofs.TimeOrder.{≤ᵗ_trans, <ᵗ→≤ᵗ, ≈ᵗ→≤ᵗ}
use Rattle.sheet.specs.declared.Track.{Track}
use Rattle.sheet.specs.declared.Wall.{Wall}
use Rattle.sheet.specs.Accepted.{Accepted}
use Rattle.sheet.specs.HandedIn.{no_track, no_wall}
use Rattle.sheet.specs.Listing.{Listing, ◌∈◌}
use Rattle.sheet.proofs.Lists.{mem_at, at_mem}
use Rattle.rule.specs.declared.Row.{Row}
use Rattle.rule.specs.Motion.{Inside, OnWall}
use Rattle.rule.specs.Causes as rule
use Rattle.rule.specs.Causes.{Why, by_tip, by_bar, by_rim, Cand, Below, row_of, up_to}
use Rattle.rule.specs.Contact.{when, hit, contact_to}
use Rattle.rule.specs.Rows.{time}
use Rattle.rule.specs.EdgeTime.{rim}
use Rattle.rule.specs.WallTime.{wall_time}
use Rattle.rule.specs.Selection.{roll_of}
use Rattle.rule.proofs.Known.{below_le, Seen}
use Rattle.rule.proofs.OnSheet.{rim_inside, formal_opened}
use Rattle.rule.proofs.Places.{RunsAt, best, turn_seen, grid_seen_at}
use Rattle.rule.specs.Meanwhile as meanwhile
use Rattle.rule.specs.Meanwhile.{Formal, Live, Progress}
use Rattle.rule.proofs.Turn.{by_now, by_before, beats_step}
use Rattle.cause.specs.Cause.{tip_at, cand_of, Fine}
use Rattle.cause.specs.Offer.{Closed}
use Rattle.cause.proofs.Looking.{gone_at}
use Rattle.ending.specs.Ended.{next_row}
use Rattle.ending.specs.Finished.{finish}
use Rattle.ending.proofs.Ended.{out_next, rows_next, progress_next, row_next, closed-next}
use Rattle.cells.specs.declared.Cell.{Cell}
use Rattle.cells.specs.Grid.{InCell}
use Rattle.cells.specs.Touched.{CellsOf}
use Rattle.cells.specs.Cut.{past, ◌≤ᶜ◌, ◌<ᶜ◌}
use Rattle.cells.specs.OneCell.{entry, exit}
use Rattle.cells.specs.Entered.{Entered}
use Rattle.cells.proofs.Entered.{entered_last}
use Rattle.cells.proofs.Points.{shared, placed}
use Rattle.cells.proofs.Total.{cells_same}
use Rattle.event_queue.specs.Key.{NotAfter}
use Rattle.pending_events.proofs.Order.{leads_cause}
use Rattle.tips.specs.declared.Tip.{Tip}
use Rattle.tips.specs.Tips.{tip_in}
use Rattle.look.specs.Ends.{end_of}
use Rattle.pair_marks.specs.Marks.{Marked}
use Rattle.grid_steps.specs.Steps.{InGrid, entry_in}
use Rattle.grid_state.specs.State.{cells_at, Runs, Tried, Best, Base, Looked, Marks, Ahead, Placed}
use Rattle.grid_state.specs.Run.{Rows}
use Rattle.grid_state.specs.Meeting.{LiveCause}
use Rattle.tips.proofs.Put.{at_put}
use Rattle.grid_state.proofs.Queue.{none_out}
use Rattle.grid_state.proofs.Been.{later-past, cell_near, been_in}
use Rattle.ending.proofs.Ends.{runs_on, over, over_fine, ends_next}

-- the event of the tip at r is the first of all, and it is its cause, which still counts
module _ {S : Listing} (acc : Accepted S) {s : ℕ} (some-side : 0 < s) {done : List Row} {es : List (List Cell)} {k : ℕ} {ts : List Tip} {marks : List (List Bool)}
    (lk : Looked S done s es (length S.tracks) ts marks) (mk : Marks es (length S.tracks) marks) (pl : Placed S done s es (length S.tracks) 256 ts) (rows : Rows S done k)
    (r : ℕ) (runs : Runs (length S.tracks) ts r) (late : (entry_in S s ts r).key.late ≡ 1)
    (first : (j : ℕ) → Runs (length S.tracks) ts j → NotAfter (entry_in S s ts r).key (entry_in S s ts j).key) (live : LiveCause S done (tip_in ts r).best) where
  abbrev n : ℕ
  n = length S.tracks

  abbrev cand : ℕ → Cand
  cand j = cand_of S (tip_in ts j).best

  abbrev cell : ℕ → Cell
  cell j = (tip_in ts j).cell

  stay : (j : ℕ) → j < n → j ≢ 256
  stay = none_out acc.few_tracks

  on : (j : ℕ) → j < n → tip_at S j ∈ S.tracks
  on j h = mem_at no_track S.tracks j h

  ahead : Ahead S done s (tip_at S r) (cell r)
  ahead = pl.ahead r runs (stay r runs.0)

  abbrev t : Time
  t = (cand r).u

  abbrev Behind : ℕ → Type 0
  Behind j = ((t <ᵗ (cand j).u) ⊎ ((t ≈ᵗ (cand j).u) × ((tip_at S r).id ≤ (tip_at S j).id))) × (past t ≤ᶜ exit (tip_at S j) s (cell j))

  behind : (j : ℕ) → Runs n ts j → Behind j
  behind j u = leads_cause (tip_at S r) s (cell r) (tip_in ts r).best (lk.fine r runs.0) (tip_at S j) (cell j) (tip_in ts j).best (lk.fine j u.0) late (first j u)

  run : (j : ℕ) → RunsAt no_track acc done j → Runs n ts j
  run j m = (m.0, runs_on lk.ends j m.0 m.1)

  by_then : (j : ℕ) → RunsAt no_track acc done j → t ≤ᵗ (cand j).u
  by_then j m = go (behind j (run j m)).0
    where
      go : (t <ᵗ (cand j).u) ⊎ ((t ≈ᵗ (cand j).u) × ((tip_at S r).id ≤ (tip_at S j).id)) → t ≤ᵗ (cand j).u
      go (inl h) = <ᵗ→≤ᵗ h
      go (inr h) = ≈ᵗ→≤ᵗ h.0

  in_sheet : (j : ℕ) → RunsAt no_track acc done j → t ≤ᵗ rim (tip_at S j)
  in_sheet j m = ≤ᵗ_trans (by_then j m) (below_le (lk.best j (run j m)).walls.at_rim)

  entered : (j : ℕ) (v : Time) (c : Cell) → j < n → v ≤ᵗ t → v ≤ᵗ up_to done t (tip_at S j).id → InCell (tip_at S j) s c v → c ∈ cells_at es j
  entered j v c h x y i = go (Bool-discrete (tip_in ts j).ended false)
    where
      go : Dec ((tip_in ts j).ended ≡ false) → c ∈ cells_at es j
      go (yes z) = been_in (pl.at j (h, z) (stay j h)) (behind j (h, z)).1 x i
      go (no z) = (lk.gone j h z).all c (record { when = v; by_end = subst (λ (e : Time). v ≤ᵗ e) (gone_at (lk.ends.ended j h z) t) y; there = i })

  tried : (j : ℕ) (w : Wall) (v : Time) → RunsAt no_track acc done j → w ∈ S.walls → OnWall (tip_at S j) v w → v ≤ᵗ t → Tried s (cells_at es j) w
  tried j w v m q o h =
      let (c, i) = placed (tip_at S j) s v some-side (rim_inside acc (on j m.0) v o.opened (≤ᵗ_trans h (in_sheet j m))) in
      record { cell = c; entered = been_in (pl.at j (run j m) (stay j m.0)) (behind j (run j m)).1 h i; near = cell_near i o }

  struck : (j : ℕ) (w : Wall) (u : Time) → RunsAt no_track acc done j → w ∈ S.walls → Tried s (cells_at es j) w → wall_time (tip_at S j) w ≡ when u → Below (cand j) u (by_bar w)
  struck j w u m q x e =
      let (i, h, f) = at_mem no_wall S.walls w q in
      subst (λ (z : Wall). Below (cand j) u (by_bar z)) f
      ((lk.best j (run j m)).walls.at_walls i h (subst (λ (z : Wall). Tried s (cells_at es j) z) (sym f) x) u (subst (λ (z : Wall). wall_time (tip_at S j) z ≡ when u) (sym f) e))

  seen : Seen S done (best no_track acc cand) t
  seen =
      grid_seen_at no_track acc done cand t (λ a v c. InCell a s c v) (λ a b v u c h i. shared h i) (λ a v h. placed a s v some-side h)
      (λ j c. c ∈ cells_at es j) (λ i j. Marked marks i j) (λ j w. Tried s (cells_at es j) w)
      entered
      (λ i j c m h d x y. mk.share i j c m.0 h (λ e. d (ap (λ (z : ℕ). (tip_at S z).id) (sym e))) x y)
      (λ i j m h d x. (lk.best i (run i m)).at_tips j h x d)
      tried struck (λ j m. (lk.best j (run j m)).walls.at_rim) in_sheet

  pub ending_progress : Progress S (take k (roll_of S) ++ (row_of (tip_at S r) (cand r) ∷ [])) (row_of (tip_at S r) (cand r) ∷ done)
  ending_progress =
      turn_seen no_track acc cand r rows.progress (runs.0, lk.ends.running r runs.0 runs.1) (lk.best r runs).walls.stands.formal live
      (λ j m. (behind j (run j m)).0) seen

  pub ending_inside : Inside (tip_at S r) t
  ending_inside = rim_inside acc (on r runs.0) t (formal_opened acc (on r runs.0) (cand_of S (tip_in ts r).best).why (lk.best r runs).walls.stands.formal) (in_sheet r (runs.0, lk.ends.running r runs.0 runs.1))

  -- ---- its trace

  running : meanwhile.Runs S done (tip_at S r)
  running = record { on_sheet = on r runs.0; fresh = lk.ends.running r runs.0 runs.1 }

  -- it came to its cell before its cause
  came : (u : Time) (y : Why) → Formal S (tip_at S r) u y → Live done u y → entry (tip_at S r) s (cell r) <ᶜ past u
  came u (by_tip b v) (m, d, e) l =
      let (i, h, f) = at_mem no_track S.tracks b m in
      let p = by_now acc (on r runs.0) m d rows.progress.honest running e l in
      later-past p.by (ahead.of_tips i h (subst (λ (z : Track). z.id ≢ (tip_at S r).id) (sym f) d) p.v p.s (subst (λ (z : Track). contact_to (tip_at S r) z (rule.end_of done z.id) ≡ hit p.v p.s) (sym f) p.hits))
  came u (by_bar w) (m, e) l =
      let (i, h, f) = at_mem no_wall S.walls w m in
      ahead.of_walls i h u (subst (λ (z : Wall). wall_time (tip_at S r) z ≡ when u) (sym f) e)
  came u by_rim e l = subst (λ (z : Time). entry (tip_at S r) s (cell r) <ᶜ past z) (sym e) (pl.at r runs (stay r runs.0)).good.soon

  pub ending_cells : CellsOf (tip_at S r) (end_of (tip_in ts r)) s (cells_at es r)
  ending_cells = entered_last (came t (cand r).why (lk.best r runs).walls.stands.formal live) (behind r runs).1 (pl.at r runs (stay r runs.0))

  abbrev row : Row
  row = row_of (tip_at S r) (cand r)

  -- the time that is kept is that of the cause
  reduced : end_of (tip_in ts r) ≈ᵗ time row
  reduced = reduced_time t (lowest_of_reduced t.num t.den t.den_pos)

  -- ---- the state with one row more

  closed : Closed (tip_at S r) row.at
  closed = closed-next acc rows.out ending_progress (tip_at S r) (on r runs.0) refl

  abbrev new : Tip
  new = over (tip_in ts r)

  room : r < length ts
  room = omega (arith, runs.0, lk.long, acc.few_tracks)

  pub looked_ended : Looked S (row ∷ done) s es n (finish ts r) marks
  looked_ended =
      record {
        long = length-set ts r new ∙ lk.long;
        ends = ends_next acc lk.ends runs.0 room closed;
        fine = at_put (λ (j : ℕ) (x : Tip). j < n → Fine x.best) ts r new room (λ h. over_fine (tip_in ts r) (lk.fine r h)) (λ j d. lk.fine j);
        best =
            at_put (λ (j : ℕ) (x : Tip). (j < n) × (x.ended ≡ false) → Best S (row ∷ done) s (cells_at es j) marks j x.best) ts r new room (λ u. absurd (true≢false u.1))
            (λ j d u. record { walls = (lk.best j u).walls; at_tips = λ m h y z. beats_step (tip_at S r) row acc (on j u.0) (on m h) z refl running closed.opened ((lk.best j u).at_tips m h y z) });
        base = at_put (λ (j : ℕ) (x : Tip). (j < n) × (x.ended ≡ false) → Base S s (cells_at es j) (tip_at S j) x.base) ts r new room (λ u. absurd (true≢false u.1)) (λ j d. lk.base j);
        gone = at_put (λ (j : ℕ) (x : Tip). j < n → (x.ended ≡ false → ⊥) → CellsOf (tip_at S j) (end_of x) s (cells_at es j)) ts r new room (λ h x. cells_same reduced ending_cells) (λ j d. lk.gone j);
      }

  ahead_ended : (j : ℕ) → j < n → {c : Cell} → Ahead S done s (tip_at S j) c → Ahead S (row ∷ done) s (tip_at S j) c
  ahead_ended j h o =
      record {
        of_tips = λ m i d u v e. let p = by_before acc (on j h) (on m i) d (tip_at S r) row refl running closed.opened e in later-past p.by (o.of_tips m i d p.v p.s p.hits);
        of_walls = o.of_walls;
      }

  pub placed_ended : Placed S (row ∷ done) s es n 256 (finish ts r)
  placed_ended =
      record {
        in_grid = at_put (λ (j : ℕ) (x : Tip). j < n → j ≢ 256 → InGrid s x.cell) ts r new room (pl.in_grid r) (λ j d. pl.in_grid j);
        at =
            at_put (λ (j : ℕ) (x : Tip). (j < n) × (x.ended ≡ false) → j ≢ 256 → Entered (tip_at S j) (rim (tip_at S j)) s x.cell (cells_at es j)) ts r new room
            (λ u. absurd (true≢false u.1)) (λ j d. pl.at j);
        ahead =
            at_put (λ (j : ℕ) (x : Tip). (j < n) × (x.ended ≡ false) → j ≢ 256 → Ahead S (row ∷ done) s (tip_at S j) x.cell) ts r new room (λ u. absurd (true≢false u.1))
            (λ j d u q. ahead_ended j u.0 (pl.ahead j u q));
      }

  pub rows_ended : Rows S (row ∷ done) (k + 1)
  rows_ended =
      record {
        out = out_next acc rows.out ending_progress;
        progress = progress_next acc rows.out ending_progress;
        known = λ d m. subst (λ (z : List Row). d ∈ z) (sym (rows_next acc rows.out ending_progress)) (go d (Memᴰ.cases_cons m));
      }
    where
      go : (d : Row) → (d ≡ row) ⊎ (d ∈ done) → d ∈ (take k (roll_of S) ++ (row ∷ []))
      go d (inl e) = Memᴰ.append_right (take k (roll_of S)) (Memᴰ.head e)
      go d (inr m) = Memᴰ.append_left (row ∷ []) (rows.known d m)

  pub ending_row : next_row S k ≡ row
  ending_row = row_next acc rows.out ending_progress
