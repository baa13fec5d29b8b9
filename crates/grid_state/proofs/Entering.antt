-- A tip enters its next cell. Main theorems: `next-entered` and `next-ahead` (nothing could have ended it before), and the state with one cell more: `marked_enter`, `listed-enter`, `placed_enter`.
use mathlib.Core.Bool.{Bool, false, Bool-discrete}
use mathlib.Core.List.Memᴰ
use mathlib.Core.List.{List, [], ◌∷◌}
use mathlib.Core.Logic.{◌⊎◌, inl, inr, ◌≢◌}
use mathlib.Core.Path.{◌≡◌, sym, ap, ◌∙◌, subst}
use Prim.Native.Nat.{ℕ, zero, suc, ◌+◌, ◌*◌, ◌≤◌, ◌<◌}
use native.Mathlib.Decide.{ℕ_discrete}
use native.Mathlib.Omega.{arith}
use lib.ListN.{length, get_or, set, length-set}
use lib.Seq.{get_or-set_same, get_or-set_other}
use Rattle.cell_members.specs.Members.{CELLS}
use Rattle.fraction.specs.Time.{Time, ◌≤ᵗ◌, ◌<ᵗ◌}
use Rattle.fraction.specs.Order.{≤ᵗ_or_<ᵗ}
use Rattle.fraction.proofs.TimeOrder.{≤ᵗ_trans, <ᵗ→≤ᵗ, ≤ᵗ_refl, <ᵗ_≤ᵗ_trans, <ᵗ_irrefl}
use Rattle.sheet.specs.declared.Track.{Track}
use Rattle.sheet.specs.Accepted.{Accepted}
use Rattle.sheet.specs.HandedIn.{no_track, no_wall}
use Rattle.sheet.specs.Listing.{Listing, ◌∈◌}
use Rattle.sheet.proofs.Lists.{mem_at}
use Rattle.rule.specs.declared.Row.{Row}
use Rattle.rule.specs.Motion.{opening}
use Rattle.rule.proofs.Selection.{until_up}
use Rattle.rule.specs.Causes as rule
use Rattle.rule.specs.Causes.{by_tip, by_bar, up_to}
use Rattle.rule.specs.Contact.{when, hit, contact_to}
use Rattle.rule.specs.EdgeTime.{rim}
use Rattle.rule.specs.WallTime.{wall_time}
use Rattle.rule.proofs.Known.{below_le}
use Rattle.rule.proofs.OnSheet.{rim_inside, rim-opened, formal_opened, comes_of, comes_hit, wall_of_lem, wall_hit}
use Rattle.cause.specs.Cause.{tip_at, wall_at, cand_of}
use Rattle.cause.proofs.Looking.{gone_at}
use Rattle.look.specs.Ends.{Ends}
use Rattle.look.proofs.Counting.{ends-opened}
use Rattle.cells.specs.declared.Cell.{Cell}
use Rattle.cells.specs.Grid.{Figure, side, InCell}
use Rattle.cells.specs.Cut.{Cut, past, ◌≤ᶜ◌, ◌<ᶜ◌}
use Rattle.cells.specs.OneCell.{entry, exit}
use Rattle.cells.proofs.Cut.{not-past, by_past, ≤ᶜ_or_<ᶜ, ≤ᶜ_trans, ≤ᶜ_<ᶜ_trans, after_mono, sooner_by}
use Rattle.cells.specs.Walk.{first, next}
use Rattle.cells.proofs.Count.{first_in, stay_rim, figure-side}
use Rattle.cells.specs.Entered.{Entered, Good}
use Rattle.cells.proofs.Entered.{entered-next}
use Rattle.cells.proofs.Entry.{cell-entry, point_of, past-before}
use Rattle.cells.proofs.Points.{shared, placed, in_grid}
use Rattle.cells.proofs.Walk.{Stepped, stepped}
use Rattle.event_queue.specs.Key.{NotAfter}
use Rattle.pending_events.proofs.Order.{own_entry, leads_entry}
use Rattle.tips.specs.declared.Tip.{Tip}
use Rattle.tips.specs.Tips.{tip_in, with_cell}
use Rattle.pair_marks.specs.Marks.{Marked}
use Rattle.grid_steps.specs.Steps.{InGrid, entry_in}
use Rattle.grid_state.specs.State.{code_of, cells_at, total, Runs, Looked, Marks, Ahead, Placed, Listed}
use Rattle.grid_state.proofs.OneMore.{other_cells, own_cells}
use Rattle.grid_state.proofs.Been.{later-past, cell_near, been_in}
use Rattle.tips.proofs.Put.{at_put}
use Rattle.grid_state.proofs.Queue.{none_out}

-- ---- the first cell

pub first-ahead : {S : Listing} (acc : Accepted S) {ts : List Tip} {done : List Row} → Ends S ts done → {a : Track} → a ∈ S.tracks → (s : ℕ) → 0 < s → Ahead S done s a (first a s)
first-ahead {S} acc {done = done} ends {a} on s p =
    let h : (u : Time) → opening a ≤ᵗ u → entry a s (first a s) <ᶜ past u = λ u o. past-before (after_mono o (cell-entry (first_in a s p))) in
    record {
      of_tips = λ m i d u v e. h u (formal_opened acc on (by_tip (tip_at S m) v) (mem_at no_track S.tracks m i, d, record { end = rule.end_of done (tip_at S m).id; opened_by = ends-opened ends m i; hits = e }));
      of_walls = λ w i u e. h u (formal_opened acc on (by_bar (wall_at S w)) (mem_at no_wall S.walls w i, e));
    }

-- a cell that is entered on the sheet is in the grid
pub good_in : {S : Listing} (acc : Accepted S) {g : ℕ} (f : Figure g) {a : Track} → a ∈ S.tracks → {k : Cell} → Good a (rim a) (side g) k → (k.column < g) × (k.row < g)
good_in acc {g} f {a} m {k} o =
    let p = point_of (sooner_by (λ z. entry a (side g) k <ᶜ z) (exit a (side g) k) (past (rim a)) o.fresh o.soon) in
    in_grid f (rim_inside acc m p.when p.there.opened p.by_end) p.there

-- ---- the next cell: the event of the tip at r is the first of all, and it is a cell entry

between : {u t : Time} (k : Cut) → past u ≤ᶜ k → k <ᶜ past t → u <ᵗ t
between {u} {t} k h o = go (≤ᵗ_or_<ᵗ o.at u)
  where
    go : (o.at ≤ᵗ u) ⊎ (u <ᵗ o.at) → u <ᵗ t
    go (inl x) = absurd (not-past x (h.to o.at o.above))
    go (inr x) = <ᵗ_≤ᵗ_trans x (by_past o.below)

module _ {S : Listing} (acc : Accepted S) {g : ℕ} (fig : Figure g) (some-side : 0 < side g) {done : List Row} {es : List (List Cell)} {ts : List Tip} {marks : List (List Bool)}
    (lk : Looked S done (side g) es (length S.tracks) ts marks) (mk : Marks es (length S.tracks) marks) (pl : Placed S done (side g) es (length S.tracks) 256 ts)
    (r : ℕ) (runs : Runs (length S.tracks) ts r) (entry_first : (entry_in S (side g) ts r).key.late ≡ 1 → ⊥)
    (before : (j : ℕ) → Runs (length S.tracks) ts j → NotAfter (entry_in S (side g) ts r).key (entry_in S (side g) ts j).key) where
  abbrev s : ℕ
  s = side g

  abbrev a : Track
  a = tip_at S r

  abbrev k : Cell
  k = (tip_in ts r).cell

  abbrev t : Time
  t = (cand_of S (tip_in ts r).best).u

  on : a ∈ S.tracks
  on = mem_at no_track S.tracks r runs.0

  now : Entered a (rim a) s k (cells_at es r)
  now = pl.at r runs (none_out acc.few_tracks r runs.0)

  by_rim : t ≤ᵗ rim a
  by_rim = below_le (lk.best r runs).walls.at_rim

  soon : exit a s k <ᶜ past t
  soon = own_entry a s k (tip_in ts r).best (lk.fine r runs.0) entry_first

  on_sheet : exit a s k <ᶜ past (rim a)
  on_sheet = later-past by_rim soon

  pub next_stepped : Stepped a (rim a) s g k (next a s k)
  next_stepped = stepped a (rim a) s g some-side (figure-side fig) (stay_rim acc on (rim-opened acc on) (≤ᵗ_refl (rim a))) k now.good on_sheet

  pub next-entered : Entered a (rim a) s (next a s k) (next a s k ∷ cells_at es r)
  next-entered = entered-next g some-side (figure-side fig) (stay_rim acc on (rim-opened acc on) (≤ᵗ_refl (rim a))) on_sheet now

  -- what comes before the entry is known, and so comes no sooner than the tip's cause
  late : (u : Time) → (past u ≤ᶜ exit a s k → t ≤ᵗ u) → entry a s (next a s k) <ᶜ past u
  late u f = go (≤ᶜ_or_<ᶜ (past u) (exit a s k))
    where
      go : (past u ≤ᶜ exit a s k) ⊎ (exit a s k <ᶜ past u) → entry a s (next a s k) <ᶜ past u
      go (inl h) = absurd (<ᵗ_irrefl (<ᵗ_≤ᵗ_trans (between (exit a s k) h soon) (f h)))
      go (inr h) = ≤ᶜ_<ᶜ_trans next_stepped.since h

  inside : (u : Time) → opening a ≤ᵗ u → past u ≤ᶜ exit a s k → (c : Cell) × InCell a s c u × (c ∈ cells_at es r)
  inside u o h =
      let (c, i) = placed a s u some-side (rim_inside acc on u o (≤ᵗ_trans (<ᵗ→≤ᵗ (between (exit a s k) h soon)) by_rim)) in
      (c, i, been_in now h (≤ᵗ_refl u) i)

  other_in : (m : ℕ) → m < length S.tracks → (u v : Time) (c : Cell) → past u ≤ᶜ exit a s k → v ≤ᵗ u → v ≤ᵗ up_to done u (tip_at S m).id → InCell (tip_at S m) s c v → c ∈ cells_at es m
  other_in m l u v c h x y i = go (Bool-discrete (tip_in ts m).ended false)
    where
      go : Dec ((tip_in ts m).ended ≡ false) → c ∈ cells_at es m
      go (yes z) =
          been_in (pl.at m (l, z) (none_out acc.few_tracks m l))
          (≤ᶜ_trans h (leads_entry a s k (tip_in ts r).best (lk.fine r runs.0) (tip_at S m) (tip_in ts m).cell (tip_in ts m).best (lk.fine m l) entry_first (before m (l, z)))) x i
      go (no z) = (lk.gone m l z).all c (record { when = v; by_end = subst (λ (e : Time). v ≤ᵗ e) (gone_at (lk.ends.ended m l z) u) y; there = i })

  of_tip : (m : ℕ) → m < length S.tracks → (tip_at S m).id ≢ a.id → (u v : Time) → contact_to a (tip_at S m) (rule.end_of done (tip_at S m).id) ≡ hit u v → past u ≤ᶜ exit a s k → t ≤ᵗ u
  of_tip m l d u v e h =
      let end = rule.end_of done (tip_at S m).id in
      let (o, q, z) = comes_hit end (contact_to a (tip_at S m) end) (comes_of acc on (tip_at S m) (mem_at no_track S.tracks m l) d end (ends-opened lk.ends m l)) e in
      let y = until_up done (tip_at S m).id u v q z in
      let (c, i, x) = inside u o.opened h in
      below_le (((lk.best r runs).at_tips m l (mk.share r m c runs.0 l (λ z. d (ap (λ (n : ℕ). (tip_at S n).id) (sym z))) x (other_in m l u v c h q y (shared o i))) d).beats u v e)

  of_wall : (w : ℕ) → w < length S.walls → (u : Time) → wall_time a (wall_at S w) ≡ when u → past u ≤ᶜ exit a s k → t ≤ᵗ u
  of_wall w l u e h =
      let o = wall_hit (wall_time a (wall_at S w)) (wall_of_lem acc on (wall_at S w) (mem_at no_wall S.walls w l)) e in
      let (c, i, x) = inside u o.opened h in
      below_le ((lk.best r runs).walls.at_walls w l (record { cell = c; entered = x; near = cell_near i o }) u e)

  pub next-ahead : Ahead S done s a (next a s k)
  next-ahead = record { of_tips = λ m l d u v e. late u (of_tip m l d u v e); of_walls = λ w l u e. late u (of_wall w l u e) }

-- ---- the state with one cell more

total-set : (k : Cell) (es : List (List Cell)) (i : ℕ) → i < length es → total (set es i (k ∷ cells_at es i)) ≡ total es + 1
unfolding total
total-set k [] i h = absurd (omega arith)
total-set k (l ∷ es) zero h = omega arith
total-set k (l ∷ es) (suc i) h = omega (arith, total-set k es i (omega arith))

-- at most 63 cells a tip, so there is an entry for each
pub total_few : (es : List (List Cell)) → ((j : ℕ) → length (cells_at es j) ≤ 63) → total es ≤ 63 * length es
unfolding total
total_few [] f = omega arith
total_few (l ∷ es) f = omega (arith, f 0, total_few es (λ j. f (suc j)))

module _ (es : List (List Cell)) (i : ℕ) (room : i < length es) (k : Cell) where
  abbrev es' : List (List Cell)
  es' = set es i (k ∷ cells_at es i)

  -- a cell of the tip at j is the new one, of the tip at i, or one of before
  which : (j : ℕ) (c : Cell) → c ∈ cells_at es' j → ((j ≡ i) × (c ≡ k)) ⊎ (c ∈ cells_at es j)
  which j c m = go (ℕ_discrete j i)
    where
      one : j ≡ i → (c ≡ k) ⊎ (c ∈ cells_at es i) → ((j ≡ i) × (c ≡ k)) ⊎ (c ∈ cells_at es j)
      one e (inl x) = inl (e, x)
      one e (inr x) = inr (subst (λ (z : ℕ). c ∈ cells_at es z) (sym e) x)

      go : Dec (j ≡ i) → ((j ≡ i) × (c ≡ k)) ⊎ (c ∈ cells_at es j)
      go (yes e) = one e (Memᴰ.cases_cons (subst (λ (z : List Cell). c ∈ z) (own_cells es i room k) (subst (λ (z : ℕ). c ∈ cells_at es' z) e m)))
      go (no n) = inr (subst (λ (z : List Cell). c ∈ z) (other_cells es i room k j n) m)

  -- those in the cell have marks beside the tip that comes
  pub marked_enter : {b : ℕ} {marks : List (List Bool)} → i < 256 → b ≤ 256 → Marks es b marks → ((j : ℕ) → j < b → j ≢ i → k ∈ cells_at es j → Marked marks i j) → Marks es' b marks
  marked_enter {b} {marks} few fews mk f =
      record {
        square = mk.square;
        both = mk.both;
        begun = mk.begun;
        share = λ p q c h l n x y. go p q c h l n (which p c x) (which q c y);
      }
    where
      go : (p q : ℕ) (c : Cell) → p < b → q < b → p ≢ q → ((p ≡ i) × (c ≡ k)) ⊎ (c ∈ cells_at es p) → ((q ≡ i) × (c ≡ k)) ⊎ (c ∈ cells_at es q) → Marked marks p q
      go p q c h l n (inl (e, _)) (inl (f', _)) = absurd (n (e ∙ sym f'))
      go p q c h l n (inl (e, u)) (inr y) = subst (λ (z : ℕ). Marked marks z q) (sym e) (f q l (λ z. n (e ∙ sym z)) (subst (λ (z : Cell). z ∈ cells_at es q) u y))
      go p q c h l n (inr x) (inl (e, u)) =
          subst (λ (z : ℕ). Marked marks p z) (sym e) (mk.both i p few (omega arith) (f p h (λ z. n (z ∙ sym e)) (subst (λ (z : Cell). z ∈ cells_at es p) u x)))
      go p q c h l n (inr x) (inr y) = mk.share p q c h l n x y

  few_more : ((j : ℕ) → length (cells_at es j) ≤ 63) → length (cells_at es i) < 63 → (p : ℕ) → length (cells_at es' p) ≤ 63
  few_more f short p = go (ℕ_discrete p i)
    where
      go : Dec (p ≡ i) → length (cells_at es' p) ≤ 63
      go (yes e) = subst (λ (z : ℕ). length (cells_at es' z) ≤ 63) (sym e) (omega (arith, ap length (own_cells es i room k)))
      go (no n) = omega (arith, ap length (other_cells es i room k p n), f p)

  -- it joins the list of the cell
  pub listed-enter : {b : ℕ} {members members' : List (List ℕ)} {count count' : ℕ} → i < b → code_of k < CELLS → length (cells_at es i) < 63 → Listed es b members count
      → members' ≡ set members (code_of k) (i ∷ get_or members (code_of k) []) → count' ≡ count + 1 → Listed es' b members' count'
  listed-enter {b} {members} {members'} {count} {count'} h small short ls e e' =
      record {
        long = ap length e ∙ length-set members (code_of k) (i ∷ get_or members (code_of k) []) ∙ ls.long;
        inside = λ p c l m. inside_of p c l (which p c m);
        member = λ p c l m. member_of p c l (which p c m);
        only = λ c p l m. only_of c p l (ℕ_discrete c (code_of k)) m;
        few = few_more ls.few short;
        counted = e' ∙ ap (λ (z : ℕ). z + 1) ls.counted ∙ sym (total-set k es i room);
      }
    where
      here : get_or members' (code_of k) [] ≡ i ∷ get_or members (code_of k) []
      here = ap (λ (z : List (List ℕ)). get_or z (code_of k) []) e ∙ get_or-set_same members (code_of k) (i ∷ get_or members (code_of k) []) [] (omega (arith, ls.long))

      there : (c : ℕ) → c ≢ code_of k → get_or members' c [] ≡ get_or members c []
      there c n = ap (λ (z : List (List ℕ)). get_or z c []) e ∙ get_or-set_other members (code_of k) c (i ∷ get_or members (code_of k) []) [] n

      inside_of : (p : ℕ) (c : Cell) → p < b → ((p ≡ i) × (c ≡ k)) ⊎ (c ∈ cells_at es p) → code_of c < CELLS
      inside_of p c l (inl (_, u)) = subst (λ (z : Cell). code_of z < CELLS) (sym u) small
      inside_of p c l (inr x) = ls.inside p c l x

      kept : (c p : ℕ) → Dec (c ≡ code_of k) → p ∈ get_or members c [] → p ∈ get_or members' c []
      kept c p (yes u) m = subst (λ (z : ℕ). p ∈ get_or members' z []) (sym u) (subst (λ (z : List ℕ). p ∈ z) (sym here) (Memᴰ.tail (subst (λ (z : ℕ). p ∈ get_or members z []) u m)))
      kept c p (no n) m = subst (λ (z : List ℕ). p ∈ z) (sym (there c n)) m

      member_of : (p : ℕ) (c : Cell) → p < b → ((p ≡ i) × (c ≡ k)) ⊎ (c ∈ cells_at es p) → p ∈ get_or members' (code_of c) []
      member_of p c l (inl (v, u)) = subst (λ (z : Cell). p ∈ get_or members' (code_of z) []) (sym u) (subst (λ (z : List ℕ). p ∈ z) (sym here) (Memᴰ.head v))
      member_of p c l (inr x) = kept (code_of c) p (ℕ_discrete (code_of c) (code_of k)) (ls.member p c l x)

      only_of : (c p : ℕ) → c < CELLS → Dec (c ≡ code_of k) → p ∈ get_or members' c [] → p < b
      only_of c p l (no n) m = ls.only c p l (subst (λ (z : List ℕ). p ∈ z) (there c n) m)
      only_of c p l (yes u) m = go (Memᴰ.cases_cons (subst (λ (z : List ℕ). p ∈ z) here (subst (λ (z : ℕ). p ∈ get_or members' z []) u m)))
        where
          go : (p ≡ i) ⊎ (p ∈ get_or members (code_of k) []) → p < b
          go (inl x) = omega arith
          go (inr x) = ls.only (code_of k) p small x

  -- there is room for the entry
  pub count_room : {b : ℕ} {members : List (List ℕ)} {count : ℕ} → Listed es b members count → length (cells_at es i) < 63 → count < 63 * length es
  count_room ls short = omega (arith, ls.counted, total-set k es i room, total_few es' (few_more ls.few short), length-set es i (k ∷ cells_at es i))

  -- and stands there
  pub placed_enter : {b : ℕ} {S : Listing} {done : List Row} {side : ℕ} {ts : List Tip} → i < length ts → InGrid side k
      → Entered (tip_at S i) (rim (tip_at S i)) side k (k ∷ cells_at es i) → Ahead S done side (tip_at S i) k → Placed S done side es b i ts → Placed S done side es' b 256 (with_cell ts i k)
  placed_enter {b} {S} {done} {side} {ts} h small e o pl =
      record {
        in_grid = at_put (λ (j : ℕ) (t : Tip). j < b → j ≢ 256 → InGrid side t.cell) ts i new h (λ l n. small) (λ j d l n. pl.in_grid j l d);
        at = at_put (λ (j : ℕ) (t : Tip). (j < b) × (t.ended ≡ false) → j ≢ 256 → Entered (tip_at S j) (rim (tip_at S j)) side t.cell (cells_at es' j)) ts i new h
            (λ l n. subst (λ (z : List Cell). Entered (tip_at S i) (rim (tip_at S i)) side k z) (sym (own_cells es i room k)) e)
            (λ j d l n. subst (λ (z : List Cell). Entered (tip_at S j) (rim (tip_at S j)) side (tip_in ts j).cell z) (sym (other_cells es i room k j d)) (pl.at j l d));
        ahead = at_put (λ (j : ℕ) (t : Tip). (j < b) × (t.ended ≡ false) → j ≢ 256 → Ahead S done side (tip_at S j) t.cell) ts i new h (λ l n. o) (λ j d l n. pl.ahead j l d);
      }
    where
      new : Tip
      new = record { best = (tip_in ts i).best; base = (tip_in ts i).base; ended = (tip_in ts i).ended; cell = k }

-- the tips run as before, and are where they were
pub placed_kept : {S : Listing} {done : List Row} {side : ℕ} {es : List (List Cell)} {b x : ℕ} {ts ts' : List Tip}
    → ((j : ℕ) → (tip_in ts' j).ended ≡ (tip_in ts j).ended) → ((j : ℕ) → (tip_in ts' j).cell ≡ (tip_in ts j).cell) → Placed S done side es b x ts → Placed S done side es b x ts'
placed_kept {S} {done} {side} {es} {b} {x} {ts} {ts'} e f pl =
    record {
      in_grid = λ j l n. subst (InGrid side) (sym (f j)) (pl.in_grid j l n);
      at = λ j r n. subst (λ (z : Cell). Entered (tip_at S j) (rim (tip_at S j)) side z (cells_at es j)) (sym (f j)) (pl.at j (as_was j r) n);
      ahead = λ j r n. subst (Ahead S done side (tip_at S j)) (sym (f j)) (pl.ahead j (as_was j r) n);
    }
  where
    as_was : (j : ℕ) → Runs b ts' j → Runs b ts j
    as_was j r = (r.0, sym (e j) ∙ r.1)
