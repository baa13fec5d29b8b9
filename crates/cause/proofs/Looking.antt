-- Looking at one cause more. Main theorems: `edge_first`, `wall-next`, `tip_looked`, and `walls_then`, `then` (one look after another).
use mathlib.Core.Bool.{Bool, true, false, true≢false}
use mathlib.Core.List.{List}
use mathlib.Core.Logic.{◌⊎◌, inl, inr, ◌≢◌}
use mathlib.Core.Path.{◌≡◌, refl, sym, ap, ◌∙◌, subst}
use Prim.Native.Nat.{ℕ, ◌<◌}
use native.Mathlib.Omega.{arith}
use lib.ListN.{length}
use Rattle.fraction.specs.Sizes.{Timely}
use Rattle.fraction.specs.declared.Fraction.{Fraction}
use Rattle.fraction.specs.Time.{Time, ◌≤ᵗ◌, ◌≈ᵗ◌, as_time}
use Rattle.fraction.proofs.TimeOrder.{≈ᵗ_refl}
use Rattle.sheet.specs.Accepted.{Accepted}
use Rattle.sheet.specs.Listing.{Listing, ◌∈◌}
use Rattle.sheet.specs.HandedIn.{no_track, no_wall}
use Rattle.sheet.specs.declared.Track.{Track}
use Rattle.sheet.specs.declared.Wall.{Wall}
use Rattle.sheet.proofs.Lists.{mem_at, at_mem}
use Rattle.contact.specs.Answers.{touch_of, TouchTimely, HitFrom}
use Rattle.contact.specs.declared.Touch.{Touch}
use Rattle.std.specs.Prelude.{Option, Some, None}
use Rattle.rule.specs.declared.Row.{Row}
use Rattle.rule.specs.Causes as rule
use Rattle.rule.specs.Causes.{Cand, by_tip, by_bar, by_rim, Below, ◌≼◌, up_to, end_of}
use Rattle.rule.specs.declared.Side.{Side}
use Rattle.rule.specs.Contact.{when, never, hit, contact_to}
use Rattle.rule.specs.EdgeTime.{rim}
use Rattle.rule.specs.WallTime.{wall_time}
use Rattle.rule.specs.Side.{track_side, wall_side}
use Rattle.rule.proofs.Existence.{cand_trans}
use Rattle.rule.proofs.OnSheet.{comes_of, comes_hit}
use Rattle.rule.specs.Meanwhile.{OpenedBy, Arrives, Formal, Beats, Fresh, Live}
use Rattle.rule.proofs.Selection.{up_end, end_fresh, until_up}
use Rattle.rule.proofs.Turn.{beats_better, beats_none, beats_hit}
use Rattle.cause.specs.declared.Cause.{Cause}
use Rattle.cause.specs.declared.Class.{Class}
use Rattle.cause.specs.declared.Class.TheVariants as class
use Rattle.cause.specs.Cause.{rank, tip_at, wall_at, why_of, cand_of, Fine, Stands, Least}
use Rattle.cause.specs.Offer.{edge_cause, AtEdge, wall_cause, WallOffered, passed, struck, tip_cause, end_if, Reached, itself, comes, Taken, TipOffered}
use Rattle.cause.specs.Looked.{Gone, FirstOfTracks}
use Rattle.cause.proofs.Answers.{unused_timely, reached_timely}
use Rattle.cause.proofs.First.{≼_self, first_stands, first-left, first-right}

-- a wall or the edge counts whatever has ended
pub walls_live : (S : Listing) (done : List Row) (u s : Time) (k : Class) (who : ℕ) → 0 < rank k → Live done u (why_of S k who s)
unfolding why_of
walls_live S done u s class.Track who h = absurd (omega arith)
walls_live S done u s class.Wall who h = tt
walls_live S done u s class.Edge who h = tt

-- what holds of both holds of the first of them
first_fine : {a b r : Cause} → Fine a → Fine b → Least a b r → Fine r
first_fine p q (inl (e, h)) = subst Fine (sym e) p
first_fine p q (inr (e, h)) = subst Fine (sym e) q

-- ---- the edge

pub record OfEdge (S : Listing) (a : Track) (c : Cause) : Type 0 where
  pub stands : Stands S a c
  pub at_rim : Below (cand_of S c) (rim a) by_rim
  pub no_track : 0 < rank c.class

module _ (S : Listing) (a : Track) where
  edge_stands : (u : Fraction) → Timely u → as_time u ≡ rim a → OfEdge S a (edge_cause u)
  unfolding why_of
  edge_stands u h e =
      record {
        stands = record { fine = record { at = h; there = unused_timely }; formal = e; ranked = refl; named = refl; known = λ z. absurd (omega arith); sided = refl };
        at_rim = rule.in_id (subst (λ (z : Time). as_time u ≈ᵗ z) e (≈ᵗ_refl (as_time u))) refl (omega arith);
        no_track = omega arith;
      }

  pub edge_first : {c : Cause} → AtEdge a c → OfEdge S a c
  edge_first e = subst (OfEdge S a) (sym e.is) (edge_stands e.u e.timely e.last)

-- without walls, what is no track is the edge
pub bare_edge : (S : Listing) (a : Track) (c : Cause) → length S.walls ≡ 0 → Stands S a c → 0 < rank c.class → cand_of S c ≡ record { u = rim a; why = by_rim }
unfolding why_of
bare_edge S a c z t h = go c.class h t.formal
  where
    go : (k : Class) → 0 < rank k → Formal S a (as_time c.at) (why_of S k c.who (as_time c.there)) → ◌≡◌ {A = Cand} (record { u = as_time c.at; why = why_of S k c.who (as_time c.there) }) (record { u = rim a; why = by_rim })
    go class.Track l f = absurd (omega arith)
    go class.Wall l (m, e) = absurd (let (i, b, x) = at_mem no_wall S.walls (wall_at S c.who) m in omega arith)
    go class.Edge l e = ap (λ (u : Time). record { u = u; why = by_rim }) e

-- ---- walls

-- r is the first of c and the walls that K names
pub record FirstOfSomeWalls (S : Listing) (a : Track) (K : ℕ → Type 0) (c r : Cause) : Type 0 where
  pub stands : Stands S a r
  pub first : cand_of S r ≼ cand_of S c
  pub no_track : 0 < rank c.class → 0 < rank r.class
  pub at_walls : (j : ℕ) → j < length S.walls → K j → (u : Time) → wall_time a (wall_at S j) ≡ when u → Below (cand_of S r) u (by_bar (wall_at S j))

module _ {S : Listing} {a : Track} {K : ℕ → Type 0} where
  pub walls_then : {K' : ℕ → Type 0} {c d r : Cause} → FirstOfSomeWalls S a K c d → FirstOfSomeWalls S a K' d r → FirstOfSomeWalls S a (λ (j : ℕ). K j ⊎ K' j) c r
  walls_then {K'} {c} {d} {r} p q =
      record {
        stands = q.stands;
        first = cand_trans (cand_of S r) (cand_of S d) (cand_of S c) q.first p.first;
        no_track = λ h. q.no_track (p.no_track h);
        at_walls = go;
      }
    where
      go : (j : ℕ) → j < length S.walls → K j ⊎ K' j → (u : Time) → wall_time a (wall_at S j) ≡ when u → Below (cand_of S r) u (by_bar (wall_at S j))
      go j l (inl k) u e = cand_trans (cand_of S r) (cand_of S d) (record { u = u; why = by_bar (wall_at S j) }) q.first (p.at_walls j l k u e)
      go j l (inr k) u e = q.at_walls j l k u e

  pub walls_fewer : {K' : ℕ → Type 0} {c r : Cause} → ((j : ℕ) → K' j → K j) → FirstOfSomeWalls S a K c r → FirstOfSomeWalls S a K' c r
  walls_fewer f p = record { stands = p.stands; first = p.first; no_track = p.no_track; at_walls = λ j l k. p.at_walls j l (f j k) }

  pub walls_none : {c : Cause} → ((j : ℕ) → K j → ⊥) → Stands S a c → FirstOfSomeWalls S a K c c
  walls_none {c} f s = record { stands = s; first = ≼_self (cand_of S c); no_track = λ h. h; at_walls = λ j l k. absurd (f j k) }

module _ (S : Listing) (acc : Accepted S) (a : Track) (k : ℕ) (in_walls : k < length S.walls) where
  wall_stands : (u : Fraction) → Timely u → wall_time a (wall_at S k) ≡ when (as_time u) → Stands S a (wall_cause (wall_at S k) k u (wall_side a (wall_at S k)))
  unfolding why_of
  wall_stands u h e =
      record {
        fine = record { at = h; there = unused_timely };
        formal = (mem_at no_wall S.walls k in_walls, e);
        ranked = refl;
        named = refl;
        known = λ z. absurd (omega arith);
        sided = refl;
      }

  wall_hit : {c r : Cause} (u : Fraction) → Stands S a c → wall_time a (wall_at S k) ≡ when (as_time u) → Timely u → Least c (wall_cause (wall_at S k) k u (wall_side a (wall_at S k))) r → FirstOfSomeWalls S a (λ (j : ℕ). j ≡ k) c r
  unfolding why_of
  wall_hit {c} {r} u s e h l =
      let w = wall_stands u h e in
      let right : Below (cand_of S r) (as_time u) (by_bar (wall_at S k)) = first-right S a s w l in
      record {
        stands = first_stands S a s w l;
        first = first-left S a s w l;
        no_track = go l;
        at_walls = λ j i m v f.
            subst (λ (i : ℕ). wall_time a (wall_at S i) ≡ when v → Below (cand_of S r) v (by_bar (wall_at S i))) (sym m)
            (λ g. let p : as_time u ≡ v = cc in subst (λ (z : Time). Below (cand_of S r) z (by_bar (wall_at S k))) p right) f;
      }
    where
      go : Least c (wall_cause (wall_at S k) k u (wall_side a (wall_at S k))) r → 0 < rank c.class → 0 < rank r.class
      go (inl (x, y)) z = subst (λ (z : Cause). 0 < rank z.class) (sym x) z
      go (inr (x, y)) z = subst (λ (z : Cause). 0 < rank z.class) (sym x) (omega arith)

  wall_none : {c : Cause} → Stands S a c → wall_time a (wall_at S k) ≡ never → FirstOfSomeWalls S a (λ (j : ℕ). j ≡ k) c c
  wall_none {c} s e =
      record {
        stands = s;
        first = ≼_self (cand_of S c);
        no_track = λ h. h;
        at_walls = λ j i m v f.
            subst (λ (i : ℕ). wall_time a (wall_at S i) ≡ when v → Below (cand_of S c) v (by_bar (wall_at S i))) (sym m)
            (λ g. absurd (let z : ◌≡◌ {A = ℕ} 0 1 = cc in omega arith)) f;
      }

  pub wall-next : {c r : Cause} → Stands S a c → WallOffered a (wall_at S k) k c r → FirstOfSomeWalls S a (λ (j : ℕ). j ≡ k) c r
  wall-next {c} s (passed e x) = subst (FirstOfSomeWalls S a (λ (j : ℕ). j ≡ k) c) (sym x) (wall_none s e)
  wall-next s (struck u e h l) = wall_hit u s e h l

-- ---- tracks

-- what an ended tip has come to at any time
pub gone_at : {done : List Row} {b : Track} {t : Fraction} → Gone done b t → (u : Time) → up_to done u b.id ≡ as_time t
gone_at {done} {b} {t} g u = up_end done b.id u (as_time t) g.ends

module _ {S : Listing} {done : List Row} {a : Track} {K : ℕ → Type 0} where
  pub then : {K' : ℕ → Type 0} {c d r : Cause} → FirstOfTracks S done a K c d → FirstOfTracks S done a K' d r → FirstOfTracks S done a (λ (j : ℕ). K j ⊎ K' j) c r
  then {K'} {c} {d} {r} p q =
      record {
        stands = q.stands;
        first = cand_trans (cand_of S r) (cand_of S d) (cand_of S c) q.first p.first;
        live = λ h. q.live (p.live h);
        at_tips = go;
      }
    where
      go : (j : ℕ) → j < length S.tracks → K j ⊎ K' j → (tip_at S j).id ≢ a.id → Beats done (cand_of S r) a (tip_at S j)
      go j l (inl k) n = beats_better q.first (p.at_tips j l k n)
      go j l (inr k) n = q.at_tips j l k n

  pub fewer : {K' : ℕ → Type 0} {c r : Cause} → ((j : ℕ) → K' j → K j) → FirstOfTracks S done a K c r → FirstOfTracks S done a K' c r
  fewer f p = record { stands = p.stands; first = p.first; live = p.live; at_tips = λ j l k. p.at_tips j l (f j k) }

  pub none : {c : Cause} → ((j : ℕ) → K j → ⊥) → Stands S a c → FirstOfTracks S done a K c c
  none {c} f s = record { stands = s; first = ≼_self (cand_of S c); live = λ h. h; at_tips = λ j l k. absurd (f j k) }

-- tip b has not ended, or has at `end`
module _ {b : Track} {ended : Bool} {end : Fraction} {done : List Row} (fresh : ended ≡ false → Fresh done b) (gone : (ended ≡ false → ⊥) → Gone done b end) where
  -- its end in the rule
  end_is : end_of done b.id ≡ end_if ended end
  unfolding end_if
  end_is = go ended fresh gone
    where
      go : (n : Bool) → (n ≡ false → Fresh done b) → ((n ≡ false → ⊥) → Gone done b end) → end_of done b.id ≡ end_if n end
      go false f g = end_fresh done b (f refl)
      go true f g = (g true≢false).ends

  pub end_opened : OpenedBy b (end_of done b.id)
  unfolding end_if
  end_opened = go ended gone end_is
    where
      go : (n : Bool) → ((n ≡ false → ⊥) → Gone done b end) → end_of done b.id ≡ end_if n end → OpenedBy b (end_of done b.id)
      go false g e = subst (OpenedBy b) (sym e) tt
      go true g e = subst (OpenedBy b) (sym e) (g true≢false).closed.opened

module _ (S : Listing) (acc : Accepted S) (a : Track) (here : a ∈ S.tracks) (k : ℕ) (in_tracks : k < length S.tracks) where
  abbrev b : Track
  b = tip_at S k

  there : b ∈ S.tracks
  there = mem_at no_track S.tracks k in_tracks

  tip_stands : (u s : Fraction) → b.id ≢ a.id → Timely u → Timely s → Arrives a b (as_time u) (as_time s) → Stands S a (tip_cause b k u s (track_side a b))
  unfolding why_of
  tip_stands u s n h g e =
      record {
        fine = record { at = h; there = g };
        formal = (there, n, e);
        ranked = refl;
        named = refl;
        known = λ z. in_tracks;
        sided = refl;
      }

  -- the tip at k has not ended, or has at `end`
  module _ (ended : Bool) (end : Fraction) (done : List Row) (fresh : ended ≡ false → Fresh done b) (gone : (ended ≡ false → ⊥) → Gone done b end) where
    -- nothing more to beat
    tip_skip : {c : Cause} → Stands S a c → (b.id ≢ a.id → Beats done (cand_of S c) a b) → FirstOfTracks S done a (λ (j : ℕ). j ≡ k) c c
    tip_skip {c} s f =
        record {
          stands = s;
          first = ≼_self (cand_of S c);
          live = λ h. h;
          at_tips = λ j i m. subst (λ (i : ℕ). (tip_at S i).id ≢ a.id → Beats done (cand_of S c) a (tip_at S i)) (sym m) f;
        }

    tip_hit : {c r : Cause} (u s : Fraction) → Stands S a c → b.id ≢ a.id → contact_to a b (end_of done b.id) ≡ hit (as_time u) (as_time s) → Timely u → Timely s → Least c (tip_cause b k u s (track_side a b)) r → FirstOfTracks S done a (λ (j : ℕ). j ≡ k) c r
    unfolding why_of
    tip_hit {c} {r} u s p n e h g l =
        let (same, o, ran) = comes_hit (end_of done b.id) (contact_to a b (end_of done b.id)) (comes_of acc here b there n (end_of done b.id) (end_opened fresh gone)) e in
        let w = tip_stands u s n h g (record { end = end_of done b.id; opened_by = end_opened fresh gone; hits = e }) in
        let right : Below (cand_of S r) (as_time u) (by_tip b (as_time s)) = first-right S a p w l in
        record {
          stands = first_stands S a p w l;
          first = first-left S a p w l;
          live = λ y. go y (until_up done b.id (as_time u) (as_time s) o ran) l;
          at_tips = λ j i m. subst (λ (i : ℕ). (tip_at S i).id ≢ a.id → Beats done (cand_of S r) a (tip_at S i)) (sym m) (λ y. beats_hit (as_time u) (as_time s) e right);
        }
      where
        go : Live done (cand_of S c).u (cand_of S c).why → as_time s ≤ᵗ up_to done (as_time u) b.id → Least c (tip_cause b k u s (track_side a b)) r → Live done (cand_of S r).u (cand_of S r).why
        go y z (inl (x, _)) = subst (λ (z : Cause). Live done (cand_of S z).u (cand_of S z).why) (sym x) y
        go y z (inr (x, _)) = subst (λ (z : Cause). Live done (cand_of S z).u (cand_of S z).why) (sym x) z

    tip_comes : {c r : Cause} (t : Option Touch) → Stands S a c → b.id ≢ a.id → touch_of t ≡ contact_to a b (end_of done b.id) → TouchTimely t → HitFrom (track_side a b) t → Taken b k t c r → FirstOfTracks S done a (λ (j : ℕ). j ≡ k) c r
    tip_comes {c} None s n e h g l = subst (FirstOfTracks S done a (λ (j : ℕ). j ≡ k) c) (sym l) (tip_skip s (λ x. beats_none (sym e)))
    tip_comes {c} {r} (Some t) s n e h g l = tip_hit t.at t.there s n (sym e) h.0 h.1 (subst (λ (z : Side). Least c (tip_cause b k t.at t.there z) r) g l)

    tip_taken : {c r : Cause} {t : Option Touch} → Stands S a c → Reached a b ended end t → Taken b k t c r → FirstOfTracks S done a (λ (j : ℕ). j ≡ k) c r
    tip_taken {c} {r} s (itself e x) l = subst (FirstOfTracks S done a (λ (j : ℕ). j ≡ k) c) (sym (subst (λ (z : Option Touch). Taken b k z c r) x l)) (tip_skip s (λ n. absurd (n e)))
    tip_taken {t = t} s (comes n e h g) l = tip_comes t s n (e ∙ ap (contact_to a b) (sym (end_is fresh gone))) h g l

    pub tip_looked : {c r : Cause} → Stands S a c → TipOffered a b k ended end c r → FirstOfTracks S done a (λ (j : ℕ). j ≡ k) c r
    tip_looked s o = tip_taken s o.reached o.taken

-- the same of what was read
pub offered_as : {a a' b b' : Track} {k : ℕ} {n n' : Bool} {end end' : Fraction} {c c' r : Cause} → a ≡ a' → b ≡ b' → n ≡ n' → end ≡ end' → c ≡ c' → TipOffered a b k n end c r → TipOffered a' b' k n' end' c' r
offered_as {a} {a'} {b} {b'} {k} {n} {n'} {end} {end'} {c} {c'} {r} p q m e f o =
    subst (λ (z : Cause). TipOffered a' b' k n' end' z r) f
    (subst (λ (z : Fraction). TipOffered a' b' k n' z c r) e
    (subst (λ (z : Bool). TipOffered a' b' k z end c r) m
    (subst (λ (z : Track). TipOffered a' z k n end c r) q (subst (λ (z : Track). TipOffered z b k n end c r) p o))))

-- ---- numbers of times, whatever the sheet

pub wall_fine : {a : Track} {w : Wall} {k : ℕ} {c r : Cause} → Fine c → WallOffered a w k c r → Fine r
wall_fine p (passed e x) = subst Fine (sym x) p
wall_fine p (struck u e h l) = first_fine p (record { at = h; there = unused_timely }) l

taken_fine : (b : Track) (k : ℕ) {c r : Cause} (t : Option Touch) → Fine c → TouchTimely t → Taken b k t c r → Fine r
taken_fine b k None p h l = subst Fine (sym l) p
taken_fine b k (Some t) p h l = first_fine p (record { at = h.0; there = h.1 }) l

pub tip_fine : {a b : Track} {k : ℕ} {ended : Bool} {end : Fraction} {c r : Cause} → Fine c → TipOffered a b k ended end c r → Fine r
tip_fine {a} {b} {k} p o = taken_fine b k o.touch p (reached_timely o.reached) o.taken
