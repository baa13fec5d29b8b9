-- When a tip ends, by the rule: at the time of a wall, of the edge, of a start, or of two lines, also where it comes to the end of a tip that faces it. Main theorem: `end_near`.
use mathlib.Core.Path.{◌≡◌, refl, sym, subst}
use mathlib.Core.Logic.{◌⊎◌, inl, inr, ◌≢◌}
use Prim.Native.Nat.{ℕ}
use native.Mathlib.Decide.{ℕ_discrete}
use lib.IntN.{ℤ, pos, ◌-ℤ◌, ◌*ℤ◌}
use Rattle.fraction.specs.Order.{≤ᵗ_or_<ᵗ, ≈ᵗ_of}
use Rattle.fraction.specs.Time.{Time, ◌≤ᵗ◌, ◌<ᵗ◌, ◌≈ᵗ◌, zeroᵗ}
use Rattle.fraction.proofs.TimeOrder.{≤ᵗ_trans, <ᵗ_≤ᵗ_trans, <ᵗ→≤ᵗ, <ᵗ_irrefl, zero-first, ≈ᵗ_sym, ≈ᵗ→≤ᵗ}
use Rattle.fraction.proofs.Integers.{combine₂, cancel}
use Rattle.fraction.proofs.Diff.{ints}
use Rattle.fraction.proofs.Ring.{expand, atoms}
use Rattle.fraction.proofs.Shift.{plus_by, by_plus, minus_le, minus_le_back}
use Rattle.sheet.specs.declared.Track.{Track}
use Rattle.sheet.specs.declared.Wall.{Wall}
use Rattle.sheet.specs.Accepted.{Accepted}
use Rattle.sheet.specs.Listing.{Listing, ◌∈◌}
use Rattle.rule.specs.Motion.{Sameᵃ, opening, age, clock, Same, Inside, OnWall, LastInside}
use Rattle.rule.specs.Rule.{Blocks, Stops, by_track, by_wall, by_edge}
use Rattle.rule.specs.Contact.{Quot, zero_z, D, reach, Contact, hit, contact}
use Rattle.rule.specs.WallTime.{wall_time}
use Rattle.rule.specs.EdgeTime.{rim}
use Rattle.rule.proofs.Motion.{same_symᵃ, same_transᵃ, same_once, same_sym, same_trans, wall_same}
use Rattle.rule.proofs.SameTime.{same_atᵃ, same_at, same_clock, inside_same, stops_opened}
use Rattle.rule.proofs.Descent.{Meets}
use Rattle.rule.proofs.OneLine.{Moves, Reached, reached, not_reached, reach_means, Line, to_other, from_other, both_ways, line}
use Rattle.rule.proofs.Opposed.{sum-swap, sum_anti, sum-there, Opposed}
use Rattle.rule.proofs.Contacts.{age_by, Passed, ContactMeans, no_contact, contact_at, face_at, contact_means}
use Rattle.rule.proofs.Walls.{WallMeans, clear, touches}
use Rattle.rule.proofs.Starts.{one_id, accepted_apart}
use Rattle.rule.proofs.OnSheet.{contact_hit, wall_of_lem, rim_last, rim_inside}
use Rattle.rule.proofs.Consequences.{ends_by, trace_ends, edge_ends}
use Rattle.rule.proofs.FacingTips.{goes_on}
use Rattle.rule.proofs.SmallAges.{AtAge, QuotSmall, WhenSmall, HitSmall, Drawn, track_drawn, drawn_wide, reach_small, contact_small, wall_small, rim_small}

-- two tips parallel to a third are parallel
parallel_x : (u v p q r s : ℤ) → (u ≡ pos 0 → ⊥) → u *ℤ q -ℤ v *ℤ p ≡ pos 0 → u *ℤ s -ℤ v *ℤ r ≡ pos 0 → p *ℤ s -ℤ q *ℤ r ≡ pos 0
parallel_x u v p q r s f h k = cancel _ _ u f (combine₂ _ _ p _ _ (pos 0 -ℤ r) _ _ k h (simp expand (simp atoms (omega ints))))

parallel_y : (u v p q r s : ℤ) → (v ≡ pos 0 → ⊥) → u *ℤ q -ℤ v *ℤ p ≡ pos 0 → u *ℤ s -ℤ v *ℤ r ≡ pos 0 → p *ℤ s -ℤ q *ℤ r ≡ pos 0
parallel_y u v p q r s f h k = cancel _ _ v f (combine₂ _ _ q _ _ (pos 0 -ℤ s) _ _ k h (simp expand (simp atoms (omega ints))))

parallel : (a b c : Track) → Moves a → D a b ≡ pos 0 → D a c ≡ pos 0 → D b c ≡ pos 0
unfolding D
parallel a b c m h k = go (zero_z a.vx)
  where
    go : (a.vx ≡ pos 0) ⊎ (a.vx ≡ pos 0 → ⊥) → b.vx *ℤ c.vy -ℤ b.vy *ℤ c.vx ≡ pos 0
    go (inr f) = parallel_x a.vx a.vy b.vx b.vy c.vx c.vy f h k
    go (inl z) = parallel_y a.vx a.vy b.vx b.vy c.vx c.vy (λ e. m (z, e)) h k

-- tip a has a small age at t
pub record Near (a : Track) (t : Time) : Type 0 where
  pub u : Time
  pub at : AtAge a u
  pub same : u ≈ᵗ t

module _ {S : Listing} (acc : Accepted S) {T : ℕ → Time} (mt : Meets S T) where
  drawn : (a : Track) → a ∈ S.tracks → Drawn 63 a
  drawn a m = track_drawn (acc.tracks_ok a m)

  opened_by : (b : Track) → b ∈ S.tracks → opening b ≤ᵗ T b.id
  opened_by b n = stops_opened (mt.ends b n).stops

  -- a tip that has opened by t was at its start by then
  from_start : (b : Track) {t : Time} → opening b ≤ᵗ t → clock b zeroᵗ ≤ᵗ t
  from_start b {t} h = plus_by b.start h (zero-first (age b t))

  -- a tip that comes to where another was at age q, not later, ends there at the latest
  blocked : (a b : Track) → a ∈ S.tracks → b ∈ S.tracks → b.id ≢ a.id → {p q : Time} → Sameᵃ a p b q → clock b q ≤ᵗ clock a p → clock b q ≤ᵗ T b.id → T a.id ≤ᵗ clock a p
  blocked a b m n d h o r = trace_ends mt m (record { on_sheet = n; other = d; not_later = o; running = r; there = same_clock h })

  module _ (a : Track) (m : a ∈ S.tracks) where
    abbrev t : Time
    t = T a.id

    on_wall_near : (w : Wall) → w ∈ S.walls → OnWall a t w → Near a t
    on_wall_near w n o = go (wall_time a w) (wall_small (drawn a m) (acc.walls_ok w n)) (wall_of_lem acc m w n)
      where
        go : (q : Quot) → WhenSmall a q → WallMeans a w q → Near a t
        go q h (clear f) = absurd (f t o)
        go q h (touches u x f) = record { u = u; at = h; same = ≈ᵗ_of (f t o) (ends_by mt m (by_wall w n x)) }

    edge_near : LastInside a t → Near a t
    edge_near o =
        let i = rim_last acc m in
        record {
          u = rim a;
          at = rim_small (acc.tracks_ok a m).moves (drawn a m);
          same = ≈ᵗ_of (later i.now (o.later (rim a))) (later o.now (i.later t));
        }
      where
        later : {v w : Time} → Inside a w → (v <ᵗ w → ¬ Inside a w) → w ≤ᵗ v
        later {v} {w} i f = go (≤ᵗ_or_<ᵗ w v)
          where
            go : (w ≤ᵗ v) ⊎ (v <ᵗ w) → w ≤ᵗ v
            go (inl h) = h
            go (inr h) = absurd (f h i)

    -- at the start of another
    start_near : (b : Track) → b ∈ S.tracks → Sameᵃ a (age a t) b zeroᵗ → Near a t
    start_near b n h = go (reach a b) (reach_small (drawn a m) (drawn_wide (drawn b n))) (reach_means a b (acc.tracks_ok a m).moves)
      where
        go : (q : Quot) → QuotSmall q → Reached a b q → Near a t
        go q k (not_reached g) = absurd (g (age a t) h)
        go q k (reached p i g) =
            let e = g (age a t) h in
            record { u = clock a p; at = record { p = p; aged = k; is = refl }; same = ≈ᵗ_of (plus_by a.start (opened_by a m) (≈ᵗ→≤ᵗ (≈ᵗ_sym e))) (by_plus a.start (opened_by a m) (≈ᵗ→≤ᵗ e)) }

    -- the formal contact with b, which b had come to
    hit_near : (b : Track) → b ∈ S.tracks → b.id ≢ a.id → (u s : Time) → contact a b ≡ hit u s → Same a u b s → s ≤ᵗ u → s ≤ᵗ T b.id → u ≤ᵗ t → Near a t
    hit_near b n d u s e h o r l =
        record {
          u = u;
          at = subst (HitSmall a) e (contact_small (acc.tracks_ok a m).start_in (acc.tracks_ok b n).start_in (drawn a m) (drawn b n));
          same = ≈ᵗ_of l (trace_ends mt m (record { on_sheet = n; other = d; not_later = o; running = r; there = h }));
        }

    -- b would have ended before
    not-passed : (b : Track) (s : Time) → Blocks S T a t b s → Passed a b s → ⊥
    not-passed b s k p =
        let (h, o) = contact_hit acc k.on_sheet a m (λ x. k.other (sym x)) p.hits in
        let r = ≤ᵗ_trans o (≤ᵗ_trans (<ᵗ→≤ᵗ p.before) k.not_later) in
        let z = trace_ends mt k.on_sheet (record { on_sheet = m; other = λ x. k.other (sym x); not_later = o; running = r; there = h }) in
        <ᵗ_irrefl (<ᵗ_≤ᵗ_trans p.before (≤ᵗ_trans k.running z))

    means : (b : Track) → b ∈ S.tracks → b.id ≢ a.id → ContactMeans a b (contact a b)
    means b n d = contact_means a b (acc.tracks_ok a m).moves (acc.tracks_ok b n).moves (accepted_apart acc m n d)

    -- ---- a ends where b had ended: b and c face a, and b ended on c's trace

    module _ (b c : Track) (n : b ∈ S.tracks) (i : c ∈ S.tracks) (d : c.id ≢ b.id) (x : Time) (ob : Opposed a b) (oc : Opposed a c) (parallel-bc : D b c ≡ pos 0)
        (here : Same a t b (T b.id)) (there : Same b (T b.id) c x) (ran : x ≤ᵗ T c.id) where
      e : Time
      e = T b.id

      at_b : {q : Time} → age b e ≈ᵗ q → Sameᵃ a (age a t) b q
      unfolding e
      at_b h = same_symᵃ (same_atᵃ h (same_symᵃ here.same))

      at_c : {q : Time} → age c x ≈ᵗ q → Sameᵃ a (age a t) c q
      at_c h = same_transᵃ here.same (same_symᵃ (same_atᵃ h (same_symᵃ there.same)))

      on_line_near : Line b c (age b e) (age c x) → Near a t
      unfolding e
      on_line_near (to_other p h l) = go (≤ᵗ_or_<ᵗ (clock c zeroᵗ) (clock b p))
        where
          go : (clock c zeroᵗ ≤ᵗ clock b p) ⊎ (clock b p <ᵗ clock c zeroᵗ) → Near a t
          go (inl o) =
              let z = blocked b c n i d h o (from_start c (opened_by c i)) in
              start_near c i (same_transᵃ (at_b (≈ᵗ_of (age_by b z) l)) h)
          go (inr o) =
              let z = blocked c b i n (λ y. d (sym y)) (same_symᵃ h) (<ᵗ→≤ᵗ o) (plus_by b.start (opened_by b n) l) in
              start_near c i (at_c (≈ᵗ_of (age_by c (≤ᵗ_trans ran z)) (zero-first (age c x))))
      on_line_near (from_other p h l f) = go (≤ᵗ_or_<ᵗ (clock b zeroᵗ) (clock c p))
        where
          go : (clock b zeroᵗ ≤ᵗ clock c p) ⊎ (clock c p <ᵗ clock b zeroᵗ) → Near a t
          go (inl o) =
              let z = blocked c b i n (λ y. d (sym y)) h o (from_start b (opened_by b n)) in
              start_near b n (same_transᵃ (at_c (≈ᵗ_of (age_by c (≤ᵗ_trans ran z)) l)) h)
          go (inr o) =
              let z = blocked b c n i d (same_symᵃ h) (<ᵗ→≤ᵗ o) (≤ᵗ_trans (plus_by c.start there.opened_too l) ran) in
              start_near b n (at_b (≈ᵗ_of (age_by b z) (zero-first (age b (T b.id)))))
      on_line_near (both_ways p r h k) =
          let (y, sy) = sum-there zeroᵗ ob.P_pos (ob.to here.same) (zero-first (age b (T b.id))) in
          let (z, sz) = sum-there zeroᵗ oc.P_pos (oc.to (same_transᵃ here.same there.same)) (zero-first (age c x)) in
          let ay = ob.from sy in
          let az = oc.from sz in
          let u = sum_anti ob.P_pos (sum-swap sy) (sum-swap (ob.to (same_transᵃ az (same_symᵃ h)))) (zero-first p) in
          let v = sum_anti oc.P_pos (sum-swap sz) (sum-swap (oc.to (same_transᵃ ay (same_symᵃ k)))) (zero-first r) in
          absurd (accepted_apart acc n i d (same_transᵃ (same_symᵃ ay) (same_atᵃ (≈ᵗ_of u v) az)))

      both_near : Near a t
      unfolding e
      both_near = on_line_near (line b c (age b (T b.id)) (age c x) parallel-bc (acc.tracks_ok b n).moves (acc.tracks_ok c i).moves there.same)

    -- a ends where b had ended: what ended b is there too
    other_end_near : (b : Track) (u s : Time) → b ∈ S.tracks → b.id ≢ a.id → D a b ≡ pos 0 → Opposed a b → Same a u b s → s ≤ᵗ u → u ≤ᵗ t → T b.id <ᵗ s → Same a t b (T b.id) → Near a t
    other_end_near b u s n d db ob h o l y here = go (mt.ends b n).stops
      where
        late : T b.id <ᵗ t
        late = <ᵗ_≤ᵗ_trans y (≤ᵗ_trans o l)

        third : (c : Track) (x : Time) → Blocks S T b (T b.id) c x → Dec (c.id ≡ a.id) → Near a t
        third c x k (yes q) =
            let z : c ≡ a = one_id S.tracks acc.track_ids c a k.on_sheet m q in
            let w = same_once (acc.tracks_ok a m).moves (same_sym here) (subst (λ (f : Track). Same b (T b.id) f x) z k.there) in
            absurd (<ᵗ_irrefl (<ᵗ_≤ᵗ_trans late (≤ᵗ_trans (≈ᵗ→≤ᵗ w) k.not_later)))
        third c x k (no q) = on (contact a c) refl (means c k.on_sheet q)
          where
            bl : Blocks S T a t c x
            bl = record { on_sheet = k.on_sheet; other = q; not_later = ≤ᵗ_trans k.not_later (<ᵗ→≤ᵗ late); running = k.running; there = same_trans here k.there }

            on : (r : Contact) → contact a c ≡ r → ContactMeans a c r → Near a t
            on r e (no_contact g) = absurd (not-passed c x bl (g t x bl.there bl.not_later))
            on r e (contact_at v w i j g) = hit_near c k.on_sheet q v w e i j (≤ᵗ_trans (g t x bl.there).1 k.running) (g t x bl.there).0
            on r e (face_at v w i j g dc oc) = both_near b c n k.on_sheet k.other x ob oc (parallel a b c (acc.tracks_ok a m).moves db dc) here k.there k.running

        go : Stops S T b (T b.id) → Near a t
        go (by_wall w i j) = on_wall_near w i (wall_same here j)
        go (by_edge j) = absurd (j.later s y (inside_same h (rim_inside acc m u h.opened (≤ᵗ_trans l (edge_ends mt m (rim_last acc m))))))
        go (by_track c x k) = third c x k (ℕ_discrete c.id a.id)

    -- b had ended before a could meet it: a ends at that point
    at_end : (b : Track) (s v r : Time) → Blocks S T a t b s → Opposed a b → Same a v b r → r ≤ᵗ v → T b.id <ᵗ r → Same a t b (T b.id)
    at_end b s v r k ob h o y =
        let g = goes_on mt m k.on_sheet k.other ob h o y in
        let sooner = sum_anti ob.P_pos (sum-swap (ob.to k.there.same)) (sum-swap (ob.to g.there.same)) (minus_le b.start k.running) in
        same_at (≈ᵗ_of (minus_le_back a.start g.there.opened (opened_by a m) sooner) g.no_further) g.there

    track_near : (b : Track) (s : Time) → Blocks S T a t b s → Near a t
    track_near b s k = go (contact a b) refl (means b k.on_sheet k.other)
      where
        go : (r : Contact) → contact a b ≡ r → ContactMeans a b r → Near a t
        go r e (no_contact g) = absurd (not-passed b s k (g t s k.there k.not_later))
        go r e (contact_at v w i j g) = hit_near b k.on_sheet k.other v w e i j (≤ᵗ_trans (g t s k.there).1 k.running) (g t s k.there).0
        go r e (face_at v w i j g db ob) = on (≤ᵗ_or_<ᵗ w (T b.id))
          where
            on : (w ≤ᵗ T b.id) ⊎ (T b.id <ᵗ w) → Near a t
            on (inl y) = hit_near b k.on_sheet k.other v w e i j y (g t s k.there k.not_later)
            on (inr y) = other_end_near b v w k.on_sheet k.other db ob i j (g t s k.there k.not_later) y (at_end b s v w k ob i j y)

    pub end_near : Near a t
    end_near = go (mt.ends a m).stops
      where
        go : Stops S T a t → Near a t
        go (by_track b s k) = track_near b s k
        go (by_wall w i o) = on_wall_near w i o
        go (by_edge o) = edge_near o
