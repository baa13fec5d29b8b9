-- What the rule comes to for two tips on one line that run toward each other (SHEETS 4.15). Main theorem: `facing_ends`: they meet and both end, or one gets no further than to where the other had ended, or one opens on the other's trace and ends as it opens.
use mathlib.Core.Path.{◌≡◌, sym}
use mathlib.Core.Logic.{◌⊎◌, inl, inr, ◌≢◌}
use Prim.Native.Nat.{ℕ}
use lib.IntN.{pos}
use Rattle.fraction.specs.Order.{≤ᵗ_or_<ᵗ, ≈ᵗ_of}
use Rattle.fraction.specs.Time.{Time, ◌≤ᵗ◌, ◌<ᵗ◌, ◌≈ᵗ◌, zeroᵗ}
use Rattle.fraction.proofs.TimeOrder.{≤ᵗ_refl, ≤ᵗ_trans, <ᵗ_≤ᵗ_trans, <ᵗ→≤ᵗ, zero-first, ≈ᵗ_sym, ≈ᵗ→≤ᵗ}
use Rattle.fraction.proofs.Shift.{plus_by, by_plus, plus_from, minus_le, minus_plus}
use Rattle.sheet.specs.declared.Track.{Track}
use Rattle.sheet.specs.Accepted.{Accepted}
use Rattle.sheet.specs.Listing.{Listing, ◌∈◌}
use Rattle.rule.specs.Motion.{Sameᵃ, opening, age, clock, Same}
use Rattle.rule.specs.Contact.{Ages, D, zero_z, face_on}
use Rattle.rule.proofs.Motion.{same_symᵃ, same_sym}
use Rattle.rule.proofs.SameTime.{same_atᵃ, same_at, same_clock, stops_opened}
use Rattle.rule.proofs.Descent.{Meets}
use Rattle.rule.proofs.OneLine.{flip_D}
use Rattle.rule.proofs.Opposed as opposed
use Rattle.rule.proofs.Opposed.{sum-swap, sum_anti, sum-there, FaceMeans, Opposed}
use Rattle.rule.proofs.Starts.{accepted_apart}
use Rattle.rule.proofs.Consequences.{both_end, end_blocks}
use Rattle.rule.proofs.Openings.{opens_on_trace}

-- along one line, each comes at some age to the other's start (SHEETS 4.15)
pub record Facing (a b : Track) : Type 0 where
  pub parallel : D a b ≡ pos 0
  pub age_a : Time
  pub age_b : Time
  pub to_b : Sameᵃ a age_a b zeroᵗ
  pub to_a : Sameᵃ b age_b a zeroᵗ

-- b had ended, and a, which comes to that point at t, gets no further
pub record AtTheEnd (T : ℕ → Time) (a b : Track) : Type 0 where
  pub t : Time
  pub there : Same a t b (T b.id)
  pub before : T b.id <ᵗ t
  pub no_further : T a.id ≤ᵗ t

-- a opens at a point that b had passed at s, and ends as it opens
pub record OpensThere (T : ℕ → Time) (a b : Track) : Type 0 where
  pub s : Time
  pub there : Same a (opening a) b s
  pub before : s <ᵗ opening a
  pub passed : s ≤ᵗ T b.id
  pub at_once : T a.id ≈ᵗ opening a

pub data FacingEnds (T : ℕ → Time) (a b : Track) : Type 0 where
  they_meet : (t : Time) → Same a t b t → T a.id ≈ᵗ t → T b.id ≈ᵗ t → FacingEnds T a b
  first_stops : AtTheEnd T a b → FacingEnds T a b
  second_stops : AtTheEnd T b a → FacingEnds T a b
  first_opens : OpensThere T a b → FacingEnds T a b
  second_opens : OpensThere T b a → FacingEnds T a b

-- a tip of age 0 opens
as_opened : (a : Track) → clock a zeroᵗ ≈ᵗ opening a
as_opened a = ≈ᵗ_of (plus_by a.start (≤ᵗ_refl (opening a)) (zero-first (age a (opening a)))) (plus_from a.start zeroᵗ)

module _ {S : Listing} {T : ℕ → Time} (mt : Meets S T) where
  -- ---- what is true of either

  module _ {a b : Track} (m : a ∈ S.tracks) (n : b ∈ S.tracks) (d : b.id ≢ a.id) where
    -- b ended before it was, at v, where a is at u
    pub goes_on : (o : Opposed a b) {u v : Time} → Same a u b v → v ≤ᵗ u → T b.id <ᵗ v → AtTheEnd T a b
    goes_on o {u} h k l =
        let less = minus_le b.start (<ᵗ→≤ᵗ l) in
        let (p, x) = sum-there (age b (T b.id)) o.P_pos (o.to h.same) less in
        let same : Same a (clock a p) b (T b.id) = record { opened = plus_from a.start p; opened_too = stops_opened (mt.ends b n).stops; same = same_atᵃ (≈ᵗ_sym (minus_plus a.start p)) (o.from x) } in
        let later : u ≤ᵗ clock a p = by_plus a.start h.opened (sum_anti o.P_pos (sum-swap x) (sum-swap (o.to h.same)) less) in
        let late = <ᵗ_≤ᵗ_trans l (≤ᵗ_trans k later) in
        record { t = clock a p; there = same; before = late; no_further = end_blocks mt m n d same (<ᵗ→≤ᵗ late) }

    -- b had passed a's start, at s
    opens_late : {s : Time} → Same a (clock a zeroᵗ) b s → s <ᵗ clock a zeroᵗ → s ≤ᵗ T b.id → OpensThere T a b
    opens_late {s} h l r =
        let same = same_at (as_opened a) h in
        let before = <ᵗ_≤ᵗ_trans l (≈ᵗ→≤ᵗ (as_opened a)) in
        record { s = s; there = same; before = before; passed = r; at_once = opens_on_trace mt m (record { on_sheet = n; other = d; not_later = <ᵗ→≤ᵗ before; running = r; there = same }) }

  -- ---- of the two

  module _ (acc : Accepted S) {a b : Track} (m : a ∈ S.tracks) (n : b ∈ S.tracks) (d : b.id ≢ a.id) (f : Facing a b) where
    d' : a.id ≢ b.id
    d' e = d (sym e)

    ab : Opposed a b
    ab = opposed.opposed a b (acc.tracks_ok a m).moves (acc.tracks_ok b n).moves f.parallel f.age_a f.age_b f.to_b f.to_a (accepted_apart acc m n d)

    ba : Opposed b a
    ba = opposed.opposed b a (acc.tracks_ok b n).moves (acc.tracks_ok a m).moves (flip_D a b f.parallel) f.age_b f.age_a f.to_a f.to_b (accepted_apart acc n m d')

    -- they would be at one point at u and v, which are one time
    come_together : {u v : Time} → Same a u b v → u ≈ᵗ v → FacingEnds T a b
    come_together {u} {v} h e = go (≤ᵗ_or_<ᵗ v (T b.id)) (≤ᵗ_or_<ᵗ u (T a.id))
      where
        go : (v ≤ᵗ T b.id) ⊎ (T b.id <ᵗ v) → (u ≤ᵗ T a.id) ⊎ (T a.id <ᵗ u) → FacingEnds T a b
        go (inr l) k = first_stops (goes_on m n d ab h (≈ᵗ→≤ᵗ (≈ᵗ_sym e)) l)
        go (inl l) (inr k) = second_stops (goes_on n m d' ba (same_sym h) (≈ᵗ→≤ᵗ e) k)
        go (inl l) (inl k) =
            let same : Same a u b u = same_sym (same_at (≈ᵗ_sym e) (same_sym h)) in
            let (x, y) = both_end mt m n d same k (≤ᵗ_trans (≈ᵗ→≤ᵗ e) l) in
            they_meet u same x y

    pub facing_ends : FacingEnds T a b
    facing_ends = go (face_on a b (zero_z a.vx) f.age_a f.age_b) (ab.meets f.age_a f.age_b (ab.to f.to_b) (ab.to (same_symᵃ f.to_a)))
      where
        go : (k : Ages) → FaceMeans ab.P ab.Q ab.E a.start b.start k → FacingEnds T a b
        go k (opposed.they_meet x y s e) = come_together (same_clock (ab.from s)) e
        go k (opposed.first_late q s l) = on (≤ᵗ_or_<ᵗ (clock b q) (T b.id))
          where
            on : (clock b q ≤ᵗ T b.id) ⊎ (T b.id <ᵗ clock b q) → FacingEnds T a b
            on (inl r) = first_opens (opens_late m n d (same_clock (ab.from s)) l r)
            on (inr r) = first_stops (goes_on m n d ab (same_clock (ab.from s)) (<ᵗ→≤ᵗ l) r)
        go k (opposed.second_late p s l) = on (≤ᵗ_or_<ᵗ (clock a p) (T a.id))
          where
            on : (clock a p ≤ᵗ T a.id) ⊎ (T a.id <ᵗ clock a p) → FacingEnds T a b
            on (inl r) = second_opens (opens_late n m d' (same_sym (same_clock (ab.from s))) l r)
            on (inr r) = second_stops (goes_on n m d' ba (same_sym (same_clock (ab.from s))) (<ᵗ→≤ᵗ l) r)
