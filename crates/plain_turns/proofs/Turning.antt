-- The turn of the plain run. Main theorems: `turn_end`, `turn-row`, `turn_state`.
use mathlib.Core.Bool.{Bool, true, false, cond, true≢false}
use mathlib.Core.List.{List, [], ◌∷◌, ◌++◌}
use mathlib.Core.Logic.{◌⊎◌, inl, inr}
use mathlib.Core.Path.{◌≡◌, refl, sym, ap, ◌∙◌, subst}
use Prim.Native.Nat.{ℕ, ◌+◌, ◌*◌, ◌≤◌, ◌<◌}
use native.Mathlib.Omega.{arith}
use lib.ListN.{length, take, length-set}
use lib.Seq.{sets}
use Rattle.fraction.specs.Time.{◌<ᵗ◌, ◌≈ᵗ◌}
use Rattle.sheet.specs.Accepted.{Accepted}
use Rattle.sheet.specs.HandedIn.{no_track, no_wall}
use Rattle.sheet.specs.Listing.{Listing, ◌∈◌}
use Rattle.sheet.specs.declared.Track.{Track}
use Rattle.sheet.specs.declared.Wall.{Wall}
use Rattle.sheet.proofs.Lists.{mem_at, at_mem}
use Rattle.rule.specs.declared.Row.{Row}
use Rattle.rule.specs.declared.Ending.{Ending}
use Rattle.rule.specs.Causes.{by_bar, Cand, Below, row_of}
use Rattle.rule.specs.Contact.{when}
use Rattle.rule.specs.RowBytes.{row_bytes, row_width}
use Rattle.rule.specs.Selection.{roll_of}
use Rattle.rule.specs.WallTime.{wall_time}
use Rattle.rule.proofs.Known.{below_le}
use Rattle.rule.proofs.OnSheet.{rim_inside, formal_opened}
use Rattle.rule.proofs.Places.{SeenAt, turn_at}
use Rattle.rule.specs.Meanwhile.{Fresh, Progress}
use Rattle.rule.proofs.Turn.{progress_more, beats_step}
use Rattle.cause.specs.declared.Cause.{Cause}
use Rattle.cause.specs.Cause.{tip_at, cand_of, Fine, Stands}
use Rattle.cause.specs.Offer.{Closed}
use Rattle.tips.specs.declared.Tip.{Tip}
use Rattle.tips.specs.Tips.{tip_in}
use Rattle.tips.proofs.Put.{at_put}
use Rattle.ending.specs.Ended.{EndingOf, next_row}
use Rattle.ending.specs.Finished.{MayEnd, finish, Finished}
use Rattle.ending.proofs.Ended.{row_next, out_next, progress_next, closed-next}
use Rattle.ending.proofs.Endings.{row_is}
use Rattle.ending.proofs.Ends.{runs_on, over, over_fine, ends_next}
use Rattle.plain_turns.specs.Key.{Ahead, running, earlier, together, key_in, Picked}
use Rattle.plain_turns.specs.State.{Based, Seen, Kept, Refreshed, State}

-- the flags of two keys: none is below that of a tip that runs, and a tip with its flag runs too
none_below : {n : ℕ} (b : Bool) → b ≡ false → n < cond b 1 0 → ⊥
none_below true e h = true≢false e
none_below false e h = absurd (omega arith)

as_it : (a b : Bool) → ◌≡◌ {A = ℕ} (cond a 1 0) (cond b 1 0) → b ≡ false → a ≡ false
as_it false b e f = refl
as_it true true e f = f
as_it true false e f = absurd (omega arith)

module _ {S : Listing} (acc : Accepted S) {ts new : List Tip} {k i : ℕ} (st : State S k ts) (f : Refreshed S ts new (length S.tracks)) (l : k < length S.tracks) (p : Picked S new (length S.tracks) i) where
  abbrev done : List Row
  done = st.done

  kept : Kept S new done
  kept = f.kept done st.kept

  abbrev cand : ℕ → Cand
  cand j = cand_of S (tip_in new j).best

  on : (j : ℕ) → j < length S.tracks → tip_at S j ∈ S.tracks
  on j h = mem_at no_track S.tracks j h

  -- a tip that runs is not ahead of the one picked
  behind : (j : ℕ) → j < length S.tracks → (tip_in new j).ended ≡ false → ((tip_in new i).ended ≡ false) × (((cand i).u <ᵗ (cand j).u) ⊎ (((cand i).u ≈ᵗ (cand j).u) × ((tip_at S i).id ≤ (tip_at S j).id)))
  behind j h x = go (p.ahead j h)
    where
      go : Ahead (key_in S new i) (key_in S new j) → ((tip_in new i).ended ≡ false) × (((cand i).u <ᵗ (cand j).u) ⊎ (((cand i).u ≈ᵗ (cand j).u) × ((tip_at S i).id ≤ (tip_at S j).id)))
      go (running y) = absurd (none_below (tip_in new j).ended x y)
      go (earlier e y) = (as_it (tip_in new i).ended (tip_in new j).ended e x, inl y)
      go (together e y z) = (as_it (tip_in new i).ended (tip_in new j).ended e x, inr (y, z))

  runs : (tip_in new i).ended ≡ false
  runs =
      let (a, r) = progress_more acc st.progress (omega (arith, st.out)) in
      let (j, h, e) = at_mem no_track S.tracks a r.on_sheet in
      (behind j h (runs_on kept.ends j h (subst (λ (z : Track). Fresh done z) (sym e) r.fresh))).0

  stands : Stands S (tip_at S i) (tip_in new i).best
  stands = f.held.stands i p.place runs

  fresh : Fresh done (tip_at S i)
  fresh = kept.ends.running i p.place runs

  room : i < length new
  room = omega (arith, f.held.long, acc.few_tracks, p.place)

  abbrev row : Row
  row = row_of (tip_at S i) (cand i)

  seen_at : SeenAt no_track acc done cand
  seen_at =
      record {
        at_tips = λ j m r g x. (kept.seen j r.0 (runs_on kept.ends j r.0 r.1)).at_tips m g x;
        at_walls = λ j w u r g x.
            let (m, h, e) = at_mem no_wall S.walls w g in
            subst (λ (z : Wall). Below (cand j) u (by_bar z)) e
            ((kept.seen j r.0 (runs_on kept.ends j r.0 r.1)).foremost.at_walls m h u (subst (λ (z : Wall). wall_time (tip_at S j) z ≡ when u) (sym e) x));
        at_rim = λ j r. (kept.seen j r.0 (runs_on kept.ends j r.0 r.1)).foremost.at_rim;
      }

  progress : Progress S (take k (roll_of S) ++ (row ∷ [])) (row ∷ done)
  progress =
      turn_at no_track acc cand i st.progress (p.place, fresh) stands.formal (f.live done st.kept i p.place runs)
      (λ j r. (behind j r.0 (runs_on kept.ends j r.0 r.1)).1) seen_at

  closed : Closed (tip_at S i) row.at
  closed = closed-next acc st.out progress (tip_at S i) (on i p.place) refl

  -- ---- the row

  pub turn-named : {c : Cause} → c ≡ (tip_in new i).best → Fine c
  turn-named e = subst Fine (sym e) stands.fine

  pub turn_end : MayEnd S i k new
  turn_end =
      record {
        tip_within = p.place;
        endable = record {
          ok = acc.tracks_ok (tip_at S i) (on i p.place);
          fine = stands.fine;
          inside = rim_inside acc (on i p.place) (cand i).u (formal_opened acc (on i p.place) (cand i).why stands.formal) (below_le (kept.seen i p.place runs).foremost.at_rim);
        };
        more = l;
      }

  module _ {e : Ending} (x : EndingOf (tip_in new i).best e) {out out' : List ℕ} {t : List Tip} (y : Finished S i k e new out t out') where
    pub turn-row : out' ≡ sets out (row_width * k) (row_bytes (next_row S k))
    turn-row = y.written ∙ ap (λ (r : Row). sets out (row_width * k) (row_bytes r)) (row_is S (tip_at S i) stands x ∙ sym (row_next acc st.out progress))

    -- ---- the state

    pub turn_state : State S (k + 1) t
    turn_state = subst (State S (k + 1)) (sym y.noted) state
      where
        step : (j : ℕ) → j < length S.tracks → Seen S done j (tip_in new j).best → Seen S (row ∷ done) j (tip_in new j).best
        step j h q =
            record {
              foremost = q.foremost;
              at_tips = λ m g x. beats_step (tip_at S i) row acc (on j h) (on m g) x refl (record { on_sheet = on i p.place; fresh = fresh }) closed.opened (q.at_tips m g x);
            }

        state : State S (k + 1) (finish new i)
        state =
            let e = ends_next acc kept.ends p.place room closed in
            record {
              held = record {
                long = length-set new i (over (tip_in new i)) ∙ f.held.long;
                fine = at_put (λ (j : ℕ) (t : Tip). j < length S.tracks → Fine t.best) new i (over (tip_in new i)) room (λ h. over_fine (tip_in new i) (f.held.fine i h)) (λ j n. f.held.fine j);
                stands = at_put (λ (j : ℕ) (t : Tip). j < length S.tracks → t.ended ≡ false → Stands S (tip_at S j) t.best) new i (over (tip_in new i)) room (λ h z. absurd (true≢false z)) (λ j n. f.held.stands j);
                based = at_put (λ (j : ℕ) (t : Tip). j < length S.tracks → Based S (tip_at S j) t.base) new i (over (tip_in new i)) room (f.held.based i) (λ j n. f.held.based j);
                some = row ∷ done;
                ends = e;
              };
              out = out_next acc st.out progress;
              done = row ∷ done;
              progress = progress_next acc st.out progress;
              kept = record {
                ends = e;
                seen = at_put (λ (j : ℕ) (t : Tip). j < length S.tracks → t.ended ≡ false → Seen S (row ∷ done) j t.best) new i (over (tip_in new i)) room (λ h z. absurd (true≢false z)) (λ j n h z. step j h (kept.seen j h z));
              };
            }
