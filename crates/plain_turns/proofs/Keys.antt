-- The key that is ahead. Main theorem: `pick_next`, one more key.
use mathlib.Core.Logic.{inl, inr}
use mathlib.Core.List.{List}
use mathlib.Core.Path.{◌≡◌, refl, sym, subst}
use Prim.Native.Nat.{ℕ, ◌+◌, ◌<◌}
use native.Mathlib.Omega.{arith}
use lib.ListN.{length}
use borrow.Author.Count.{below_more}
use Rattle.fraction.proofs.TimeOrder.{≈ᵗ_refl, ≈ᵗ_trans, ≈ᵗ→≤ᵗ, <ᵗ_trans, <ᵗ_≤ᵗ_trans, ≤ᵗ_<ᵗ_trans}
use Rattle.sheet.specs.Listing.{Listing}
use Rattle.tips.specs.declared.Tip.{Tip}
use Rattle.plain_turns.specs.declared.Key.{Key}
use Rattle.plain_turns.specs.Key.{Ahead, running, earlier, together, Soonest, key_in, Picked}

pub ahead_self : (a : Key) → Ahead a a
ahead_self a = together refl (≈ᵗ_refl _) (omega arith)

pub ahead_trans : {a b c : Key} → Ahead a b → Ahead b c → Ahead a c
ahead_trans (running h) (running k) = running (omega arith)
ahead_trans (running h) (earlier e k) = running (omega arith)
ahead_trans (running h) (together e k l) = running (omega arith)
ahead_trans (earlier e h) (running k) = running (omega arith)
ahead_trans (earlier e h) (earlier f k) = earlier (omega arith) (<ᵗ_trans h k)
ahead_trans (earlier e h) (together f k l) = earlier (omega arith) (<ᵗ_≤ᵗ_trans h (≈ᵗ→≤ᵗ k))
ahead_trans (together e h m) (running k) = running (omega arith)
ahead_trans (together e h m) (earlier f k) = earlier (omega arith) (≤ᵗ_<ᵗ_trans (≈ᵗ→≤ᵗ h) k)
ahead_trans (together e h m) (together f k l) = together (omega arith) (≈ᵗ_trans h k) (omega arith)

-- the best so far is the key of its place, and ahead of the first i
pub record Best (S : Listing) (ts : List Tip) (i : ℕ) (b : Key) : Type 0 where
  pub is : b ≡ key_in S ts b.tip
  pub picked : Picked S ts i b.tip

module _ (S : Listing) (ts : List Tip) where
  pub pick_first : 0 < length S.tracks → {b : Key} → b ≡ key_in S ts 0 → Best S ts 1 b
  pick_first h e =
      subst (Best S ts 1) (sym e)
      (record { is = refl; picked = record { place = h; ahead = λ j l. let z : 0 ≡ j = omega arith in subst (λ (k : ℕ). Ahead (key_in S ts 0) (key_in S ts k)) z (ahead_self (key_in S ts 0)) } })

  pub pick_next : {b k r : Key} (i : ℕ) → i < length S.tracks → k ≡ key_in S ts i → Best S ts i b → Soonest b k r → Best S ts (i + 1) r
  pick_next {b} {k} {r} i h is p x = go (subst (λ (z : Key). Soonest b z r) is x)
    where
      go : Soonest b (key_in S ts i) r → Best S ts (i + 1) r
      go (inl (e, q)) =
          subst (Best S ts (i + 1)) (sym e)
          (record {
            is = p.is;
            picked = record { place = p.picked.place; ahead = below_more (λ (j : ℕ). Ahead (key_in S ts b.tip) (key_in S ts j)) i p.picked.ahead (subst (λ (z : Key). Ahead z (key_in S ts i)) p.is q) };
          })
      go (inr (e, q)) =
          subst (Best S ts (i + 1)) (sym e)
          (record {
            is = refl;
            picked = record {
              place = h;
              ahead = below_more (λ (j : ℕ). Ahead (key_in S ts i) (key_in S ts j)) i (λ j l. ahead_trans (subst (λ (z : Key). Ahead (key_in S ts i) z) p.is q) (p.picked.ahead j l)) (ahead_self (key_in S ts i));
            };
          })
