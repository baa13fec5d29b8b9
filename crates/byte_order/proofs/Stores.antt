-- Runs of stores into the caller's buffer: `next` (stores one behind the other are one store of the joined bytes), and `two` to `five` of them.
use Prim.Native.Nat.{ℕ, suc, ◌≤◌, ◌<◌, ◌-◌, ◌+◌, ◌%◌, ◌/◌}
use mathlib.Core.Path.{◌≡◌, refl, ap, ◌∙◌}
use mathlib.Core.List.{List, [], ◌∷◌, ◌++◌, append_assoc}
use native.Mathlib.Omega.{arith}
use lib.ListN.{length, drop, set, length-append}
use lib.Seq.{sets, sets-eq}
use Rattle.byte_order.specs.Bytes.{le_bytes}

-- two runs of stores, the second where the first ends, are one
pub sets-both : (a b l : List ℕ) (i : ℕ) → sets (sets l i a) (i + length a) b ≡ sets l i (a ++ b)
sets-both [] b l i = let e : i + 0 ≡ i = omega arith in ap (λ (j : ℕ). sets l j b) e
sets-both (x ∷ a) b l i =
    let e : i + suc (length a) ≡ suc i + length a = omega arith in
    ap (λ (j : ℕ). sets (sets (set l i x) (suc i) a) j b) e ∙ sets-both a b (set l i x) (suc i)

-- the same for buffers that are known by equations, as a chain of calls leaves them
pub next : (l : List ℕ) (i : ℕ) (a b : List ℕ) {m n : List ℕ} {j : ℕ} → m ≡ sets l i a → n ≡ sets m j b → j ≡ i + length a → n ≡ sets l i (a ++ b)
next l i a b {m} {n} {j} p q e = q ∙ ap (λ (k : ℕ). sets m k b) e ∙ ap (λ (x : List ℕ). sets x (i + length a) b) p ∙ sets-both a b l i

-- a chain of calls, each of which stores behind the one before it
module _ (l : List ℕ) (at : ℕ) (a b : List ℕ) {m n : List ℕ} {j : ℕ} (p : m ≡ sets l at a) (q : n ≡ sets m j b) (e : j ≡ at + length a) where
  pub two : n ≡ sets l at (a ++ b)
  two = next l at a b p q e

  module _ (c : List ℕ) {o : List ℕ} {k : ℕ} (r : o ≡ sets n k c) (f : k ≡ at + (length a + length b)) where
    pub three : o ≡ sets l at (a ++ (b ++ c))
    three = next l at (a ++ b) c two r (rw length-append f) ∙ ap (sets l at) (append_assoc a b c)

    module _ (d : List ℕ) {u : List ℕ} {i : ℕ} (s : u ≡ sets o i d) (g : i ≡ at + (length a + (length b + length c))) where
      pub four : u ≡ sets l at (a ++ (b ++ (c ++ d)))
      four =
          let e : (a ++ (b ++ c)) ++ d ≡ a ++ (b ++ (c ++ d)) = simp append_assoc in
          next l at (a ++ (b ++ c)) d three s (simp length-append g) ∙ ap (sets l at) e

      module _ (x : List ℕ) {v : List ℕ} {h : ℕ} (t : v ≡ sets u h x) (y : h ≡ at + (length a + (length b + (length c + length d)))) where
        pub five : v ≡ sets l at (a ++ (b ++ (c ++ (d ++ x))))
        five =
            let e : (a ++ (b ++ (c ++ d))) ++ x ≡ a ++ (b ++ (c ++ (d ++ x))) = simp append_assoc in
            next l at (a ++ (b ++ (c ++ d))) x four t (simp length-append y) ∙ ap (sets l at) e

-- a run that starts at the buffer's first byte
pub sets_front : (l a : List ℕ) → length a ≤ length l → sets l 0 a ≡ a ++ drop (length a) l
sets_front l a h =
    let e : 0 + length a ≡ length a = omega arith in
    sets-eq a l 0 (omega arith) ∙ ap (λ (k : ℕ). a ++ drop k l) e

pub le_none : (v : ℕ) → le_bytes 0 v ≡ []
unfolding le_bytes
le_none v = refl

le_more : (w v : ℕ) → le_bytes (suc w) v ≡ v % 256 ∷ le_bytes w (v / 256)
unfolding le_bytes
le_more w v = refl

-- one byte stored, the next of w from a place on, leaves the others to store
pub put_more : (l : List ℕ) (at w i v : ℕ) → i < w
    → sets (set l (at + i) (v % 256)) (at + (i + 1)) (le_bytes (w - (i + 1)) (v / 256)) ≡ sets l (at + i) (le_bytes (w - i) v)
put_more l at w i v h =
    let e : w - i ≡ suc (w - (i + 1)) = omega arith in
    let p : at + (i + 1) ≡ suc (at + i) = omega arith in
    rw (e, p, le_more)
