-- The walk over the commands before a place: `clashed_more` (one more looked at), `clashed_all` (all looked at), and `walk_more` (a walk goes on by a command).
use Prim.Native.Nat.{ℕ, ◌≤◌, ◌<◌, ◌+◌}
use mathlib.Core.Path.{◌≡◌, refl, sym, ap, ◌∙◌}
use mathlib.Core.List.{List, [], ◌∷◌, ◌++◌}
use native.Mathlib.Omega.{arith}
use Rattle.sheet.specs.declared.Command.{Command}
use Rattle.sheet.specs.declared.Item.TheVariants.{Add}
use Rattle.sheet.specs.Format.{item_at, width}
use Rattle.sheet.specs.Table.{no_line}
use Rattle.sheet_rules.specs.Judged.{clash_of, lesser, worst_of}
use Rattle.sheet_reader.specs.Walk.{WholeAt, Walk}
use Rattle.sheet_rules.proofs.Choices.{lesser-left, lesser_is_left}
use Rattle.sheet_rules.proofs.Parts.{worst_step, worst_start}
use Rattle.sheet_reader.proofs.Turns.{some_width}

walk_on : (s : List ℕ) (p q : ℕ) (l : List Command) → Walk s p q l → p ≤ q
walk_on s p q [] w = omega arith
walk_on s p q (c ∷ l) w = omega (arith, walk_on s (p + width c) q l w.1)

pub walk_more : (s : List ℕ) (p q : ℕ) (l : List Command) (c : Command) → Walk s p q l → item_at s q ≡ Add c → Walk s p (q + width c) (l ++ (c ∷ []))
walk_more s p q [] c w e = rw w (e, refl)
walk_more s p q (d ∷ l) c w e = (w.0, walk_more s (p + width d) q l c w.1 e)

-- what is still to be looked at before a place, with the least clash so far
pub record Left (s : List ℕ) (p at : ℕ) (c : Command) (worst : ℕ) (before : List Command) : Type 0 where
  pub left : List Command
  pub walk : Walk s p at left
  pub least : lesser worst (worst_of c left) ≡ worst_of c before

-- so far, whatever commands stand before
pub record Clashed (s : List ℕ) (at : ℕ) (c : Command) (worst p : ℕ) : Type 0 where
  pub small : worst ≤ no_line
  pub still : (before : List Command) → Walk s 0 at before → Left s p at c worst before

pub clashed_none : (s : List ℕ) (at : ℕ) (c : Command) → Clashed s at c no_line 0
clashed_none s at c = record { small = omega arith; still = λ l w. record { left = l; walk = w; least = worst_start c l } }

module _ {s : List ℕ} {at : ℕ} {c : Command} {worst p : ℕ} (h : Clashed s at c worst p) where
  pub clashed_whole : (before : List Command) → Walk s 0 at before → p < at → WholeAt s p
  clashed_whole before w g = go l.left l.walk
    where
      l : Left s p at c worst before
      l = h.still before w

      go : (k : List Command) → Walk s p at k → WholeAt s p
      go [] v = absurd (omega arith)
      go (d ∷ k) v = (d, v.0)

  pub clashed_more : (d : Command) → p < at → item_at s p ≡ Add d → Clashed s at c (lesser worst (clash_of c d)) (p + width d)
  clashed_more d g e = record { small = omega (arith, lesser-left worst (clash_of c d), h.small); still = λ before w. go before (h.still before w) }
    where
      go : (before : List Command) → Left s p at c worst before → Left s (p + width d) at c (lesser worst (clash_of c d)) before
      go before l = by l.left l.walk l.least
        where
          by : (k : List Command) → Walk s p at k → lesser worst (worst_of c k) ≡ worst_of c before → Left s (p + width d) at c (lesser worst (clash_of c d)) before
          by [] v q = absurd (omega arith)
          by (f ∷ k) v q =
              let n : f ≡ d = cc in
              record { left = k; walk = rw n at v.1; least = worst_step worst c d k ∙ ap (λ (x : Command). lesser worst (worst_of c (x ∷ k))) (sym n) ∙ q }

  pub clashed_all : at ≤ p → (before : List Command) → Walk s 0 at before → worst ≡ worst_of c before
  unfolding worst_of
  clashed_all g before w = go l.left l.walk l.least
    where
      l : Left s p at c worst before
      l = h.still before w

      go : (k : List Command) → Walk s p at k → lesser worst (worst_of c k) ≡ worst_of c before → worst ≡ worst_of c before
      go [] v q = sym (lesser_is_left worst no_line h.small) ∙ q
      go (d ∷ k) v q = absurd (omega (arith, some_width d, walk_on s (p + width d) at k v.1))
