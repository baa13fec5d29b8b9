-- The state before the first tip begins. Main theorem: `opened`.
use mathlib.Core.Bool.{false}
use mathlib.Core.List.Memᴰ
use mathlib.Core.List.{List, []}
use mathlib.Core.Option.{Option, none}
use mathlib.Core.Path.{◌≡◌, refl, sym, ap, subst}
use Prim.Native.Nat.{ℕ, zero, suc}
use native.Mathlib.Omega.{arith}
use lib.ListN.{length, get_or, replicate, length-replicate}
use Rattle.sheet.specs.Accepted.{Accepted}
use Rattle.sheet.specs.Listing.{Listing, ◌∈◌}
use Rattle.cells.specs.declared.Cell.{Cell}
use Rattle.cells.specs.Grid.{Figure, side}
use Rattle.event_queue.specs.declared.Entry.{Entry}
use Rattle.event_queue.proofs.Callers.{nothing}
use Rattle.tips.specs.declared.Tip.{Tip}
use Rattle.tips.specs.Tips.{no_tip, tip_in}
use Rattle.pair_marks.proofs.Blank.{unmarked, square_blank, no_mark}
use Rattle.grid_state.specs.State.{cells_at, total}
use Rattle.grid_state.specs.Sweep.{Sweep}
use Rattle.grid_state.specs.Run.{StateOf, Starting}
use Rattle.grid_state.proofs.Figures.{figure_in}

-- a list of the same, read anywhere
same_at : {A : Type 0} (a : A) (n k : ℕ) → get_or (replicate n a) k a ≡ a
same_at a zero k = refl
same_at a (suc n) zero = refl
same_at a (suc n) (suc k) = same_at a n k

-- no tip has entered a cell
abbrev none_entered : ℕ → List (List Cell)
none_entered n = replicate n []

total_none : (n : ℕ) → total (none_entered n) ≡ 0
unfolding total
total_none zero = refl
total_none (suc n) = omega (arith, total_none n)

-- nothing is known of any tip, none has an event, a mark or a cell
abbrev pub blank : Sweep
blank =
    record {
      crowd = record { tips = replicate 256 no_tip; pending = replicate 256 none; marks = unmarked };
      members = replicate 1024 [];
      entered = 0;
    }

module _ {S : Listing} (acc : Accepted S) {g : ℕ} (fig : Figure g) where
  abbrev es : List (List Cell)
  es = none_entered (length S.tracks)

  no_cells : (j : ℕ) → cells_at es j ≡ []
  no_cells = same_at [] (length S.tracks)

  none_ended : (j : ℕ) → (tip_in (replicate 256 no_tip) j).ended ≡ false
  none_ended j = ap (λ (x : Tip). x.ended) (same_at no_tip 256 j)

  state : StateOf S (side g) 0 256 [] es blank
  state =
      record {
        accepted = acc;
        es_long = length-replicate {A = List Cell} (length S.tracks) [];
        begun_in = omega arith;
        side_in = (figure_in fig).1;
        looked = record {
          long = length-replicate {A = Tip} 256 no_tip;
          ends = record { running = λ j l x d p. absurd (Memᴰ.not-nil p); ended = λ j l x. absurd (x (none_ended j)) };
          fine = λ j l. absurd (omega arith);
          best = λ j r. absurd (omega arith);
          base = λ j r. absurd (omega arith);
          gone = λ j l. absurd (omega arith);
        };
        marked = record {
          square = square_blank;
          both = λ i j a b x. absurd (no_mark i j x);
          begun = λ i j a b x. absurd (no_mark i j x);
          share = λ i j c l. absurd (omega arith);
        };
        placed = record { in_grid = λ j l. absurd (omega arith); at = λ j r. absurd (omega arith); ahead = λ j r. absurd (omega arith) };
        listed = record {
          long = length-replicate {A = List ℕ} 1024 [];
          inside = λ j c l. absurd (omega arith);
          member = λ j c l. absurd (omega arith);
          only = λ c j l x. absurd (Memᴰ.not-nil (subst (λ (z : List ℕ). j ∈ z) (same_at [] 1024 c) x));
          few = λ j. omega (arith, ap length (no_cells j));
          counted = sym (total_none (length S.tracks));
        };
        queued = record {
          long = length-replicate {A = Option Entry} 256 none;
          due = λ j r. absurd (omega arith);
          idle = λ j f. nothing j;
        };
      }

  opening : Starting S g 0 blank
  opening = record { es = es; figure = fig; state = state; none_ended = none_ended; none_in = λ j l. no_cells j }

  -- in new tables
  pub opened : {w : Sweep} → w.crowd.tips ≡ replicate 256 no_tip → w.crowd.pending ≡ replicate 256 none → w.crowd.marks ≡ unmarked
      → w.members ≡ replicate 1024 [] → w.entered ≡ 0 → Starting S g 0 w
  opened a b c d e =
      subst (Starting S g 0)
      (λ i. record { crowd = record { tips = sym a i; pending = sym b i; marks = sym c i }; members = sym d i; entered = sym e i }) opening
