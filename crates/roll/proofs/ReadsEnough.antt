-- The program reads enough of its input: `reads_enough`, the first 5,643 bytes decide what is printed (SHEETS 2.10).
use mathlib.Core.Path.{◌≡◌, refl, ap}
use mathlib.Core.List.{List}
use Prim.Native.Nat.{ℕ, ◌≤◌}
use lib.ListN.{take}
use Rattle.sheet.specs.Listing.{listing}
use Rattle.sheet.specs.Returned.{Returned, accepted, gives, refused}
use Rattle.sheet.specs.Scan.{verdict_of, commands_of}
use Rattle.sheet.proofs.Decided.{Decided, decided}
use Rattle.page.specs.Answer.{answer_of}
use Rattle.roll.proofs.FirstBytes.{deciding, Decides, first-bytes}

-- the text for the first n bytes of a sheet is the text for the sheet
pub reads_enough : (n : ℕ) (s : List ℕ) → deciding ≤ n → answer_of (verdict_of (take n s)) (listing (commands_of (take n s))) ≡ answer_of (verdict_of s) (listing (commands_of s))
unfolding answer_of
reads_enough n s h = go (verdict_of s) refl (decided s)
  where
    d : Decides n s
    d = first-bytes n s h

    go : (v : Returned) → verdict_of s ≡ v → Decided v → answer_of (verdict_of (take n s)) (listing (commands_of (take n s))) ≡ answer_of (verdict_of s) (listing (commands_of s))
    go accepted e k = ap (λ (z : List ℕ). answer_of (verdict_of z) (listing (commands_of z))) (d.whole e)
    go (gives m) e k = absurd k
    go (refused m p) e k = rw (d.verdict, e) refl
