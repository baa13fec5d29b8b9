-- Names and files that are ready: `joined`, `no_room`; `given`, `not_given`.
use mathlib.Core.Path.{◌≡◌, refl, sym, ap, ◌∙◌}
use mathlib.Core.List.{List, [], ◌++◌, append_assoc}
use Prim.Native.Nat.{ℕ, ◌+◌, ◌≤◌, ◌<◌}
use native.Mathlib.Omega.{arith}
use borrow.Author.Tests.{lt-ltb, le-ltb}
use lib.ListN.{length, take, drop, length-append}
use lib.Seq.{take-append_seam, take-length}
use Rattle.sheet.specs.Returned.{Returned, gives, refused}
use Rattle.sheet.specs.Lent.{after}
use Rattle.sheet.proofs.Decided.{Decided}
use Rattle.sheet.proofs.Lent.{gave, put}
use Rattle.shape_files.specs.Exported.{file_returns}
use Rattle.shapes.specs.Started.{Starts, name_of, if_given}

-- ---- a name

-- nothing is ready
pub nothing : (buffer : List ℕ) {bytes : List ℕ} → bytes ≡ [] → Starts bytes buffer 0
nothing buffer e = record { are = sym e; in_buffer = omega arith }

pub no_room : (base ending : List ℕ) (room : ℕ) → room < length base + length ending → name_of base ending room ≡ []
unfolding name_of
no_room base ending room h =
    let g : room < length (base ++ ending) = omega (arith, length-append base ending) in
    rw (lt-ltb room (length (base ++ ending)) g) refl

-- of bytes in front
pub in_front : (bytes rest : List ℕ) {buffer : List ℕ} {n : ℕ} → n ≡ length bytes → buffer ≡ bytes ++ rest → Starts bytes buffer n
in_front bytes rest {buffer} {n} e q =
    record {
      are = ap (λ (k : ℕ). take k buffer) e ∙ ap (take (length bytes)) q ∙ take-append_seam bytes rest;
      in_buffer = omega (arith, ap length q, length-append bytes rest);
    }

pub with_room : (base ending : List ℕ) (room : ℕ) → length base + length ending ≤ room → name_of base ending room ≡ base ++ ending
unfolding name_of
with_room base ending room h =
    let g : length (base ++ ending) ≤ room = omega (arith, length-append base ending) in
    rw (le-ltb room (length (base ++ ending)) g) refl

-- the first part copied to the front of a buffer, and the second to the front of what is behind it
pub joined : (base ending path mid post : List ℕ) {p1 part : List ℕ} → p1 ≡ take (length base) base ++ drop (length base) path → part ≡ take (length ending) ending ++ drop (length ending) mid
    → length base + length ending ≤ length path → Starts (name_of base ending (length path)) (take (length base) p1 ++ (part ++ post)) (length base + length ending)
joined base ending path mid post {p1} {part} e f h =
    let front : take (length base) p1 ≡ base = ap (take (length base)) (e ∙ ap (λ (l : List ℕ). l ++ drop (length base) path) (take-length base)) ∙ take-append_seam base (drop (length base) path) in
    let back : part ≡ ending ++ drop (length ending) mid = f ∙ ap (λ (l : List ℕ). l ++ drop (length ending) mid) (take-length ending) in
    let all : take (length base) p1 ++ (part ++ post) ≡ (base ++ ending) ++ (drop (length ending) mid ++ post) = rw (front, back) (simp append_assoc) in
    rw (with_room base ending (length path) h) (in_front (base ++ ending) (drop (length ending) mid ++ post) (sym (length-append base ending)) all)

-- ---- a file

module _ (v : Returned) (d : Decided v) (file before exit : List ℕ) (b : exit ≡ after (file_returns v file (length before)) file before) where
  pub given : {n : ℕ} → gives n ≡ file_returns v file (length before) → Starts (if_given (file_returns v file (length before)) file) exit n
  unfolding if_given
  given {n} e =
      let g = gave (length file) (length before) (length file) d e in
      rw (← e) (in_front file (drop (length file) before) g.count (b ∙ put file before (sym e)))

  pub not_given : {n p : ℕ} → refused n p ≡ file_returns v file (length before) → Starts (if_given (file_returns v file (length before)) file) exit 0
  unfolding if_given
  not_given e = rw (← e) (nothing exit refl)
