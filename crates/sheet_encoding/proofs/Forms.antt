-- Runs of commands put together to a sheet: `ran_both` (one run behind another), `closed` (a run and the end are a whole form),
-- `ordered-length` (the ordered form is as long as the listed one).
use Prim.Native.Nat.{ℕ, ◌≤◌, ◌<◌, ◌+◌, ◌*◌}
use mathlib.Core.Path.{◌≡◌, refl, sym, ap, ◌∙◌}
use mathlib.Core.Bool.{Bool, true, false, not}
use mathlib.Core.List.{List, [], ◌∷◌, ◌++◌, append_assoc, append-nil, map, map-append, Permᴰ}
use native.Mathlib.Nat.{mul-le-mul_right}
use native.Mathlib.Decide.{dec_le}
use native.Mathlib.Omega.{arith}
use lib.Dec.{eqb}
use lib.ListN.{length, take, drop, set, length-append}
use lib.Seq.{sets, take_all, take_at, take-append-le, length-take-le}
use Rattle.std.proofs.lemmas.List.{take-map}
use Rattle.byte_order.proofs.Stores.{sets-both, sets_front}
use Rattle.sheet.specs.declared.Track.{Track}
use Rattle.sheet.specs.declared.Wall.{Wall}
use Rattle.sheet.specs.declared.Command.{Command}
use Rattle.sheet.specs.declared.Command.TheVariants.{AddTrack, AddWall}
use Rattle.sheet.specs.Listing.{Listing}
use Rattle.sheet.specs.Format.{encode, encode_all, width}
use Rattle.sheet.specs.Ordered.{less, sort_by, ordered, entry, commands_in, ordered_form}
use Rattle.sheet.proofs.Format.{encode-length}
use Rattle.sheet.proofs.Sorted.{sort_perm}
use Rattle.sheet_sorting.proofs.Insertion.{sort-map}
use Rattle.sheet_encoding.specs.Run.{run, Ran, id_of}

run-append : (l k : List Command) → run (l ++ k) ≡ run l ++ run k
unfolding run
run-append [] k = refl
run-append (c ∷ l) k = ap (λ s. encode c ++ s) (run-append l k) ∙ sym (append_assoc (encode c) (run l) (run k))

run_end : (l : List Command) → encode_all l ≡ run l ++ (0 ∷ [])
unfolding run encode_all
run_end [] = refl
run_end (c ∷ l) = ap (λ s. encode c ++ s) (run_end l) ∙ sym (append_assoc (encode c) (run l) (0 ∷ []))

pub form_length : (l k : List Command) → length (encode_all (l ++ k)) ≡ length (run l) + length (run k) + 1
form_length l k = rw (run_end, run-append) (simp length-append)

-- the commands of a kind have at most w bytes each
run-most : {A : Type 0} (f : A → Command) (w : ℕ) → ((a : A) → width (f a) ≤ w) → (l : List A) → length (run (map f l)) ≤ length l * w
unfolding run
run-most f w h [] = omega arith
run-most f w h (a ∷ l) = simp (length-append, encode-length) (omega (arith, h a, run-most f w h l))

pub entry-most : (a : Track) → width (entry a) ≤ 11
entry-most a = go (not (eqb a.start 0))
  where
    go : (late : Bool) → width (AddTrack a late) ≤ 11
    go true = omega arith
    go false = omega arith

-- ---- the length does not go by the order

run_perm : {A : Type 0} (f : A → Command) {l k : List A} → Permᴰ l k → length (run (map f l)) ≡ length (run (map f k))
unfolding run
run_perm f Permᴰ.nil = refl
run_perm f (Permᴰ.cons e p) = simp (length-append, e) (omega (arith, run_perm f p))
run_perm f (Permᴰ.swap e g) = simp (length-append, e, g) (omega arith)
run_perm f (Permᴰ.trans p q) = run_perm f p ∙ run_perm f q

pub ordered-length : (S : Listing) → length (ordered_form S) ≡ length (encode_all (commands_in S))
ordered-length S =
    let O = ordered S in
    let t = run_perm entry (sort_perm (less (λ (a : Track). a.id)) S.tracks) in
    let w = run_perm AddWall (sort_perm (less (λ (w : Wall). w.id)) S.walls) in
    omega (arith, form_length (map entry O.tracks) (map AddWall O.walls), form_length (map entry S.tracks) (map AddWall S.walls))

-- ---- stores

pub ran_one : (c : Command) {at end : ℕ} {before after : List ℕ} → after ≡ sets before at (encode c) → end ≡ at + width c → Ran at (c ∷ []) before after end
unfolding run
ran_one c {at} {end} {before} {after} s e =
    let q : encode c ++ [] ≡ encode c = append-nil (encode c) in
    let g : length (encode c ++ []) ≡ width c = ap length q ∙ encode-length c in
    record { stored = s ∙ ap (sets before at) (sym q); ends = omega arith }

pub ran_both : (l k : List Command) {at mid end : ℕ} {before between after : List ℕ} → Ran at l before between mid → Ran mid k between after end
    → Ran at (l ++ k) before after end
ran_both l k {at} {mid} {end} {before} {between} {after} p q =
    let g : length (run (l ++ k)) ≡ length (run l) + length (run k) = ap length (run-append l k) ∙ length-append (run l) (run k) in
    record {
      stored = rw (q.stored, p.stored, p.ends, run-append) (sets-both (run l) (run k) before at);
      ends = omega arith;
    }

pub closed : (l : List Command) {end : ℕ} {before after : List ℕ} → Ran 0 l before after end → set after end 0 ≡ sets before 0 (encode_all l)
closed l {end} {before} {after} p =
    rw (p.stored, p.ends, run_end) (sets-both (run l) (0 ∷ []) before 0)

pub closed-length : (l : List Command) {end : ℕ} {before after : List ℕ} → Ran 0 l before after end → end + 1 ≡ length (encode_all l)
closed-length l p = rw run_end (simp length-append (omega arith))

-- a whole form at the front of a buffer
pub listed_front : (l : List Command) {end : ℕ} {before after : List ℕ} → Ran 0 l before after end → end + 1 ≤ length before
    → (end + 1 ≡ length (encode_all l)) × (take (end + 1) (set after end 0) ≡ encode_all l)
listed_front l {end} {before} {after} p h =
    let e = closed-length l p in
    (e, rw (closed l p, e) (rw (sets_front before (encode_all l) (omega arith)) (take_at (encode_all l) (drop (length (encode_all l)) before) (length (encode_all l)) refl)))

-- ---- the records of a kind

-- the records of a kind, each listed by its command; n of them are claimed, `blank` behind them
module _ {A : Type 0} (f : A → Command) (l : List A) (blank : A) (n : ℕ) where
  -- more claimed than there are: one behind them stands for the others
  module _ (h : length l < n) where
    pub more_claimed : map f (take n (l ++ (blank ∷ []))) ≡ map f l ++ (f blank ∷ [])
    more_claimed = let e : take n (l ++ (blank ∷ [])) ≡ l ++ (blank ∷ []) = take_all n (l ++ (blank ∷ [])) (simp length-append (omega arith)) in
        ap (map f) e ∙ map-append f l (blank ∷ [])

    pub more-length : length (run (map f (take n (l ++ (blank ∷ []))))) ≡ length (run (map f l)) + width (f blank)
    unfolding run
    more-length = rw (more_claimed, run-append, append-nil)
        (length-append (run (map f l)) (encode (f blank)) ∙ ap (λ k. length (run (map f l)) + k) (encode-length (f blank)))

  -- the same records, put into commands first
  module _ {commands : List Command} (e : commands ≡ map f l) where
    claimed : take n (commands ++ (f blank ∷ [])) ≡ map f (take n (l ++ (blank ∷ [])))
    claimed = rw (e, ← map-append f l (blank ∷ [])) (take-map f n (l ++ (blank ∷ [])))

    pub claimed_ran : {at end : ℕ} {before after : List ℕ} → Ran at (take n (commands ++ (f blank ∷ []))) before after end
        → Ran at (map f (take n (l ++ (blank ∷ [])))) before after end
    claimed_ran {at} {end} {before} {after} h = rw claimed at h

  -- each record's command has at most w bytes
  pub claimed_length : (w : ℕ) → ((a : A) → width (f a) ≤ w) → length (run (map f (take n (l ++ (blank ∷ []))))) ≤ length l * w + width (f blank)
  claimed_length w most = go (dec_le n (length l))
    where
      go : Dec (n ≤ length l) → length (run (map f (take n (l ++ (blank ∷ []))))) ≤ length l * w + width (f blank)
      go (yes h) =
          let k : length (take n l) ≤ length l = omega (arith, length-take-le n l h) in
          rw (take-append-le n l (blank ∷ []) h) (omega (arith, run-most f w most (take n l), mul-le-mul_right w k))
      go (no h) = let r = run-most f w most l in omega (arith, more-length (omega arith))

  module _ (h : n ≤ length l) where
    pub sorted : sort_by id_of (map f (take n l)) ≡ map f (sort_by (λ a. id_of (f a)) (take n (l ++ (blank ∷ []))))
    sorted = rw (sort-map id_of f, take-append-le n l (blank ∷ [])) refl

    pub sorted_ran : {at end : ℕ} {before after : List ℕ} → Ran at (sort_by id_of (map f (take n l))) before after end
        → Ran at (map f (sort_by (λ a. id_of (f a)) (take n (l ++ (blank ∷ []))))) before after end
    sorted_ran {at} {end} {before} {after} g = rw sorted at g

    pub sorted-length : length (run (sort_by id_of (map f (take n l)))) ≡ length (run (map f (sort_by (λ a. id_of (f a)) (take n (l ++ (blank ∷ []))))))
    sorted-length = ap (λ k. length (run k)) sorted
