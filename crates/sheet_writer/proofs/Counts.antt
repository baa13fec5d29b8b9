-- An accepted sheet that was handed in claims at most 256 records of each kind (`few`).
use Prim.Native.Nat.{ℕ, suc, ◌≤◌, ◌+◌}
use mathlib.Core.Bool.{true, false}
use mathlib.Core.Path.{◌≡◌, refl, sym, ap, ◌∙◌}
use mathlib.Core.List.Memᴰ
use mathlib.Core.List.{List, [], ◌∷◌, ◌++◌, map}
use native.Mathlib.Omega.{arith}
use lib.ListN.{length, take, length-take, length-append}
use Rattle.byte_order.specs.Bytes.{le_of, le_bytes}
use Rattle.sheet.specs.declared.Sheet.{Sheet}
use Rattle.sheet.specs.declared.Command.{Command}
use Rattle.sheet.specs.declared.Command.TheVariants.{AddTrack, AddWall}
use Rattle.sheet.specs.Listing.{Listing, tracks_of, walls_of, listing}
use Rattle.sheet.specs.Format.{track_bytes, late_bytes, wall_bytes, track_at, late_at, wall_at}
use Rattle.sheet.specs.Returned.{accepted}
use Rattle.sheet.specs.Accepted.{Accepted}
use Rattle.sheet.specs.Ordered.{commands_in}
use Rattle.sheet.specs.HandedIn.{handed_in, check_of}
use Rattle.sheet.proofs.Lists.{all_cons}
use Rattle.sheet.proofs.Format.{clip}
use Rattle.sheet.proofs.Encoded.{verdict_encoded}
use Rattle.sheet.proofs.Acceptance.{id_of, IdsIn, none_refused}
use Rattle.sheet.proofs.RoundTrip.{listed}

-- an id that is read has 16 bits
clip_id : (c : Command) → id_of (clip c) ≤ 65535
unfolding clip id_of track_at late_at wall_at track_bytes late_bytes wall_bytes le_of le_bytes
clip_id (AddTrack a false) = omega arith
clip_id (AddTrack a true) = omega arith
clip_id (AddWall w) = omega arith

clip-ids : (l : List Command) → IdsIn (map clip l)
clip-ids [] c m = absurd (Memᴰ.not-nil m)
clip-ids (d ∷ l) c m = all_cons (λ c. id_of c ≤ 65535) (clip_id d) (clip-ids l) c m

clip_counts : (l : List Command) → (length (tracks_of (map clip l)) ≡ length (tracks_of l)) × (length (walls_of (map clip l)) ≡ length (walls_of l))
unfolding clip tracks_of walls_of
clip_counts [] = (refl, refl)
clip_counts (AddTrack a false ∷ l) = (ap suc (clip_counts l).0, (clip_counts l).1)
clip_counts (AddTrack a true ∷ l) = (ap suc (clip_counts l).0, (clip_counts l).1)
clip_counts (AddWall w ∷ l) = ((clip_counts l).0, ap suc (clip_counts l).1)

few_listed : (S : Listing) → Accepted (listing (map clip (commands_in S))) → (length S.tracks ≤ 256) × (length S.walls ≤ 256)
few_listed S h =
    let l = commands_in S in
    let t : length (tracks_of l) ≡ length S.tracks = ap (λ (T : Listing). length T.tracks) (listed S) in
    let w : length (walls_of l) ≡ length S.walls = ap (λ (T : Listing). length T.walls) (listed S) in
    (omega (arith, h.few_tracks, (clip_counts l).0), omega (arith, h.few_walls, (clip_counts l).1))

-- of more than 256 claimed the blank is the 257th
claimed : {A : Type 0} (l : List A) (blank : A) (n : ℕ) → length l ≡ 256 → length (take n (l ++ (blank ∷ []))) ≤ 256 → (n ≤ 256) × (length (take n (l ++ (blank ∷ []))) ≡ n)
claimed l blank n e h =
    let g : length (l ++ (blank ∷ [])) ≡ 257 = length-append l (blank ∷ []) ∙ ap (λ k. k + 1) e in
    let m = length-take n (l ++ (blank ∷ [])) in
    (omega arith, omega arith)

module _ (s : Sheet) (t : length s.tracks ≡ 256) (w : length s.walls ≡ 256) (ok : check_of s ≡ accepted) where
  within : (length (handed_in s).tracks ≤ 256) × (length (handed_in s).walls ≤ 256)
  within =
      let l = commands_in (handed_in s) in
      few_listed (handed_in s) (none_refused (map clip l) (clip-ids l) (sym (verdict_encoded l) ∙ ok))

  pub few : (s.ntracks ≤ 256) × (s.nwalls ≤ 256)
  few = ((claimed s.tracks _ s.ntracks t within.0).0, (claimed s.walls _ s.nwalls w within.1).0)
