-- Records handed in that the check accepts are ready for the run (`handed_ready`), and so are records that were read (`load_ready`, `read_ready`).
use Rattle.std.specs.Prelude.{Result, Ok, Err}
use mathlib.Core.Path.{◌≡◌, sym, ap, ◌∙◌, subst}
use mathlib.Core.Logic.{◌⊎◌, inl, inr}
use mathlib.Core.List.Memᴰ
use mathlib.Core.List.{List, [], ◌∷◌, ◌++◌}
use Prim.Native.Nat.{ℕ, ◌+◌, ◌-◌, ◌≤◌}
use native.Mathlib.Omega.{arith}
use borrow.Author.Rules.{sfits_of, rules}
use lib.Dec.{lit<}
use lib.ListN.{length, take, replicate, length-append, length-replicate, length-take}
use mir.Val.{Val}
use base.Fml.{Fml}
use denote.Array.{each}
use denote.Laws.{Is}
use denote.Shadow.{shadow}
use denote.Struct.Declared.{row}
use Rattle.byte_order.specs.Bytes.{AllBytes}
use Rattle.sheet.specs.declared.Sheet.{Sheet}
use Rattle.sheet.specs.declared.Track.{Track}
use Rattle.sheet.specs.declared.Wall.{Wall}
use Rattle.sheet.specs.Accepted.{Accepted}
use Rattle.sheet.specs.Format.{TrackFits, WallFits}
use Rattle.sheet.specs.HandedIn.{no_track, no_wall, handed_in, check_of, filled, sheet_of}
use Rattle.sheet.specs.Listing.{◌∈◌, listing}
use Rattle.sheet.specs.Returned.{accepted}
use Rattle.sheet.specs.Scan.{verdict_of, commands_of}
use Rattle.sheet.specs.contracts.Sheet.{the_type}
use Rattle.sheet.specs.contracts.Track as track
use Rattle.sheet.specs.contracts.Wall as wall
use Rattle.sheet.proofs.Lists.{take_in}
use Rattle.sheet.proofs.RoundTrip.{all_fit, accepted_exactly, accepted_records, listed, handed_back}
use Rattle.sheet.specs.declared.Refusal.{Refusal}
use Rattle.sheet_reader.specs.Reading.{ReadFrom}
use Rattle.records.specs.Records.{Handed}
use Rattle.source.specs.Accepts.{Accepts}

-- what the type of an array's elements says of each
each_in : {A : Type 0} (own : A → List Val → Fml) (P : A → Type 0) → ((a : A) (u : Val) → shadow (own a (u ∷ [])) → P a) → (l : List A) (us : List Val) → shadow (each A own l us) → (a : A) → a ∈ l → P a
each_in own P h [] us s a m = absurd (Memᴰ.not-nil m)
each_in own P h (x ∷ l) [] s a m = absurd s
each_in own P h (x ∷ l) (u ∷ us) s a m = go (Memᴰ.cases_cons m) (each_in own P h l us s.1 a)
  where
    go : (a ≡ x) ⊎ (a ∈ l) → (a ∈ l → P a) → P a
    go (inl e) rec = subst P (sym e) (h x u s.0)
    go (inr n) rec = rec n

-- ---- records handed in

-- among those claimed is at most one blank
claimed : {A : Type 0} (P : A → Type 0) (l : List A) (d : A) (n : ℕ) → ((a : A) → a ∈ l → P a) → P d → (a : A) → a ∈ take n (l ++ (d ∷ [])) → P a
claimed P l d n f b a m = go (Memᴰ.append_cases l (take_in n (l ++ (d ∷ [])) a m))
  where
    last : (a ≡ d) ⊎ (a ∈ []) → P a
    last (inl e) = subst P (sym e) b
    last (inr k) = absurd (Memᴰ.not-nil k)

    go : (a ∈ l) ⊎ (a ∈ (d ∷ [])) → P a
    go (inl k) = f a k
    go (inr k) = last (Memᴰ.cases_cons k)

no_track_fits : TrackFits no_track
no_track_fits = record { id = record { fits = lit< tt }; x = record { fits = lit< tt }; y = record { fits = lit< tt }; vx = sfits_of (lit< tt); vy = sfits_of (lit< tt); start = record { fits = lit< tt } }

no_wall_fits : WallFits no_wall
no_wall_fits = record { id = record { fits = lit< tt }; ax = record { fits = lit< tt }; ay = record { fits = lit< tt }; bx = record { fits = lit< tt }; by = record { fits = lit< tt } }

-- of more than 256 claimed the blank would be the 257th
few : {A : Type 0} (l : List A) (d : A) (n : ℕ) → length l ≡ 256 → length (take n (l ++ (d ∷ []))) ≤ 256 → n ≤ 256
few l d n e h = omega (arith, length-append l (d ∷ []), length-take n (l ++ (d ∷ [])))

ready : {s : Sheet} → length s.tracks ≡ 256 → length s.walls ≡ 256 → ((a : Track) → a ∈ s.tracks → TrackFits a) → ((w : Wall) → w ∈ s.walls → WallFits w) → check_of s ≡ accepted → Handed s
ready {s} t w f g ok =
    let S = handed_in s in
    let h = all_fit S (record { tracks = claimed TrackFits s.tracks no_track s.ntracks f no_track_fits; walls = claimed WallFits s.walls no_wall s.nwalls g no_wall_fits }) in
    let acc : Accepted S = subst Accepted (listed S) ((accepted_exactly h).0 ok) in
    record {
      accepted = acc;
      tracks_long = t;
      walls_long = w;
      tracks_in = few s.tracks no_track s.ntracks t acc.few_tracks;
      walls_in = few s.walls no_wall s.nwalls w acc.few_walls;
    }

-- as their type says: 256 places for each kind, and each field within its width
module _ (s : Sheet) {vs : List Val} (typed : Is (row the_type) s vs) where
  pub places : (length s.tracks ≡ 256) × (length s.walls ≡ 256)
  places = (search (rules, typed), search (rules, typed))

  pub handed_ready : check_of s ≡ accepted → Handed s
  handed_ready =
      let t = typed.1.1.0 in
      let w = typed.1.1.1.1.0 in
      ready places.0 places.1
      (each_in (row track.the_type).own_val TrackFits
      (λ a u z. record { id = record { fits = z.1.1.0.1 }; x = record { fits = z.1.1.1.0.1 }; y = record { fits = z.1.1.1.1.0.1 }; vx = sfits_of z.1.1.1.1.1.0.1; vy = sfits_of z.1.1.1.1.1.1.0.1; start = record { fits = z.1.1.1.1.1.1.1.0.1 } })
      s.tracks t.0 t.1.1)
      (each_in (row wall.the_type).own_val WallFits
      (λ a u z. record { id = record { fits = z.1.1.0.1 }; ax = record { fits = z.1.1.1.0.1 }; ay = record { fits = z.1.1.1.1.0.1 }; bx = record { fits = z.1.1.1.1.1.0.1 }; by = record { fits = z.1.1.1.1.1.1.0.1 } })
      s.walls w.0 w.1.1)

-- ---- records that were read

filled_long : {A : Type 0} (d : A) (l : List A) → length l ≤ 256 → length (filled d l) ≡ 256
filled_long d l h = length-append l (replicate (256 - length l) d) ∙ ap (λ n. length l + n) (length-replicate (256 - length l) d) ∙ omega arith

pub load_ready : {b : List ℕ} {s : Sheet} → AllBytes b → verdict_of b ≡ accepted → s ≡ sheet_of (listing (commands_of b)) → Handed s × (handed_in s ≡ listing (commands_of b))
load_ready {b} {s} h e q =
    let L = listing (commands_of b) in
    let acc = accepted_records b h e in
    let back : handed_in (sheet_of L) ≡ L = handed_back L in
    subst (λ (z : Sheet). Handed z × (handed_in z ≡ L)) (sym q)
    (record { accepted = subst Accepted (sym back) acc; tracks_long = filled_long no_track L.tracks acc.few_tracks; walls_long = filled_long no_wall L.walls acc.few_walls; tracks_in = acc.few_tracks; walls_in = acc.few_walls }, back)

pub read_ready : {b : List ℕ} (r : Result Sheet Refusal) → AllBytes b → ReadFrom b r → Accepts (verdict_of b) (listing (commands_of b)) r
read_ready (Ok s) h q = let (handed, same) = load_ready h q.0 q.1 in record { accepts = q.0; handed = handed; same = same }
read_ready (Err e) h q = q
