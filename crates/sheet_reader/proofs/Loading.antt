-- Loading an accepted sheet: `load_more` (one more record stored), `loaded_all` (at 00 all are).
use Prim.Native.Nat.{ℕ, suc, ◌≤◌, ◌<◌, ◌+◌, ◌-◌}
use mathlib.Core.Path.{◌≡◌, refl, sym, ap, ◌∙◌}
use mathlib.Core.List.{List, [], ◌∷◌, ◌++◌, append-nil}
use mathlib.Core.Logic.{◌⊎◌, inl, inr}
use mathlib.Core.Bool.{false}
use native.Mathlib.Omega.{arith}
use borrow.Author.Tests.{leb-false}
use lib.ListN.{length, get_or, set, replicate, length-append, length-replicate}
use lib.Seq.{append_snoc, set-append_seam}
use Rattle.sheet.specs.declared.Sheet.{Sheet}
use Rattle.sheet.specs.declared.Command.{Command}
use Rattle.sheet.specs.declared.Command.TheVariants.{AddTrack, AddWall}
use Rattle.sheet.specs.declared.Item.TheVariants.{End, Add}
use Rattle.sheet.specs.Format.{item_at, width}
use Rattle.sheet.specs.Listing.{tracks_of, walls_of, listing}
use Rattle.sheet.specs.Table.{table, no_line, first_broken, too_many}
use Rattle.sheet.specs.Returned.{accepted}
use Rattle.sheet.specs.Scan.{verdict_of, commands_of}
use Rattle.sheet.specs.HandedIn.{filled, no_track, no_wall, sheet_of}
use Rattle.sheet.proofs.Acceptance.{clear, tracks-append, walls_append}
use Rattle.sheet_reader.specs.Walk.{WholeAt, of_kind}
use Rattle.sheet_reader.proofs.Items.{is_end, end_is, known_inside}
use Rattle.sheet_reader.proofs.Turns.{verdict_from, commands_after, commands_add, commands_end, accepted_add, accepted_item}

-- ---- an array that holds some records, blanks behind them

pub record Holds {A : Type 0} (blank : A) (array : List A) (n : ℕ) (l : List A) : Type 0 where
  pub held : array ≡ filled blank l
  pub counted : n ≡ length l

module _ {A : Type 0} (blank : A) where
  pub sized : (l : List A) → length l ≤ 256 → length (filled blank l) ≡ 256
  sized l h = simp (length-append, length-replicate) (omega arith)

  one_more : (l : List A) (x : A) → length l < 256 → set (filled blank l) (length l) x ≡ filled blank (l ++ (x ∷ []))
  one_more l x h =
      let k = 256 - (length l + 1) in
      let e : 256 - length l ≡ suc k = omega arith in
      let f : 256 - length (l ++ (x ∷ [])) ≡ k = simp length-append in
      rw (e, f, set-append_seam l blank (replicate k blank) x) (sym (append_snoc l x (replicate k blank)))

  pub holds_more : {array : List A} {n : ℕ} {l : List A} (x : A) → Holds blank array n l → n < 256 → Holds blank (set array n x) (n + 1) (l ++ (x ∷ []))
  holds_more {array} {n} {l} x h g = record { held = rw (h.held, h.counted) (one_more l x (omega (arith, h.counted))); counted = simp length-append (omega arith) }

-- ---- the loop

pub record Loaded (s : List ℕ) (at : ℕ) (sheet : Sheet) : Type 0 where
  pub before : List Command
  pub listed : commands_of s ≡ before ++ commands_after s at
  pub ahead : verdict_from s at before ≡ accepted
  pub tracks : Holds no_track sheet.tracks sheet.ntracks (tracks_of before)
  pub walls : Holds no_wall sheet.walls sheet.nwalls (walls_of before)

pub loaded_none : (s : List ℕ) (sheet : Sheet) → verdict_of s ≡ accepted → sheet ≡ sheet_of (listing []) → Loaded s 0 sheet
unfolding verdict_of commands_of
loaded_none s sheet h e =
    record {
      before = [];
      listed = refl;
      ahead = h;
      tracks = record { held = ap (λ (x : Sheet). x.tracks) e; counted = ap (λ (x : Sheet). x.ntracks) e };
      walls = record { held = ap (λ (x : Sheet). x.walls) e; counted = ap (λ (x : Sheet). x.nwalls) e };
    }

-- ---- one more record

-- a sheet with the record of a command behind those of its kind
abbrev pub stored : Command → Sheet → Sheet
stored (AddTrack t p) sheet =
    record { tracks = set sheet.tracks sheet.ntracks t; ntracks = sheet.ntracks + 1; walls = sheet.walls; nwalls = sheet.nwalls }
stored (AddWall w) sheet =
    record { tracks = sheet.tracks; ntracks = sheet.ntracks; walls = set sheet.walls sheet.nwalls w; nwalls = sheet.nwalls + 1 }

module _ {s : List ℕ} {at : ℕ} {sheet : Sheet} (l : Loaded s at sheet) where
  room : (c : Command) → too_many l.before c ≡ false → of_kind c sheet.ntracks sheet.nwalls < 256
  room (AddTrack t p) e = rw l.tracks.counted (leb-false _ _ e)
  room (AddWall w) e = rw l.walls.counted (leb-false _ _ e)

  tracks-more : (c : Command) → of_kind c sheet.ntracks sheet.nwalls < 256 → Holds no_track (stored c sheet).tracks (stored c sheet).ntracks (tracks_of (l.before ++ (c ∷ [])))
  unfolding tracks_of
  tracks-more (AddTrack t p) h = rw tracks-append (holds_more no_track t l.tracks h)
  tracks-more (AddWall w) h = rw (tracks-append, append-nil) l.tracks

  walls_more : (c : Command) → of_kind c sheet.ntracks sheet.nwalls < 256 → Holds no_wall (stored c sheet).walls (stored c sheet).nwalls (walls_of (l.before ++ (c ∷ [])))
  unfolding walls_of
  walls_more (AddTrack t p) h = rw (walls_append, append-nil) l.walls
  walls_more (AddWall w) h = rw walls_append (holds_more no_wall w l.walls h)

module _ {s : List ℕ} {at : ℕ} {sheet : Sheet} (l : Loaded s at sheet) where
  whole_or_end : (item_at s at ≡ End) ⊎ WholeAt s at
  whole_or_end = accepted_item s at l.before l.ahead

  pub loaded_inside : at < length s
  loaded_inside = go whole_or_end
    where
      go : (item_at s at ≡ End) ⊎ WholeAt s at → at < length s
      go (inl e) = (end_is s at e).0
      go (inr w) = known_inside s at w

  pub loaded_whole : (get_or s at 0 ≡ 0 → ⊥) → WholeAt s at
  loaded_whole n = go whole_or_end
    where
      go : (item_at s at ≡ End) ⊎ WholeAt s at → WholeAt s at
      go (inl e) = absurd (n (end_is s at e).1)
      go (inr w) = w

  pub loaded_all : get_or s at 0 ≡ 0 → sheet ≡ sheet_of (listing (commands_of s))
  loaded_all z =
      let b = l.before in
      let e : commands_of s ≡ b = l.listed ∙ ap (λ (k : List Command). b ++ k) (commands_end s at (is_end s at loaded_inside z)) ∙ append-nil b in
      rw e
      (λ i. record { tracks = l.tracks.held i; ntracks = l.tracks.counted i; walls = l.walls.held i; nwalls = l.walls.counted i })

  listed_more : (c : Command) → item_at s at ≡ Add c → commands_of s ≡ (l.before ++ (c ∷ [])) ++ commands_after s (at + width c)
  listed_more c e =
      let b = l.before in
      l.listed ∙ ap (λ (k : List Command). b ++ k) (commands_add s at c e) ∙ sym (append_snoc b c (commands_after s (at + width c)))

  -- d is the command that the code read at the place, c what its match found it to be
  module _ {c d : Command} (r : item_at s at ≡ Add d) (k : d ≡ c) where
    there : item_at s at ≡ Add c
    there = r ∙ ap Add k

    next : (first_broken table l.before c ≡ no_line) × (verdict_from s (at + width c) (l.before ++ (c ∷ [])) ≡ accepted)
    next = accepted_add s at l.before c l.ahead there

    pub load_room : of_kind c sheet.ntracks sheet.nwalls < 256
    load_room = room l c (clear _ _ next.0).room

    pub load_more : Loaded s (at + width c) (stored c sheet)
    load_more =
        record {
          before = l.before ++ (c ∷ []);
          listed = listed_more c there;
          ahead = next.1;
          tracks = tracks-more l c load_room;
          walls = walls_more l c load_room;
        }
