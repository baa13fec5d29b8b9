-- `archive`: what specs/Archive.antt says holds of the bytes of every accepted sheet.
use mathlib.Core.Path.{◌≡◌, refl, sym, ap, ◌∙◌, subst}
use mathlib.Core.Bool.{Bool, true, false}
use mathlib.Core.List.Memᴰ
use mathlib.Core.List.{List, [], ◌∷◌, ◌++◌, map}
use Prim.Native.Nat.{ℕ, suc, pred, ◌+◌, ◌*◌, ◌≤◌, ◌<◌}
use native.Mathlib.Omega.{arith}
use lib.ListN.{length, take, length-append}
use lib.Seq.{take-append_seam}
use Rattle.std.specs.Prelude.{Result, Ok, Err}
use Rattle.fraction.specs.Lowest.{Lowest}
use Rattle.fraction.specs.Time.{◌≈ᵗ◌}
use Rattle.fraction.proofs.LowestTerms.{lowest_unique}
use Rattle.byte_order.specs.Bytes.{AllBytes}
use Rattle.sheet.specs.declared.Command.{Command}
use Rattle.sheet.specs.declared.Command.TheVariants.{AddTrack, AddWall}
use Rattle.sheet.specs.declared.Sheet.{Sheet}
use Rattle.sheet.specs.declared.Track.{Track}
use Rattle.sheet.specs.declared.Wall.{Wall}
use Rattle.sheet.specs.Accepted.{Accepted}
use Rattle.sheet.specs.Format.{AllFit, encode_all, width}
use Rattle.sheet.specs.HandedIn.{handed_in, check_of, sheet_of}
use Rattle.sheet.specs.Listing.{Listing, listing, tracks_of, walls_of, Reordered}
use Rattle.sheet.specs.Ordered.{ordered, entry, commands_in, ordered_form}
use Rattle.sheet.specs.Returned.{accepted, gives, refused, number_of}
use Rattle.sheet.specs.Scan.{verdict_of, commands_of}
use Rattle.sheet.proofs.Decoded.{commands_fit, accepted_bytes}
use Rattle.sheet.proofs.Format.{encode-length}
use Rattle.sheet.proofs.Lent.{said_given, put}
use Rattle.sheet.proofs.Order.{reordered_back, accepted_reordered}
use Rattle.sheet.proofs.RoundTrip.{accepted_records, ordered_same, handed_back, same_sheet}
use Rattle.sheet_encoding.proofs.Forms.{entry-most, ordered-length}
use Rattle.sheet_reader.specs.Reading.{ReadFrom}
use Rattle.sheet.specs.declared.Refusal.{Refusal}
use Rattle.sheet.specs.Answer.{answered}
use Rattle.sheet_writer.specs.Written.{form_of}
use Rattle.rule.specs.declared.Row.{Row}
use Rattle.rule.specs.Rows.{time}
use Rattle.rule.proofs.Existence.{roll_of_lem}
use Rattle.promises.specs.Archive.{Writes, Again, Kept, Archive}
use Rattle.promises.specs.Runs.{InRoll}
use Rattle.promises.proofs.Runs.{in_roll}
use Rattle.promises.proofs.Sheets.{checks}

-- ---- the length of a sheet

-- the bytes of the tracks, each by 03 only where its start time is not 0
track-bytes : List Track → ℕ
track-bytes [] = 0
track-bytes (a ∷ l) = width (entry a) + track-bytes l

size : (l : List Command) → AllFit l → track-bytes (tracks_of l) + 11 * length (walls_of l) + 1 ≤ length (encode_all l)
unfolding track-bytes encode_all tracks_of walls_of
size [] f = omega arith
size (AddTrack a q ∷ l) f =
    simp length-append (omega (arith, encode-length (AddTrack a q), size l (λ c m. f c (Memᴰ.tail m)), least a q (f (AddTrack a q) (Memᴰ.head refl)).1))
  where
    least : (a : Track) (q : Bool) → (q ≡ false → a.start ≡ 0) → width (entry a) ≤ width (AddTrack a q)
    least a false h = rw (h refl) (omega arith)
    least a true h = entry-most a
size (AddWall w ∷ l) f = simp length-append (omega (arith, encode-length (AddWall w), size l (λ c m. f c (Memᴰ.tail m))))

tracks-size : (ts : List Track) (k : List Command) → length (encode_all (map entry ts ++ k)) ≡ track-bytes ts + length (encode_all k)
unfolding track-bytes encode_all
tracks-size [] k = omega arith
tracks-size (a ∷ ts) k = simp length-append (omega (arith, encode-length (entry a), tracks-size ts k))

walls_size : (ws : List Wall) → length (encode_all (map AddWall ws)) ≡ 11 * length ws + 1
unfolding encode_all
walls_size [] = refl
walls_size (w ∷ ws) = simp length-append (omega (arith, encode-length (AddWall w), walls_size ws))

listed-size : (S : Listing) → length (encode_all (commands_in S)) ≡ track-bytes S.tracks + 11 * length S.walls + 1
listed-size S = omega (arith, tracks-size S.tracks (map AddWall S.walls), walls_size S.walls)

-- ---- one reading, one writing

-- what a reading of an accepted sheet has
read_as : (s : List ℕ) (T : Listing) → listing (commands_of s) ≡ T → {read : Sheet} → ReadFrom s (Ok read) → read ≡ sheet_of T
read_as s T l h = h.1 ∙ ap sheet_of l

-- and it has a sheet
is_read : (s : List ℕ) → verdict_of s ≡ accepted → (q : Result Sheet Refusal) → ReadFrom s q → (read : Sheet) × (q ≡ Ok read)
is_read s e (Ok read) h = (read, refl)
is_read s e (Err r) h = absurd (let f : refused (number_of r.kind) r.place ≡ accepted = sym h ∙ e in let z : ◌≡◌ {A = ℕ} 0 1 = cc in omega arith)

-- what a writing of it leaves
wrote :
    (T : Listing) → Accepted T → (sheet : Sheet) → sheet ≡ sheet_of T → {before exit : List ℕ} {w : Result ℕ Refusal} → Writes sheet before exit w → length (ordered_form T) ≤ length before
    → (answered w ≡ gives (length (ordered_form T))) × (take (length (ordered_form T)) exit ≡ ordered_form T)
wrote T acc sheet e {before} {exit} {w} h room =
    let g : form_of sheet ≡ ordered_form T = ap form_of e ∙ ap ordered_form (handed_back T) in
    let F = form_of sheet in
    let k : length F ≤ length before = rw g room in
    let ok : check_of sheet ≡ accepted = ap check_of e ∙ checks T acc in
    let t = said_given (length F) (length before) (length F) ok k in
    (rw g at (h.answer ∙ t), rw g at (ap (take (length F)) (h.buffer ∙ put F before t) ∙ take-append_seam F _))

-- ---- the same sheet

same_records : {S S' : Listing} {a b : Sheet} → a ≡ sheet_of S → b ≡ sheet_of S' → Reordered S S' → Reordered (handed_in a) (handed_in b)
same_records {S} {S'} {a} {b} e f p =
    let x : S ≡ handed_in a = sym (ap handed_in e ∙ handed_back S) in
    let y : S' ≡ handed_in b = sym (ap handed_in f ∙ handed_back S') in
    subst (λ (T : Listing). Reordered T (handed_in b)) x (subst (λ (T : Listing). Reordered S T) y p)

module _ (s : List ℕ) (b : AllBytes s) (e : verdict_of s ≡ accepted) where
  abbrev S : Listing
  S = listing (commands_of s)

  acc : Accepted S
  acc = accepted_records s b e

  no_longer : length (ordered_form S) ≤ length s
  no_longer = omega (arith, ordered-length S, listed-size S, size (commands_of s) (commands_fit s b), ap length (accepted_bytes s b e))

  -- of what was read once, written, and read again
  module _ (sheet : Sheet) (h : ReadFrom s (Ok sheet)) where
    first : sheet ≡ sheet_of S
    first = read_as s S refl h

    once : {before exit : List ℕ} {w : Result ℕ Refusal} → Writes sheet before exit w → length s ≤ length before → (answered w ≡ gives (length (ordered_form S))) × (take (length (ordered_form S)) exit ≡ ordered_form S)
    once c k = wrote S acc sheet first c (omega (arith, no_longer))

    module _ (read : Sheet) (k : ReadFrom (ordered_form S) (Ok read)) where
      second : read ≡ sheet_of (ordered S)
      second = read_as (ordered_form S) (ordered S) (same_sheet s b e).again.records k

      twice : {before exit : List ℕ} {w : Result ℕ Refusal} → Writes read before exit w → length (ordered_form S) ≤ length before → take (length (ordered_form S)) exit ≡ ordered_form S
      twice c m =
          let p = ordered_same S in
          let t = (same_sheet s b e).bytes in
          rw t at (wrote (ordered S) (accepted_reordered (reordered_back p) acc) read second c (rw t m)).1

    is_again : Again sheet (ordered_form S)
    is_again =
        record {
          accepts = is_read (ordered_form S) (same_sheet s b e).again.verdict;
          same = λ q k. same_records first (second q k) (reordered_back (ordered_same S));
          still = λ q k c m. twice q k c m;
        }

    is_kept : {before exit : List ℕ} {w : Result ℕ Refusal} → Writes sheet before exit w → length s ≤ length before → Kept s sheet exit w
    is_kept c k =
        let (answer, file) = once c k in
        record { size = length (ordered_form S); no_longer = no_longer; answer = answer; again = subst (Again sheet) (sym file) is_again }

-- ---- the times

in_lowest : (l : List Command) → Accepted (listing l) → (r : Row) → InRoll l r → (0 < r.at.den) × Lowest r.at.num r.at.den
in_lowest l acc r h =
    let m = in_roll l acc r h in
    let R = (roll_of_lem (listing l) acc).meets in
    let (a, i, o) = R.is_set.no_other r m in
    (R.is_set.den_pos r m, (R.by_rule r a m i o).lowest)

one-fraction : (r q : Row) → (0 < r.at.den) × Lowest r.at.num r.at.den → (0 < q.at.den) × Lowest q.at.num q.at.den → time r ≈ᵗ time q → (r.at.num ≡ q.at.num) × (r.at.den ≡ q.at.den)
one-fraction r q (d, l) (d', l') h =
    let x : suc (pred r.at.den) ≡ r.at.den = omega arith in
    let y : suc (pred q.at.den) ≡ q.at.den = omega arith in
    lowest_unique r.at.num r.at.den q.at.num q.at.den l l' d d' (rw (x, y) at h.eq)

pub archive : (s : List ℕ) → AllBytes s → verdict_of s ≡ accepted → Archive s
archive s b e =
    let lowest = in_lowest (commands_of s) (acc s b e) in
    record {
      reads = is_read s e;
      kept = λ r h c k. is_kept s b e r h c k;
      lowest = lowest;
      one-fraction = λ l acc r q h k. one-fraction r q (lowest r h) (in_lowest l acc q k);
    }
