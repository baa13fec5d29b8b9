-- The definitions, tried: `AB` for 7, an empty name for 9, `C` for 7 again, and an entry for 8 with one byte of its two.
use Prim.Native.Nat.{ℕ}
use mathlib.Core.Path.{◌≡◌, refl}
use mathlib.Core.List.{List, [], ◌∷◌}
use Rattle.byte_order.specs.Bytes.{le_of}
use Rattle.rule.specs.declared.Ending.TheVariants.{ByTrack, Meeting, ByWall, Edge}
use Rattle.names.specs.NameList.{whole_entries, entries_of, first_named, name_of}
use Rattle.names.specs.Partner.{of_tracks, of_walls, partner_name}

abbrev list : List ℕ
list = 7 ∷ 0 ∷ 2 ∷ 65 ∷ 66 ∷ 9 ∷ 0 ∷ 0 ∷ 7 ∷ 0 ∷ 1 ∷ 67 ∷ 8 ∷ 0 ∷ 2 ∷ 68 ∷ []

-- one stray byte
abbrev cut : List ℕ
cut = 1 ∷ []

pub tried : (partner_name list cut (ByTrack 7) ≡ of_tracks 3 2) × (partner_name list cut (Meeting 9) ≡ of_tracks 8 0) × (partner_name list cut (ByTrack 8) ≡ of_tracks 0 0) × (partner_name cut list (ByWall 7) ≡ of_walls 3 2) × (partner_name list cut (ByWall 1) ≡ of_tracks 0 0) × (partner_name list cut Edge ≡ of_tracks 0 0)
unfolding partner_name name_of first_named entries_of whole_entries le_of
tried = (refl, refl, refl, refl, refl, refl)
