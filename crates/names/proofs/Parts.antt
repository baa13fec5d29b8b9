-- A name found in a list is the part of that list: `in_tracks`, `in_walls`. The partner's name lies within its list, `partner_inside`, and holds the bytes there, `part_bytes`.
use Prim.Native.Nat.{ℕ, ◌≤◌, ◌<◌, ◌+◌}
use mathlib.Core.Path.{◌≡◌, ap, ◌∙◌}
use mathlib.Core.List.{List}
use native.Mathlib.Omega.{arith}
use lib.ListN.{length, get_or, length-take, length-drop}
use lib.Seq.{get_or-take, get_or-drop}
use denote.Ref.{Bor}
use Rattle.rule.specs.declared.Ending.{Ending}
use Rattle.rule.specs.declared.Ending.TheVariants.{ByTrack, Meeting, ByWall, Edge}
use Rattle.std.specs.Prelude.{Option, Some, None}
use Rattle.names.specs.NameList.{name_of}
use Rattle.names.specs.Partner.{Part, Lies, IsNamed, IsPart, or_empty, of_tracks, of_walls, partner_name}
use Rattle.names.proofs.Inside.{Inside, name_inside}

module _ (tracks walls r : Bor (List ℕ)) where
  pub in_tracks : (f : Option (ℕ × ℕ)) → IsNamed tracks tracks f r → IsPart tracks walls (or_empty of_tracks f) r
  in_tracks (Some (start, size)) h = h
  in_tracks None h = h

  pub in_walls : (f : Option (ℕ × ℕ)) → IsNamed tracks walls f r → IsPart tracks walls (or_empty of_walls f) r
  in_walls (Some (start, size)) h = h
  in_walls None h = h

-- ---- the bytes of the part

-- a part that ends within its list
abbrev pub Within : List ℕ → List ℕ → Part → Type 0
Within tracks walls (of_tracks start size) = start + size ≤ length tracks
Within tracks walls (of_walls start size) = start + size ≤ length walls

module _ (tracks walls : List ℕ) where
  track_inside : (f : Option (ℕ × ℕ)) → Inside (length tracks) f → Within tracks walls (or_empty of_tracks f)
  track_inside (Some (start, size)) h = h
  track_inside None h = omega arith

  wall_inside : (f : Option (ℕ × ℕ)) → Inside (length walls) f → Within tracks walls (or_empty of_walls f)
  wall_inside (Some (start, size)) h = h
  wall_inside None h = omega arith

  pub partner_inside : (e : Ending) → Within tracks walls (partner_name tracks walls e)
  unfolding partner_name
  partner_inside (ByTrack q) = track_inside (name_of tracks q) (name_inside tracks q)
  partner_inside (Meeting q) = track_inside (name_of tracks q) (name_inside tracks q)
  partner_inside (ByWall q) = wall_inside (name_of walls q) (name_inside walls q)
  partner_inside Edge = omega arith

module _ {list r : Bor (List ℕ)} {start size : ℕ} (p : Lies list start size r) (h : start + size ≤ length list.now) where
  pub part_length : length r.now ≡ size
  part_length = ap length p.holds ∙ simp (length-take, length-drop) (omega arith)

  pub part_bytes : (i : ℕ) → i < size → get_or r.now i 0 ≡ get_or list.now (start + i) 0
  part_bytes i l = ap (λ (s : List ℕ). get_or s i 0) p.holds ∙ rw (get_or-take, get_or-drop)
