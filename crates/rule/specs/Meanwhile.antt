-- What a run knows between two rows: which tips run, which is the next to end, which causes of ending have been looked at. `done` are the rows so far, the newest first.
-- Nobody need believe this file: it serves the invariants of the two runs.
use Rattle.std.specs.Prelude.{◌≡◌, ◌⊎◌, ◌≢◌, List, [], ◌∷◌, ◌++◌, ℕ, ◌+◌, ◌≤◌, ◌<◌, length}
use Rattle.fraction.specs.Time.{Time, ◌≤ᵗ◌, ◌<ᵗ◌, ◌≈ᵗ◌}
use Rattle.sheet.specs.declared.Track.{Track}
use Rattle.sheet.specs.Listing.{Listing, ◌∈◌}
use Rattle.rule.specs.declared.Row.{Row}
use Rattle.rule.specs.Motion.{opening}
use Rattle.rule.specs.Rule.{Stops}
use Rattle.rule.specs.Rows.{time, RuleRow}
use Rattle.rule.specs.Contact.{Quot, never, when, hit, contact, contact_to}
use Rattle.rule.specs.WallTime.{wall_time}
use Rattle.rule.specs.EdgeTime.{rim}
use Rattle.rule.specs.Causes.{Why, by_tip, by_bar, by_rim, Cand, Below, up_to, end_of}
use Rattle.rule.specs.Selection.{left}

-- ---- the tips

abbrev pub Ended : List Row → Track → Type 0
Ended done b = (d : Row) × (d ∈ done) × (d.id ≡ b.id)

abbrev pub Fresh : List Row → Track → Type 0
Fresh done b = (d : Row) → d ∈ done → d.id ≢ b.id

-- b runs on
pub record Runs (S : Listing) (done : List Row) (b : Track) : Type 0 where
  pub on_sheet : b ∈ S.tracks
  pub fresh : Fresh done b

-- ---- the next to end

-- tip b stops at u, as far as is known where `done` have ended
abbrev pub Now : Listing → List Row → Track → Time → Type 0
Now S done b u = Stops S (up_to done u) b u

-- u is after v, or they are one and j is not below i
abbrev pub After : Time → ℕ → Time → ℕ → Type 0
After v i u j = (v <ᵗ u) ⊎ ((v ≈ᵗ u) × (i ≤ j))

-- no running tip stops before v, nor at v with an id below i
pub record Floor (S : Listing) (done : List Row) (v : Time) (i : ℕ) : Type 0 where
  pub not_before : (b : Track) (u : Time) → Runs S done b → Now S done b u → After v i u b.id

-- tip a is the next to end, and r is its row
pub record Pick (S : Listing) (done : List Row) (a : Track) (r : Row) : Type 0 where
  pub den_pos : 0 < r.at.den
  pub row : RuleRow S (up_to done (time r)) a r
  pub next : Floor S done (time r) a.id

-- after the rows `done` the rows l come out, in this order
pub data Run (S : Listing) : List Row → List Row → Type 0 where
  finish : {done : List Row} → ((b : Track) → ¬ Runs S done b) → Run S done []
  step : {done : List Row} {l : List Row} (a : Track) (r : Row) → Runs S done a → Pick S done a r → Run S (r ∷ done) l → Run S done (r ∷ l)

-- ---- causes of ending, whether or not they still count

-- b had opened by its end k, if it has one
abbrev pub OpenedBy : Track → Quot → Type 0
OpenedBy b never = Unit {0}
OpenedBy b (when e) = opening b ≤ᵗ e

-- for some end of b, or none, tip a at u comes to where tip b was at s
pub record Arrives (a b : Track) (u s : Time) : Type 0 where
  pub end : Quot
  pub opened_by : OpenedBy b end
  pub hits : contact_to a b end ≡ hit u s

-- u and y are a contact, a wall or the edge of a, whether or not it still counts
abbrev pub Formal : Listing → Track → Time → Why → Type 0
Formal S a u (by_tip b s) = (b ∈ S.tracks) × (b.id ≢ a.id) × Arrives a b u s
Formal S a u (by_bar w) = (w ∈ S.walls) × (wall_time a w ≡ when u)
Formal S a u by_rim = u ≡ rim a

-- it still counts: the partner had not ended before
abbrev pub Live : List Row → Time → Why → Type 0
Live done u (by_tip b s) = s ≤ᵗ up_to done u b.id
Live done u (by_bar w) = Unit {0}
Live done u by_rim = Unit {0}

-- c is not after the contact of a with b, as far as b has come
pub record Beats (done : List Row) (c : Cand) (a b : Track) : Type 0 where
  pub beats : (u s : Time) → contact_to a b (end_of done b.id) ≡ hit u s → Below c u (by_tip b s)

-- ---- the rows so far

-- no ended tip ran by its contact with another, unless that one had ended before: it ended there at the latest
pub record Honest (S : Listing) (done : List Row) : Type 0 where
  pub honest : (d : Row) (b a : Track) (t s : Time) → d ∈ done → d.id ≡ b.id → b ∈ S.tracks → a ∈ S.tracks → a.id ≢ b.id → contact b a ≡ hit t s → s ≤ᵗ up_to done t a.id → time d ≤ᵗ t
  -- and none ended before it opened
  pub opened_by : (d : Row) (b : Track) → d ∈ done → d.id ≡ b.id → b ∈ S.tracks → opening b ≤ᵗ time d

-- `rows` have been written, in this order; `done` are the same, the newest first. Whatever comes out after them makes a run with them
pub record Progress (S : Listing) (rows done : List Row) : Type 0 where
  pub honest : Honest S done
  pub go_on : (l : List Row) → Run S done l → Run S [] (rows ++ l)
  pub count : length rows + length (left done S.tracks) ≡ length S.tracks
