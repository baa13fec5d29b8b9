-- The pending event of a running tip (SHEETS 6.8): the sooner of its next cell entry and its best known cause.
use Rattle.std.specs.Prelude.{Bool, cond, ℕ, eqb}
use Rattle.fraction.specs.Time.{Time, as_time}
use Rattle.sheet.specs.declared.Track.{Track}
use Rattle.cause.specs.declared.Cause.{Cause}
use Rattle.cause.specs.declared.Class.{Class}
use Rattle.cause.specs.declared.Class.TheVariants as class
use Rattle.cells.specs.declared.Cell.{Cell}
use Rattle.cells.specs.OneCell.{exit}
use Rattle.cells.specs.Walk.{next}
use Rattle.cell_walk.specs.declared.Onset.{Onset}
use Rattle.cell_walk.specs.Onsets.{onset, onset_of, prior_of}
use Rattle.event_queue.specs.declared.Key.{Key}
use Rattle.event_queue.specs.declared.Entry.{Entry}
use Rattle.event_queue.specs.declared.Event.{Event}
use Rattle.event_queue.specs.declared.Event.TheVariants as event
use Rattle.event_queue.specs.Late.{entry_late}

-- ---- when it leaves: by exact time

-- the entry of a cell at o by the tip of this id
abbrev pub entry_key : Onset → ℕ → Key
entry_key o i = record { at = o.at; late = entry_late (eqb o.late 1); id = i }

abbrev pub cause_time : Cause → Time
cause_time c = as_time c.at

-- what ends the tip
abbrev pub cause_key : Cause → ℕ → Key
cause_key c i = record { at = c.at; late = 1; id = i }

-- tip a leaves cell k of side s, for the next one, by the time of its cause c: before that time, or at it if the entry is closed. An entry at 1 / 0, never, does not
unfoldable pub enters_first : Track → ℕ → Cell → Cause → Bool
enters_first a s k c = prior_of (onset_of (exit a s k)) (onset c.at 1)

unfoldable pub pending_key : Track → ℕ → Cell → Cause → Key
pending_key a s k c = cond (enters_first a s k c) (entry_key (onset_of (exit a s k)) a.id) (cause_key c a.id)

-- ---- what it is: a cell entered, or what ends the tip

-- by the cause's class
unfoldable pub reached_of : Class → ℕ → Event
reached_of class.Track i = event.Track i
reached_of class.Wall i = event.Wall i
reached_of class.Edge i = event.Edge

-- by the key's `late`, which is 1 where something is reached; k is the next cell
unfoldable pub event_of : ℕ → Cell → Cause → Event
event_of late k c = cond (eqb late 1) (reached_of c.class c.id) (event.Cell k.column k.row)

-- both
abbrev pub pending_entry : Track → ℕ → Cell → Cause → Entry
pending_entry a s k c = record { key = pending_key a s k c; event = event_of (pending_key a s k c).late (next a s k) c }
