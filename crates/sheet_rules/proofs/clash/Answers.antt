-- Of two tracks the bytes that list them play no part.
use Rattle.sheet_rules.proofs.clash.Goals as goal

pub returns-in-AddTrack-AddTrack : goal.returns-in-AddTrack-AddTrack
returns-in-AddTrack-AddTrack c =
    let m = c.in-AddTrack-AddTrack in
    rw (m.is-0, m.is-1) (c.tracks_clash.ensures m.field-1-0 m.field-1-1)
