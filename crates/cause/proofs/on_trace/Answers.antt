-- `on_trace` gives where a tip comes to another's trace: by their lines, or, where that tip ended before, its end.
use mathlib.Core.Bool.{false, true≢false}
use mathlib.Core.Path.{◌≡◌, sym, ◌∙◌}
use Rattle.cause.proofs.Answers.{touch_timely, nowhere-contact}
use Rattle.cause.proofs.Traces.{on_none, on_running, on_passed, on_ended}
use Rattle.cause.proofs.on_trace.Goals.{then-not-ended-via-then-not-ended, then-not-ended-via-else-not-ended+then-not_later}
use Rattle.cause.proofs.on_trace.Goals as goal

pub returns-in_err-touch : goal.returns-in_err-touch
returns-in_err-touch c = rw c.from_residual.ensures (on_none _ _ _ _ c.if-b-a.false (nowhere-contact c.in_err-touch.was c.contact_of.ensures.0))

pub returns-then-not-ended : goal.returns-then-not-ended
returns-then-not-ended c =
    let e = c.in_ok-touch.was in
    let h = c.contact_of.ensures in
    elim c.then-not-ended.branch [
      | then-not-ended-via-then-not-ended w ↦ on_running _ _ _ _ c.if-b-a.false h e w.if-not-ended.true
      | then-not-ended-via-else-not-ended+then-not_later w ↦
          let n : c.args.ended ≡ false → ⊥ = λ y. true≢false (sym w.if-not-ended.false ∙ y) in
          on_passed _ _ _ _ c.if-b-a.false h e n (touch_timely e h.1).1.den_pos (c.requires.2 n).small.den_pos (sym w.not_later.ensures ∙ w.if-not_later.true)
    ]

pub returns : goal.returns
returns c =
    let e = c.in_ok-touch.was in
    let h = c.contact_of.ensures in
    let n : c.args.ended ≡ false → ⊥ = λ y. true≢false (sym c.if-not-ended.false ∙ y) in
    on_ended _ _ _ _ c.if-b-a.false h e n (touch_timely e h.1).1.den_pos (c.requires.2 n).small.den_pos (sym c.not_later.ensures ∙ c.if-not_later.false) c.arrive.ensures
