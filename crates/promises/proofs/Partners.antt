-- `partners`: what specs/Partners.antt says holds of every accepted sheet; of one in bytes and of records handed in by `of_bytes` and `of_records` in Sheets.antt.
use mathlib.Core.Path.{sym, ◌∙◌}
use mathlib.Core.List.{List}
use Rattle.sheet.specs.declared.Command.{Command}
use Rattle.sheet.specs.Accepted.{Accepted}
use Rattle.sheet.specs.Listing.{listing}
use Rattle.grid_run.proofs.Demand.{demand}
use Rattle.promises.specs.Partners.{Partners}
use Rattle.promises.proofs.Runs.{left, front}

pub partners : (l : List Command) → Accepted (listing l) → Partners l
partners l acc =
    record {
      demand = demand l acc;
      same_answer = λ c d h k. (left l acc c h).0 ∙ sym (left l acc d k).0;
      same_rows = λ c d h k. front l acc c h ∙ sym (front l acc d k);
    }
