-- Five fields, each from its own place.
use Rattle.sheet.specs.Format.{wall_at}
use Rattle.sheet_reader.proofs.wall_at.Goals as goal

pub returns : goal.returns
unfolding wall_at
returns c =
    λ i.
    record {
      id = c.get16-id.ensures i;
      ax = c.get16-ax.ensures i;
      ay = c.get16-ay.ensures i;
      bx = c.get16-bx.ensures i;
      by = c.get16-by.ensures i;
    }
