-- `base_cause` gives the first of the edge and all walls.
use Rattle.cause.proofs.Looking.{edge_first}
use Rattle.records.specs.SheetIn.{sheet_in}
use Rattle.plain_turns.proofs.Based.{base_found}
use Rattle.plain_turns.proofs.base_cause.Goals as goal

pub look_walls-requires : goal.look_walls-requires
look_walls-requires c = (c.requires, (edge_first (sheet_in c.args.records.now) c.args.a c.edge_cause.ensures).stands)

pub returns : goal.returns
returns c = base_found c.args.records.now.handed.accepted c.edge_cause.ensures c.look_walls.ensures
