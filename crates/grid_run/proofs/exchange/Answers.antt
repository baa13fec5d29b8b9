-- `exchange` gives two listings to the two runs.
use native.Mathlib.Omega.{arith}
use Rattle.grid_run.specs.Exchanged.{AtEntry}
use Rattle.grid_run.proofs.TwoListings.{exchange_agrees}
use Rattle.grid_run.proofs.exchange.Goals as goal

pub returns : goal.returns
returns c =
    let a = c.args in
    let p = c.plain_roll.ensures in
    let q = c.grid_roll.ensures in
    let e : AtEntry = record { first = a.first.now; second = a.second.now; figure = a.g; plain = a.plain.now; grid = a.grid.now } in
    record { by_plain = p; by_grid = q; agree = exchange_agrees e (record { below = λ i. omega (arith, c.type_inv.first i) }) (record { below = λ i. omega (arith, c.type_inv.second i) }) p q }
