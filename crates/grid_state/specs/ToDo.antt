-- How much the grid run has still to do, so that it ends: rows, cells, and causes to be looked at again.
use Rattle.std.specs.Prelude.{cond, List, ℕ, zero, suc, ◌+◌, ◌*◌, ◌-◌}
use Rattle.tips.specs.declared.Tip.{Tip}
use Rattle.look.specs.Counts.{stale}
use Rattle.grid_state.specs.Sweep.{Sweep}

-- how many of the first n run by a cause that no longer counts
unfoldable pub stales : List Tip → ℕ → ℕ
stales ts zero = 0
stales ts (suc n) = cond (stale ts n) 1 0 + stales ts n

-- of n tips, with k rows out
unfoldable pub to_do : ℕ → Sweep → ℕ → ℕ
to_do n w k = 257 * (n - k) + (63 * n - w.entered) + stales w.crowd.tips n
