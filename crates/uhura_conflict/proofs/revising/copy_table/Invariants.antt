use Rattle.std.proofs.Common.{◌≡◌, ◌<◌, ◌≤◌, ℕ, length, get_or, None}
use Rattle.std.specs.Prelude.{IfSome}
use Rattle.uhura_net.specs.declared.place.TheConstants.{PLACES}
use Rattle.uhura_net.specs.Table.{IsEdgeFor}
use Rattle.uhura_conflict.proofs.revising.copy_table.Given as goal

-- the first places are copied
abbrev pub invariant-loop-number : goal.invariant-loop-number
invariant-loop-number l = (1 ≤ l.number → length l.to ≡ length l.from) × ((place : ℕ) → place < l.number → get_or l.to place None ≡ get_or l.from place None)
    × (1 ≤ l.number → length l.from ≡ PLACES) × ((place : ℕ) → place < l.number → IfSome (get_or l.from place None) (IsEdgeFor place))
