use Rattle.std.proofs.Common.{◌≡◌, take}
use Rattle.uhura_shows.specs.Behind.{LeadsBehind}
use Rattle.uhura_shows.proofs.walk.prefix_behind.Given as goal

-- the entries so far, and what leads behind them
abbrev pub invariant-loop-pick : goal.invariant-loop-pick
invariant-loop-pick l = record { so_far : l.front ≡ take l.pick-index l.prefix; leads : LeadsBehind l.plan.choices l.front l.later }
