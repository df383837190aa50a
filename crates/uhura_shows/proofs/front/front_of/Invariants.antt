use Rattle.std.proofs.Common.{◌≡◌, take}
use Rattle.uhura_shows.proofs.front.front_of.Given as goal

-- the entries so far
abbrev pub invariant-loop-pick : goal.invariant-loop-pick
invariant-loop-pick l = l.front ≡ take l.pick-index (take l.len l.prefix)
