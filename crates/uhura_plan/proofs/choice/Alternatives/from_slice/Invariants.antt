use Rattle.std.proofs.Common.{◌≡◌, take, All}
use Rattle.uhura_plan.specs.Sound.{IsName}
use Rattle.uhura_plan.proofs.choice.Alternatives.from_slice.Given as goal

-- the pairs so far are copied, and their names are names
abbrev pub invariant-loop-name : goal.invariant-loop-name
invariant-loop-name l = (l.copy.items ≡ take l.name-index l.pairs) × All (λ a. IsName a.0) (take l.name-index l.pairs)
