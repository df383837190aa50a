use Rattle.std.specs.Prelude.{◌-◌}
use Rattle.uhura_search.specs.Shut.{IsShut}
use Rattle.uhura_search.proofs.Shorter.{IsWithin}
use Rattle.uhura_search.proofs.fronts.shut_front.Given as goal

-- the shortest prefix that is shut has a number of picks between the two
abbrev pub invariant-narrow : goal.invariant-narrow
invariant-narrow l = IsWithin (IsShut (record { plan = l.plan; vetoes = l.vetoes }) l.store l.best) l.branch l.least l.most

abbrev pub decreases-narrow : goal.decreases-narrow
decreases-narrow l = l.most - l.least
