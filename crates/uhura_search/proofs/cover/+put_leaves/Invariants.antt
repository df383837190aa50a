use Rattle.std.proofs.Common.{◌-◌, length, take}
use Rattle.uhura_choice.specs.Children.{children}
use Rattle.uhura_search.specs.Shut.{IsNoted}
use Rattle.uhura_search.specs.Appended.{AppendsCover}
use Rattle.uhura_search.proofs.cover.+put_leaves.Given as goal

-- how many choices have no pick
abbrev pub decreases-put_leaves : goal.decreases-put_leaves
decreases-put_leaves l = length l.plan.now.choices - length l.prefix

-- the children before this one have their leaves
abbrev pub invariant-loop-index : goal.invariant-loop-index
invariant-loop-index l =
    AppendsCover l.plan.choices (IsNoted (record { plan = l.plan; vetoes = l.vetoes }) l.store l.best)
    (take l.index (children l.plan.choices l.fn.prefix)) l.fn.leaves.items l.leaves.items
