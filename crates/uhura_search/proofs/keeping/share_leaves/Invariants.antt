use Rattle.std.proofs.Common.{◌≡◌, take}
use Rattle.uhura_search.proofs.keeping.share_leaves.Given as goal

-- the first leaves are shared
abbrev pub invariant-loop-leaf : goal.invariant-loop-leaf
invariant-loop-leaf l = l.shared.items ≡ take l.leaf-index l.leaves
