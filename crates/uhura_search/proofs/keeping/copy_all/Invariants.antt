use Rattle.std.proofs.Common.{◌≡◌, take}
use Rattle.uhura_search.proofs.keeping.copy_all.Given as goal

-- the first numbers are copied
abbrev pub invariant-loop-number : goal.invariant-loop-number
invariant-loop-number l = l.copied.items ≡ take l.number-index l.numbers
