use Rattle.std.proofs.Common.{◌≡◌, ◌++◌, map, take}
use Rattle.uhura_line.specs.Written.{spaced}
use Rattle.uhura_item.specs.Item.{pick_word}
use Rattle.uhura_item.proofs.leaf.put_picks.Given as goal

abbrev pub invariant-loop-picked : goal.invariant-loop-picked
invariant-loop-picked l = l.line.items ≡ l.fn.line.items ++ spaced (map pick_word (take l.picked-index l.picked-items))
