use Rattle.std.proofs.Common.{◌≡◌, ◌++◌, map, flat_map, take}
use Rattle.uhura_item.specs.Item.{item_line}
use Rattle.uhura_cert.specs.Items.{pick_item}
use Rattle.uhura_cert.proofs.lists.put_picks.Given as goal

abbrev pub invariant-loop-literal : goal.invariant-loop-literal
invariant-loop-literal l = l.out.items ≡ l.fn.out.items ++ flat_map item_line (map (pick_item l.plan) (take l.literal-index l.picks))
