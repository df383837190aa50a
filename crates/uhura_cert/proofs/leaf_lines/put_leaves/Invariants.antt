use Rattle.std.proofs.Common.{◌≡◌, ◌++◌, flat_map, take}
use Rattle.uhura_item.specs.Item.{item_line}
use Rattle.uhura_cert.specs.Items.{leaf_items}
use Rattle.uhura_cert.proofs.leaf_lines.put_leaves.Given as goal

abbrev pub invariant-loop-leaf : goal.invariant-loop-leaf
invariant-loop-leaf l = l.out.items ≡ l.fn.out.items ++ flat_map item_line (flat_map (leaf_items l.state) (take l.leaf-index l.leaves))
