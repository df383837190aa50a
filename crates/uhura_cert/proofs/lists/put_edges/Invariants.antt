use Rattle.std.proofs.Common.{◌≡◌, ◌++◌, map, flat_map, take}
use Rattle.uhura_item.specs.Item.{item_line}
use Rattle.uhura_cert.specs.Items.{edge_item}
use Rattle.uhura_cert.proofs.lists.put_edges.Given as goal

abbrev pub invariant-loop-edge : goal.invariant-loop-edge
invariant-loop-edge l = l.out.items ≡ l.fn.out.items ++ flat_map item_line (map (edge_item l.plan) (take l.edge-index l.edges))
