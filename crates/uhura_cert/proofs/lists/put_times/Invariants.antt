use Rattle.std.proofs.Common.{◌≡◌, ◌++◌, map, flat_map, take}
use Rattle.std.specs.List.{zip}
use Rattle.uhura_item.specs.Item.{item_line}
use Rattle.uhura_cert.specs.Items.{time_item}
use Rattle.uhura_cert.proofs.lists.put_times.Given as goal

abbrev pub invariant-loop-place : goal.invariant-loop-place
invariant-loop-place l = l.out.items ≡ l.fn.out.items ++ flat_map item_line (map time_item (take l.place (zip l.plan.events l.times)))
