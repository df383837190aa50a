use Rattle.std.proofs.Common.{map}
use Rattle.uhura_cert.specs.Items.{edge_item}
use Rattle.uhura_cert.proofs.Writing.{lines_headed}
use Rattle.uhura_cert.proofs.write.put_headed_walk.Goals as goal

pub returns : goal.returns
returns c =
    lines_headed c.args.out.now.items c.put_item.new.out.items c.put_walk.new.out.items c.args.head.now (map (edge_item c.args.plan.now) c.args.edges.now) c.in_ok-put_item.ensures.ok c.in_ok-put_walk.ensures
