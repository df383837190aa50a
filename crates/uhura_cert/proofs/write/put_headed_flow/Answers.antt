use Rattle.std.proofs.Common.{map}
use Rattle.uhura_cert.specs.Items.{units_item}
use Rattle.uhura_cert.proofs.Writing.{lines_headed}
use Rattle.uhura_cert.proofs.write.put_headed_flow.Goals as goal

pub returns : goal.returns
returns c =
    lines_headed c.args.out.now.items c.put_item.new.out.items c.put_flow.new.out.items c.args.head.now (map (units_item c.args.plan.now) c.args.edges.now) c.in_ok-put_item.ensures.ok c.in_ok-put_flow.ensures
