use Rattle.uhura_path.specs.Quest.{aim_of}
use Rattle.uhura_path.proofs.Beginning.{IsSpread-begun}
use Rattle.uhura_path.proofs.spreading.begin.Goals as goal

pub returns : goal.returns
returns c =
    let task = c.requires.quest.task_fits in
    IsSpread-begun (aim_of c.args.quest.now) c.args.labels.now c.args.order.now c.requires.labels c.requires.order task.root task.apart c.requires.fresh
