use Rattle.uhura_net.specs.Edges.{time_at}
use Rattle.uhura_path.proofs.Ends.{arc_ends-entering, arc_ends-leaving}
use Rattle.uhura_path.proofs.quest.Quest.lists.Goals as goal

pub returns-then-self-backward-clause-ends : goal.returns-then-self-backward-clause-ends
returns-then-self-backward-clause-ends c =
    let quest = c.args.self.now in
    arc_ends-entering quest.outward c.args.backward quest.ways quest.net.now (time_at quest.potentials.now) c.entering.result.now c.if-self-backward.true c.entering.ensures

pub returns-else-self-backward-clause-ends : goal.returns-else-self-backward-clause-ends
returns-else-self-backward-clause-ends c =
    let quest = c.args.self.now in
    arc_ends-leaving quest.outward c.args.backward quest.ways quest.net.now (time_at quest.potentials.now) c.leaving.result.now c.if-self-backward.false c.leaving.ensures
