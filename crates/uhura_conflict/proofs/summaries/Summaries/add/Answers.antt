use Rattle.uhura_conflict.specs.declared.summaries.TheConstants.{BLOCK, GROUP}
use Rattle.uhura_conflict.proofs.Summing.{covered-added}
use Rattle.uhura_conflict.proofs.summaries.Summaries.add.Goals as goal

pub returns : goal.returns
returns c = λ before after updates summed. record {
  groups = covered-added GROUP c.args.self.now.groups.items c.widen.new.blocks.items before after c.args.key c.args.entry.now updates c.widen.ensures.here c.widen.ensures.kept summed.groups;
  blocks = covered-added BLOCK c.args.self.now.blocks.items c.widen-2.new.blocks.items before after c.args.key c.args.entry.now updates c.widen-2.ensures.here c.widen-2.ensures.kept summed.blocks;
}
