use Rattle.uhura_net.proofs.Listed.{IsPutIn-written}
use Rattle.uhura_net.proofs.lists.Lists.link.Goals as goal

pub invariant_of-self : goal.invariant_of-self
invariant_of-self c =
    (IsPutIn-written c.args.self.now _ c.args.place.0 c.args.node c.index.result.now c.self.view_is c.self.invariant c.requires.place c.requires.node c.requires.free c.requires.room
    c.index.ensures).sound

pub returns-clause-linked : goal.returns-clause-linked
returns-clause-linked c =
    (IsPutIn-written c.args.self.now _ c.args.place.0 c.args.node c.index.result.now c.self.view_is c.self.invariant c.requires.place c.requires.node c.requires.free c.requires.room
    c.index.ensures).linked

pub returns-clause-listing : goal.returns-clause-listing
returns-clause-listing c =
    (IsPutIn-written c.args.self.now _ c.args.place.0 c.args.node c.index.result.now c.self.view_is c.self.invariant c.requires.place c.requires.node c.requires.free c.requires.room
    c.index.ensures).sound
