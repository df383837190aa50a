use Rattle.std.proofs.Common.{rules}
use Rattle.uhura_veto.specs.State.{State}
use Rattle.uhura_search.proofs.Bettering.{table-of}
use Rattle.uhura_search.proofs.FlowBounds.{table-bounded}
use Rattle.uhura_search.proofs.ask.make_ready.Goals as goal

pub returns-clause-ready : goal.returns-clause-ready
returns-clause-ready c =
    let state : State = record { plan = c.args.plan.now; vetoes = c.args.vetoes.now } in
    let learning = c.args.learning.now in
    let known = c.requires.known in
    record {
      sound = c.choices.ensures.sound;
      kept = record { store = known.store; table = known.table; present = known.present };
      listed = c.requires.listed;
      bounds = table-bounded state learning.table c.choices.ensures.sound c.count.ensures.sound (table-of state learning known);
      counts = record { added = search rules; settles = search rules };
    }
