use Rattle.std.proofs.Common.{refl}
use Rattle.uhura_veto.specs.State.{State}
use Rattle.uhura_search.specs.Answer.{shown_leaves}
use Rattle.uhura_search.proofs.Solved.{solved-found, solved-at}
use Rattle.uhura_search.proofs.ask.found.Goals as goal

pub returns-clause-answer : goal.returns-clause-answer
returns-clause-answer c =
    let state : State = record { plan = c.args.plan.now; vetoes = c.args.vetoes.now } in
    let solved = c.in_ok-potentials.ensures in
    solved-found state c.solve.new.learning c.args.best (shown_leaves state c.args.leaves.items) c.requires.ready.sound solved.kept solved.flow solved.stands c.requires.reached c.requires.shows
    c.in_ok-potentials.potentials.items c.args.leaves.items solved.potentials solved.within refl

pub returns-clause-solved : goal.returns-clause-solved
returns-clause-solved c =
    let state : State = record { plan = c.args.plan.now; vetoes = c.args.vetoes.now } in
    let solved = c.in_ok-potentials.ensures in
    solved-at state c.solve.new.learning c.args.best (shown_leaves state c.args.leaves.items) c.requires.ready.sound solved.kept solved.flow solved.stands c.requires.reached c.requires.shows
    c.in_ok-potentials.potentials.items solved.potentials
