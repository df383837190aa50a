use Rattle.std.proofs.Common.{◌≤◌, ℕ, length, sym, subst, ◌∙◌, arith}
use Rattle.uhura_relax.specs.Schedule.{HasNoSchedule}
use Rattle.uhura_relax.proofs.Placed.{AreAllChosen, AreAllChosen-filled}
use Rattle.uhura_relax.proofs.Opposites.{IsOppositeOf, IsOppositeOf-read}
use Rattle.uhura_relax.proofs.LeastTimes.{IsEarliestSchedule-opposite, HasNoSchedule-backward}
use Rattle.uhura_cycle.specs.Verdict.{AreGreatestTimes}
use Rattle.uhura_net.specs.Edges.{chosen_edges}
use Rattle.uhura_relax.proofs.earliest_times.earliest_in.Goals as goal

pub opposite-requires : goal.opposite-requires
opposite-requires c =
    let greatest : AreGreatestTimes (chosen_edges c.fill_turned.new.table c.deref.result.now) c.in-Potentials.times.now = c.in-Potentials.ensures in
    omega (arith, greatest.nodes, c.events-events.ensures.count, c.events-events.ensures.sound.counts.events)

pub returns-in_ok-schedule-in-Potentials : goal.returns-in_ok-schedule-in-Potentials
returns-in_ok-schedule-in-Potentials c =
    let plan = c.args.plan.now in
    let times = c.in-Potentials.times.now in
    let schedule = c.in_ok-schedule-in-Potentials.schedule in
    let all : AreAllChosen c.deref.result.now = AreAllChosen-filled c.deref.result.now (c.deref.ensures.value ∙ c.args.scratch.now.all_chosen) in
    let greatest : AreGreatestTimes (chosen_edges c.fill_turned.new.table c.deref.result.now) times = c.in-Potentials.ensures in
    let inside : c.events-events.result ≤ length times = omega (arith, greatest.nodes, c.events-events.ensures.count, c.events-events.ensures.sound.counts.events) in
    let opposite : IsOppositeOf times c.events-events.result schedule =
    IsOppositeOf-read times c.events-events.result schedule inside (λ node below. greatest.most node (omega (arith, below, greatest.nodes))) c.in_ok-schedule-in-Potentials.ensures in
    IsEarliestSchedule-opposite plan c.args.branch.now c.args.loosening.now c.fill_turned.new.table c.deref.result.now times schedule c.events-events.ensures.sound c.requires
    all c.fill_turned.ensures greatest (subst (λ (events : ℕ). IsOppositeOf times events schedule) c.events-events.ensures.count opposite)

pub returns-in_ok-cycle-in-Negative : goal.returns-in_ok-cycle-in-Negative
returns-in_ok-cycle-in-Negative c =
    let all : AreAllChosen c.deref.result.now = AreAllChosen-filled c.deref.result.now (c.deref.ensures.value ∙ c.args.scratch.now.all_chosen) in
    subst (HasNoSchedule c.args.plan.now c.args.branch.now c.args.loosening.now) (sym c.in_ok-cycle-in-Negative.ensures)
    (HasNoSchedule-backward c.args.plan.now c.args.branch.now c.args.loosening.now c.fill_turned.new.table c.deref.result.now c.in-Negative.places.now c.events-events.ensures.sound c.requires
    all c.fill_turned.ensures c.in-Negative.ensures)
