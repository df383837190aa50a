use Rattle.std.proofs.Common.{List, [], sym, subst}
use Rattle.uhura_choice.specs.declared.prefix.Pick.{Pick}
use Rattle.uhura_choice.specs.Branch.{IsPrefix}
use Rattle.uhura_choice.proofs.Prefixes.{sound-have_alternatives, starts-prefix}
use Rattle.uhura_search.proofs.Learns.{some-both, some-stops, some-or_stops}
use Rattle.uhura_search.proofs.starting.start.Goals as goal

pub follow-like-requires : goal.follow-like-requires
follow-like-requires c =
    let choices = c.args.plan.now.choices in
    subst (λ (p : List Pick). IsPrefix choices p) (sym c.empty.ensures) (starts-prefix choices [] (sound-have_alternatives c.args.plan.now c.requires.sound) tt)

pub returns-in_err-change_each-clause-stops : goal.returns-in_err-change_each-clause-stops
returns-in_err-change_each-clause-stops c =
    some-stops c.args.plan.now.choices c.args.learning.now c.loop-round.learning c.change_each.new.learning c.loop-round.invariant.learns c.in_err-change_each.ensures.stops

pub returns-then-not-branch-clause-learns : goal.returns-then-not-branch-clause-learns
returns-then-not-branch-clause-learns c =
    some-both c.args.plan.now.choices c.args.learning.now c.loop-round.learning c.change_each.new.learning c.loop-round.invariant.learns c.in_ok-change_each.ensures.tries.learns

pub returns-then-not-branch-clause-stops : goal.returns-then-not-branch-clause-stops
returns-then-not-branch-clause-stops c =
    some-or_stops c.args.plan.now.choices c.args.learning.now c.change_each.new.learning
    (some-both c.args.plan.now.choices c.args.learning.now c.loop-round.learning c.change_each.new.learning c.loop-round.invariant.learns c.in_ok-change_each.ensures.tries.learns)

pub loop-round-preserved : goal.loop-round-preserved
loop-round-preserved c =
    let tries = c.in_ok-change_each.ensures.tries in
    record {
      learns = some-both c.args.plan.now.choices c.args.learning.now c.loop-round.learning c.change_each.new.learning c.loop-round.invariant.learns tries.learns;
      reached = tries.reached;
      ready = c.in_ok-change_each.ensures.ready;
    }
