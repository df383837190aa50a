use Rattle.std.proofs.Common.{Some, None}
use Rattle.uhura_shows.proofs.Passing.{have-before_first}
use Rattle.uhura_veto.specs.State.{State}
use Rattle.uhura_search.specs.Shut.{IsShut}
use Rattle.uhura_search.specs.Closed.{HasFront}
use Rattle.uhura_search.proofs.Learns.{some-both, some-stops, some-or_stops}
use Rattle.uhura_search.proofs.Shorter.{below-none}
use Rattle.uhura_search.proofs.Walked.{closed-next, closed-falls}
use Rattle.uhura_search.proofs.closing.close_all.Goals as goal

pub walk-init : goal.walk-init
walk-init c =
    let state : State = record { plan = c.args.plan.now; vetoes = c.args.vetoes.now } in
    let started = c.in_ok-best.ensures in
    record {
      is_branch = c.first_branch-branch.ensures.is_branch;
      before = have-before_first c.args.plan.now.choices (HasFront (IsShut state c.start.new.learning.store c.in_ok-best.best)) c.first_branch-branch.result c.first_branch-branch.ensures;
      none = below-none (IsShut state c.start.new.learning.store c.in_ok-best.best) c.first_branch-branch.result;
      reached = started.reached;
      learns = started.learns;
      ready = started.ready;
    }

pub walk-preserved : goal.walk-preserved
walk-preserved c =
    let state : State = record { plan = c.args.plan.now; vetoes = c.args.vetoes.now } in
    let closes = c.in_ok-passed.ensures.closes in
    record {
      is_branch = c.in-Some.ensures.is_branch;
      before = closed-next c.args.plan.now.choices (IsShut state c.walk.learning.store c.walk.best) (IsShut state c.close.new.learning.store c.close.new.best) c.walk.branch c.in_ok-passed.passed.prefix (Some c.in-Some.next)
          c.walk.invariant.is_branch c.walk.invariant.before c.in_ok-passed.ensures.begins closes.shut closes.kept c.in-Some.ensures;
      none = λ front begins short shut.
          let own = c.least_in-least.ensures front begins short in
          c.in_ok-passed.ensures.none front own.0 own.1 shut;
      reached = closes.reached;
      learns = some-both c.args.plan.now.choices c.args.learning.now c.walk.learning c.close.new.learning c.walk.invariant.learns closes.learns;
      ready = c.in_ok-passed.ensures.ready;
    }

pub walk-smaller : goal.walk-smaller
walk-smaller c = closed-falls c.args.plan.now.choices c.walk.branch c.in_ok-passed.passed.prefix c.in-Some.next c.in_ok-passed.ensures.begins c.in-Some.ensures

pub returns-in_err-passed-clause-stops : goal.returns-in_err-passed-clause-stops
returns-in_err-passed-clause-stops c = some-stops c.args.plan.now.choices c.args.learning.now c.walk.learning c.close.new.learning c.walk.invariant.learns c.in_err-passed.ensures.stops

pub returns-in_default-clause-closed : goal.returns-in_default-clause-closed
returns-in_default-clause-closed c branch is_branch =
    let state : State = record { plan = c.args.plan.now; vetoes = c.args.vetoes.now } in
    let closes = c.in_ok-passed.ensures.closes in
    closed-next c.args.plan.now.choices (IsShut state c.walk.learning.store c.walk.best) (IsShut state c.close.new.learning.store c.close.new.best) c.walk.branch c.in_ok-passed.passed.prefix None
    c.walk.invariant.is_branch c.walk.invariant.before c.in_ok-passed.ensures.begins closes.shut closes.kept c.in_default.ensures branch is_branch tt

pub returns-in_default-clause-learns : goal.returns-in_default-clause-learns
returns-in_default-clause-learns c = some-both c.args.plan.now.choices c.args.learning.now c.walk.learning c.close.new.learning c.walk.invariant.learns c.in_ok-passed.ensures.closes.learns

pub returns-in_default-clause-stops : goal.returns-in_default-clause-stops
returns-in_default-clause-stops c =
    some-or_stops c.args.plan.now.choices c.args.learning.now c.close.new.learning
    (some-both c.args.plan.now.choices c.args.learning.now c.walk.learning c.close.new.learning c.walk.invariant.learns c.in_ok-passed.ensures.closes.learns)
