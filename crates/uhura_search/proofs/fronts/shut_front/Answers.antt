use Rattle.std.proofs.Common.{sym, subst, ap, length, arith}
use Rattle.std.specs.Prelude.{◌+◌, ◌/◌}
use Rattle.uhura_choice.specs.Branch.{IsPrefix}
use Rattle.uhura_choice.proofs.Prefixes.{branch-prefix, prefix-take}
use Rattle.uhura_veto.specs.State.{State}
use Rattle.uhura_search.specs.Shut.{IsShut}
use Rattle.uhura_search.proofs.Lasting.{shut-lasts}
use Rattle.uhura_search.proofs.Shorter.{open-none, below-fewer, first-shortest, within-more, within-shut, within-open, within-shortest}
use Rattle.uhura_search.proofs.fronts.shut_front.Goals as goal

pub is_shut-requires-clause-prefix : goal.is_shut-requires-clause-prefix
is_shut-requires-clause-prefix c =
    let choices = c.args.plan.now.choices in
    subst (λ p. IsPrefix choices p) (sym c.front_of-front.ensures) (prefix-take choices c.min-first.result c.args.branch.now (branch-prefix choices c.args.branch.now c.requires.is_branch))

pub returns-then-is_shut : goal.returns-then-is_shut
returns-then-is_shut c =
    let state : State = record { plan = c.args.plan.now; vetoes = c.args.vetoes.now } in
    let Shut = IsShut state c.args.store.now c.args.best.now in
    let branch = c.args.branch.now in
    first-shortest Shut branch c.front_of-front.result c.min-first.result (omega (arith, c.min-first.ensures, ap length c.entries-most.ensures.entries)) c.front_of-front.ensures c.if-is_shut.ensures
    (below-fewer Shut branch c.args.least c.min-first.result (omega (arith, c.min-first.ensures)) c.requires.none)

pub is_shut-requires-2-clause-prefix : goal.is_shut-requires-2-clause-prefix
is_shut-requires-2-clause-prefix c = branch-prefix c.args.plan.now.choices c.args.branch.now c.requires.is_branch

pub returns-then-not-is_shut : goal.returns-then-not-is_shut
returns-then-not-is_shut c =
    let state : State = record { plan = c.args.plan.now; vetoes = c.args.vetoes.now } in
    open-none (IsShut state c.args.store.now c.args.best.now) c.args.branch.now (shut-lasts state c.args.store.now c.args.best.now) c.if-not-is_shut.ensures

pub narrow-init : goal.narrow-init
narrow-init c =
    let state : State = record { plan = c.args.plan.now; vetoes = c.args.vetoes.now } in
    within-more (IsShut state c.args.store.now c.args.best.now) c.args.branch.now c.front_of-front.result c.min-first.result (length c.entries-most.result.now) (shut-lasts state c.args.store.now c.args.best.now)
    (ap length c.entries-most.ensures.entries) (omega (arith, c.min-first.ensures)) c.front_of-front.ensures c.if-is_shut.ensures c.if-not-is_shut.ensures

pub is_shut-requires-in-narrow-clause-prefix : goal.is_shut-requires-in-narrow-clause-prefix
is_shut-requires-in-narrow-clause-prefix c =
    let choices = c.args.plan.now.choices in
    subst (λ p. IsPrefix choices p) (sym c.front_of-prefix.ensures) (prefix-take choices ((c.narrow.least + c.narrow.most) / 2) c.args.branch.now (branch-prefix choices c.args.branch.now c.requires.is_branch))

pub narrow-preserved-then-is_shut-2 : goal.narrow-preserved-then-is_shut-2
narrow-preserved-then-is_shut-2 c =
    let state : State = record { plan = c.args.plan.now; vetoes = c.args.vetoes.now } in
    within-shut (IsShut state c.args.store.now c.args.best.now) c.args.branch.now c.front_of-prefix.result c.narrow.least c.narrow.most ((c.narrow.least + c.narrow.most) / 2) (omega (arith, c.narrow-test.true)) (omega (arith, c.narrow-test.true))
    c.front_of-prefix.ensures c.if-is_shut-2.ensures c.narrow.invariant

pub narrow-preserved : goal.narrow-preserved
narrow-preserved c =
    let state : State = record { plan = c.args.plan.now; vetoes = c.args.vetoes.now } in
    within-open (IsShut state c.args.store.now c.args.best.now) c.args.branch.now c.front_of-prefix.result c.narrow.least c.narrow.most ((c.narrow.least + c.narrow.most) / 2) (shut-lasts state c.args.store.now c.args.best.now)
    (omega (arith, c.narrow-test.true)) c.front_of-prefix.ensures c.if-is_shut-2.ensures c.narrow.invariant

pub returns : goal.returns
returns c =
    let state : State = record { plan = c.args.plan.now; vetoes = c.args.vetoes.now } in
    within-shortest (IsShut state c.args.store.now c.args.best.now) c.args.branch.now c.front_of.result c.narrow.least c.narrow.most c.narrow-test.false c.front_of.ensures c.narrow.invariant
