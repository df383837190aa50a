use Rattle.std.proofs.Common.{◌≡◌, subst, take, arith}
use Rattle.std.proofs.lemmas.List.{take_all}
use Rattle.uhura_choice.specs.Children.{children}
use Rattle.uhura_choice.proofs.Prefixes.{sound-have_alternatives}
use Rattle.uhura_veto.specs.State.{State}
use Rattle.uhura_search.specs.Shut.{IsShut, IsNoted, IsReason}
use Rattle.uhura_search.specs.Appended.{AppendsCover}
use Rattle.uhura_search.proofs.Appending.{appends-nothing, appends-one, appends-child, appends-up, none-above_child, child-longer, child-prefix, child-smaller}
use Rattle.uhura_search.proofs.cover.+put_leaves.Goals as goal

pub returns-in-Some : goal.returns-in-Some
returns-in-Some t c =
    let state : State = record { plan = c.args.plan.now; vetoes = c.args.vetoes.now } in
    let noted : IsReason state c.args.store.now c.args.best.now c.args.prefix c.in-Some.reason = rw c.in-Some.is at c.in_ok-reason.ensures in
    appends-one c.args.plan.now.choices (IsNoted state c.args.store.now c.args.best.now) (record { prefix = c.args.prefix; reason = c.in-Some.reason }) c.args.leaves.now.items
    c.push.new.self.items c.in_ok-push.ensures.items c.requires.prefix noted

pub put_leaves-requires : goal.put_leaves-requires
put_leaves-requires t c =
    let state : State = record { plan = c.args.plan.now; vetoes = c.args.vetoes.now } in
    let choices = c.args.plan.now.choices in
    let have = sound-have_alternatives c.args.plan.now c.choices.ensures.sound in
    let not_shut : IsShut state c.args.store.now c.args.best.now c.args.prefix → ⊥ = rw c.in_default.is at c.in_ok-reason.ensures in
    let longer = child-longer choices c.args.prefix c.child-child.result c.loop-index.index have c.requires.prefix c.child-child.ensures in
    let is_prefix = child-prefix choices c.args.prefix c.child-child.result c.loop-index.index have c.requires.prefix c.child-child.ensures in
    let smaller = child-smaller choices c.args.prefix c.child-child.result c.loop-index.index have c.requires.prefix c.child-child.ensures in
    let above = none-above_child (IsShut state c.args.store.now c.args.best.now) c.args.prefix c.child-child.result c.requires.above not_shut longer in
    (omega (arith, smaller, c.decreases), (is_prefix, (c.requires.branch, (c.requires.small, (above, c.requires.closed)))))

pub loop-index-init : goal.loop-index-init
loop-index-init t c =
    appends-nothing c.args.plan.now.choices (IsNoted (record { plan = c.args.plan.now; vetoes = c.args.vetoes.now }) c.args.store.now c.args.best.now) c.args.leaves.now.items

pub loop-index-preserved : goal.loop-index-preserved
loop-index-preserved t c =
    let state : State = record { plan = c.args.plan.now; vetoes = c.args.vetoes.now } in
    appends-child c.args.plan.now.choices (IsNoted state c.args.store.now c.args.best.now) c.args.prefix c.child-child.result c.loop-index.index c.args.leaves.now.items c.loop-index.leaves.items
    c.put_leaves.new.leaves.items (sound-have_alternatives c.args.plan.now c.choices.ensures.sound) c.requires.prefix c.child-child.ensures c.loop-index.invariant c.in_ok-put_leaves.ensures

pub returns : goal.returns
returns t c =
    let state : State = record { plan = c.args.plan.now; vetoes = c.args.vetoes.now } in
    let choices = c.args.plan.now.choices in
    let not_shut : IsShut state c.args.store.now c.args.best.now c.args.prefix → ⊥ = rw c.in_default.is at c.in_ok-reason.ensures in
    let all : take c.loop-index.index (children choices c.args.prefix) ≡ children choices c.args.prefix = take_all c.loop-index.index (children choices c.args.prefix) (omega (arith, c.children-index-end.ensures)) in
    appends-up choices (IsShut state c.args.store.now c.args.best.now) (IsNoted state c.args.store.now c.args.best.now) c.args.prefix c.args.leaves.now.items c.loop-index.leaves.items
    (sound-have_alternatives c.args.plan.now c.choices.ensures.sound) c.requires.prefix c.requires.above c.requires.closed not_shut
    (subst (λ tops. AppendsCover choices (IsNoted state c.args.store.now c.args.best.now) tops c.args.leaves.now.items c.loop-index.leaves.items) all c.loop-index.invariant)
