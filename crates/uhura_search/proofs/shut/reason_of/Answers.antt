use Rattle.std.proofs.Common.{sym}
use Rattle.std.proofs.lemmas.Result.{IfOk-weaker}
use Rattle.std.specs.Prelude.{◌≡◌, option_map}
use Rattle.uhura_veto.specs.State.{State}
use Rattle.uhura_conflict.specs.Store.{conflict_at}
use Rattle.uhura_search.specs.declared.leaf.LeafReason.TheVariants.{Learned as LearnedOf}
use Rattle.uhura_search.specs.Shut.{FindsReason}
use Rattle.uhura_search.proofs.Reasons.{stuck-found, flow-found, nothing-dear, not-hopeless_open}
use Rattle.uhura_search.proofs.shut.reason_of.Goals as goal

pub returns-then-not-is_hopeless : goal.returns-then-not-is_hopeless
returns-then-not-is_hopeless c =
    let state : State = record { plan = c.args.plan.now; vetoes = c.args.vetoes.now } in
    not-hopeless_open state c.args.store.now c.args.best.now c.args.prefix.now (sym c.in_default.ensures.first) c.if-not-is_hopeless.ensures

pub returns-in-Stuck : goal.returns-in-Stuck
returns-in-Stuck c =
    let state : State = record { plan = c.args.plan.now; vetoes = c.args.vetoes.now } in
    let store = c.args.store.now in
    IfOk-weaker c.learned.result (λ reason. reason ≡ option_map (λ c. LearnedOf c) (conflict_at store c.in-Stuck.key)) (FindsReason state store c.args.best.now c.args.prefix.now)
    (λ reason is. stuck-found state store c.args.best.now c.args.prefix.now c.in-Stuck.key reason c.in-Stuck.ensures.best is) c.learned.ensures

pub returns-in-Flow : goal.returns-in-Flow
returns-in-Flow c =
    let state : State = record { plan = c.args.plan.now; vetoes = c.args.vetoes.now } in
    let store = c.args.store.now in
    IfOk-weaker c.learned-in-Flow.result (λ reason. reason ≡ option_map (λ c. LearnedOf c) (conflict_at store c.in-Flow.key)) (FindsReason state store c.args.best.now c.args.prefix.now)
    (λ reason is. flow-found state store c.args.best.now c.args.prefix.now c.in-Flow.value c.in-Flow.key reason c.in-Flow.ensures.best c.if-not-is_hopeless.ensures is) c.learned-in-Flow.ensures

pub returns-in-Nothing : goal.returns-in-Nothing
returns-in-Nothing c =
    nothing-dear c.args.plan.now c.args.store.now c.args.best.now c.args.prefix.now c.in-Nothing.ensures.best c.if-not-is_hopeless.ensures
