use Rattle.std.proofs.Common.{ℕ, List, All, sym, subst}
use Rattle.uhura_plan.specs.declared.key.EdgeKey.{EdgeKey}
use Rattle.uhura_net.specs.Place.{HasPlace}
use Rattle.uhura_veto.specs.State.{State}
use Rattle.uhura_shows.specs.Leaf as leaf
use Rattle.uhura_cert.specs.declared.document.Reason.{Reason}
use Rattle.uhura_cert.specs.Document.{IsReasonOf}
use Rattle.uhura_cert.specs.Order.{place_in}
use Rattle.uhura_check.specs.Confirmed.{reason_of}
use Rattle.uhura_check.specs.Edges.{AreFew}
use Rattle.uhura_check.specs.Failure.{Tells}
use Rattle.uhura_check.specs.Table.{reason_asks, head_line}
use Rattle.uhura_check.proofs.Placed.{units-few, edges-placed}
use Rattle.uhura_check.proofs.reasons.reason_failure.Goals as goal

pub own_flow_failure-requires-clause-pairs : goal.own_flow_failure-requires-clause-pairs
own_flow_failure-requires-clause-pairs c =
    let d = c.args.document.now in
    subst (λ (l : List (EdgeKey × ℕ)). AreFew l) (sym c.as_slice.ensures)
    (units-few d.state.plan c.in-Flow.edges c.state_of-state.ensures.fits.state.plan (subst (λ (r : Reason). IsReasonOf (place_in d.state.plan) d.state r) c.in-Flow.is c.requires.fits))

pub own_walk_failure-requires-clause-keys : goal.own_walk_failure-requires-clause-keys
own_walk_failure-requires-clause-keys c =
    let d = c.args.document.now in
    subst (λ (l : List EdgeKey). All HasPlace l) (sym c.as_slice-in-Stuck.ensures)
    (edges-placed d.state.plan c.in-Stuck.edges c.state_of-state.ensures.fits.state.plan (subst (λ (r : Reason). IsReasonOf (place_in d.state.plan) d.state r) c.in-Stuck.is c.requires.fits))

pub returns-in-Denied : goal.returns-in-Denied
returns-in-Denied c = λ line own.
    let d = c.args.document.now in
    subst (λ (r : Reason). Tells d.state c.args.answer.now (reason_asks c.args.prefix.now line (head_line d line r) (reason_of d.shared r)) c.denied_failure.result) (sym c.in-Denied.is)
    (subst (λ (s : State). Tells s c.args.answer.now (reason_asks c.args.prefix.now line line (leaf.Denied c.in-Denied.veto)) c.denied_failure.result) c.state_of-state.ensures.state
    (c.denied_failure.ensures c.args.answer.now line line own))

pub returns-in-Flow : goal.returns-in-Flow
returns-in-Flow c = λ line own.
    let d = c.args.document.now in
    subst (λ (r : Reason). Tells d.state c.args.answer.now (reason_asks c.args.prefix.now line (head_line d line r) (reason_of d.shared r)) c.own_flow_failure.result) (sym c.in-Flow.is)
    (subst (λ (l : List (EdgeKey × ℕ)). Tells d.state c.args.answer.now (reason_asks c.args.prefix.now line line (leaf.Flow l)) c.own_flow_failure.result) c.as_slice.ensures
    (subst (λ (s : State). Tells s c.args.answer.now (reason_asks c.args.prefix.now line line (leaf.Flow c.as_slice.result.now)) c.own_flow_failure.result) c.state_of-state.ensures.state
    (c.own_flow_failure.ensures line own)))

pub returns-in-Stuck : goal.returns-in-Stuck
returns-in-Stuck c = λ line own.
    let d = c.args.document.now in
    subst (λ (r : Reason). Tells d.state c.args.answer.now (reason_asks c.args.prefix.now line (head_line d line r) (reason_of d.shared r)) c.own_walk_failure.result) (sym c.in-Stuck.is)
    (subst (λ (l : List EdgeKey). Tells d.state c.args.answer.now (reason_asks c.args.prefix.now line line (leaf.Stuck l)) c.own_walk_failure.result) c.as_slice-in-Stuck.ensures
    (subst (λ (s : State). Tells s c.args.answer.now (reason_asks c.args.prefix.now line line (leaf.Stuck c.as_slice-in-Stuck.result.now)) c.own_walk_failure.result) c.state_of-state.ensures.state
    (c.own_walk_failure.ensures c.args.answer.now line line own)))

pub returns-in-Entry : goal.returns-in-Entry
returns-in-Entry c = λ line own.
    let d = c.args.document.now in
    subst (λ (r : Reason). Tells d.state c.args.answer.now (reason_asks c.args.prefix.now line (head_line d line r) (reason_of d.shared r)) c.used_failure.result) (sym c.in-Entry.is) (c.used_failure.ensures line own)
