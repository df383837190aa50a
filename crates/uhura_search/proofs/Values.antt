-- What a value is worth beside what is known of a branch.
use Rattle.std.proofs.Common.{◌≡◌, ℕ, List, Bool, true, false, Option, inl, inr, sym, subst, arith}
use Rattle.std.specs.Prelude.{ℤ, pos, ◌<ℤ◌, int_lt, IsTrue, IsFalse}
use Rattle.std.specs.Bool.{MatchBool}
use Rattle.std.proofs.lemmas.Int.{ints}
use Rattle.uhura_plan.specs.Lists.{Lists}
use Rattle.uhura_choice.specs.declared.prefix.Pick.{Pick}
use Rattle.uhura_net.specs.declared.place.TheConstants.{PLACES}
use Rattle.uhura_net.specs.Circulation.{value_of}
use Rattle.uhura_net.specs.Optimal.{loose_excess}
use Rattle.uhura_net.specs.Net.{net_value}
use Rattle.uhura_net.proofs.Paying.{optimal_value}
use Rattle.uhura_flow.specs.Flow.{FlowState, flow_edges, flow_units, flow_potentials, IsFlow}
use Rattle.uhura_veto.specs.State.{State}
use Rattle.uhura_conflict.specs.declared.bound.Bound.{Bound}
use Rattle.uhura_conflict.specs.declared.bound.Bound.TheVariants.{Nothing, Flow, Stuck}
use Rattle.uhura_conflict.specs.Learned.{Learned}
use Rattle.uhura_conflict.specs.Store.{Stored, IsBest, Exceeds, value_at}
use Rattle.uhura_search.specs.declared.leaf.LeafReason.TheVariants.{Empty, Learned as LearnedOf}
use Rattle.uhura_search.specs.declared.incumbent.Incumbent.{Incumbent}
use Rattle.uhura_search.specs.declared.learning.Learning.{Learning}
use Rattle.uhura_search.specs.Shut.{IsDear, IsShut}
use Rattle.uhura_search.specs.Learning.{HasAddedAt, IsBelow, IsWorthMore, IsShutByValue, IsCostValue}
use Rattle.uhura_search.proofs.Enough.{lt-true, lt-false, dear-more}
use Rattle.uhura_search.proofs.Reasons.{stuck-shut}
use Rattle.uhura_search.proofs.Small.{value-most}
use Rattle.uhura_search.proofs.Valid.{net-value}

pub stuck-shut_by_value : (store : Stored) (branch : List Pick) (value : ℤ) (key : ℕ) → IsBest store branch (Stuck key) → IsShutByValue store branch value
stuck-shut_by_value store branch value key is state best dear = stuck-shut state store best branch key is

-- more than the greatest flow, or no more, so that this flow shuts
pub flow-worth_more : (test : Bool) (store : Stored) (branch : List Pick) (most value : ℤ) (key : ℕ) → test ≡ int_lt most value → IsBest store branch (Flow most key) →
    MatchBool test (IsWorthMore store branch value) (IsShutByValue store branch value)
flow-worth_more true store branch most value key is best = record { bound = Flow most key; best = best; below = lt-true most value (sym is) }
flow-worth_more false store branch most value key is best = λ state incumbent dear.
    let c = best.1.conflict in
    let enough : IsDear state.plan incumbent branch most = dear-more state.plan incumbent branch value most (lt-false most value (sym is)) dear in
    record {
      reason = LearnedOf c;
      is_reason = record { key = key; applies = best.1.there; enough = inr (best.0 key c best.1.there, subst (λ v. IsDear state.plan incumbent branch v) best.1.worth enough) };
    }

-- more than nothing, or not, so that the picks alone shut
pub nothing-worth_more : (test : Bool) (store : Stored) (branch : List Pick) (value : ℤ) → test ≡ int_lt (pos 0) value → IsBest store branch Nothing →
    MatchBool test (IsWorthMore store branch value) (IsShutByValue store branch value)
nothing-worth_more true store branch value is best = record { bound = Nothing; best = best; below = lt-true (pos 0) value (sym is) }
nothing-worth_more false store branch value is best = λ state incumbent dear.
    record { reason = Empty; is_reason = dear-more state.plan incumbent branch value (pos 0) (lt-false (pos 0) value (sym is)) dear }

-- a flow of more than is known exceeds it
pub below-exceeds : (store : Stored) (c : Learned) (bound : Bound) (value : ℤ) → value_at store c ≡ value → IsBelow bound value → Exceeds store c bound
below-exceeds store c (Stuck key) value worth below = below
below-exceeds store c (Flow most key) value worth below = inr (subst (λ v. most <ℤ v) (sym worth) below)
below-exceeds store c Nothing value worth below = inr (subst (λ v. pos 0 <ℤ v) (sym worth) below)

-- a flow of this value that was added shuts
pub added-shut_by_value : (state : State) (plan : Lists) (b c : Learning) (branch : List Pick) (conflict : Learned) (value : ℤ) (best : Option Incumbent) → IsFalse conflict.stuck → value_at c.store conflict ≡ value →
    HasAddedAt plan b c branch conflict → IsDear state.plan best branch value → IsShut state c.store best branch
added-shut_by_value state plan b c branch conflict value best flow worth has dear = record {
  reason = LearnedOf conflict;
  is_reason = record { key = has.key; applies = record { there = has.adds.there; applies = has.applies }; enough = inr (flow, subst (λ v. IsDear state.plan best branch v) (sym worth) dear) };
}

-- and a closed walk does so always
pub added-shut : (state : State) (b c : Learning) (branch : List Pick) (conflict : Learned) (best : Option Incumbent) → IsTrue conflict.stuck → HasAddedAt state.plan b c branch conflict → IsShut state c.store best branch
added-shut state b c branch conflict best stuck has = record {
  reason = LearnedOf conflict;
  is_reason = record { key = has.key; applies = record { there = has.adds.there; applies = has.applies }; enough = inl stuck };
}

-- what a flow is worth leaves room for costs
pub flow-cost_value : (flow : FlowState) → IsFlow flow → IsCostValue (net_value flow.net)
flow-cost_value flow is =
    let worth : value_of PLACES (flow_edges flow) (flow_units flow) ≡ pos (loose_excess PLACES (flow_edges flow) (flow_potentials flow)) =
    optimal_value PLACES (flow_edges flow) (flow_units flow) (flow_potentials flow) is.sound.circulates is.optimal is.kept in
    record { least = omega (arith, ints, worth, net-value flow.net); most = omega (arith, ints, value-most flow.net is.sound, net-value flow.net) }
