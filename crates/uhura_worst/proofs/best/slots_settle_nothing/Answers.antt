use Rattle.std.proofs.Common.{◌≤◌, List, sym, subst, ◌∙◌, arith}
use Rattle.uhura_choice.specs.declared.prefix.Pick.{Pick}
use Rattle.uhura_choice.specs.Branch.{IsEarlier}
use Rattle.uhura_choice.proofs.Earlier.{compare, same-branch}
use Rattle.uhura_plan.specs.Sound.{IsSound}
use Rattle.uhura_veto.specs.State.{State}
use Rattle.uhura_worst.specs.Proposal.{Proposal}
use Rattle.uhura_worst.specs.Cost.{cost}
use Rattle.uhura_worst.specs.Best.{IsBest}
use Rattle.uhura_worst.specs.Slots.{IsSameButForSlots}
use Rattle.uhura_worst.proofs.Slots.{IsWorth, same_worth, IsSameButForSlots-back}
use Rattle.uhura_worst.proofs.best.slots_settle_nothing.Goals as goal

-- the one costs at most as much as the other
costs-at-most : (a b : State) (p q : Proposal) → IsSound b.plan → IsSameButForSlots a b → IsBest a p → IsBest b q → cost b.plan 1 q ≤ cost a.plan 1 p
costs-at-most a b p q sound same best other =
    let worth : (m : Proposal) × IsWorth a b 1 p m = same_worth a b 1 p sound same best.cheapest.allowed in
    omega (arith, other.cheapest.least 1 worth.0 worth.1.allowed, worth.1.cost)

pub returns-clause-same_cost : goal.returns-clause-same_cost
returns-clause-same_cost c = λ a b p q sound_a sound_b same best other.
    omega (arith, costs-at-most a b p q sound_b same best other, costs-at-most b a q p sound_a (IsSameButForSlots-back a b same) other best)

pub returns-clause-same_branch : goal.returns-clause-same_branch
returns-clause-same_branch c = λ a b p q sound_a sound_b same best other.
    let back : IsSameButForSlots b a = IsSameButForSlots-back a b same in
    let here : (m : Proposal) × IsWorth a b 1 p m = same_worth a b 1 p sound_b same best.cheapest.allowed in
    let there : (m : Proposal) × IsWorth b a 1 q m = same_worth b a 1 q sound_a back other.cheapest.allowed in
    let costs = returns-clause-same_cost c a b p q sound_a sound_b same best other in
    same-branch p.branch there.0.branch
    (compare a.plan.choices p.branch there.0.branch best.cheapest.allowed.branch there.1.allowed.branch)
    (λ earlier. other.first 1 here.0 here.1.allowed (omega (arith, here.1.cost, costs))
    (subst (λ (branch : List Pick). IsEarlier branch q.branch) (sym here.1.branch) (subst (λ (branch : List Pick). IsEarlier p.branch branch) there.1.branch earlier)))
    (best.first 1 there.0 there.1.allowed (omega (arith, there.1.cost, costs)))
    ∙ there.1.branch

pub returns-clause-nothing : goal.returns-clause-nothing
returns-clause-nothing c = λ a b sound same none q allowed.
    let there : (m : Proposal) × IsWorth b a 1 q m = same_worth b a 1 q sound (IsSameButForSlots-back a b same) allowed in
    none there.0 there.1.allowed
