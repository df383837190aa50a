use Rattle.std.proofs.Common.{◌≡◌, ℕ, ◌<◌, ◌≤◌, sym, subst, arith}
use Rattle.std.proofs.lemmas.Int.{ints}
use Rattle.std.specs.Prelude.{ℤ, ◌≤ℤ◌, length}
use Rattle.uhura_veto.specs.State.{State}
use Rattle.uhura_worst.specs.Proposal.{Proposal, CoversAllDurations}
use Rattle.uhura_worst.specs.Cost.{cost}
use Rattle.uhura_worst.specs.Best.{IsBest}
use Rattle.uhura_choice.proofs.Earlier.{compare, same-branch}
use Rattle.uhura_worst.proofs.best.best_is_settled.Goals as goal

-- the one costs at most as much as the other
costs-at-most : (state : State) (p q : Proposal) → IsBest state p → IsBest state q → cost state.plan 1 p ≤ cost state.plan 1 q
costs-at-most state p q best other = omega (arith, best.cheapest.least 1 q other.cheapest.allowed)

pub returns-clause-same_cost : goal.returns-clause-same_cost
returns-clause-same_cost c = λ state p q best other. omega (arith, costs-at-most state p q best other, costs-at-most state q p other best)

pub returns-clause-same_branch : goal.returns-clause-same_branch
returns-clause-same_branch c = λ state p q best other.
    let same = returns-clause-same_cost c state p q best other in
    same-branch p.branch q.branch
    (compare state.plan.choices p.branch q.branch best.cheapest.allowed.branch other.cheapest.allowed.branch)
    (other.first 1 p best.cheapest.allowed (omega (arith, same)))
    (best.first 1 q other.cheapest.allowed (omega (arith, same)))

-- the times of the other meet the requirements with the branch and the units of the one
meets-too : (state : State) (branch branch' : _) (units units' : _) (times : ℕ → ℤ) → branch ≡ branch' → units ≡ units' →
    CoversAllDurations state.plan 1 (record { branch = branch'; units = units'; times = times }) → CoversAllDurations state.plan 1 (record { branch = branch; units = units; times = times })
meets-too state branch branch' units units' times same equal met =
    subst (λ b. CoversAllDurations state.plan 1 (record { branch = b; units = units; times = times })) (sym same)
    (subst (λ u. CoversAllDurations state.plan 1 (record { branch = branch'; units = u; times = times })) (sym equal) met)

-- no event is later in the one
comes-by : (state : State) (p q : Proposal) → IsBest state p → IsBest state q → p.branch ≡ q.branch → p.units ≡ q.units →
    (e : ℕ) → e < length state.plan.events → p.times e ≤ℤ q.times e
comes-by state p q best other same equal e below =
    best.earliest.least q.times other.earliest.from_zero (meets-too state p.branch q.branch p.units q.units q.times same equal other.cheapest.allowed.covers) e below

pub returns-clause-same_times : goal.returns-clause-same_times
returns-clause-same_times c = λ state p q best other equal e below.
    let same = returns-clause-same_branch c state p q best other in
    omega (arith, ints, comes-by state p q best other same equal e below, comes-by state q p other best (sym same) (sym equal) e below)
