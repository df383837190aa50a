-- What is read off potentials costs what they pass the loose edges by.
use Rattle.std.proofs.Common.{◌≡◌, ℕ, ◌+◌, ◌*◌, ℤ, pos, negsuc, ◌-ℤ◌, List, ap, sym, subst, ◌∙◌, arith}
use Rattle.std.specs.Prelude.{◌*ℤ◌, neg_ℤ, if◌then◌else◌}
use Rattle.std.proofs.lemmas.Int.{ints}
use Rattle.std.proofs.Math.Path.{fun_ext}
use Rattle.uhura_plan.specs.declared.key.SideKey.{SideKey}
use Rattle.uhura_plan.specs.Lists.{Lists}
use Rattle.uhura_plan.specs.Sound.{IsSound}
use Rattle.uhura_choice.specs.declared.prefix.Pick.{Pick}
use Rattle.uhura_choice.specs.Branch.{picked_cost}
use Rattle.uhura_net.specs.declared.edge.Edge.{Edge}
use Rattle.uhura_net.specs.declared.place.TheConstants.{PLACES}
use Rattle.uhura_net.specs.Place.{is_loose}
use Rattle.uhura_net.specs.Edges.{Edges, edge_at, AreKept, time_at}
use Rattle.uhura_net.specs.Circulation.{Units, IsCirculation}
use Rattle.uhura_net.specs.Optimal.{slack_of, below_zero, excess_of, IsOptimal, firm_edges, paid_excess, loose_excess}
use Rattle.uhura_net.proofs.Paying.{optimal_value}
use Rattle.uhura_net.proofs.Scaled.{once}
use Rattle.uhura_net.proofs.Sums.{sum_below-same}
use Rattle.uhura_veto.specs.State.{State}
use Rattle.uhura_worst.specs.Units.{side_units}
use Rattle.uhura_worst.specs.Proposal.{Proposal}
use Rattle.uhura_worst.specs.Allowed.{Allowed}
use Rattle.uhura_worst.specs.Cost.{cost}
use Rattle.uhura_worst.specs.WorstCase.{excess, proposal_at}
use Rattle.uhura_worst.proofs.PassedUnits.{keeping-allowed}
use Rattle.uhura_dual.specs.Settled.{AreAllSettled, worth_with}
use Rattle.uhura_dual.specs.ReadOff.{passed_side, read_off, IsAllowedWhereKept, CostsItsExcess}
use Rattle.uhura_dual.proofs.Paid.{passed_at}
use Rattle.uhura_dual.proofs.PlacesCost.{loose_paid, places-cost}

-- how far an integer is below 0 is how far its opposite is above
turned : (z w : ℤ) → z ≡ neg_ℤ w → below_zero z ≡ excess w
turned (pos m) (pos n) is = omega (arith, ints, is)
turned (pos m) (negsuc n) is = omega (arith, ints, is)
turned (negsuc m) (pos n) is = omega (arith, ints, is)
turned (negsuc m) (negsuc n) is = omega (arith, ints, is)

excess-passed : (times : ℕ → ℤ) (edge : Edge) → excess_of times edge ≡ passed_at 1 times edge
excess-passed times edge =
    turned (slack_of times edge) ((times edge.to -ℤ times edge.from) -ℤ (pos 1 *ℤ edge.bound)) (omega (arith, ints, once edge.bound))

pub excess-cost : (state : State) (branch : List Pick) (times : ℕ → ℤ) (edges : Edges) → IsSound state.plan → AreAllSettled state branch edges →
    cost state.plan 1 (proposal_at state.plan 1 branch times) ≡ picked_cost state.plan.choices branch + loose_excess PLACES edges times
excess-cost state branch times edges sound all =
    let same = sum_below-same PLACES (λ place. if is_loose place then paid_excess (edge_at edges place) times else 0) (loose_paid 1 times edges)
    (λ place _. ap (λ (n : ℕ). if is_loose place then (edge_at edges place).capacity * n else 0) (excess-passed times (edge_at edges place))) in
    omega (arith, same, places-cost state branch 1 times edges sound all)

-- so an optimal circulation and the picks of a branch are worth that
pub optimal-worth : (state : State) (branch : List Pick) (edges : Edges) (units : Units) (potentials : ℕ → ℤ) → IsSound state.plan → AreAllSettled state branch edges →
    IsCirculation PLACES edges units → IsOptimal edges units potentials → AreKept (firm_edges edges) potentials →
    worth_with state.plan branch edges units ≡ pos (cost state.plan 1 (proposal_at state.plan 1 branch potentials))
optimal-worth state branch edges units potentials sound all circulation optimal kept =
    omega (arith, ints, optimal_value PLACES edges units potentials circulation optimal kept, excess-cost state branch potentials edges sound all)

-- pairs that give each side what the potentials pass it by make the proposal that takes the potentials
pub read_off-same : (plan : Lists) (branch : List Pick) (pairs : List (SideKey × ℕ)) (potentials : List ℤ) → ((key : SideKey) → side_units pairs key ≡ passed_side plan branch (time_at potentials) key) →
    read_off branch pairs potentials ≡ proposal_at plan 1 branch (time_at potentials)
read_off-same plan branch pairs potentials same =
    let with : (SideKey → ℕ) → Proposal = λ units. record { branch = branch; units = units; times = time_at potentials } in
    ap with (fun_ext same)

pub read_off-allowed : (state : State) (branch : List Pick) (pairs : List (SideKey × ℕ)) (potentials : List ℤ) → IsSound state.plan →
    ((key : SideKey) → side_units pairs key ≡ passed_side state.plan branch (time_at potentials) key) → IsAllowedWhereKept state branch pairs potentials
read_off-allowed state branch pairs potentials sound same is_branch not_denied keeps =
    subst (Allowed state 1) (sym (read_off-same state.plan branch pairs potentials same))
    (keeping-allowed state 1 branch (time_at potentials) sound (omega arith) is_branch not_denied keeps)

pub read_off-cost : (state : State) (branch : List Pick) (pairs : List (SideKey × ℕ)) (potentials : List ℤ) → IsSound state.plan →
    ((key : SideKey) → side_units pairs key ≡ passed_side state.plan branch (time_at potentials) key) → CostsItsExcess state branch pairs potentials
read_off-cost state branch pairs potentials sound same edges all =
    ap (cost state.plan 1) (read_off-same state.plan branch pairs potentials same) ∙ excess-cost state branch (time_at potentials) edges sound all
