-- Duality on plans: a circulation over settled edges bounds the cost of all that is allowed.
use Rattle.std.proofs.Common.{◌≡◌, ℕ, ◌*◌, ◌≤◌, Bool, true, false, ℤ, pos, ◌-ℤ◌, ◌≤ℤ◌, List, Option, None, Some, IfSome, IsTrue, slice_get, Contains, refl, sym, ap, subst, ◌∙◌, arith}
use Rattle.std.specs.Prelude.{◌*ℤ◌, if◌then◌else◌, ◌==◌}
use Rattle.std.specs.Option.{option_map_or}
use Rattle.std.proofs.lemmas.Int.{ints}
use Rattle.std.proofs.Math.Nat.{mul-le-mul_left}
use Rattle.uhura_plan.specs.declared.limits.TheConstants.{REQUIREMENTS, UNCERTAINS}
use Rattle.uhura_plan.specs.declared.key.Side.{Side}
use Rattle.uhura_plan.specs.declared.key.Side.TheVariants.{Lower, Upper}
use Rattle.uhura_plan.specs.declared.requirement.Requirement.{Requirement}
use Rattle.uhura_plan.specs.declared.uncertain.Uncertain.{Uncertain}
use Rattle.uhura_plan.specs.Find.{requirement_in}
use Rattle.uhura_plan.specs.Sides.{loosening_rate, rate_of}
use Rattle.uhura_plan.specs.Sound.{IsSound}
use Rattle.uhura_choice.specs.declared.prefix.Pick.{Pick}
use Rattle.uhura_choice.specs.Branch.{holds, picked_cost}
use Rattle.uhura_choice.specs.Order.{IsFrontOf}
use Rattle.uhura_net.specs.declared.edge.Edge.{Edge}
use Rattle.uhura_net.specs.declared.place.TheConstants.{PLACES}
use Rattle.uhura_net.specs.Place.{is_loose, is_loose_key}
use Rattle.uhura_net.specs.Edges.{Edges, edge_at, Keeps}
use Rattle.uhura_net.specs.Circulation.{Units, IsCirculation, value_of}
use Rattle.uhura_net.proofs.Rows.{is_loose-place_number}
use Rattle.uhura_net.proofs.Scaled.{scaled-plus}
use Rattle.uhura_net.proofs.Sums.{sum_below-le}
use Rattle.uhura_net.proofs.Duality.{weak_duality-capacities}
use Rattle.uhura_veto.specs.State.{State}
use Rattle.uhura_worst.specs.declared.constraint.Constraint.{Constraint}
use Rattle.uhura_worst.specs.Proposal.{Proposal, loosened, narrowed}
use Rattle.uhura_worst.specs.Allowed.{Allowed}
use Rattle.uhura_worst.specs.Cost.{cost}
use Rattle.uhura_worst.specs.Edges.{requirement_constraint, duration_constraint, edge_of}
use Rattle.uhura_worst.specs.WorstCase.{loosened_edge, MeetsWorstCase, extreme_times, KeepsFirmEdges, passed_by, requirement_passed, proposal_at}
use Rattle.uhura_worst.proofs.SoundItems.{Contains-found}
use Rattle.uhura_worst.proofs.WorstCase.{extremes-meet, extreme_times-are}
use Rattle.uhura_worst.proofs.FirmEdges.{allowed-keeps}
use Rattle.uhura_dual.specs.Settled.{IsSettled, AreSettled, settled_edges, worth_with}
use Rattle.uhura_dual.proofs.Beginnings.{picked-begins}
use Rattle.uhura_dual.proofs.KeysAt.{settled_edges-are}
use Rattle.uhura_dual.proofs.Barred.{settled-begun}
use Rattle.uhura_dual.proofs.Paid.{excess-least, passed_at, paid, price_of-le}
use Rattle.uhura_dual.proofs.PlacesCost.{loose_paid, units_cost, loosenings, narrowings, units_cost-by_items, loosened-found, narrowed-found, places-cost}

-- a constraint that is kept when loosened is passed by no more than that
passed-le : (k : ℕ) (times : ℕ → ℤ) (c : Constraint) (units : ℕ) → Keeps times (loosened_edge k units c) → passed_by k times c ≤ units
passed-le k times c units kept =
    (excess-least ((times c.to -ℤ times c.from) -ℤ (pos k *ℤ c.bound))).least units (omega (arith, ints, kept))

-- so the extreme times of what is allowed pass each side by no more than its units
requirement-passed_le : (k : ℕ) (branch : List Pick) (times : ℕ → ℤ) (at : Side) (r : Requirement) (units : ℕ) →
    (IsTrue (holds r.guard branch) → IfSome (requirement_constraint at r) (λ (c : Constraint). Keeps times (loosened_edge k units c))) → requirement_passed k branch times at r ≤ units
requirement-passed_le k branch times at r units kept = by (holds r.guard branch) kept
  where
    there : (constraint : Option Constraint) → IfSome constraint (λ (c : Constraint). Keeps times (loosened_edge k units c)) → option_map_or (passed_by k times) constraint 0 ≤ units
    there None kept = omega arith
    there (Some c) kept = passed-le k times c units kept

    by : (b : Bool) → (IsTrue b → IfSome (requirement_constraint at r) (λ (c : Constraint). Keeps times (loosened_edge k units c))) → (if b then option_map_or (passed_by k times) (requirement_constraint at r) 0 else 0) ≤ units
    by true kept = there (requirement_constraint at r) (kept refl)
    by false kept = omega arith

loosening-le : (state : State) (k : ℕ) (q : Proposal) (times : ℕ → ℤ) (at : Side) (slot : ℕ) (r : Requirement) → MeetsWorstCase state.plan k q times → requirement_in state.plan slot ≡ Some r →
    loosened (proposal_at state.plan k q.branch times) at r ≤ loosened q at r
loosening-le state k q times at slot r worst found =
    let member : Contains state.plan.requirements r = Contains-found (λ (p : Requirement). p.slot == slot) state.plan.requirements r found in
    omega (
      arith,
      loosened-found state.plan k q.branch times at slot r found,
      requirement-passed_le k q.branch times at r (loosened q at r) (λ active. worst.requirements at r member active),
    )

narrowing-le : (state : State) (k : ℕ) (q : Proposal) (times : ℕ → ℤ) (at : Side) (d : ℕ) (u : Uncertain) → MeetsWorstCase state.plan k q times → slice_get state.plan.uncertains d ≡ Some u →
    narrowed (proposal_at state.plan k q.branch times) at d ≤ narrowed q at d
narrowing-le state k q times at d u worst found =
    omega (
      arith,
      narrowed-found state.plan k q.branch times at d u found,
      passed-le k times (duration_constraint at d u) (narrowed q at d) (worst.durations at d u found),
    )

-- and cost no more
slot-le : (state : State) (k : ℕ) (q : Proposal) (times : ℕ → ℤ) (slot : ℕ) → MeetsWorstCase state.plan k q times →
    option_map_or (loosenings k (proposal_at state.plan k q.branch times)) (requirement_in state.plan slot) 0 ≤ option_map_or (loosenings k q) (requirement_in state.plan slot) 0
slot-le state k q times slot worst = by (requirement_in state.plan slot) refl
  where
    by : (o : Option Requirement) → requirement_in state.plan slot ≡ o → option_map_or (loosenings k (proposal_at state.plan k q.branch times)) o 0 ≤ option_map_or (loosenings k q) o 0
    by None found = omega arith
    by (Some r) found =
        omega (
          arith,
          price_of-le k (loosening_rate Lower r) (loosened (proposal_at state.plan k q.branch times) Lower r) (loosened q Lower r) (loosening-le state k q times Lower slot r worst found),
          price_of-le k (loosening_rate Upper r) (loosened (proposal_at state.plan k q.branch times) Upper r) (loosened q Upper r) (loosening-le state k q times Upper slot r worst found),
        )

duration-le : (state : State) (k : ℕ) (q : Proposal) (times : ℕ → ℤ) (d : ℕ) → MeetsWorstCase state.plan k q times →
    option_map_or (narrowings k (proposal_at state.plan k q.branch times) d) (slice_get state.plan.uncertains d) 0 ≤ option_map_or (narrowings k q d) (slice_get state.plan.uncertains d) 0
duration-le state k q times d worst = by (slice_get state.plan.uncertains d) refl
  where
    by : (o : Option Uncertain) → slice_get state.plan.uncertains d ≡ o → option_map_or (narrowings k (proposal_at state.plan k q.branch times) d) o 0 ≤ option_map_or (narrowings k q d) o 0
    by None found = omega arith
    by (Some u) found =
        omega (
          arith,
          price_of-le k (rate_of Lower u) (narrowed (proposal_at state.plan k q.branch times) Lower d) (narrowed q Lower d) (narrowing-le state k q times Lower d u worst found),
          price_of-le k (rate_of Upper u) (narrowed (proposal_at state.plan k q.branch times) Upper d) (narrowed q Upper d) (narrowing-le state k q times Upper d u worst found),
        )

units_cost-le : (state : State) (k : ℕ) (q : Proposal) (times : ℕ → ℤ) → IsSound state.plan → MeetsWorstCase state.plan k q times →
    units_cost state.plan k (proposal_at state.plan k q.branch times) ≤ units_cost state.plan k q
units_cost-le state k q times sound worst =
    let p : Proposal = proposal_at state.plan k q.branch times in
    let requirements = sum_below-le REQUIREMENTS (λ slot. option_map_or (loosenings k p) (requirement_in state.plan slot) 0) (λ slot. option_map_or (loosenings k q) (requirement_in state.plan slot) 0)
    (λ slot _. slot-le state k q times slot worst) in
    let durations = sum_below-le UNCERTAINS (λ d. option_map_or (narrowings k p d) (slice_get state.plan.uncertains d) 0) (λ d. option_map_or (narrowings k q d) (slice_get state.plan.uncertains d) 0)
    (λ d _. duration-le state k q times d worst) in
    omega (arith, requirements, durations, units_cost-by_items state.plan k p sound, units_cost-by_items state.plan k q sound)

-- a settled edge is paid where it is loose, and another is kept
settled-paid : (state : State) (branch : List Pick) (k : ℕ) (times : ℕ → ℤ) (edges : Edges) (place : ℕ) → AreSettled state branch edges → KeepsFirmEdges state k branch times →
    paid k times (edges place) ≤ loose_paid k times (settled_edges state branch) place
settled-paid state branch k times edges place settled keeps = by (edges place) refl
  where
    by : (o : Option Edge) → edges place ≡ o → paid k times o ≤ loose_paid k times (settled_edges state branch) place
    by None is = omega arith
    by (Some edge) is = kind (is_loose_key s.key) refl
      where
        s : IsSettled state branch place edge
        s = settled place edge is

        there : settled_edges state branch place ≡ Some edge
        there =
            ap (settled_edges state branch) (sym s.stands.1) ∙ (settled_edges-are state branch).each s.key s.stands.0
            ∙ ap (λ (b : Bool). if b then edge_of state s.key else None) s.active ∙ s.there

        loose : is_loose place ≡ is_loose_key s.key
        loose = ap is_loose (sym s.stands.1) ∙ is_loose-place_number s.key s.stands.0

        kind : (b : Bool) → is_loose_key s.key ≡ b → paid k times (Some edge) ≤ loose_paid k times (settled_edges state branch) place
        kind true is_so =
            let same : loose_paid k times (settled_edges state branch) place ≡ paid k times (Some edge) =
            ap (λ (b : Bool). if b then paid k times (settled_edges state branch place) else 0) (loose ∙ is_so) ∙ ap (paid k times) there in
            omega (arith, same)
        kind false is_so =
            let none : passed_at k times edge ≤ 0 = (excess-least ((times edge.to -ℤ times edge.from) -ℤ (pos k *ℤ edge.bound))).least 0 (omega (arith, ints, keeps s.key edge s.there is_so s.active)) in
            let nothing : edge.capacity * passed_at k times edge ≡ edge.capacity * 0 = ap (λ (n : ℕ). edge.capacity * n) (let e : passed_at k times edge ≡ 0 = omega arith in e) in
            omega (arith, nothing)

-- the value is paid by the units of what is allowed
value-paid : (state : State) (edges : Edges) (units : Units) (k : ℕ) (q : Proposal) → IsSound state.plan → AreSettled state q.branch edges → IsCirculation PLACES edges units → Allowed state k q →
    (pos k *ℤ value_of PLACES edges units) ≤ℤ pos (units_cost state.plan k q)
value-paid state edges units k q sound settled circulation allowed =
    let times : ℕ → ℤ = extreme_times state.plan k q in
    let worst : MeetsWorstCase state.plan k q times = extremes-meet state.plan k q times sound allowed.ranges_left (extreme_times-are state.plan k q sound) allowed.covers in
    let weak = weak_duality-capacities PLACES k edges units times (λ place. passed_at k times (edge_at edges place)) circulation
    (λ place _ _. omega (arith, ints, (excess-least ((times (edge_at edges place).to -ℤ times (edge_at edges place).from) -ℤ (pos k *ℤ (edge_at edges place).bound))).above)) in
    let less = sum_below-le PLACES (λ place. paid k times (edges place)) (loose_paid k times (settled_edges state q.branch))
    (λ place _. settled-paid state q.branch k times edges place settled (allowed-keeps state k q sound allowed)) in
    omega (
      arith,
      ints,
      weak,
      less,
      places-cost state q.branch k times (settled_edges state q.branch) sound (settled_edges-are state q.branch),
      units_cost-le state k q times sound worst,
    )

pub dual-bound : (state : State) (picks : List Pick) (edges : Edges) (units : Units) (k : ℕ) (q : Proposal) → IsSound state.plan → AreSettled state picks edges → IsCirculation PLACES edges units →
    Allowed state k q → IsFrontOf picks q.branch → (pos k *ℤ worth_with state.plan picks edges units) ≤ℤ pos (cost state.plan k q)
dual-bound state picks edges units k q sound settled circulation allowed begins =
    let value = value-paid state edges units k q sound (settled-begun state picks q.branch edges settled begins) circulation allowed in
    let picked : picked_cost state.plan.choices picks ≤ picked_cost state.plan.choices q.branch =
    subst (λ (b : List Pick). picked_cost state.plan.choices picks ≤ picked_cost state.plan.choices b) (sym begins.1) (picked-begins state.plan.choices picks begins.0) in
    let scaled : k * picked_cost state.plan.choices picks ≤ k * picked_cost state.plan.choices q.branch = mul-le-mul_left k picked in
    omega (arith, ints, value, scaled, scaled-plus k (value_of PLACES edges units) (pos (picked_cost state.plan.choices picks)))
