-- What a branch costs beside the best so far.
use Rattle.std.proofs.Common.{◌≡◌, List, [], ◌∷◌, length, Option, Some, None, inl, inr, refl, sym, ap, subst, ◌∙◌, lit≤, append-nil, arith}
use Rattle.std.specs.Prelude.{ℤ, pos, ◌+ℤ◌, ◌<ℤ◌, IfSome, is_some, option_map, find, Bool, true, false, if◌then◌else◌}
use Rattle.std.specs.List.{list_any}
use Rattle.std.proofs.Math.ListN.{get_or-eq_default}
use Rattle.std.proofs.lemmas.Int.{ints, by_lt_z}
use Rattle.uhura_plan.specs.Lists.{Lists}
use Rattle.uhura_plan.specs.Sound.{IsSound}
use Rattle.uhura_choice.specs.declared.prefix.Pick.{Pick}
use Rattle.uhura_choice.specs.Branch.{IsBranch, IsEarlier, picked_cost}
use Rattle.uhura_choice.specs.Order.{IsFrontOf}
use Rattle.uhura_choice.proofs.Earlier.{Compare, compare, earlier-irreflexive}
use Rattle.uhura_net.specs.Net.{net_value}
use Rattle.uhura_flow.specs.Flow.{flow_edges, flow_units, flow_potentials, IsFlow}
use Rattle.uhura_plan.specs.declared.key.EdgeKey.{EdgeKey}
use Rattle.uhura_net.specs.declared.edge.Edge.{Edge}
use Rattle.uhura_net.specs.Place.{place_number}
use Rattle.uhura_net.specs.Circulation.{edges_of}
use Rattle.uhura_veto.specs.declared.veto.Veto.{Veto}
use Rattle.uhura_veto.specs.State.{State}
use Rattle.uhura_veto.specs.Denial.{denies, denied_by, is_denied}
use Rattle.uhura_veto.specs.Vetoes.{veto_name}
use Rattle.uhura_worst.specs.Cost.{cost}
use Rattle.uhura_worst.specs.Edges.{is_active_edge}
use Rattle.uhura_worst.specs.Filled.{IsTableOf}
use Rattle.uhura_worst.specs.WorstCase.{proposal_at}
use Rattle.uhura_worst.proofs.PassedUnits.{keeping-allowed}
use Rattle.uhura_dual.specs.Settled.{AreAllSettled, worth_with}
use Rattle.uhura_dual.proofs.KeysAt.{key_at-place_number}
use Rattle.uhura_dual.proofs.ReadOff.{optimal-worth}
use Rattle.uhura_dual.proofs.Settling.{firm-among}
use Rattle.uhura_conflict.specs.Learned.{Learned}
use Rattle.uhura_conflict.specs.Store.{Stored}
use Rattle.uhura_search.specs.declared.incumbent.Incumbent.{Incumbent}
use Rattle.uhura_search.specs.declared.leaf.LeafReason.TheVariants.{Denied}
use Rattle.uhura_search.specs.declared.learning.Learning.{Learning}
use Rattle.uhura_search.specs.Shut.{IsSmallCost, IsEnough, IsDear, IsShut, IsBetter, left_of}
use Rattle.uhura_search.specs.Closed.{NoneBegins}
use Rattle.uhura_search.specs.Asked.{AddsAll, LearnsSome}
use Rattle.uhura_search.specs.Learning.{IsLearningFor, IsReady, StandsAt, IsReachedAt, IsBettered, IsShutByValue, Closes}
use Rattle.uhura_search.proofs.Enough.{earlier-enough, later-enough, same-enough}
use Rattle.uhura_search.proofs.Still.{shut-more, shut-better, shut-first}
use Rattle.uhura_search.proofs.Valid.{net-value}

-- what isn't enough for the best so far is better
pub not-enough_better : (plan : Lists) (best new : Incumbent) (value : ℤ) → IsBranch plan.choices best.branch → IsBranch plan.choices new.branch → pos new.cost ≡ (value +ℤ pos (picked_cost plan.choices new.branch)) →
    (IsEnough plan best new.branch value → ⊥) → IsBetter new best
not-enough_better plan best new value is_best is_new costs cheap = by (compare plan.choices new.branch best.branch is_new is_best)
  where
    Result : Type 0
    Result = IsBetter new best

    less : value <ℤ left_of plan best new.branch → Result
    less below = inl (omega (arith, ints, below, costs))

    by : Compare new.branch best.branch → Result
    by (inl same) =
        by_lt_z {P = Result} value (left_of plan best new.branch) less
        (λ most. absurd (cheap (same-enough plan best new.branch value (inl (subst (λ b. IsFrontOf new.branch b) same ([], sym (append-nil new.branch)))) (ap (λ (l : List Pick). length l) same) most)))
    by (inr (inr later)) = by_lt_z {P = Result} value (left_of plan best new.branch) less (λ most. absurd (cheap (later-enough plan best new.branch value later most)))
    by (inr (inl earlier)) =
        by_lt_z {P = Result} (left_of plan best new.branch) value (λ most. absurd (cheap (earlier-enough plan best new.branch value earlier most)))
        (λ most. by_lt_z {P = Result} value (left_of plan best new.branch) less (λ least. inr (omega (arith, ints, most, least, costs), earlier)))

-- what a branch costs is enough for itself
pub own-enough : (plan : Lists) (new : Incumbent) (branch : List Pick) (value : ℤ) → new.branch ≡ branch → pos new.cost ≡ (value +ℤ pos (picked_cost plan.choices branch)) → IsEnough plan new branch value
own-enough plan new branch value same costs = record {
  whole = λ _. sym same;
  least = omega (arith, ints, costs);
  more = λ earlier. absurd (earlier-irreflexive branch (subst (λ b. IsEarlier branch b) same earlier));
}

-- the value of the branch is enough for the best so far that it leaves
pub bettered-dear : (plan : Lists) (branch : List Pick) (value : ℤ) (old new : Option Incumbent) → IsBettered plan branch value old new → IsDear plan new branch value
bettered-dear plan branch value old new (inl kept) = subst (λ (o : Option Incumbent). IsDear plan o branch value) (sym kept.1) kept.0
bettered-dear plan branch value old new (inr (cheap, at)) = subst (λ (o : Option Incumbent). IsDear plan o branch value) (sym at.is) (own-enough plan at.incumbent branch value at.branch_is at.cost_is)

-- what a store shuts stays shut when conflicts are added
pub shut-all : (state : State) (old new : Stored) (learned : List Learned) (best : Option Incumbent) (prefix : List Pick) → AddsAll state.plan.choices old learned new → IsShut state old best prefix → IsShut state new best prefix
shut-all state old new [] best prefix same shut = subst (λ (s : Stored). IsShut state s best prefix) (sym same) shut
shut-all state old new (c ∷ learned) best prefix adds shut = shut-all state adds.0 new learned best prefix adds.2 (shut-more state old adds.0 best prefix adds.1.key c adds.1.adds shut)

-- and when the best so far gets better, where it doesn't begin the new branch
pub shut-bettered : (state : State) (store : Stored) (branch : List Pick) (value : ℤ) (old new : Option Incumbent) (prefix : List Pick) → IfSome old (λ i. IsBranch state.plan.choices i.branch) → IsBranch state.plan.choices branch →
    IsBettered state.plan branch value old new → (IsFrontOf prefix branch → ⊥) → IsShut state store old prefix → IsShut state store new prefix
shut-bettered state store branch value old new prefix is_best is_branch (inl kept) apart shut = subst (λ (o : Option Incumbent). IsShut state store o prefix) (sym kept.1) shut
shut-bettered state store branch value None new prefix is_best is_branch (inr (cheap, at)) apart shut = shut-first state store new prefix shut
shut-bettered state store branch value (Some best) new prefix is_best is_branch (inr (cheap, at)) apart shut =
    let is_new : IsBranch state.plan.choices at.incumbent.branch = subst (λ b. IsBranch state.plan.choices b) (sym at.branch_is) is_branch in
    let costs : pos at.incumbent.cost ≡ (value +ℤ pos (picked_cost state.plan.choices at.incumbent.branch)) = subst (λ b. pos at.incumbent.cost ≡ (value +ℤ pos (picked_cost state.plan.choices b))) (sym at.branch_is) at.cost_is in
    let better = not-enough_better state.plan best at.incumbent value is_best is_new costs (λ enough. cheap (subst (λ b. IsEnough state.plan best b value) at.branch_is enough)) in
    subst (λ (o : Option Incumbent). IsShut state store o prefix) (sym at.is)
    (shut-better state store best at.incumbent prefix better (λ begins. apart (subst (λ b. IsFrontOf prefix b) at.branch_is begins)) shut)

-- a first one that passes is there where one passes
pub is_some-find : (f : Veto → Bool) (vetoes : List Veto) → is_some (find f vetoes) ≡ list_any f vetoes
is_some-find f [] = refl
is_some-find f (v ∷ vetoes) = by (f v) refl (is_some-find f vetoes)
  where
    by : (b : Bool) → f v ≡ b → is_some (find f vetoes) ≡ list_any f vetoes → is_some (find f (v ∷ vetoes)) ≡ list_any f (v ∷ vetoes)
    by true passes rest = rw passes refl
    by false fails rest = rw fails rest

-- a branch that isn't shut isn't denied
pub open-allowed : (state : State) (store : Stored) (best : Option Incumbent) (branch : List Pick) → (IsShut state store best branch → ⊥) → is_denied state.vetoes branch ≡ false
open-allowed state store best branch none = by (find (denies branch) state.vetoes) refl
  where
    by : (o : Option Veto) → o ≡ find (denies branch) state.vetoes → is_denied state.vetoes branch ≡ false
    by None found = sym (is_some-find (denies branch) state.vetoes) ∙ ap is_some (sym found)
    by (Some v) found =
        let named : denied_by state.vetoes branch ≡ Some (veto_name v) = ap (option_map veto_name) (sym found) in
        absurd (none (record { reason = Denied (veto_name v); is_reason = named }))

-- where the flow stands at a branch that isn't denied, what is read off its potentials is allowed, and costs what the
-- flow is worth and the picks
pub stands-reached : (state : State) (learning : Learning) (branch : List Pick) (value : ℤ) (new : Incumbent) → IsSound state.plan → IsBranch state.plan.choices branch → is_denied state.vetoes branch ≡ false →
    IsFlow learning.flow → AreAllSettled state branch (flow_edges learning.flow) → value ≡ net_value learning.flow.net → new.branch ≡ branch → pos new.cost ≡ (value +ℤ pos (picked_cost state.plan.choices branch)) →
    IsSmallCost new → IsReachedAt state new
stands-reached state learning branch value new sound is_branch not_denied flow settled worth same costs small =
    let potentials = flow_potentials learning.flow in
    let kept = firm-among state branch (flow_edges learning.flow) potentials sound settled flow.kept in
    let worth_is : worth_with state.plan branch (flow_edges learning.flow) (flow_units learning.flow) ≡ pos (cost state.plan 1 (proposal_at state.plan 1 branch potentials)) =
    optimal-worth state branch (flow_edges learning.flow) (flow_units learning.flow) potentials sound settled flow.sound.circulates flow.optimal flow.kept in
    record {
      is_branch = subst (λ b. IsBranch state.plan.choices b) (sym same) is_branch;
      small = small;
      proposal = proposal_at state.plan 1 branch potentials;
      allowed = keeping-allowed state 1 branch potentials sound (lit≤ tt) is_branch not_denied kept;
      same = sym same;
      costs = omega (arith, ints, worth_is, net-value learning.flow.net, worth, costs);
    }

-- where the flow stands at a branch it has the settled edges, all of them
pub stands-settled : (state : State) (learning : Learning) (branch : List Pick) → IsTableOf state learning.table → IsFlow learning.flow → StandsAt state.plan learning branch → AreAllSettled state branch (flow_edges learning.flow)
stands-settled state learning branch is_table flow stands = record {
  each = λ key placed.
      stands (place_number key)
      ∙ (ap (λ (k : EdgeKey). if is_active_edge state.plan branch k then edges_of learning.table (place_number key) else None) (key_at-place_number key placed)
      ∙ ap (λ (edge : Option Edge). if is_active_edge state.plan branch key then edge else None) (is_table key placed));
  none = λ place behind. get_or-eq_default learning.flow.net.edges None (omega (arith, flow.sound.places, behind));
}

-- the table is the state's
pub table-of : (state : State) (learning : Learning) → IsLearningFor state learning → IsTableOf state learning.table
table-of state learning kept = subst (λ (t : List (Option Edge)). IsTableOf state t) kept.table kept.store.table

pub reached-branch : (state : State) (best : Option Incumbent) → IfSome best (IsReachedAt state) → IfSome best (λ i. IsBranch state.plan.choices i.branch)
reached-branch state None reached = tt
reached-branch state (Some best) reached = reached.is_branch

pub reached-small : (state : State) (best : Option Incumbent) → IfSome best (IsReachedAt state) → IfSome best IsSmallCost
reached-small state None reached = tt
reached-small state (Some best) reached = reached.small

-- what comes of a look at a branch that is open
module _ (state : State) (old new : Learning) (branch : List Pick) (value : ℤ) (before after : Option Incumbent) (ready : IsReady state old) (is_branch : IsBranch state.plan.choices branch) (stands : StandsAt state.plan old branch)
    (flow : IsFlow old.flow) (worth : value ≡ net_value old.flow.net) (reached : IfSome before (IsReachedAt state)) (none : NoneBegins (IsShut state old.store before) branch)
    (bettered : IsBettered state.plan branch value before after) (small : IfSome after IsSmallCost) where
  pub looked-reached : IfSome after (IsReachedAt state)
  looked-reached = by bettered
    where
      by : IsBettered state.plan branch value before after → IfSome after (IsReachedAt state)
      by (inl kept) = subst (λ (o : Option Incumbent). IfSome o (IsReachedAt state)) (sym kept.1) reached
      by (inr (cheap, at)) =
          let not_denied = open-allowed state old.store before branch (λ shut. none branch ([], sym (append-nil branch)) shut) in
          let settled = stands-settled state old branch (table-of state old ready.kept) flow stands in
          subst (λ (o : Option Incumbent). IfSome o (IsReachedAt state)) (sym at.is)
          (stands-reached state old branch value at.incumbent ready.sound is_branch not_denied flow settled worth at.branch_is at.cost_is (subst (λ (o : Option Incumbent). IfSome o IsSmallCost) at.is small))

  pub look-closes : LearnsSome state.plan.choices old new → IsShutByValue new.store branch value → Closes state old new before after branch
  look-closes learns by_value = record {
    learns = learns;
    reached = looked-reached;
    shut = by_value state after (bettered-dear state.plan branch value before after bettered);
    kept = λ front shut.
        shut-bettered state new.store branch value before after front (reached-branch state before reached) is_branch bettered (λ begins. none front begins shut)
        (shut-all state old.store new.store learns.learned before front learns.has_learned.adds shut);
  }
