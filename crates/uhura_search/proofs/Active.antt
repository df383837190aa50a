-- Edges that are active in a branch: the guards of their requirements hold there.
use Rattle.std.proofs.Common.{◌≡◌, ℕ, ◌<◌, ◌≤◌, Bool, true, false, List, get_or, Option, Some, None, refl, sym, ap, subst, ◌∙◌, arith}
use Rattle.std.specs.Prelude.{All, Contains, IsSome, is_some, unwrap_or, if◌then◌else◌}
use Rattle.std.specs.Option.{option_map_or}
use Rattle.std.proofs.lemmas.List.Elements.{All-contains, Contains-get_or}
use Rattle.uhura_plan.specs.Lists.{Lists}
use Rattle.uhura_plan.specs.Sound.{IsSound}
use Rattle.uhura_plan.specs.Find.{requirement_in}
use Rattle.uhura_plan.specs.declared.key.Item.{Item}
use Rattle.uhura_plan.specs.declared.key.Item.TheVariants as item
use Rattle.uhura_plan.specs.declared.requirement.Requirement.{Requirement}
use Rattle.uhura_choice.specs.declared.prefix.Pick.{Pick}
use Rattle.uhura_choice.specs.Branch.{IsBranch, holds}
use Rattle.uhura_net.specs.declared.edge.Edge.{Edge}
use Rattle.uhura_net.specs.declared.place.Place.{Place}
use Rattle.uhura_net.specs.declared.place.TheConstants.{PLACES}
use Rattle.uhura_net.specs.Place.{is_loose}
use Rattle.uhura_net.specs.Edges.{Edges, no_edge, edge_at}
use Rattle.uhura_net.specs.Circulation.{Units, edges_of, IsCirculation}
use Rattle.uhura_net.specs.Optimal.{firm_edges}
use Rattle.uhura_net.specs.Walk.{IsNegativeWalk}
use Rattle.uhura_worst.specs.Edges.{item_of, is_active_item, is_active_edge}
use Rattle.uhura_worst.proofs.FirstItems.{requirement_in-member}
use Rattle.uhura_dual.specs.Settled.{key_at}
use Rattle.uhura_conflict.specs.Literals.{slot_of_item, IsOfSlot, AreActiveTogether, AreUsedTogether, AreActiveAt}
use Rattle.uhura_conflict.specs.Used.{AreUsedAmong}
use Rattle.uhura_search.specs.Moving.{AreAmong, AreListed, active_edges}
use Rattle.uhura_search.proofs.FlowBounds.{key-there}
use Rattle.uhura_search.proofs.Shown.{slot-item}

-- the requirement of an active edge holds
pub active-holds : (plan : Lists) (picks : List Pick) (place : ℕ) (r : Requirement) → IsSound plan → is_active_edge plan picks (key_at place) ≡ true → IsOfSlot place r.slot → Contains plan.requirements r → holds r.guard picks ≡ true
active-holds plan picks place r sound active (key, stands, slot) member =
    by (item_of key) (sym (slot-item key) ∙ slot) (ap (is_active_edge plan picks) (sym (key-there place key stands.0 stands.1)) ∙ active)
  where
    by : (of : Item) → slot_of_item of ≡ Some r.slot → is_active_item plan picks of ≡ true → holds r.guard picks ≡ true
    by (item.Uncertain d) is on = absurd (let never : ⊥ = cc in never)
    by (item.Requirement s) is on =
        let same : s ≡ r.slot = cc in
        let found : requirement_in plan r.slot ≡ Some r = requirement_in-member plan r sound.distinct.slots member in
        sym (ap (λ (o : Option Requirement). option_map_or (λ (q : Requirement). holds q.guard picks) o false) found)
        ∙ (ap (λ (n : ℕ). is_active_item plan picks (item.Requirement n)) (sym same) ∙ on)

-- what is among the active edges of a table is active, and stands in the table
pub among-active : (table : List (Option Edge)) (plan : Lists) (picks : List Pick) (place : ℕ) (edge : Edge) → active_edges table plan picks place ≡ Some edge → is_active_edge plan picks (key_at place) ≡ true
among-active table plan picks place edge is = by (is_active_edge plan picks (key_at place)) is
  where
    by : (b : Bool) → (if b then edges_of table place else None) ≡ Some edge → b ≡ true
    by true there = refl
    by false there = absurd (let never : ⊥ = cc in never)

pub among-table : (table : List (Option Edge)) (plan : Lists) (picks : List Pick) → AreAmong (active_edges table plan picks) (edges_of table)
among-table table plan picks place edge is = by (is_active_edge plan picks (key_at place)) is
  where
    by : (b : Bool) → (if b then edges_of table place else None) ≡ Some edge → edges_of table place ≡ Some edge
    by true there = there
    by false there = absurd (let never : ⊥ = cc in never)

pub among-both : (few some all : Edges) → AreAmong few some → AreAmong some all → AreAmong few all
among-both few some all one other place edge is = other place edge (one place edge is)

-- an edge that isn't loose is there among all
pub firm-there : (edges : Edges) (place : ℕ) → IsSome (firm_edges edges place) → (edge : Edge) × (edges place ≡ Some edge)
firm-there edges place is = by (is_loose place) (edges place) refl is
  where
    by : (b : Bool) (o : Option Edge) → edges place ≡ o → IsSome (if b then None else o) → (edge : Edge) × (edges place ≡ Some edge)
    by true o same there = absurd (let never : ⊥ = cc in never)
    by false None same there = absurd (let never : ⊥ = cc in never)
    by false (Some edge) same there = (edge, same)

-- and units stand on an edge
pub used-there : (edges : Edges) (units : Units) (place : ℕ) → IsCirculation PLACES edges units → 1 ≤ units place → (edge : Edge) × (edges place ≡ Some edge)
used-there edges units place circulation some = by (edges place) refl
  where
    by : (o : Option Edge) → edges place ≡ o → (edge : Edge) × (edges place ≡ Some edge)
    by None none =
        let room : units place ≤ (edge_at edges place).capacity = circulation.within place in
        let nothing : (edge_at edges place).capacity ≡ 0 = ap (λ (o : Option Edge). (unwrap_or o no_edge).capacity) none in
        absurd (omega (arith, some, room, nothing))
    by (Some edge) is = (edge, is)

-- the places of a walk of active edges are active together, in their branch
module _ (table : List (Option Edge)) (plan : Lists) (branch : List Pick) (sound : IsSound plan) (edges : Edges) (among : AreAmong edges (active_edges table plan branch)) where
  module _ (cycle : List Place) (walk : IsNegativeWalk (firm_edges edges) cycle) where
    pub walk-edge : (place : Place) → Contains cycle place → (edge : Edge) × (edges place.0 ≡ Some edge)
    walk-edge place there = firm-there edges place.0 (All-contains (λ (p : Place). IsSome (firm_edges edges p.0)) cycle place walk.there there)

    pub walk-active : AreActiveAt plan cycle branch
    walk-active r there =
        let edge = walk-edge there.place there.among in
        active-holds plan branch there.place.0 r sound (among-active table plan branch there.place.0 edge.0 (among there.place.0 edge.0 edge.1)) there.of_slot there.in_plan

    pub walk-together : IsBranch plan.choices branch → AreActiveTogether plan cycle
    walk-together is_branch = record { branch = branch; is_branch = is_branch; active = walk-active }

    pub walk-inside : (places : List ℕ) → AreListed places table → All (λ place. place.0 < PLACES) cycle
    walk-inside places listed k d below =
        let edge = walk-edge (get_or cycle k d) (Contains-get_or cycle k d below) in
        let there : edges_of table (get_or cycle k d).0 ≡ Some edge.0 = among-table table plan branch (get_or cycle k d).0 edge.0 (among (get_or cycle k d).0 edge.0 edge.1) in
        All-contains (λ (place : ℕ). place < PLACES) places (get_or cycle k d).0 listed.inside (listed.each (get_or cycle k d).0 (subst (λ (o : Option Edge). IsSome o) (sym there) refl))

  -- and so are the places with units
  module _ (units : Units) (circulation : IsCirculation PLACES edges units) where
    pub used-holds : (place : ℕ) (r : Requirement) → 1 ≤ units place → IsOfSlot place r.slot → Contains plan.requirements r → holds r.guard branch ≡ true
    used-holds place r some of_slot in_plan =
        let edge = used-there edges units place circulation some in
        active-holds plan branch place r sound (among-active table plan branch place edge.0 (among place edge.0 edge.1)) of_slot in_plan

    pub used-together : IsBranch plan.choices branch → AreUsedTogether plan units
    used-together is_branch = record { branch = branch; is_branch = is_branch; active = λ place r inside some of_slot in_plan. used-holds place r some of_slot in_plan }

    -- each of these places is listed
    pub used-among : (places : List ℕ) → AreListed places table → AreUsedAmong units places
    used-among places listed = record {
      inside = listed.inside;
      rising = listed.rising;
      used = λ place inside some.
          let edge = used-there edges units place circulation some in
          listed.each place (ap is_some (among-table table plan branch place edge.0 (among place edge.0 edge.1)));
    }
