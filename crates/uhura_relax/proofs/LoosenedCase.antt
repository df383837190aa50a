-- The loosened edges at their places are the worst case of a proposal with that branch and those units.
use Rattle.std.proofs.Common.{◌≡◌, ℕ, Bool, true, false, Option, None, Some, IfSome, IsTrue, slice_get, Contains, refl, sym, ap, subst, ◌∙◌}
use Rattle.std.specs.Prelude.{ℤ, nat_eq, if◌then◌else◌, option_map, option_and_then}
use Rattle.std.proofs.lemmas.Bool.Decides.{Decides-eqb}
use Rattle.std.proofs.lemmas.Option.{same_Some}
use Rattle.uhura_plan.specs.declared.key.Side.{Side}
use Rattle.uhura_plan.specs.declared.key.SideKey.{SideKey}
use Rattle.uhura_plan.specs.declared.key.Item.{Item}
use Rattle.uhura_plan.specs.declared.key.Item.TheVariants as item
use Rattle.uhura_plan.specs.declared.key.EdgeKey.{EdgeKey}
use Rattle.uhura_plan.specs.declared.key.EdgeKey.TheVariants.{Loose, Firm, Order, Steep}
use Rattle.uhura_plan.specs.declared.requirement.Requirement.{Requirement}
use Rattle.uhura_plan.specs.declared.uncertain.Uncertain.{Uncertain}
use Rattle.uhura_plan.specs.Lists.{Lists}
use Rattle.uhura_plan.specs.Find.{requirement_in}
use Rattle.uhura_plan.specs.Sound.{IsSound}
use Rattle.uhura_choice.specs.Branch.{holds}
use Rattle.uhura_net.specs.declared.edge.Edge.{Edge}
use Rattle.uhura_net.specs.Edges.{Edges, Keeps, AreKept}
use Rattle.uhura_net.specs.Place.{HasPlace, place_number}
use Rattle.uhura_worst.specs.Proposal.{Proposal, loosened, narrowed}
use Rattle.uhura_worst.specs.Edges.{requirement_constraint, duration_constraint, order_constraint, item_of, edge_among}
use Rattle.uhura_worst.specs.WorstCase.{loosened_edge, MeetsWorstCase}
use Rattle.uhura_worst.proofs.FirstItems.{passes, requirement_in-member}
use Rattle.uhura_worst.proofs.SoundItems.{Contains-found, sound_requirement, uncertain-placed}
use Rattle.uhura_relax.specs.Loosened.{loosened_requirement, narrowed_duration, loosened_tables, loosened_edge_of, AreLoosenedEdges}
use Rattle.uhura_relax.proofs.Placed.{AreAtTheirPlaces}

-- what holds of the value that a map has holds behind the map
IfSome-there : {X Y : Type 0} (P : Y → Type 0) (f : X → Y) (o : Option X) → ((y : Y) → option_map f o ≡ Some y → P y) → IfSome o (λ x. P (f x))
IfSome-there P f None holds = tt
IfSome-there P f (Some x) holds = holds (f x) refl

-- times that meet the loosened edges keep the edge of each side of a requirement
requirement-kept : (plan : Lists) (q : Proposal) (edges : Edges) (times : ℕ → ℤ) (side : Side) (r : Requirement) → IsSound plan → AreAtTheirPlaces plan q.branch q.units edges → AreKept edges times →
    Contains plan.requirements r → IsTrue (holds r.guard q.branch) → IfSome (requirement_constraint side r) (λ c. Keeps times (loosened_edge 1 (loosened q side r) c))
requirement-kept plan q edges times side r sound placed meets member active =
    let key : EdgeKey = Firm (record { item = item.Requirement r.slot; side = side }) in
    let there : edges (place_number key) ≡ loosened_edge_of plan q.branch q.units key = placed.at_key key (sound_requirement plan r sound member).slot in
    let own : loosened_edge_of plan q.branch q.units key ≡ loosened_requirement q.branch q.units r key =
    ap (option_and_then (λ (s : Requirement). loosened_requirement q.branch q.units s key)) (requirement_in-member plan r sound.distinct.slots member) in
    let loose : Option Edge = option_map (loosened_edge 1 (loosened q side r)) (requirement_constraint side r) in
    let held : loosened_requirement q.branch q.units r key ≡ loose = ap (λ (b : Bool). if b then loose else None) active in
    IfSome-there (Keeps times) (loosened_edge 1 (loosened q side r)) (requirement_constraint side r) (λ edge is. meets (place_number key) edge (there ∙ own ∙ held ∙ is))

-- the edge of a duration
duration-there : (plan : Lists) (q : Proposal) (edges : Edges) (key : EdgeKey) (d : ℕ) (u : Uncertain) → IsSound plan → AreAtTheirPlaces plan q.branch q.units edges → slice_get plan.uncertains d ≡ Some u → HasPlace key → item_of key ≡ item.Uncertain d →
    edges (place_number key) ≡ narrowed_duration q.units d u key
duration-there plan q edges key d u sound placed is has_place of =
    placed.at_key key has_place
    ∙ ap (edge_among (loosened_tables q.branch q.units) plan key) of
    ∙ ap (option_and_then (λ (v : Uncertain). narrowed_duration q.units d v key)) is

pub worst_case-met : (plan : Lists) (q : Proposal) (edges : Edges) (times : ℕ → ℤ) → IsSound plan → AreAtTheirPlaces plan q.branch q.units edges → AreKept edges times → MeetsWorstCase plan 1 q times
worst_case-met plan q edges times sound placed meets = record {
  requirements = λ side r member active. requirement-kept plan q edges times side r sound placed meets member active;
  durations = λ side d u is.
      let key : EdgeKey = Firm (record { item = item.Uncertain d; side = side }) in
      meets (place_number key) (loosened_edge 1 (narrowed q side d) (duration_constraint side d u)) (duration-there plan q edges key d u sound placed is (uncertain-placed plan d u sound is) refl);
  order = λ d u is.
      meets (place_number (Order d)) (loosened_edge 1 0 (order_constraint d)) (duration-there plan q edges (Order d) d u sound placed is (uncertain-placed plan d u sound is) refl);
}

-- the other way: what is mapped under a test has what holds behind the map,
mapped-holds : {X Y : Type 0} (P : Y → Type 0) (f : X → Y) (b : Bool) (o : Option X) (y : Y) → (b ≡ true → IfSome o (λ x. P (f x))) → (if b then option_map f o else None) ≡ Some y → P y
mapped-holds P f false o y holds is = absurd (let never : ⊥ = cc in never)
mapped-holds P f true None y holds is = absurd (let never : ⊥ = cc in never)
mapped-holds P f true (Some x) y holds is = subst P (same_Some (f x) y is) (holds refl)

-- so times of the worst case keep an edge of a requirement,
by_requirement : (plan : Lists) (q : Proposal) (times : ℕ → ℤ) (key : EdgeKey) (edge : Edge) (slot : ℕ) (found : Option Requirement) → MeetsWorstCase plan 1 q times → item_of key ≡ item.Requirement slot → requirement_in plan slot ≡ found →
    option_and_then (λ (r : Requirement). loosened_requirement q.branch q.units r key) found ≡ Some edge → Keeps times edge
by_requirement plan q times key edge slot None worst of found is = absurd (let never : ⊥ = cc in never)
by_requirement plan q times (Loose key) edge slot (Some r) worst of found is = absurd (let never : ⊥ = cc in never)
by_requirement plan q times (Steep key) edge slot (Some r) worst of found is = absurd (let never : ⊥ = cc in never)
by_requirement plan q times (Order d) edge slot (Some r) worst of found is = absurd (let never : ⊥ = cc in never)
by_requirement plan q times (Firm key) edge slot (Some r) worst of found is =
    let member : Contains plan.requirements r = Contains-found (λ (s : Requirement). nat_eq s.slot slot) plan.requirements r found in
    let own : r.slot ≡ slot = (Decides-eqb r.slot slot).0 (passes (λ (s : Requirement). nat_eq s.slot slot) plan.requirements r found) in
    let with_item : Item → SideKey = λ i. record { item = i; side = key.side } in
    let same : q.units key ≡ loosened q key.side r = ap (λ (i : Item). q.units (with_item i)) (of ∙ ap (λ (n : ℕ). item.Requirement n) (sym own)) in
    mapped-holds (Keeps times) (loosened_edge 1 (q.units key)) (holds r.guard q.branch) (requirement_constraint key.side r) edge
    (λ active. subst (λ (units : ℕ). IfSome (requirement_constraint key.side r) (λ c. Keeps times (loosened_edge 1 units c))) (sym same) (worst.requirements key.side r member active)) is

-- and one of a duration
by_duration : (plan : Lists) (q : Proposal) (times : ℕ → ℤ) (key : EdgeKey) (edge : Edge) (d : ℕ) (found : Option Uncertain) → MeetsWorstCase plan 1 q times → item_of key ≡ item.Uncertain d → slice_get plan.uncertains d ≡ found →
    option_and_then (λ (u : Uncertain). narrowed_duration q.units d u key) found ≡ Some edge → Keeps times edge
by_duration plan q times key edge d None worst of found is = absurd (let never : ⊥ = cc in never)
by_duration plan q times (Loose key) edge d (Some u) worst of found is = absurd (let never : ⊥ = cc in never)
by_duration plan q times (Steep key) edge d (Some u) worst of found is = absurd (let never : ⊥ = cc in never)
by_duration plan q times (Order e) edge d (Some u) worst of found is =
    subst (Keeps times) (same_Some (loosened_edge 1 0 (order_constraint d)) edge is) (worst.order d u found)
by_duration plan q times (Firm key) edge d (Some u) worst of found is =
    let with_item : Item → SideKey = λ i. record { item = i; side = key.side } in
    let same : q.units key ≡ narrowed q key.side d = ap (λ (i : Item). q.units (with_item i)) of in
    subst (Keeps times) (same_Some (loosened_edge 1 (q.units key) (duration_constraint key.side d u)) edge is)
    (subst (λ (units : ℕ). Keeps times (loosened_edge 1 units (duration_constraint key.side d u))) (sym same) (worst.durations key.side d u found))

-- so times that meet the worst case meet the loosened edges.
pub edges-met : (plan : Lists) (q : Proposal) (edges : Edges) (times : ℕ → ℤ) → AreLoosenedEdges plan q.branch q.units edges → MeetsWorstCase plan 1 q times → AreKept edges times
edges-met plan q edges times loosened worst place edge is =
    let found : (key : EdgeKey) × HasPlace key × (place ≡ place_number key) × (loosened_edge_of plan q.branch q.units key ≡ Some edge) = loosened place edge is in
    by found.0 (item_of found.0) refl found.3
  where
    by : (key : EdgeKey) (of : Item) → item_of key ≡ of → edge_among (loosened_tables q.branch q.units) plan key of ≡ Some edge → Keeps times edge
    by key (item.Requirement slot) of there = by_requirement plan q times key edge slot (requirement_in plan slot) worst of refl there
    by key (item.Uncertain d) of there = by_duration plan q times key edge d (slice_get plan.uncertains d) worst of refl there
