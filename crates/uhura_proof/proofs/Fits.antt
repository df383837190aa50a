-- What was learned of edges that are there fits the plan as an entry.
use Rattle.std.proofs.Common.{◌≡◌, ◌≢◌, ℕ, zero, suc, ◌+◌, ◌*◌, ◌<◌, ◌≤◌, List, [], ◌∷◌, length, get_or, Option, Some, None, refl, sym, ap, subst, ◌∙◌, inl, inr, arith}
use Rattle.std.specs.Prelude.{All, AllPairs, IfSome, IsSome, ◌==◌, slice_get, option_map, option_and_then, unwrap_or}
use Rattle.std.specs.List.Sorted.{IsNonDecreasingBy}
use Rattle.std.proofs.lemmas.Bool.{cases_lt}
use Rattle.std.proofs.lemmas.Bool.Decides.{Decides-eqb}
use Rattle.std.proofs.lemmas.List.Elements.{All-head, All-tail, All-weaker, recursion_from_All}
use Rattle.std.proofs.lemmas.List.Sorted.{All-permutation}
use Rattle.std.proofs.lemmas.Option.{slice_get_within, same_Some}
use Rattle.uhura_plan.specs.declared.key.EdgeKey.{EdgeKey}
use Rattle.uhura_plan.specs.declared.key.EdgeKey.TheVariants.{Loose, Firm, Order, Steep}
use Rattle.uhura_plan.specs.declared.key.Side.{Side}
use Rattle.uhura_plan.specs.declared.key.Side.TheVariants.{Lower, Upper}
use Rattle.uhura_plan.specs.declared.key.SideKey.{SideKey}
use Rattle.uhura_plan.specs.declared.key.Item.{Item}
use Rattle.uhura_plan.specs.declared.key.Item.TheVariants as item
use Rattle.uhura_plan.specs.declared.limits.TheConstants.{REQUIREMENTS}
use Rattle.uhura_plan.specs.declared.price.Rate.{Rate}
use Rattle.uhura_plan.specs.declared.price.Second.{Second}
use Rattle.uhura_plan.specs.declared.requirement.Requirement.{Requirement}
use Rattle.uhura_plan.specs.declared.uncertain.Uncertain.{Uncertain}
use Rattle.uhura_plan.specs.Limits.{IsRate, IsSecond}
use Rattle.uhura_plan.specs.Lists.{Lists}
use Rattle.uhura_plan.specs.Find.{requirement_in}
use Rattle.uhura_plan.specs.Sides.{loosening_rate, rate_of}
use Rattle.uhura_plan.specs.Sound.{IsSound}
use Rattle.uhura_veto.specs.State.{State}
use Rattle.uhura_veto.specs.Vetoes.{IsItemOf}
use Rattle.uhura_veto.specs.declared.veto.Veto.{Veto}
use Rattle.uhura_veto.specs.declared.room.Room.{Room}
use Rattle.uhura_veto.specs.declared.room.Room.TheVariants.{Units, Unlimited}
use Rattle.uhura_veto.specs.Room.{requirement_room, duration_room}
use Rattle.uhura_net.specs.declared.edge.Edge.{Edge}
use Rattle.uhura_net.specs.declared.edge.TheConstants.{FIRM_CAPACITY}
use Rattle.uhura_net.specs.Edges.{no_edge}
use Rattle.uhura_worst.specs.declared.constraint.Constraint.{Constraint}
use Rattle.uhura_worst.specs.Edges.{requirement_constraint, duration_constraint, order_constraint, loose_edge, steep_edge, steep_edge_by, firm_edge, requirement_edge, duration_edge, edge_in, edge_of, item_of}
use Rattle.uhura_worst.proofs.FirstItems.{passes}
use Rattle.uhura_worst.proofs.SoundItems.{requirement_in-placed, uncertain-among, loosening_rate-limited, rate_of-limited}
use Rattle.uhura_command.proofs.CountedItems as numbers
use Rattle.uhura_command.proofs.CountedItems.{placed}
use Rattle.uhura_item.specs.declared.limits.TheConstants.{EDGE_UNITS}
use Rattle.uhura_item.specs.Item.{IsBetween}
use Rattle.uhura_shows.specs.Leaf as shown
use Rattle.uhura_shows.specs.Leaf.{LeafReason}
use Rattle.uhura_shows.specs.Carried.{IsCarried}
use Rattle.uhura_cert.specs.declared.document.Shared.{Shared}
use Rattle.uhura_cert.specs.declared.document.Shared.TheVariants.{Flow, Stuck}
use Rattle.uhura_cert.specs.Document.{AreEdgeUnits, IsShared}
use Rattle.uhura_cert.specs.Order.{place_in, item_place, side_number, edge_place, IsEdgeOf, Rises}
use Rattle.uhura_check.specs.Confirmed.{entry_reason}
use Rattle.uhura_proof.specs.Entries.{place_by, ArePlaces, AreInOrder, HasUnitsInOrder}
use Rattle.uhura_proof.specs.Made.{IsSameReason, IsThere}
use Rattle.uhura_proof.proofs.Places.{position_is}
use Rattle.uhura_proof.proofs.Reordered.{pairs-permutation}

-- ---- capacities

abbrev IsSmall : Option Edge → Type 0
IsSmall edge = IfSome edge (λ e. e.capacity ≤ FIRM_CAPACITY)

loose : (price : Option Rate) (c : Constraint) → IfSome price IsRate → IsSmall (loose_edge price c)
loose None c limited = tt
loose (Some rate) c limited = omega (arith, limited.first.most)

second : (first : ℕ) (c : Constraint) (o : Option Second) → IfSome o (IsSecond first) → IsSmall (option_map (steep_edge_by first c) o)
second first c None limited = tt
second first c (Some s) limited = omega (arith, limited.most)

steep : (price : Option Rate) (c : Constraint) → IfSome price IsRate → IsSmall (steep_edge price c)
steep None c limited = tt
steep (Some rate) c limited = second rate.first c rate.second limited.second

firm : (room : Room) (c : Constraint) → IsSmall (firm_edge room c)
firm Unlimited c = tt
firm (Units most) c = omega arith

of_constraint : (o : Option Constraint) (edge : Constraint → Option Edge) → ((c : Constraint) → IsSmall (edge c)) → IsSmall (option_and_then edge o)
of_constraint None edge each = tt
of_constraint (Some c) edge each = each c

of_requirement : (vetoes : List Veto) (r : Requirement) (key : EdgeKey) → ((side : Side) → IfSome (loosening_rate side r) IsRate) → IsSmall (requirement_edge vetoes r key)
of_requirement vetoes r (Loose key) limited = of_constraint (requirement_constraint key.side r) (loose_edge (loosening_rate key.side r)) (λ c. loose (loosening_rate key.side r) c (limited key.side))
of_requirement vetoes r (Firm key) limited = of_constraint (requirement_constraint key.side r) (firm_edge (requirement_room vetoes key.side r)) (λ c. firm (requirement_room vetoes key.side r) c)
of_requirement vetoes r (Steep key) limited = of_constraint (requirement_constraint key.side r) (steep_edge (loosening_rate key.side r)) (λ c. steep (loosening_rate key.side r) c (limited key.side))
of_requirement vetoes r (Order d) limited = tt

of_duration : (vetoes : List Veto) (d : ℕ) (u : Uncertain) (key : EdgeKey) → ((side : Side) → IfSome (rate_of side u) IsRate) → IsSmall (duration_edge vetoes d u key)
of_duration vetoes d u (Loose key) limited = loose (rate_of key.side u) (duration_constraint key.side d u) (limited key.side)
of_duration vetoes d u (Firm key) limited = firm (duration_room vetoes d key.side u) (duration_constraint key.side d u)
of_duration vetoes d u (Steep key) limited = steep (rate_of key.side u) (duration_constraint key.side d u) (limited key.side)
of_duration vetoes d u (Order e) limited = firm (Units 0) (order_constraint d)

of_item : (state : State) (key : EdgeKey) (of : Item) → IsSound state.plan → IsSmall (edge_in state key of)
of_item state key (item.Requirement slot) sound = by (requirement_in state.plan slot) refl
  where
    by : (o : Option Requirement) → requirement_in state.plan slot ≡ o → IsSmall (option_and_then (λ (r : Requirement). requirement_edge state.vetoes r key) o)
    by None found = tt
    by (Some r) found = of_requirement state.vetoes r key (λ side. loosening_rate-limited side r (requirement_in-placed state.plan slot r sound found))
of_item state key (item.Uncertain d) sound = by (slice_get state.plan.uncertains d) refl
  where
    by : (o : Option Uncertain) → slice_get state.plan.uncertains d ≡ o → IsSmall (option_and_then (λ (u : Uncertain). duration_edge state.vetoes d u key) o)
    by None found = tt
    by (Some u) found = of_duration state.vetoes d u key (λ side. rate_of-limited side u (uncertain-among state.plan d u sound found))

-- what an edge carries is no more than a line can tell
units_small : (state : State) (pair : EdgeKey × ℕ) → IsSound state.plan → IsCarried state pair → pair.1 ≤ EDGE_UNITS
units_small state pair sound carried = by (edge_of state pair.0) (of_item state pair.0 (item_of pair.0) sound) carried.within
  where
    by : (o : Option Edge) → IsSmall o → pair.1 ≤ (unwrap_or o no_edge).capacity → pair.1 ≤ EDGE_UNITS
    by None small within = omega (arith, within)
    by (Some e) small within = omega (arith, small, within)

-- ---- edges that are there

item_there : (state : State) (key : EdgeKey) (of : Item) → IsSome (edge_in state key of) → IsItemOf state.plan of
item_there state key (item.Requirement slot) there = by (requirement_in state.plan slot) there
  where
    by : (o : Option Requirement) → IsSome (option_and_then (λ (r : Requirement). requirement_edge state.vetoes r key) o) → IsSome o
    by None some = let no : ⊥ = cc in absurd no
    by (Some r) some = refl
item_there state key (item.Uncertain d) there = by (slice_get state.plan.uncertains d) refl there
  where
    by : (o : Option Uncertain) → slice_get state.plan.uncertains d ≡ o → IsSome (option_and_then (λ (u : Uncertain). duration_edge state.vetoes d u key) o) → d < length state.plan.uncertains
    by None at some = let no : ⊥ = cc in absurd no
    by (Some u) at some = slice_get_within state.plan.uncertains d u at

pub edge_there : (state : State) (key : EdgeKey) → IsSome (edge_of state key) → IsEdgeOf state.plan key
edge_there state (Loose key) there = item_there state (Loose key) key.item there
edge_there state (Firm key) there = item_there state (Firm key) key.item there
edge_there state (Steep key) there = item_there state (Steep key) key.item there
edge_there state (Order d) there = item_there state (Order d) (item.Uncertain d) there

-- ---- their order

item_of_edge : (plan : Lists) (key : EdgeKey) → IsEdgeOf plan key → IsItemOf plan (item_of key)
item_of_edge plan (Loose key) there = there
item_of_edge plan (Firm key) there = there
item_of_edge plan (Steep key) there = there
item_of_edge plan (Order d) there = there

-- the number of an edge among those of its item, and the edge of an item with a number
row : EdgeKey → ℕ
row (Loose key) = 3 * side_number key.side
row (Steep key) = 3 * side_number key.side + 1
row (Firm key) = 3 * side_number key.side + 2
row (Order d) = 6

order_of : Item → EdgeKey
order_of (item.Requirement slot) = Order slot
order_of (item.Uncertain d) = Order d

side_of : Item → Side → SideKey
side_of thing side = record { item = thing; side = side }

in_row : Item → ℕ → EdgeKey
in_row thing zero = Loose (side_of thing Lower)
in_row thing (suc zero) = Steep (side_of thing Lower)
in_row thing (suc (suc zero)) = Firm (side_of thing Lower)
in_row thing (suc (suc (suc zero))) = Loose (side_of thing Upper)
in_row thing (suc (suc (suc (suc zero)))) = Steep (side_of thing Upper)
in_row thing (suc (suc (suc (suc (suc zero))))) = Firm (side_of thing Upper)
in_row thing (suc (suc (suc (suc (suc (suc n)))))) = order_of thing

in_own_row : (key : EdgeKey) → in_row (item_of key) (row key) ≡ key
unfolding in_row row order_of side_of
in_own_row (Loose key) = by key.side
  where
    by : (side : Side) → in_row key.item (3 * side_number side) ≡ Loose (side_of key.item side)
    by Lower = refl
    by Upper = refl
in_own_row (Steep key) = by key.side
  where
    by : (side : Side) → in_row key.item (3 * side_number side + 1) ≡ Steep (side_of key.item side)
    by Lower = refl
    by Upper = refl
in_own_row (Firm key) = by key.side
  where
    by : (side : Side) → in_row key.item (3 * side_number side + 2) ≡ Firm (side_of key.item side)
    by Lower = refl
    by Upper = refl
in_own_row (Order d) = refl

side_small : (side : Side) → side_number side ≤ 1
side_small Lower = omega arith
side_small Upper = omega arith

row_small : (key : EdgeKey) → row key < 7
unfolding row
row_small (Loose key) = omega (arith, side_small key.side)
row_small (Steep key) = omega (arith, side_small key.side)
row_small (Firm key) = omega (arith, side_small key.side)
row_small (Order d) = omega arith

place_is : (place : ℕ → ℕ) (key : EdgeKey) → edge_place place key ≡ 7 * item_place place (item_of key) + row key
unfolding row
place_is place (Loose key) = refl
place_is place (Steep key) = omega arith
place_is place (Firm key) = omega arith
place_is place (Order d) = refl

-- items that are there are told by their places
place_inside : (plan : Lists) (slot : ℕ) → IsSome (requirement_in plan slot) → place_in plan slot < length plan.requirements
place_inside plan slot there =
    let p = placed plan.requirements slot there in
    omega (arith, position_is plan.requirements slot, slice_get_within plan.requirements (numbers.place_in slot plan.requirements) p.requirement p.at)

pub same_slot : (plan : Lists) (one other : ℕ) → IsSome (requirement_in plan one) → IsSome (requirement_in plan other) → place_in plan one ≡ place_in plan other → one ≡ other
same_slot plan one other here there same =
    let p = placed plan.requirements one here in
    let q = placed plan.requirements other there in
    let place : numbers.place_in one plan.requirements ≡ numbers.place_in other plan.requirements = sym (position_is plan.requirements one) ∙ same ∙ position_is plan.requirements other in
    let both : p.requirement ≡ q.requirement = same_Some p.requirement q.requirement (sym p.at ∙ ap (slice_get plan.requirements) place ∙ q.at) in
    sym ((Decides-eqb p.requirement.slot one).0 (passes (λ (r : Requirement). r.slot == one) plan.requirements p.requirement p.found))
    ∙ ap (λ (r : Requirement). r.slot) both
    ∙ (Decides-eqb q.requirement.slot other).0 (passes (λ (r : Requirement). r.slot == other) plan.requirements q.requirement q.found)

same_item : (plan : Lists) (one other : Item) → length plan.requirements ≤ REQUIREMENTS → IsItemOf plan one → IsItemOf plan other → item_place (place_in plan) one ≡ item_place (place_in plan) other → one ≡ other
same_item plan (item.Requirement one) (item.Requirement other) few here there same = ap (λ slot. item.Requirement slot) (same_slot plan one other here there same)
same_item plan (item.Requirement one) (item.Uncertain other) few here there same = absurd (omega (arith, few, same, place_inside plan one here))
same_item plan (item.Uncertain one) (item.Requirement other) few here there same = absurd (omega (arith, few, same, place_inside plan other there))
same_item plan (item.Uncertain one) (item.Uncertain other) few here there same = let equal : one ≡ other = omega (arith, same) in ap (λ d. item.Uncertain d) equal

pub same_edge : (plan : Lists) (one other : EdgeKey) → length plan.requirements ≤ REQUIREMENTS → IsEdgeOf plan one → IsEdgeOf plan other → edge_place (place_in plan) one ≡ edge_place (place_in plan) other → one ≡ other
same_edge plan one other few here there same =
    let all : 7 * item_place (place_in plan) (item_of one) + row one ≡ 7 * item_place (place_in plan) (item_of other) + row other = sym (place_is (place_in plan) one) ∙ same ∙ place_is (place_in plan) other in
    let rows : row one ≡ row other = omega (arith, all, row_small one, row_small other) in
    let places : item_place (place_in plan) (item_of one) ≡ item_place (place_in plan) (item_of other) = omega (arith, all, rows) in
    let items = same_item plan (item_of one) (item_of other) few (item_of_edge plan one here) (item_of_edge plan other there) places in
    sym (in_own_row one) ∙ (λ i. in_row (items i) (rows i)) ∙ in_own_row other

-- a table of places tells them
item_by : (plan : Lists) (places : List ℕ) (thing : Item) → ArePlaces plan places → IsItemOf plan thing → item_place (place_by places) thing ≡ item_place (place_in plan) thing
item_by plan places (item.Requirement slot) are there = are slot there
item_by plan places (item.Uncertain d) are there = refl

edge_by : (plan : Lists) (places : List ℕ) (key : EdgeKey) → ArePlaces plan places → IsEdgeOf plan key → edge_place (place_by places) key ≡ edge_place (place_in plan) key
edge_by plan places key are there =
    place_is (place_by places) key ∙ ap (λ n. 7 * n + row key) (item_by plan places (item_of key) are (item_of_edge plan key there)) ∙ sym (place_is (place_in plan) key)

-- edges in order, none twice, rise
by_order : (a b : ℕ) → a ≢ b → a ≤ b → a + 1 ≤ b
by_order a b differ below = elim (cases_lt a b) [
  | inl less ↦ omega (arith, less)
  | inr more ↦ absurd (differ (omega (arith, below, more)))
]

first_below : (n : (EdgeKey × ℕ) → ℕ) (e f : EdgeKey × ℕ) (es : List (EdgeKey × ℕ)) → IsNonDecreasingBy n (e ∷ f ∷ es) → n e ≤ n f
first_below n e f es rise = rise 0 1 e (omega arith) (omega arith)

rest_rises : (n : (EdgeKey × ℕ) → ℕ) (e : EdgeKey × ℕ) (es : List (EdgeKey × ℕ)) → IsNonDecreasingBy n (e ∷ es) → IsNonDecreasingBy n es
rest_rises n e es rise i j d before below = rise (suc i) (suc j) d (omega (arith, before)) (omega (arith, below))

rises : (n m : (EdgeKey × ℕ) → ℕ) (P : EdgeKey × ℕ → Type 0) (least : ℕ) (es : List (EdgeKey × ℕ)) → ((e : EdgeKey × ℕ) → P e → n e ≡ m e) → ((e f : EdgeKey × ℕ) → P e → P f → m e ≡ m f → e.0 ≡ f.0) →
    All P es → AllPairs (λ a b. a.0 ≢ b.0) es → IsNonDecreasingBy n es → ((e : EdgeKey × ℕ) (rest : List (EdgeKey × ℕ)) → es ≡ e ∷ rest → least ≤ m e) → Rises m least es
rises n m P least [] same told all once rise above = tt
rises n m P least (e ∷ []) same told all once rise above = (above e [] refl, tt)
rises n m P least (e ∷ f ∷ es) same told all once rise above =
    let here = All-head P e (f ∷ es) all in
    let next = All-head P f es (All-tail P e (f ∷ es) all) in
    let below : n e ≤ n f = first_below n e f es rise in
    let differ : m e ≢ m f = λ equal. once 0 1 e (omega arith) (omega arith) (told e f here next equal) in
    let less : m e + 1 ≤ m f = by_order (m e) (m f) differ (omega (arith, below, same e here, same f next)) in (
      above e (f ∷ es) refl,
      rises n m P (m e + 1) (f ∷ es) same told (All-tail P e (f ∷ es) all) (λ i j d before inside. once (suc i) (suc j) d (omega (arith, before)) (omega (arith, inside))) (rest_rises n e (f ∷ es) rise)
          (λ g rest is. let one : f ≡ g = cc in subst (λ x. m e + 1 ≤ m x) one less),
    )

-- ---- entries

module _ (state : State) (places : List ℕ) (sound : IsSound state.plan) (are : ArePlaces state.plan places) where
  flow_fits : (edges : List (EdgeKey × ℕ)) → All (IsCarried state) edges → AllPairs (λ a b. a.0 ≢ b.0) edges → All (λ e. 1 ≤ e.1) edges → AreInOrder (place_by places) edges → AreEdgeUnits (place_in state.plan) state.plan edges
  flow_fits edges carried once some rise =
      let among : All (λ (e : EdgeKey × ℕ). IsEdgeOf state.plan e.0) edges =
      All-weaker (IsCarried state) (λ (e : EdgeKey × ℕ). IsEdgeOf state.plan e.0) (λ e is. edge_there state e.0 is.there) edges carried in
      record {
        among = recursion_from_All (λ (e : EdgeKey × ℕ). IsEdgeOf state.plan e.0) edges among;
        units = recursion_from_All (λ (e : EdgeKey × ℕ). IsBetween 1 EDGE_UNITS e.1) edges
            (λ k d below. record { low = some k d below; high = units_small state (get_or edges k d) sound (carried k d below) });
        in_order = rises (λ (e : EdgeKey × ℕ). edge_place (place_by places) e.0) (λ (e : EdgeKey × ℕ). edge_place (place_in state.plan) e.0) (λ (e : EdgeKey × ℕ). IsEdgeOf state.plan e.0) 0 edges
            (λ e there. edge_by state.plan places e.0 are there)
            (λ e f here there. same_edge state.plan e.0 f.0 sound.counts.requirements here there)
            among once rise (λ e rest is. omega arith);
      }

  pub entry_fits : (reason : LeafReason) (entry : Shared) → IsThere state reason → IsSameReason reason (entry_reason entry) → HasUnitsInOrder (place_by places) entry → IsShared (place_in state.plan) state.plan entry
  entry_fits (shown.Flow pairs) (Flow edges) there same in_order =
      flow_fits edges (All-permutation (IsCarried state) pairs edges same there.0)
      (pairs-permutation (λ (a b : EdgeKey × ℕ). a.0 ≢ b.0) (λ a b differ equal. differ (sym equal)) pairs edges same there.1) in_order.0 in_order.1
  entry_fits (shown.Flow pairs) (Stuck keys) there same in_order = absurd same
  entry_fits (shown.Stuck keys) (Stuck others) there same in_order =
      let equal : others ≡ keys = cc in
      recursion_from_All (IsEdgeOf state.plan) others
      (subst (λ ks. All (IsEdgeOf state.plan) ks) (sym equal) (All-weaker (λ key. IsSome (edge_of state key)) (IsEdgeOf state.plan) (λ key is. edge_there state key is) keys there))
  entry_fits (shown.Stuck keys) (Flow edges) there same in_order = let no : ⊥ = cc in absurd no
  entry_fits (shown.Denied veto) (Flow edges) there same in_order = let no : ⊥ = cc in absurd no
  entry_fits (shown.Denied veto) (Stuck keys) there same in_order = let no : ⊥ = cc in absurd no
