-- The bounds of the edges of a state are within those of a flow.
use Rattle.std.proofs.Common.{◌≡◌, ℕ, ◌≤◌, Bool, true, false, List, All, ◌++◌, Option, None, Some, refl, sym, ap, subst, ◌∙◌, arith}
use Rattle.std.proofs.lemmas.Int.{ints}
use Rattle.std.specs.Prelude.{ℤ, pos, ◌+ℤ◌, neg_ℤ, IfSome, option_map, option_and_then, option_to_list, slice_get}
use Rattle.uhura_plan.specs.declared.key.Side.{Side}
use Rattle.uhura_plan.specs.declared.key.Side.TheVariants.{Lower, Upper}
use Rattle.uhura_plan.specs.declared.key.SideKey.{SideKey}
use Rattle.uhura_plan.specs.declared.key.Item.{Item}
use Rattle.uhura_plan.specs.declared.key.Item.TheVariants as item
use Rattle.uhura_plan.specs.declared.key.EdgeKey.{EdgeKey}
use Rattle.uhura_plan.specs.declared.key.EdgeKey.TheVariants.{Loose, Firm, Order, Steep}
use Rattle.uhura_plan.specs.declared.price.Second.{Second}
use Rattle.uhura_plan.specs.declared.price.Rate.{Rate}
use Rattle.uhura_plan.specs.declared.price.Price.{Price}
use Rattle.uhura_plan.specs.declared.requirement.Requirement.{Requirement}
use Rattle.uhura_plan.specs.declared.uncertain.Uncertain.{Uncertain}
use Rattle.uhura_plan.specs.Limits.{IsBound, IsAmount, IsRate, IsSecond, IsPrice}
use Rattle.uhura_plan.specs.Sound.{IsSound, IsSoundUncertain}
use Rattle.uhura_plan.specs.Sides.{loosening_rate, rate_of}
use Rattle.uhura_plan.specs.Find.{requirement_in}
use Rattle.uhura_net.specs.declared.edge.Edge.{Edge}
use Rattle.std.specs.Bool.{MatchBool}
use Rattle.uhura_plan.specs.Limits.{IsUnitPrice}
use Rattle.uhura_net.specs.declared.edge.TheConstants.{FIRM_CAPACITY}
use Rattle.uhura_net.specs.Table.{IsEdgeFor}
use Rattle.uhura_net.specs.Circulation.{edges_of}
use Rattle.uhura_flow.specs.Flow.{IsFlowEdge}
use Rattle.uhura_dual.specs.Settled.{key_at}
use Rattle.uhura_dual.proofs.KeysAt.{key_at-place_number}
use Rattle.uhura_search.specs.Moving.{HasFlowBounds}
use Rattle.uhura_net.specs.Place.{HasPlace, place_number, is_loose}
use Rattle.uhura_flow.specs.Loops.{IsBoundOf}
use Rattle.uhura_veto.specs.declared.veto.Veto.{Veto}
use Rattle.uhura_veto.specs.declared.room.Room.{Room}
use Rattle.uhura_veto.specs.declared.room.Room.TheVariants.{Units, Unlimited}
use Rattle.uhura_veto.specs.Vetoes.{IsSoundVeto, AreSoundVetoes}
use Rattle.uhura_veto.specs.Room.{caps_on, room_to_loosen, room_to_narrow, least_of, width_of, requirement_room, duration_room, IsSoundRoom}
use Rattle.uhura_veto.specs.State.{State}
use Rattle.uhura_veto.proofs.SoundRooms.{least_with-sound}
use Rattle.uhura_worst.specs.declared.constraint.Constraint.{Constraint}
use Rattle.uhura_worst.specs.Nodes.{HasNodes}
use Rattle.uhura_worst.specs.Edges.{between, requirement_constraint, duration_constraint, loose_edge, steep_edge, steep_edge_by, firm_edge, requirement_edge, duration_edge, edge_in, item_of}
use Rattle.uhura_worst.specs.Filled.{entry_at, IsTableOf}
use Rattle.uhura_worst.proofs.SoundItems.{requirement_in-placed, uncertain-among, loosening_rate-limited, rate_of-limited}

-- the edge, where there is one, has a bound of a flow, and a constraint one of a plan
abbrev pub IsBounded : Option Edge → Type 0
IsBounded edge = IfSome edge (λ e. IsBoundOf e.bound)

abbrev pub IsLimited : Option Constraint → Type 0
IsLimited constraint = IfSome constraint (λ c. IsBound c.bound)

-- a bound, moved by an amount
moved : (bound : ℤ) (amount : ℕ) → IsBound bound → IsAmount amount → IsBoundOf (bound +ℤ pos amount)
moved bound amount limited small = record { least = omega (arith, ints, limited.least, limited.most, small); most = omega (arith, ints, limited.least, limited.most, small) }

loose : (price : Option Rate) (c : Constraint) → IsBound c.bound → IsBounded (loose_edge price c)
loose None c limited = tt
loose (Some rate) c limited = record { least = omega (arith, ints, limited.least, limited.most); most = omega (arith, ints, limited.least, limited.most) }

second : (first : ℕ) (c : Constraint) (o : Option Second) → IsBound c.bound → IfSome o (IsSecond first) → IsBounded (option_map (steep_edge_by first c) o)
second first c None limited sound = tt
second first c (Some s) limited sound = moved c.bound s.after limited sound.after

steep : (price : Option Rate) (c : Constraint) → IsBound c.bound → IfSome price IsRate → IsBounded (steep_edge price c)
steep None c limited sound = tt
steep (Some rate) c limited sound = second rate.first c rate.second limited sound.second

firm : (room : Room) (c : Constraint) → IsBound c.bound → IsSoundRoom room → IsBounded (firm_edge room c)
firm Unlimited c limited small = tt
firm (Units most) c limited small = moved c.bound most limited small

-- where the constraint is there
of_constraint : (o : Option Constraint) (edge : Constraint → Option Edge) → IsLimited o → ((c : Constraint) → IsBound c.bound → IsBounded (edge c)) → IsBounded (option_and_then edge o)
of_constraint None edge limited each = tt
of_constraint (Some c) edge limited each = each c limited

negated : (bound : ℤ) → IsBound bound → IsBound (neg_ℤ bound)
negated bound limited = record { least = omega (arith, ints, limited.least, limited.most); most = omega (arith, ints, limited.least, limited.most) }

mapped : (o : Option ℤ) (make : ℤ → Constraint) → IfSome o IsBound → ((b : ℤ) → IsBound b → IsBound (make b).bound) → IsLimited (option_map make o)
mapped None make limited each = tt
mapped (Some b) make limited each = each b limited

requirement_limited : (side : Side) (r : Requirement) → HasNodes r → IsLimited (requirement_constraint side r)
requirement_limited Lower r nodes = mapped r.lower.bound (λ least. between r.to r.from (neg_ℤ least)) nodes.lower.bound negated
requirement_limited Upper r nodes = mapped r.upper.bound (λ most. between r.from r.to most) nodes.upper.bound (λ b limited. limited)

duration_limited : (side : Side) (d : ℕ) (u : Uncertain) → IsSoundUncertain 512 u → IsBound (duration_constraint side d u).bound
duration_limited Lower d u sound = record { least = omega (arith, ints, sound.least, sound.ordered, sound.most); most = omega (arith, ints, sound.least, sound.ordered, sound.most) }
duration_limited Upper d u sound = record { least = omega (arith, ints, sound.least, sound.ordered, sound.most); most = omega (arith, ints, sound.least, sound.ordered, sound.most) }

-- rooms
priced : (price : Price) (most : Option ℕ) (key : SideKey) (vetoes : List Veto) → IfSome most IsAmount → All IsSoundVeto vetoes → IsSoundRoom (least_of (option_to_list most ++ caps_on key vetoes))
priced price None key vetoes small sound = least_with-sound Unlimited key vetoes tt sound
priced price (Some m) key vetoes small sound = least_with-sound (Units m) key vetoes small sound

loosened : (bound : Option ℤ) (price : Option Price) (key : SideKey) (vetoes : List Veto) → IfSome price IsPrice → All IsSoundVeto vetoes → IsSoundRoom (room_to_loosen bound price (caps_on key vetoes))
loosened None price key vetoes small sound = omega arith
loosened (Some b) None key vetoes small sound = omega arith
loosened (Some b) (Some p) key vetoes small sound = priced p p.most key vetoes small.most sound

requirement_small : (vetoes : List Veto) (side : Side) (r : Requirement) → HasNodes r → All IsSoundVeto vetoes → IsSoundRoom (requirement_room vetoes side r)
requirement_small vetoes Lower r nodes sound = loosened r.lower.bound r.lower.price (record { item = item.Requirement r.slot; side = Lower }) vetoes nodes.lower.price sound
requirement_small vetoes Upper r nodes sound = loosened r.upper.bound r.upper.price (record { item = item.Requirement r.slot; side = Upper }) vetoes nodes.upper.price sound

width : (u : Uncertain) → IsSoundUncertain 512 u → IsAmount (width_of u)
width u sound = omega (arith, ints, sound.least, sound.ordered, sound.most)

narrowed : (rate : Option Rate) (wide : ℕ) (key : SideKey) (vetoes : List Veto) → IsAmount wide → All IsSoundVeto vetoes → IsSoundRoom (room_to_narrow rate wide (caps_on key vetoes))
narrowed None wide key vetoes small sound = omega arith
narrowed (Some rate) wide key vetoes small sound = least_with-sound (Units wide) key vetoes small sound

-- the tables
of_requirement : (vetoes : List Veto) (r : Requirement) (key : EdgeKey) → HasNodes r → All IsSoundVeto vetoes → IsBounded (requirement_edge vetoes r key)
of_requirement vetoes r (Loose key) nodes sound = of_constraint (requirement_constraint key.side r) (loose_edge (loosening_rate key.side r)) (requirement_limited key.side r nodes) (loose (loosening_rate key.side r))
of_requirement vetoes r (Firm key) nodes sound =
    of_constraint (requirement_constraint key.side r) (firm_edge (requirement_room vetoes key.side r)) (requirement_limited key.side r nodes)
    (λ c limited. firm (requirement_room vetoes key.side r) c limited (requirement_small vetoes key.side r nodes sound))
of_requirement vetoes r (Steep key) nodes sound =
    of_constraint (requirement_constraint key.side r) (steep_edge (loosening_rate key.side r)) (requirement_limited key.side r nodes)
    (λ c limited. steep (loosening_rate key.side r) c limited (loosening_rate-limited key.side r nodes))
of_requirement vetoes r (Order d) nodes sound = tt

of_duration : (vetoes : List Veto) (d : ℕ) (u : Uncertain) (key : EdgeKey) → IsSoundUncertain 512 u → All IsSoundVeto vetoes → IsBounded (duration_edge vetoes d u key)
of_duration vetoes d u (Loose key) is sound = loose (rate_of key.side u) (duration_constraint key.side d u) (duration_limited key.side d u is)
of_duration vetoes d u (Firm key) is sound =
    firm (duration_room vetoes d key.side u) (duration_constraint key.side d u) (duration_limited key.side d u is)
    (narrowed (rate_of key.side u) (width_of u) (record { item = item.Uncertain d; side = key.side }) vetoes (width u is) sound)
of_duration vetoes d u (Steep key) is sound = steep (rate_of key.side u) (duration_constraint key.side d u) (duration_limited key.side d u is) (rate_of-limited key.side u is)
of_duration vetoes d u (Order e) is sound = record { least = omega (arith, ints); most = omega (arith, ints) }

of_item : (state : State) (key : EdgeKey) (of : Item) → IsSound state.plan → AreSoundVetoes state.vetoes → IsBounded (edge_in state key of)
of_item state key (item.Requirement slot) sound vetoes = by (requirement_in state.plan slot) refl
  where
    by : (o : Option Requirement) → requirement_in state.plan slot ≡ o → IsBounded (option_and_then (λ (r : Requirement). requirement_edge state.vetoes r key) o)
    by None found = tt
    by (Some r) found = of_requirement state.vetoes r key (requirement_in-placed state.plan slot r sound found) vetoes.each
of_item state key (item.Uncertain d) sound vetoes = by (slice_get state.plan.uncertains d) refl
  where
    by : (o : Option Uncertain) → slice_get state.plan.uncertains d ≡ o → IsBounded (option_and_then (λ (u : Uncertain). duration_edge state.vetoes d u key) o)
    by None found = tt
    by (Some u) found = of_duration state.vetoes d u key (uncertain-among state.plan d u sound found) vetoes.each

-- so a table of a state has bounds of a flow
pub table-bounded : (state : State) (table : List (Option Edge)) → IsSound state.plan → AreSoundVetoes state.vetoes → IsTableOf state table → (key : EdgeKey) → HasPlace key → IsBounded (entry_at table key)
table-bounded state table sound vetoes is_table key placed = subst IsBounded (sym (is_table key placed)) (of_item state key (item_of key) sound vetoes)

-- an edge that may stand in a table, with such a bound, may stand in a flow
fits_flow : (place : ℕ) (edge : Edge) → IsEdgeFor place edge → IsBoundOf edge.bound → IsFlowEdge place edge
fits_flow place edge fits bound = record {
  of_net = record { from = fits.from; to = fits.to; apart = fits.apart; least = bound.least; most = bound.most; capacity = by (is_loose place) fits.capacity };
  capacity = fits.capacity;
}
  where
    by : (b : Bool) → MatchBool b (IsUnitPrice edge.capacity) (edge.capacity ≡ FIRM_CAPACITY) → edge.capacity ≤ FIRM_CAPACITY
    by true price = omega (arith, price.most)
    by false firm = omega (arith, firm)

pub edge-fits : (table : List (Option Edge)) (place : ℕ) (key : EdgeKey) → HasPlace key → place_number key ≡ place → HasFlowBounds table → IfSome (edges_of table place) (IsEdgeFor place) →
    IfSome (edges_of table place) (IsFlowEdge place)
edge-fits table place key placed stands bounds fits = by (edges_of table place) fits (subst (λ (p : ℕ). IsBounded (edges_of table p)) stands (bounds key placed))
  where
    by : (o : Option Edge) → IfSome o (IsEdgeFor place) → IsBounded o → IfSome o (IsFlowEdge place)
    by None is bound = tt
    by (Some edge) is bound = fits_flow place edge is bound

-- the key at its place
pub key-there : (place : ℕ) (key : EdgeKey) → HasPlace key → place_number key ≡ place → key_at place ≡ key
key-there place key placed stands = ap key_at (sym stands) ∙ key_at-place_number key placed
