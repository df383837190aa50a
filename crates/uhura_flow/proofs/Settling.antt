-- When all is optimal again.
use Rattle.std.proofs.Common.{◌≡◌, ◌≢◌, ℕ, ◌+◌, ◌<◌, ◌≤◌, ◌⊎◌, Bool, true, false, cond, ℤ, pos, negsuc, ◌≤ℤ◌, List, length, set, Option, None, Some, IfSome, unwrap_or, sym, ap, subst, ◌∙◌, inl, inr, arith}
use Rattle.std.specs.Bool.{MatchBool}
use Rattle.std.proofs.lemmas.Int.{ints}
use Rattle.std.proofs.lemmas.Bool.{cases_eq}
use Rattle.std.proofs.lemmas.List.{get_or-set_same, get_or-set_other}
use Rattle.uhura_net.specs.declared.edge.TheConstants.{NODES, FIRM_CAPACITY}
use Rattle.uhura_net.specs.declared.edge.Edge.{Edge}
use Rattle.uhura_net.specs.declared.place.TheConstants.{PLACES}
use Rattle.uhura_plan.specs.Limits.{IsUnitPrice}
use Rattle.uhura_net.specs.Place.{is_loose}
use Rattle.uhura_net.specs.Table.{IsEdgeFor}
use Rattle.uhura_net.specs.Edges.{no_edge, edge_at, time_at, AreKept}
use Rattle.uhura_net.specs.Circulation.{edges_of, units_of}
use Rattle.uhura_net.specs.Optimal.{slack_of, below_zero, IsOptimalAt, IsOptimal, firm_edges}
use Rattle.uhura_net.specs.Net.{NetState, IsNetEdge, IsNet}
use Rattle.uhura_net.proofs.Firm.{firm_are_kept}
use Rattle.uhura_net.proofs.Outweighing.{firm_outweigh}
use Rattle.uhura_flow.specs.Flow.{IsFlowEdge, AreFlowEdges, IsOptimalNet}
use Rattle.uhura_flow.specs.Changes.{apart_by}
use Rattle.uhura_flow.specs.Turns.{with_capacity, edges_held, IsHeld}
use Rattle.uhura_flow.specs.Loops.{with_bound, slack_under, IsFilled, IsFull, IsDrained, IsBoundOf}
use Rattle.uhura_flow.specs.Placing.{AreFlowEdgesBut, IsPossible, IsPlaced}
use Rattle.uhura_flow.proofs.Cycling.{set_twice}
use Rattle.uhura_flow.proofs.Trails.{inside_where_there}
use Rattle.uhura_flow.proofs.Readiness.{held_side}

-- edges that may stand where they do are placed
placed_at : (net : NetState) (place : ℕ) (edge : Edge) → IsNet net → AreFlowEdges net.edges → edges_of net.edges place ≡ Some edge → (place < PLACES) × IsEdgeFor place edge
placed_at net place edge sound placed is =
    let flow : IsFlowEdge place edge = subst (λ e. IfSome e (IsFlowEdge place)) is (placed place) in (
      inside_where_there net place edge sound is,
      record {
        from = flow.of_net.from;
        to = flow.of_net.to;
        apart = flow.of_net.apart;
        least = omega (arith, ints, flow.of_net.least);
        most = omega (arith, ints, flow.of_net.most);
        capacity = flow.capacity;
      },
    )

-- where a place is written, and elsewhere
pub written_there : (edges : List (Option Edge)) (place : ℕ) (edge : Option Edge) → place < length edges → edges_of (set edges place edge) place ≡ edge
written_there edges place edge inside = get_or-set_same edges place edge None inside

pub written_elsewhere : (edges : List (Option Edge)) (place other : ℕ) (edge : Option Edge) → other ≢ place → edges_of (set edges place edge) other ≡ edges_of edges other
written_elsewhere edges place other edge apart = get_or-set_other edges place other edge None apart

placed_set : (edges : List (Option Edge)) (place : ℕ) (edge : Option Edge) → place < length edges → AreFlowEdgesBut place edges → IfSome edge (IsFlowEdge place) → AreFlowEdges (set edges place edge)
placed_set edges place edge inside others here other =
    elim (cases_eq other place) [
      | inl same ↦
          let P : ℕ → Type 0 = λ p. IfSome (edges_of (set edges place edge) p) (IsFlowEdge p) in
          subst P (sym same) (subst (λ e. IfSome e (IsFlowEdge place)) (sym (written_there edges place edge inside)) here)
      | inr apart ↦ subst (λ e. IfSome e (IsFlowEdge other)) (sym (written_elsewhere edges place other edge apart)) (others other apart)
    ]

-- the others stay as they are where a place is written
pub but_set : (edges : List (Option Edge)) (place : ℕ) (edge : Option Edge) → AreFlowEdgesBut place edges → AreFlowEdgesBut place (set edges place edge)
but_set edges place edge others other apart = subst (λ e. IfSome e (IsFlowEdge other)) (sym (written_elsewhere edges place other edge apart)) (others other apart)

-- A place that was held is given its edge, or none, and all is optimal.
pub record IsGiven (base : List (Option Edge)) (net : NetState) (after : List ℤ) (place : ℕ) (edge : Option Edge) : Type 0 where
  pub sound : IsOptimalNet net after
  pub edges : net.edges ≡ set base place edge

pub given : (base : List (Option Edge)) (held net : NetState) (after : List ℤ) (place : ℕ) (first : Edge) (edge mid : Option Edge) → IsHeld held after place first → held.edges ≡ set base place mid →
    place < length base → AreFlowEdgesBut place base → IfSome edge (IsFlowEdge place) → IsPossible (set base place edge) →
    IsOptimalAt (unwrap_or edge no_edge) (units_of held.units place) (time_at after) → net ≡ record held { edges = set held.edges place edge } → IsNet net → length after ≡ NODES →
    IsGiven base net after place edge
given base held net after place first edge mid is_held edges_are inside others here possible optimal is sound nodes =
    let units_are : units_of net.units ≡ units_of held.units = ap (λ (n : NetState). units_of n.units) is in
    let edges_now : net.edges ≡ set base place edge =
    ap (λ (n : NetState). n.edges) is ∙ ap (λ l. set l place edge) edges_are ∙ set_twice base place mid edge in
    let held_inside : place < length held.edges = omega (arith, is_held.sound.places, is_held.inside) in
    let edges_held_now : net.edges ≡ set held.edges place edge = ap (λ (n : NetState). n.edges) is in
    let all : (other : ℕ) → IsOptimalAt (edge_at (edges_of (set held.edges place edge)) other) (units_of held.units other) (time_at after) = λ other.
    elim (cases_eq other place) [
      | inl same ↦
          let P : ℕ → Type 0 = λ p. IsOptimalAt (edge_at (edges_of (set held.edges place edge)) p) (units_of held.units p) (time_at after) in
          let Q : Option Edge → Type 0 = λ e. IsOptimalAt (unwrap_or e no_edge) (units_of held.units place) (time_at after) in
          subst P (sym same) (subst Q (sym (written_there held.edges place edge held_inside)) optimal)
      | inr apart ↦
          let Q : Option Edge → Type 0 = λ e. IsOptimalAt (unwrap_or e no_edge) (units_of held.units other) (time_at after) in
          subst Q (sym (written_elsewhere held.edges place other edge apart)) (is_held.optimal other)
    ] in
    let optimal_now : IsOptimal (edges_of net.edges) (units_of net.units) (time_at after) =
    let P : List (Option Edge) → Type 0 = λ l. (other : ℕ) → IsOptimalAt (edge_at (edges_of l) other) (units_of net.units other) (time_at after) in
    let Q : (ℕ → ℕ) → Type 0 = λ u. (other : ℕ) → IsOptimalAt (edge_at (edges_of (set held.edges place edge)) other) (u other) (time_at after) in
    subst P (sym edges_held_now) (subst Q (sym units_are) all) in
    let placed : AreFlowEdges net.edges = subst AreFlowEdges (sym edges_now) (placed_set base place edge inside others here) in
    let kept_by : AreKept (firm_edges (edges_of net.edges)) possible.0 = subst (λ l. AreKept (firm_edges (edges_of l)) possible.0) (sym edges_now) possible.1 in
    record {
      sound = record {
        sound = sound;
        placed = placed;
        nodes = nodes;
        optimal = optimal_now;
        kept = firm_are_kept PLACES (edges_of net.edges) (units_of net.units) (time_at after) possible.0 sound.circulates optimal_now
            (firm_outweigh (edges_of net.edges) (λ other e e_is. placed_at net other e sound placed e_is)) kept_by;
      };
      edges = edges_now;
    }

-- the place at the end of a filling is optimal with its capacity
pub full_edge : (net : NetState) (after : List ℤ) (place : ℕ) (edge : Edge) → IsHeld net after place edge → IsFull net after place edge edge.capacity →
    IsOptimalAt edge (units_of net.units place) (time_at after)
full_edge net after place edge held full = record {
  used = λ some. held_side net after place edge held some;
  spare = λ spared. elim full [ inl all ↦ absurd (omega (arith, spared, all)) | inr above ↦ above ];
}

-- and at the end of a draining: by what it had to lose, with no edge, with less capacity, or under another bound
pub gone_edge : (units : ℕ) (after : List ℤ) → units ≡ 0 → IsOptimalAt no_edge units (time_at after)
gone_edge units after none = record {
  used = λ some. absurd (omega (arith, some, none));
  spare = λ spared. absurd (omega (arith, spared));
}

pub less_edge : (net : NetState) (after : List ℤ) (place : ℕ) (edge : Edge) (capacity : ℕ) → IsHeld net after place edge → units_of net.units place ≡ capacity →
    IsOptimalAt (with_capacity edge capacity) (units_of net.units place) (time_at after)
less_edge net after place edge capacity held all = record {
  used = λ some. held_side net after place edge held some;
  spare = λ spared. absurd (omega (arith, spared, all));
}

pub loose_edge : (net : NetState) (after : List ℤ) (place : ℕ) (edge : Edge) (bound : ℤ) → (units_of net.units place ≡ 0) ⊎ (slack_under after edge bound ≤ℤ pos 0) →
    pos 0 ≤ℤ slack_under after edge bound → IsOptimalAt (with_bound edge bound) (units_of net.units place) (time_at after)
loose_edge net after place edge bound emptied above = record {
  used = λ some. elim emptied [ inl none ↦ absurd (omega (arith, some, none)) | inr level ↦ level ];
  spare = λ spared. above;
}

-- by how much pushes rose
pub few_up : (before after old new : ℕ) → new + before ≤ old + after → before ≤ after → new ≤ old + apart_by before after
few_up before after old new few up = omega (arith, few, up)

pub few_down : (before after old new : ℕ) → new + after ≤ old + before → after ≤ before → new ≤ old + apart_by before after
few_down before after old new few down = omega (arith, few, down)

-- what a filling and the capacity at its end leave
pub IsPlaced-filled : (old filled new : NetState) (after : List ℤ) (place : ℕ) (edge : Edge) → IsFilled old filled after place edge edge.capacity → IsFull filled after place edge edge.capacity →
    IsNet old → place < PLACES → IsFlowEdge place edge → AreFlowEdgesBut place old.edges → IsPossible (set old.edges place (Some edge)) →
    new ≡ record filled { edges = edges_held filled place edge edge.capacity } → IsNet new → length after ≡ NODES → IsPlaced old new after place (Some edge)
IsPlaced-filled old filled new after place edge is_filled full sound inside flow others possible is new_sound nodes =
    let done = given old.edges filled new after place edge (Some edge) (Some (with_capacity edge (units_of filled.units place))) is_filled.held is_filled.edges (omega (arith, sound.places)) others flow
    possible (full_edge filled after place edge is_filled.held full) is new_sound nodes in
    let units : units_of new.units place ≡ units_of filled.units place = ap (λ (n : NetState). units_of n.units place) is in
    let pushes : new.pushes ≡ filled.pushes = ap (λ (n : NetState). n.pushes) is in
    record {
      sound = done.sound;
      edges = done.edges;
      more = omega (arith, is_filled.more, pushes);
      few = few_up (units_of old.units place) (units_of new.units place) old.pushes new.pushes (omega (arith, is_filled.few, units, pushes)) (omega (arith, is_filled.up, units));
    }

-- an empty place has no units
pub no_units : (net : NetState) (place : ℕ) → IsNet net → edges_of net.edges place ≡ None → units_of net.units place ≡ 0
no_units net place sound empty = omega (arith, sound.circulates.within place, ap (λ e. (unwrap_or e no_edge).capacity) empty)

none_firm : (loose : Bool) (edge : Edge) → cond loose None None ≡ Some edge → ⊥
none_firm true edge is = let no : ⊥ = cc in no
none_firm false edge is = let no : ⊥ = cc in no

held_as : (old net : NetState) (potentials : List ℤ) (place : ℕ) (edge : Edge) → IsOptimalNet old potentials → place < PLACES → IsNetEdge edge →
    IsOptimalAt (with_capacity edge (units_of old.units place)) (units_of old.units place) (time_at potentials) →
    net ≡ record old { edges = edges_held old place edge (units_of old.units place) } → IsNet net → IsHeld net potentials place edge
held_as old net potentials place edge sound inside of_net optimal is net_sound =
    let units : ℕ → ℕ = units_of old.units in
    let room : place < length old.edges = omega (arith, sound.sound.places) in
    let new : List (Option Edge) = edges_held old place edge (units place) in
    let all : (other : ℕ) → IsOptimalAt (edge_at (edges_of new) other) (units other) (time_at potentials) = λ other.
    elim (cases_eq other place) [
      | inl same ↦
          let P : ℕ → Type 0 = λ p. IsOptimalAt (edge_at (edges_of new) p) (units p) (time_at potentials) in
          let Q : Option Edge → Type 0 = λ e. IsOptimalAt (unwrap_or e no_edge) (units place) (time_at potentials) in
          subst P (sym same) (subst Q (sym (written_there old.edges place (Some (with_capacity edge (units place))) room)) optimal)
      | inr apart ↦
          let Q : Option Edge → Type 0 = λ e. IsOptimalAt (unwrap_or e no_edge) (units other) (time_at potentials) in
          subst Q (sym (written_elsewhere old.edges place other (Some (with_capacity edge (units place))) apart)) (sound.optimal other)
    ] in
    let holds : NetState → Type 0 = λ n. (edges_of n.edges place ≡ Some (with_capacity edge (units_of n.units place))) × IsOptimal (edges_of n.edges) (units_of n.units) (time_at potentials) in
    let both = subst holds (sym is) (written_there old.edges place (Some (with_capacity edge (units place))) room, all) in
    record {
      sound = net_sound;
      inside = inside;
      of_net = of_net;
      there = both.0;
      optimal = both.1;
    }

-- a place that was held before it is settled
pub IsPlaced-held : (old held new : NetState) (after : List ℤ) (place : ℕ) (first : Edge) (capacity : ℕ) (edge : Option Edge) →
    held ≡ record old { edges = edges_held old place first capacity } → IsPlaced held new after place edge → IsPlaced old new after place edge
IsPlaced-held old held new after place first capacity edge is placed =
    let units : units_of held.units place ≡ units_of old.units place = ap (λ (n : NetState). units_of n.units place) is in
    let pushes : held.pushes ≡ old.pushes = ap (λ (n : NetState). n.pushes) is in
    let few : new.pushes ≤ old.pushes + apart_by (units_of old.units place) (units_of new.units place) =
    subst (λ (u : ℕ). new.pushes ≤ old.pushes + apart_by u (units_of new.units place)) units
    (subst (λ (p : ℕ). new.pushes ≤ p + apart_by (units_of held.units place) (units_of new.units place)) pushes placed.few) in
    record {
      sound = placed.sound;
      edges = placed.edges ∙ ap (λ l. set l place edge) (ap (λ (n : NetState). n.edges) is) ∙ set_twice old.edges place (Some (with_capacity first capacity)) edge;
      more = omega (arith, placed.more, pushes);
      few = few;
    }

-- what was possible still is
pub possible_held : (old held : NetState) (place : ℕ) (first : Edge) (capacity : ℕ) (edge : Option Edge) → held ≡ record old { edges = edges_held old place first capacity } →
    IsPossible (set old.edges place edge) → IsPossible (set held.edges place edge)
possible_held old held place first capacity edge is possible =
    let same : set held.edges place edge ≡ set old.edges place edge =
    ap (λ (n : NetState). set n.edges place edge) is ∙ set_twice old.edges place (Some (with_capacity first capacity)) edge in
    subst IsPossible (sym same) possible

pub others_held : (old held : NetState) (potentials : List ℤ) (place : ℕ) (first : Edge) (capacity : ℕ) → held ≡ record old { edges = edges_held old place first capacity } →
    IsOptimalNet old potentials → AreFlowEdgesBut place held.edges
others_held old held potentials place first capacity is sound =
    subst (AreFlowEdgesBut place) (sym (ap (λ (n : NetState). n.edges) is)) (but_set old.edges place (Some (with_capacity first capacity)) (λ other apart. sound.placed other))

-- what a draining leaves, and the edge at its end
pub IsPlaced-drained : (old drained new : NetState) (before after : List ℤ) (place : ℕ) (first : Edge) (target : Option ℤ) (least : ℕ) (edge : Option Edge) →
    IsDrained old before drained after place first target least → IsNet old → place < PLACES → IfSome edge (IsFlowEdge place) → AreFlowEdgesBut place old.edges → IsPossible (set old.edges place edge) →
    IsOptimalAt (unwrap_or edge no_edge) (units_of drained.units place) (time_at after) → new ≡ record drained { edges = set drained.edges place edge } → IsNet new → length after ≡ NODES →
    IsPlaced old new after place edge
IsPlaced-drained old drained new before after place first target least edge is_drained sound inside flow others possible optimal is new_sound nodes =
    let done = given old.edges drained new after place first edge (Some (with_capacity first (units_of drained.units place))) is_drained.held is_drained.edges (omega (arith, sound.places)) others flow
    possible optimal is new_sound nodes in
    let units : units_of new.units place ≡ units_of drained.units place = ap (λ (n : NetState). units_of n.units place) is in
    let pushes : new.pushes ≡ drained.pushes = ap (λ (n : NetState). n.pushes) is in
    record {
      sound = done.sound;
      edges = done.edges;
      more = omega (arith, is_drained.more, pushes);
      few = few_down (units_of old.units place) (units_of new.units place) old.pushes new.pushes (omega (arith, is_drained.few, units, pushes)) (omega (arith, is_drained.down, units));
    }

-- a place is held in an optimal net: where it had an edge, and where it had none
pub held_from : (old net : NetState) (potentials : List ℤ) (place : ℕ) (edge : Edge) → IsOptimalNet old potentials → place < PLACES → edges_of old.edges place ≡ Some edge →
    net ≡ record old { edges = edges_held old place edge (units_of old.units place) } → IsNet net → IsHeld net potentials place edge
held_from old net potentials place edge sound inside there is net_sound =
    let flow : IsFlowEdge place edge = subst (λ e. IfSome e (IsFlowEdge place)) there (sound.placed place) in
    let here : edge_at (edges_of old.edges) place ≡ edge = ap (λ e. unwrap_or e no_edge) there in
    let P : Edge → Type 0 = λ e. IsOptimalAt e (units_of old.units place) (time_at potentials) in
    let optimal = subst P here (sound.optimal place) in
    held_as old net potentials place edge sound inside flow.of_net
    (record { used = λ some. optimal.used some; spare = λ spared. absurd (omega (arith, spared)) }) is net_sound

pub held_new : (old net : NetState) (potentials : List ℤ) (place : ℕ) (edge : Edge) → IsOptimalNet old potentials → place < PLACES → edges_of old.edges place ≡ None → IsNetEdge edge →
    net ≡ record old { edges = edges_held old place edge 0 } → IsNet net → IsHeld net potentials place edge
held_new old net potentials place edge sound inside empty of_net is net_sound =
    let none : units_of old.units place ≡ 0 = no_units old place sound.sound empty in
    let P : ℕ → Type 0 = λ u. net ≡ record old { edges = edges_held old place edge u } in
    held_as old net potentials place edge sound inside of_net
    (record { used = λ some. absurd (omega (arith, some, none)); spare = λ spared. absurd (omega (arith, spared)) }) (subst P (sym none) is) net_sound

-- the firm edges without that of a place are kept by what keeps them
firm_without : (edges : List (Option Edge)) (place : ℕ) (times : ℕ → ℤ) → place < length edges → AreKept (firm_edges (edges_of edges)) times →
    AreKept (firm_edges (edges_of (set edges place None))) times
firm_without edges place times inside kept other edge is =
    elim (cases_eq other place) [
      | inl same ↦
          let P : ℕ → Type 0 = λ p. firm_edges (edges_of (set edges place None)) p ≡ Some edge in
          absurd (none_firm (is_loose place) edge (subst (λ e. cond (is_loose place) None e ≡ Some edge) (written_there edges place None inside) (subst P same is)))
      | inr apart ↦ kept other edge (subst (λ e. cond (is_loose other) None e ≡ Some edge) (written_elsewhere edges place other None apart) is)
    ]

pub possible_without : (net : NetState) (potentials : List ℤ) (place : ℕ) → IsOptimalNet net potentials → place < PLACES → IsPossible (set net.edges place None)
possible_without net potentials place sound inside = (time_at potentials, firm_without net.edges place (time_at potentials) (omega (arith, sound.sound.places)) sound.kept)

loose_none : (loose : Bool) (at : Option Edge) (edge : Edge) → loose ≡ true → cond loose None at ≡ Some edge → ⊥
loose_none true at edge loose is = let no : ⊥ = cc in no
loose_none false at edge loose is = let no : ⊥ = cc in no

-- where the place is loose, any edge there is possible
firm_beside : (edges : List (Option Edge)) (place : ℕ) (new : Edge) (times : ℕ → ℤ) → is_loose place ≡ true → AreKept (firm_edges (edges_of edges)) times →
    AreKept (firm_edges (edges_of (set edges place (Some new)))) times
firm_beside edges place new times loose kept other edge is =
    elim (cases_eq other place) [
      | inl same ↦
          let at : is_loose other ≡ true = ap is_loose same ∙ loose in
          absurd (loose_none (is_loose other) (edges_of (set edges place (Some new)) other) edge at is)
      | inr apart ↦ kept other edge (subst (λ e. cond (is_loose other) None e ≡ Some edge) (written_elsewhere edges place other (Some new) apart) is)
    ]

pub possible_loose : (net : NetState) (potentials : List ℤ) (place : ℕ) (new : Edge) → IsOptimalNet net potentials → is_loose place ≡ true → IsPossible (set net.edges place (Some new))
possible_loose net potentials place new sound loose = (time_at potentials, firm_beside net.edges place new (time_at potentials) loose sound.kept)

-- an edge at a loose place with another price, and one under another bound, may stand there
pub flow_repriced : (net : NetState) (potentials : List ℤ) (place : ℕ) (edge : Edge) (capacity : ℕ) → IsOptimalNet net potentials → edges_of net.edges place ≡ Some edge → is_loose place ≡ true →
    IsUnitPrice capacity → IsFlowEdge place (with_capacity edge capacity)
flow_repriced net potentials place edge capacity sound there loose price =
    let flow : IsFlowEdge place edge = subst (λ e. IfSome e (IsFlowEdge place)) there (sound.placed place) in
    record {
      of_net = record {
        from = flow.of_net.from;
        to = flow.of_net.to;
        apart = flow.of_net.apart;
        least = flow.of_net.least;
        most = flow.of_net.most;
        capacity = omega (arith, price.most);
      };
      capacity = subst (λ b. MatchBool b (IsUnitPrice capacity) (capacity ≡ FIRM_CAPACITY)) (sym loose) price;
    }

pub flow_rebound : (net : NetState) (potentials : List ℤ) (place : ℕ) (edge : Edge) (bound : ℤ) → IsOptimalNet net potentials → edges_of net.edges place ≡ Some edge → IsBoundOf bound →
    IsFlowEdge place (with_bound edge bound)
flow_rebound net potentials place edge bound sound there of_bound =
    let flow : IsFlowEdge place edge = subst (λ e. IfSome e (IsFlowEdge place)) there (sound.placed place) in
    record {
      of_net = record {
        from = flow.of_net.from;
        to = flow.of_net.to;
        apart = flow.of_net.apart;
        least = of_bound.least;
        most = of_bound.most;
        capacity = flow.of_net.capacity;
      };
      capacity = flow.capacity;
    }

-- units that a place has fit its capacity
pub units_fit : (net : NetState) (place : ℕ) (edge : Edge) → IsNet net → edges_of net.edges place ≡ Some edge → units_of net.units place ≤ edge.capacity
units_fit net place edge sound there = omega (arith, sound.circulates.within place, ap (λ e. (unwrap_or e no_edge).capacity) there)

-- the same where the edge is known to have another bound alone
pub flow_alike : (net : NetState) (potentials : List ℤ) (place : ℕ) (old edge : Edge) → IsOptimalNet net potentials → edges_of net.edges place ≡ Some old → edge ≡ with_bound old edge.bound →
    IsBoundOf edge.bound → IsFlowEdge place edge
flow_alike net potentials place old edge sound there alike of_bound =
    subst (λ (e : Edge). IsFlowEdge place e) (sym alike) (flow_rebound net potentials place old edge.bound sound there of_bound)

pub held_alike : (old net : NetState) (potentials : List ℤ) (place : ℕ) (first edge : Edge) → IsOptimalNet old potentials → place < PLACES → edges_of old.edges place ≡ Some first →
    edge ≡ with_bound first edge.bound → IsBoundOf edge.bound → slack_of (time_at potentials) edge ≤ℤ pos 0 →
    net ≡ record old { edges = edges_held old place edge (units_of old.units place) } → IsNet net → IsHeld net potentials place edge
held_alike old net potentials place first edge sound inside there alike of_bound passed is net_sound =
    held_as old net potentials place edge sound inside (flow_alike old potentials place first edge sound there alike of_bound).of_net
    (record { used = λ some. passed; spare = λ spared. absurd (omega (arith, spared)) }) is net_sound

pub alike_edge : (net : NetState) (after : List ℤ) (place : ℕ) (old edge : Edge) → edge ≡ with_bound old edge.bound → (units_of net.units place ≡ 0) ⊎ (slack_under after old edge.bound ≤ℤ pos 0) →
    pos 0 ≤ℤ slack_under after old edge.bound → IsOptimalAt edge (units_of net.units place) (time_at after)
alike_edge net after place old edge alike emptied above =
    subst (λ (e : Edge). IsOptimalAt e (units_of net.units place) (time_at after)) (sym alike) (loose_edge net after place old edge.bound emptied above)

pub slack_alike : (potentials : List ℤ) (old edge : Edge) → edge ≡ with_bound old edge.bound → slack_of (time_at potentials) edge ≡ slack_under potentials old edge.bound
slack_alike potentials old edge alike = ap (λ (e : Edge). slack_of (time_at potentials) e) alike

-- potentials that pass a bound
pub passed_by : (z : ℤ) (n : ℕ) → n ≡ below_zero z → n ≢ 0 → z ≤ℤ pos 0
passed_by (pos m) n is some = absurd (some is)
passed_by (negsuc m) n is some = omega (arith, ints)

-- the same where the edge is known to have another capacity alone
pub flow_priced : (net : NetState) (potentials : List ℤ) (place : ℕ) (old edge : Edge) → IsOptimalNet net potentials → edges_of net.edges place ≡ Some old → is_loose place ≡ true →
    edge ≡ with_capacity old edge.capacity → IsUnitPrice edge.capacity → IsFlowEdge place edge
flow_priced net potentials place old edge sound there loose alike price =
    subst (λ (e : Edge). IsFlowEdge place e) (sym alike) (flow_repriced net potentials place old edge.capacity sound there loose price)

pub held_priced : (old net : NetState) (potentials : List ℤ) (place : ℕ) (first edge : Edge) → IsOptimalNet old potentials → place < PLACES → edges_of old.edges place ≡ Some first →
    edge ≡ with_capacity first edge.capacity → IsNetEdge edge → net ≡ record old { edges = edges_held old place edge (units_of old.units place) } → IsNet net → IsHeld net potentials place edge
held_priced old net potentials place first edge sound inside there alike of_net is net_sound =
    let here : edge_at (edges_of old.edges) place ≡ first = ap (λ e. unwrap_or e no_edge) there in
    let optimal : IsOptimalAt first (units_of old.units place) (time_at potentials) =
    subst (λ (e : Edge). IsOptimalAt e (units_of old.units place) (time_at potentials)) here (sound.optimal place) in
    let slack : slack_of (time_at potentials) edge ≡ slack_of (time_at potentials) first = ap (λ (e : Edge). slack_of (time_at potentials) e) alike in
    held_as old net potentials place edge sound inside of_net
    (record { used = λ some. omega (arith, ints, slack, optimal.used some); spare = λ spared. absurd (omega (arith, spared)) }) is net_sound

pub priced_edge : (net : NetState) (after : List ℤ) (place : ℕ) (old edge : Edge) → edge ≡ with_capacity old edge.capacity → IsHeld net after place old → units_of net.units place ≡ edge.capacity →
    IsOptimalAt edge (units_of net.units place) (time_at after)
priced_edge net after place old edge alike held all =
    subst (λ (e : Edge). IsOptimalAt e (units_of net.units place) (time_at after)) (sym alike) (less_edge net after place old edge.capacity held all)
