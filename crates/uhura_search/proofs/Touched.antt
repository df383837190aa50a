-- How many nodes the edges of a plan touch.
use Rattle.std.proofs.Common.{◌≡◌, ℕ, zero, suc, ◌+◌, ◌*◌, ◌<◌, ◌≤◌, Bool, true, false, Option, None, Some, inl, inr, refl, subst, arith}
use Rattle.std.specs.Prelude.{◌⊎◌, ◌==◌, ◌||◌, IfSome, ℤ, neg_ℤ, List, length, option_map, option_and_then, slice_get, if◌then◌else◌}
use Rattle.std.proofs.lemmas.Bool.{cases_lt, eqb-true}
use Rattle.std.proofs.lemmas.Option.{slice_get_within}
use Rattle.uhura_plan.specs.Sound.{IsSound, IsEventAmong}
use Rattle.uhura_plan.specs.Find.{requirement_in}
use Rattle.uhura_plan.specs.Sides.{loosening_rate, rate_of}
use Rattle.uhura_plan.specs.declared.key.Side.{Side}
use Rattle.uhura_plan.specs.declared.key.Side.TheVariants.{Lower, Upper}
use Rattle.uhura_plan.specs.declared.key.Item.{Item}
use Rattle.uhura_plan.specs.declared.key.Item.TheVariants as item
use Rattle.uhura_plan.specs.declared.key.EdgeKey.{EdgeKey}
use Rattle.uhura_plan.specs.declared.key.EdgeKey.TheVariants.{Loose, Firm, Order, Steep}
use Rattle.uhura_plan.specs.declared.key.EventRef.{EventRef}
use Rattle.uhura_plan.specs.declared.key.EventRef.TheVariants.{Controllable, End}
use Rattle.uhura_plan.specs.declared.price.Second.{Second}
use Rattle.uhura_plan.specs.declared.price.Rate.{Rate}
use Rattle.uhura_plan.specs.declared.requirement.Requirement.{Requirement}
use Rattle.uhura_plan.specs.declared.uncertain.Uncertain.{Uncertain}
use Rattle.uhura_choice.specs.declared.prefix.Pick.{Pick}
use Rattle.uhura_net.specs.declared.edge.Edge.{Edge}
use Rattle.uhura_net.specs.declared.place.TheConstants.{PLACES}
use Rattle.uhura_net.specs.Edges.{Edges}
use Rattle.uhura_net.specs.Sums.{sum_below}
use Rattle.uhura_net.proofs.Sums.{sum_below-most, sum_below-append}
use Rattle.uhura_flow.specs.Reading.{touches, is_touched, touched_nodes}
use Rattle.uhura_veto.specs.declared.veto.Veto.{Veto}
use Rattle.uhura_veto.specs.declared.room.Room.{Room}
use Rattle.uhura_veto.specs.declared.room.Room.TheVariants.{Units, Unlimited}
use Rattle.uhura_veto.specs.State.{State}
use Rattle.uhura_worst.specs.declared.constraint.Constraint.{Constraint}
use Rattle.uhura_worst.specs.Nodes.{least_node, greatest_node}
use Rattle.uhura_worst.specs.Edges.{between, requirement_constraint, duration_constraint, loose_edge, steep_edge, steep_edge_by, firm_edge, requirement_edge, duration_edge, edge_in, item_of}
use Rattle.uhura_worst.proofs.SoundItems.{Contains-found, sound_requirement, sound_uncertain}
use Rattle.uhura_dual.specs.Settled.{AreSettled}

-- the node is one of so many controllable events, or an end of one of so many durations
abbrev pub IsNodeOf : ℕ → ℕ → ℕ → Type 0
IsNodeOf events durations node = (node < events) ⊎ ((512 ≤ node) × (node < 512 + 2 * durations))

-- ones at the first numbers alone
ones-most : (n most : ℕ) (f : ℕ → ℕ) → ((i : ℕ) → f i ≤ 1) → ((i : ℕ) → most ≤ i → i < n → f i ≡ 0) → sum_below n f ≤ most
unfolding sum_below
ones-most zero most f one none = omega arith
ones-most (suc n) most f one none =
    elim (cases_lt n most) [
      | inl less ↦ omega (arith, less, sum_below-most n 1 f (λ i _. one i), one n)
      | inr more ↦ omega (arith, none n more (omega arith), ones-most n most f one (λ i past below. none i past (omega (arith, below))))
    ]

abbrev bit : Bool → ℕ
bit b = if b then 1 else 0

at_most : (b : Bool) → bit b ≤ 1
at_most true = omega arith
at_most false = omega arith

module _ (events durations : ℕ) where
  record HasNodesOf (from to : ℕ) : Type 0 where
    start : IsNodeOf events durations from
    end : IsNodeOf events durations to

  abbrev AreOf : Option Edge → Type 0
  AreOf o = IfSome o (λ e. HasNodesOf e.from e.to)

  -- the edges of a constraint have its nodes
  loose : (price : Option Rate) (c : Constraint) → HasNodesOf c.from c.to → AreOf (loose_edge price c)
  loose None c nodes = tt
  loose (Some rate) c nodes = nodes

  second : (first : ℕ) (c : Constraint) (o : Option Second) → HasNodesOf c.from c.to → AreOf (option_map (steep_edge_by first c) o)
  second first c None nodes = tt
  second first c (Some s) nodes = nodes

  steep : (price : Option Rate) (c : Constraint) → HasNodesOf c.from c.to → AreOf (steep_edge price c)
  steep None c nodes = tt
  steep (Some rate) c nodes = second rate.first c rate.second nodes

  firm : (room : Room) (c : Constraint) → HasNodesOf c.from c.to → AreOf (firm_edge room c)
  firm Unlimited c nodes = tt
  firm (Units most) c nodes = nodes

  of_constraint : (o : Option Constraint) (edge : Constraint → Option Edge) → IfSome o (λ c. HasNodesOf c.from c.to) → ((c : Constraint) → HasNodesOf c.from c.to → AreOf (edge c)) → AreOf (option_and_then edge o)
  of_constraint None edge nodes each = tt
  of_constraint (Some c) edge nodes each = each c nodes

  -- those of an event
  at_least : (event : EventRef) → IsEventAmong events durations event → IsNodeOf events durations (least_node event)
  at_least (Controllable e) among = inl among
  at_least (End d) among = inr (omega arith, omega (arith, among))

  at_greatest : (event : EventRef) → IsEventAmong events durations event → IsNodeOf events durations (greatest_node event)
  at_greatest (Controllable e) among = inl among
  at_greatest (End d) among = inr (omega arith, omega (arith, among))

  bounded : (o : Option ℤ) (from to : EventRef) (turn : ℤ → ℤ) → IsEventAmong events durations from → IsEventAmong events durations to → IfSome (option_map (λ b. between from to (turn b)) o) (λ c. HasNodesOf c.from c.to)
  bounded None from to turn one other = tt
  bounded (Some b) from to turn one other = record { start = at_least from one; end = at_greatest to other }

  requirement_nodes : (side : Side) (r : Requirement) → IsEventAmong events durations r.from → IsEventAmong events durations r.to → IfSome (requirement_constraint side r) (λ c. HasNodesOf c.from c.to)
  requirement_nodes Lower r from to = bounded r.lower.bound r.to r.from (λ b. neg_ℤ b) to from
  requirement_nodes Upper r from to = bounded r.upper.bound r.from r.to (λ b. b) from to

  of_requirement : (vetoes : List Veto) (r : Requirement) (key : EdgeKey) → IsEventAmong events durations r.from → IsEventAmong events durations r.to → AreOf (requirement_edge vetoes r key)
  of_requirement vetoes r (Loose key) from to = of_constraint (requirement_constraint key.side r) (loose_edge (loosening_rate key.side r)) (requirement_nodes key.side r from to) (loose (loosening_rate key.side r))
  of_requirement vetoes r (Firm key) from to = of_constraint (requirement_constraint key.side r) _ (requirement_nodes key.side r from to) (firm _)
  of_requirement vetoes r (Steep key) from to = of_constraint (requirement_constraint key.side r) (steep_edge (loosening_rate key.side r)) (requirement_nodes key.side r from to) (steep (loosening_rate key.side r))
  of_requirement vetoes r (Order d) from to = tt

  -- those of a duration
  duration_nodes : (side : Side) (d : ℕ) (u : Uncertain) → u.start < events → d < durations → HasNodesOf (duration_constraint side d u).from (duration_constraint side d u).to
  duration_nodes Lower d u start among = record { start = inl start; end = inr (omega arith, omega (arith, among)) }
  duration_nodes Upper d u start among = record { start = inr (omega arith, omega (arith, among)); end = inl start }

  of_duration : (vetoes : List Veto) (d : ℕ) (u : Uncertain) (key : EdgeKey) → u.start < events → d < durations → AreOf (duration_edge vetoes d u key)
  of_duration vetoes d u (Loose key) start among = loose (rate_of key.side u) (duration_constraint key.side d u) (duration_nodes key.side d u start among)
  of_duration vetoes d u (Firm key) start among = firm _ (duration_constraint key.side d u) (duration_nodes key.side d u start among)
  of_duration vetoes d u (Steep key) start among = steep (rate_of key.side u) (duration_constraint key.side d u) (duration_nodes key.side d u start among)
  of_duration vetoes d u (Order e) start among = record { start = inr (omega arith, omega (arith, among)); end = inr (omega arith, omega (arith, among)) }

  -- a touched node is one of an edge
  one_of : (edge : Option Edge) (node : ℕ) → AreOf edge → touches edge node ≡ true → IsNodeOf events durations node
  one_of None node nodes touched = absurd (let never : ⊥ = cc in never)
  one_of (Some e) node nodes touched = by (e.from == node) refl touched
    where
      by : (b : Bool) → (e.from == node) ≡ b → (b || e.to == node) ≡ true → IsNodeOf events durations node
      by true same it = subst (IsNodeOf events durations) (eqb-true e.from node same) nodes.start
      by false same it = subst (IsNodeOf events durations) (eqb-true e.to node it) nodes.end

  touched : (n : ℕ) (edges : Edges) (node : ℕ) → ((place : ℕ) → AreOf (edges place)) → is_touched n edges node ≡ true → IsNodeOf events durations node
  unfolding is_touched
  touched zero edges node nodes it = absurd (let never : ⊥ = cc in never)
  touched (suc n) edges node nodes it = by (is_touched n edges node) refl (λ before. touched n edges node nodes before) it
    where
      by : (b : Bool) → is_touched n edges node ≡ b → (is_touched n edges node ≡ true → IsNodeOf events durations node) → (b || touches (edges n) node) ≡ true → IsNodeOf events durations node
      by true before earlier it = earlier before
      by false before earlier it = one_of (edges n) node (nodes n) it

  -- so nothing is touched elsewhere
  untouched : (edges : Edges) (node : ℕ) → ((place : ℕ) → AreOf (edges place)) → (IsNodeOf events durations node → ⊥) → bit (is_touched PLACES edges node) ≡ 0
  untouched edges node nodes none = by (is_touched PLACES edges node) refl
    where
      by : (b : Bool) → is_touched PLACES edges node ≡ b → bit b ≡ 0
      by true it = absurd (none (touched PLACES edges node nodes it))
      by false it = refl

  few : (edges : Edges) → events ≤ 512 → ((place : ℕ) → AreOf (edges place)) → touched_nodes edges ≤ events + 2 * durations
  few edges within nodes =
      let at : ℕ → ℕ = λ node. bit (is_touched PLACES edges node) in
      let parts : sum_below (512 + 512) at ≡ sum_below 512 at + sum_below 512 (λ i. at (512 + i)) = sum_below-append 512 512 at in
      let first : sum_below 512 at ≤ events =
      ones-most 512 events at (λ i. at_most (is_touched PLACES edges i))
      (λ i past below. untouched edges i nodes (λ is. elim is [ inl less ↦ omega (arith, less, past) | inr ends ↦ omega (arith, ends.0, below) ])) in
      let last : sum_below 512 (λ i. at (512 + i)) ≤ 2 * durations =
      ones-most 512 (2 * durations) (λ i. at (512 + i)) (λ i. at_most (is_touched PLACES edges (512 + i)))
      (λ i past below. untouched edges (512 + i) nodes (λ is. elim is [ inl less ↦ omega (arith, less, within) | inr ends ↦ omega (arith, ends.1, past) ])) in
      omega (arith, parts, first, last)

-- the edges of a state have nodes of its plan
of_item : (state : State) (key : EdgeKey) (of : Item) → IsSound state.plan → AreOf (length state.plan.events) (length state.plan.uncertains) (edge_in state key of)
of_item state key (item.Requirement slot) sound = by (requirement_in state.plan slot) refl
  where
    by : (o : Option Requirement) → requirement_in state.plan slot ≡ o → AreOf (length state.plan.events) (length state.plan.uncertains) (option_and_then (λ (r : Requirement). requirement_edge state.vetoes r key) o)
    by None found = tt
    by (Some r) found =
        let is = sound_requirement state.plan r sound (Contains-found (λ (q : Requirement). q.slot == slot) state.plan.requirements r found) in
        of_requirement (length state.plan.events) (length state.plan.uncertains) state.vetoes r key is.from is.to
of_item state key (item.Uncertain d) sound = by (slice_get state.plan.uncertains d) refl
  where
    by : (o : Option Uncertain) → slice_get state.plan.uncertains d ≡ o → AreOf (length state.plan.events) (length state.plan.uncertains) (option_and_then (λ (u : Uncertain). duration_edge state.vetoes d u key) o)
    by None found = tt
    by (Some u) found = of_duration (length state.plan.events) (length state.plan.uncertains) state.vetoes d u key (sound_uncertain state.plan d u sound found).start (slice_get_within state.plan.uncertains d u found)

-- so those that are settled touch at most 768 nodes
pub touched-few : (state : State) (picks : List Pick) (edges : Edges) → IsSound state.plan → AreSettled state picks edges → touched_nodes edges ≤ 768
touched-few state picks edges sound settled =
    let events = length state.plan.events in
    let durations = length state.plan.uncertains in
    let most : touched_nodes edges ≤ events + 2 * durations = few events durations edges (omega (arith, sound.counts.events)) (λ place. by place (edges place) refl) in
    omega (arith, most, sound.counts.events, sound.counts.uncertains)
  where
    by : (place : ℕ) (o : Option Edge) → edges place ≡ o → AreOf (length state.plan.events) (length state.plan.uncertains) o
    by place None is = tt
    by place (Some edge) is =
        let at = settled place edge is in
        subst (AreOf (length state.plan.events) (length state.plan.uncertains)) at.there (of_item state at.key (item_of at.key) sound)
