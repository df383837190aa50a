-- Edges that are taken out of a flow or put into it, place by place.
use Rattle.std.proofs.Common.{◌≡◌, ◌≢◌, ℕ, ◌+◌, ◌<◌, ◌≤◌, Bool, true, false, List, length, get_or, set, Option, None, Some, inl, inr, refl, sym, ap, subst, ◌∙◌, arith, get_or-set_same, get_or-set_other}
use Rattle.std.specs.Prelude.{◌-◌, ◌^◌, min, if◌then◌else◌, IsSome, Contains}
use Rattle.std.proofs.Math.ListN.{get_or-eq_default}
use Rattle.std.proofs.lemmas.List.{get_or_default}
use Rattle.std.proofs.lemmas.Bool.{cases_lt, cases_eq}
use Rattle.uhura_net.specs.declared.edge.Edge.{Edge}
use Rattle.uhura_net.specs.Edges.{Edges}
use Rattle.uhura_plan.specs.declared.key.Item.{Item}
use Rattle.uhura_plan.specs.declared.key.Item.TheVariants as item
use Rattle.uhura_plan.specs.Lists.{Lists}
use Rattle.uhura_choice.specs.declared.prefix.Pick.{Pick}
use Rattle.uhura_net.specs.declared.place.TheConstants.{PLACES}
use Rattle.uhura_net.specs.Circulation.{edges_of}
use Rattle.uhura_net.specs.Net.{NetState}
use Rattle.uhura_flow.specs.Flow.{FlowState, flow_edges}
use Rattle.uhura_worst.specs.Edges.{item_of, is_active_item, is_active_edge}
use Rattle.uhura_dual.specs.Settled.{key_at, AreSettled, AreAllSettled}
use Rattle.uhura_dual.proofs.KeysAt.{key_at-place_number}
use Rattle.uhura_dual.proofs.Settling.{all-settled}
use Rattle.uhura_plan.specs.declared.key.EdgeKey.{EdgeKey}
use Rattle.uhura_net.specs.Place.{place_number}
use Rattle.uhura_veto.specs.State.{State}
use Rattle.uhura_worst.specs.Filled.{IsTableOf}
use Rattle.uhura_search.specs.Moving.{AreAmong, AreListed, HasAll, is_loose_at, put_at, HasMarks, is_marked, is_marked_at, marked_edges, active_edges}
use Rattle.uhura_search.specs.declared.moving.Moved.{Moved}
use Rattle.uhura_search.specs.declared.moving.Moved.TheVariants.{Holds, Stuck}
use Rattle.uhura_search.specs.Moving.{IsUnsettled, IsStuckAt, IsStuckAmong, HasPutIn, HasMoved, IsPutIn, IsMoved}

-- the listed places so far have none but the wanted edges
abbrev pub AreAmongSo : ℕ → List ℕ → Edges → Edges → Type 0
AreAmongSo index places few all = (k d : ℕ) → k < index → k < length places → HasAll few all (get_or places k d)

-- the listed places so far of one kind have the wanted edges
abbrev pub AreThereSo : ℕ → List ℕ → Bool → Edges → Edges → Type 0
AreThereSo index places loose held wanted = (k d : ℕ) → k < index → k < length places → is_loose_at (get_or places k d) ≡ loose → HasAll wanted held (get_or places k d)

-- the listed places so far have the wanted edges
abbrev pub AreAllSo : ℕ → List ℕ → Edges → Edges → Type 0
AreAllSo index places held wanted = (k d : ℕ) → k < index → k < length places → HasAll wanted held (get_or places k d)

-- what holds of the places so far and of the next one holds of one more
so-more : (P : ℕ → Type 0) (places : List ℕ) (index : ℕ) → index < length places → ((k d : ℕ) → k < index → k < length places → P (get_or places k d)) → P (get_or places index 0) →
    (k d : ℕ) → k < index + 1 → k < length places → P (get_or places k d)
so-more P places index inside before own k d below within =
    elim (cases_lt k index) [
      | inl less ↦ before k d less within
      | inr more ↦
          let same : k ≡ index = omega (arith, below, more) in
          subst P (ap (λ (n : ℕ). get_or places n 0) (sym same) ∙ get_or_default places k 0 d within) own
    ]

-- one place more, where it has a wanted edge or none
pub among-more : (places : List ℕ) (index : ℕ) (old new wanted : Edges) → index < length places → AreAmongSo index places old wanted →
    ((place : ℕ) → place ≢ get_or places index 0 → new place ≡ old place) → HasAll new wanted (get_or places index 0) → AreAmongSo (index + 1) places new wanted
among-more places index old new wanted inside before others own =
    so-more (HasAll new wanted) places index inside
    (λ k d below within. elim (cases_eq (get_or places k d) (get_or places index 0)) [
      | inl same ↦ subst (HasAll new wanted) (sym same) own
      | inr apart ↦ λ edge is. before k d below within edge (sym (others (get_or places k d) apart) ∙ is)
    ])
    own

-- one place more, where the wanted edge is there
pub all-more : (places : List ℕ) (index : ℕ) (old new wanted : Edges) → index < length places → AreAllSo index places old wanted →
    ((place : ℕ) → place ≢ get_or places index 0 → new place ≡ old place) → HasAll wanted new (get_or places index 0) → AreAllSo (index + 1) places new wanted
all-more places index old new wanted inside before others own =
    so-more (HasAll wanted new) places index inside
    (λ k d below within. elim (cases_eq (get_or places k d) (get_or places index 0)) [
      | inl same ↦ subst (HasAll wanted new) (sym same) own
      | inr apart ↦ λ edge is. others (get_or places k d) apart ∙ before k d below within edge is
    ])
    own

-- and all have none but those of the table
pub present-more : (place : ℕ) (old new table wanted : Edges) → AreAmong old table → ((other : ℕ) → other ≢ place → new other ≡ old other) → HasAll new wanted place → HasAll wanted table place → AreAmong new table
present-more place old new table wanted present others own among other edge is =
    elim (cases_eq other place) [
      | inl same ↦ subst (HasAll new table) (sym same) (λ e there. among e (own e there)) edge is
      | inr apart ↦ present other edge (sym (others other apart) ∙ is)
    ]

-- what is put where nothing is, or only what is wanted, is there, and wanted
pub put-among : (place : ℕ) (old new wanted : Edges) → AreAmong old wanted → ((other : ℕ) → (other ≡ place → ⊥) → new other ≡ old other) →
    new place ≡ put_at (old place) (wanted place) → AreAmong new wanted
put-among place old new wanted among others own other edge is =
    elim (cases_eq other place) [
      | inl same ↦ subst (HasAll new wanted) (sym same) (at (old place) refl) edge is
      | inr apart ↦ among other edge (sym (others other apart) ∙ is)
    ]
  where
    at : (o : Option Edge) → old place ≡ o → HasAll new wanted place
    at None none e there = sym (own ∙ ap (λ (h : Option Edge). put_at h (wanted place)) none) ∙ there
    at (Some e) some f there = among place f (some ∙ sym (own ∙ ap (λ (h : Option Edge). put_at h (wanted place)) some) ∙ there)

-- what is there stays
pub put-kept : (place : ℕ) (old new : Edges) (edge : Option Edge) → ((other : ℕ) → (other ≡ place → ⊥) → new other ≡ old other) →
    new place ≡ put_at (old place) edge → AreAmong old new
put-kept place old new edge others own other e is =
    elim (cases_eq other place) [
      | inl same ↦ subst (HasAll old new) (sym same) at e is
      | inr apart ↦ others other apart ∙ is
    ]
  where
    at : HasAll old new place
    at f there = own ∙ ap (λ (h : Option Edge). put_at h edge) there

-- and the wanted edge is there
pub put-there : (place : ℕ) (old new wanted : Edges) → AreAmong old wanted → new place ≡ put_at (old place) (wanted place) → HasAll wanted new place
put-there place old new wanted among own edge is = at (old place) refl
  where
    at : (o : Option Edge) → old place ≡ o → new place ≡ Some edge
    at None none = own ∙ ap (λ (h : Option Edge). put_at h (wanted place)) none ∙ is
    at (Some e) some =
        let both : Some e ≡ Some edge = sym (among place e some) ∙ is in
        own ∙ ap (λ (h : Option Edge). put_at h (wanted place)) some ∙ both

-- one place more
pub there-more : (places : List ℕ) (index : ℕ) (loose : Bool) (old new wanted : Edges) → index < length places → AreThereSo index places loose old wanted → AreAmong old new →
    (is_loose_at (get_or places index 0) ≡ loose → HasAll wanted new (get_or places index 0)) → AreThereSo (index + 1) places loose new wanted
there-more places index loose old new wanted inside before kept own =
    so-more (λ (p : ℕ). is_loose_at p ≡ loose → HasAll wanted new p) places index inside
    (λ k d below within kind edge is. kept (get_or places k d) edge (before k d below within kind edge is)) own

-- two among each other are the same
pub same-edge : (few all : Option Edge) → ((edge : Edge) → few ≡ Some edge → all ≡ Some edge) → ((edge : Edge) → all ≡ Some edge → few ≡ Some edge) → few ≡ all
same-edge None None one other = refl
same-edge None (Some e) one other = other e refl
same-edge (Some e) all one other = sym (one e refl)

-- nothing is settled, one after the other
pub unsettled-both : (a b c : FlowState) → IsUnsettled a b → IsUnsettled b c → IsUnsettled a c
unsettled-both a b c first second = record {
  pushes = omega (arith, first.pushes, second.pushes);
  settles = second.settles ∙ first.settles;
  cycle = second.cycle ∙ first.cycle;
}

-- stuck at a wanted edge
pub stuck-among : (a b c : FlowState) (wanted : Edges) (place : ℕ) (edge : Option Edge) → place < PLACES → AreAmong (flow_edges b) wanted → edge ≡ wanted place →
    IsUnsettled a b → IsStuckAt b c place edge → IsStuckAmong a c wanted
stuck-among a b c wanted place edge inside among own before stuck = record {
  among = λ p e there. among p e (ap (λ (net : NetState). edges_of net.edges p) (sym stuck.net) ∙ there);
  edges = edges_of (set b.net.edges place edge);
  some = λ p e there. elim (cases_eq p place) [
    | inl same ↦ ap wanted same ∙ sym own ∙ sym (get_or-set_same b.net.edges place edge None (omega (arith, stuck.places, inside))) ∙ ap (edges_of (set b.net.edges place edge)) (sym same) ∙ there
    | inr apart ↦ among p e (sym (get_or-set_other b.net.edges place p edge None apart) ∙ there)
  ];
  walk = stuck.walk;
  pushes = omega (arith, before.pushes, ap (λ (net : NetState). net.pushes) stuck.net);
  settles = stuck.settles ∙ ap (λ (n : ℕ). min (n + 1) (2 ^ 64 - 1)) before.settles;
}

-- and after something that settled nothing
pub stuck-after : (a b c : FlowState) (wanted : Edges) → IsUnsettled a b → IsStuckAmong b c wanted → IsStuckAmong a c wanted
stuck-after a b c wanted before stuck = record {
  among = stuck.among;
  edges = stuck.edges;
  some = stuck.some;
  walk = stuck.walk;
  pushes = omega (arith, before.pushes, stuck.pushes);
  settles = stuck.settles ∙ ap (λ (n : ℕ). min (n + 1) (2 ^ 64 - 1)) before.settles;
}

-- other words for the same edges
pub stuck-same : (a c : FlowState) (one other : Edges) → ((place : ℕ) → one place ≡ other place) → IsStuckAmong a c one → IsStuckAmong a c other
stuck-same a c one other same stuck = record {
  among = λ p e there. sym (same p) ∙ stuck.among p e there;
  edges = stuck.edges;
  some = λ p e there. sym (same p) ∙ stuck.some p e there;
  walk = stuck.walk;
  pushes = stuck.pushes;
  settles = stuck.settles;
}

-- the loose ones, and then the others
pub both-put : (b c d : FlowState) (wanted : Edges) → HasPutIn b c wanted true → HasPutIn c d wanted false → HasMoved b d wanted
both-put b c d wanted first second = record {
  edges = λ place. same-edge (flow_edges d place) (wanted place) (second.among place) (there place (is_loose_at place) refl);
  unsettled = unsettled-both b c d first.unsettled second.unsettled;
}
  where
    there : (place : ℕ) (loose : Bool) → is_loose_at place ≡ loose → HasAll wanted (flow_edges d) place
    there place true kind edge is = second.kept place edge (first.there place kind edge is)
    there place false kind edge is = second.there place kind edge is

-- marks that are those of a plan mark its active items
pub marked-active : (table : List (Option Edge)) (plan : Lists) (picks : List Pick) (marks : List Bool) → HasMarks plan picks marks → (place : ℕ) → marked_edges table marks place ≡ active_edges table plan picks place
marked-active table plan picks marks has place = ap (λ (b : Bool). if b then edges_of table place else None) (by (item_of (key_at place)))
  where
    by : (of : Item) → is_marked marks of ≡ is_active_item plan picks of
    by (item.Requirement slot) = has slot
    by (item.Uncertain d) = refl

-- a marked edge stands in the table
pub marked-table : (table : List (Option Edge)) (marks : List Bool) → AreAmong (marked_edges table marks) (edges_of table)
marked-table table marks place edge is = by (is_marked_at marks place) is
  where
    by : (b : Bool) → (if b then edges_of table place else None) ≡ Some edge → edges_of table place ≡ Some edge
    by true there = there
    by false there = absurd (let never : ⊥ = cc in never)

-- what holds of all listed places holds of each place that has an edge in the table
listed-all : (P : ℕ → Type 0) (table : List (Option Edge)) (places : List ℕ) (index : ℕ) → AreListed places table → length places ≤ index →
    ((k d : ℕ) → k < index → k < length places → P (get_or places k d)) → (place : ℕ) (edge : Edge) → edges_of table place ≡ Some edge → P place
listed-all P table places index listed all have place edge is =
    let there : Contains places place = listed.each place (subst (λ (o : Option Edge). IsSome o) (sym is) refl) in
    subst P there.2 (have there.0 place (omega (arith, all, there.1)) there.1)

-- all places
pub among-all : (table : List (Option Edge)) (places : List ℕ) (index : ℕ) (held wanted : Edges) → AreListed places table → length places ≤ index → AreAmong held (edges_of table) →
    AreAmongSo index places held wanted → AreAmong held wanted
among-all table places index held wanted listed all present so place edge is = listed-all (HasAll held wanted) table places index listed all so place edge (present place edge is) edge is

pub there-all : (table : List (Option Edge)) (places : List ℕ) (index : ℕ) (marks : List Bool) (loose : Bool) (held : Edges) → AreListed places table → length places ≤ index →
    AreThereSo index places loose held (marked_edges table marks) → (place : ℕ) → is_loose_at place ≡ loose → HasAll (marked_edges table marks) held place
there-all table places index marks loose held listed all so place kind edge is =
    listed-all (λ (p : ℕ). is_loose_at p ≡ loose → HasAll (marked_edges table marks) held p) table places index listed all so place edge (marked-table table marks place edge is) kind edge is

pub all-all : (table : List (Option Edge)) (places : List ℕ) (index : ℕ) (marks : List Bool) (held : Edges) → AreListed places table → length places ≤ index → AreAllSo index places held (marked_edges table marks) →
    AreAmong (marked_edges table marks) held
all-all table places index marks held listed all so place edge is =
    listed-all (HasAll (marked_edges table marks) held) table places index listed all so place edge (marked-table table marks place edge is) edge is

-- what was taken out, where none is missing then
pub whole-active : (a b : FlowState) (one other : Edges) → ((place : ℕ) → one place ≡ other place) → AreAmong (flow_edges b) one → AreAmong one (flow_edges b) → IsUnsettled a b → HasMoved a b other
whole-active a b one other same among whole unsettled =
    record { edges = λ place. same-edge (flow_edges b place) (one place) (among place) (whole place) ∙ same place; unsettled = unsettled }

-- what was taken out, and put in twice
pub put-active : (a b c d : FlowState) (one other : Edges) (moved : Moved) → ((place : ℕ) → one place ≡ other place) → IsUnsettled a b → HasPutIn b c one true → IsPutIn c d one false moved → IsMoved a d other moved
put-active a b c d one other Holds same taken first second =
    let both = both-put b c d one first second in
    record { edges = λ place. both.edges place ∙ same place; unsettled = unsettled-both a b d taken both.unsettled }
put-active a b c d one other Stuck same taken first second =
    stuck-same a d one other same (stuck-after a c d one (unsettled-both a b c taken first.unsettled) second)

-- in a table of a state the active edges are the settled ones
pub active-all : (state : State) (picks : List Pick) (table : List (Option Edge)) → IsTableOf state table → length table ≡ PLACES → AreAllSettled state picks (active_edges table state.plan picks)
active-all state picks table is_table places = record {
  each = λ key placed.
      ap (λ (k : EdgeKey). if is_active_edge state.plan picks k then edges_of table (place_number key) else None) (key_at-place_number key placed)
      ∙ ap (λ (edge : Option Edge). if is_active_edge state.plan picks key then edge else None) (is_table key placed);
  none = λ place behind. by (is_active_edge state.plan picks (key_at place)) (get_or-eq_default table None (omega (arith, places, behind)));
}
  where
    by : (b : Bool) → {edge : Option Edge} → edge ≡ None → (if b then edge else None) ≡ None
    by true none = none
    by false none = refl

pub active-some : (state : State) (picks : List Pick) (table : List (Option Edge)) (few : Edges) → IsTableOf state table → length table ≡ PLACES → AreAmong few (active_edges table state.plan picks) →
    AreSettled state picks few
active-some state picks table few is_table places among place edge is =
    all-settled state picks (active_edges table state.plan picks) (active-all state picks table is_table places) place edge (among place edge is)
