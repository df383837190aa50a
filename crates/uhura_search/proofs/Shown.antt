-- What a conflict that applies to a prefix shows there.
use Rattle.std.proofs.Common.{◌≡◌, ℕ, ◌+◌, ◌<◌, List, [], ◌∷◌, get_or, map, Option, Some, None, true, false, Bool, cond, refl, sym, ap, ◌∙◌, subst, inl, inr, arith}
use Rattle.std.specs.Prelude.{All, AllPairs, Contains, IsTrue, IsSome, ◌≢◌, ◌==◌, option_and_then}
use Rattle.std.specs.Option.{option_map_or}
use Rattle.std.specs.List.{AllZip}
use Rattle.std.proofs.lemmas.Bool.{cases_eq, eq-eqb, ne_eqb}
use Rattle.std.proofs.lemmas.Bool.Decides.{Decides-eqb}
use Rattle.std.proofs.lemmas.List.Elements.{All-head, All-tail, All-map, Contains-get_or}
use Rattle.std.proofs.lemmas.List.Kept.{AllPairs-cons}
use Rattle.std.proofs.lemmas.List.Sums.{list_all-from_AllPass}
use Rattle.uhura_plan.specs.Find.{requirement_in}
use Rattle.uhura_plan.specs.declared.key.Item.{Item}
use Rattle.uhura_plan.specs.declared.key.Item.TheVariants as item
use Rattle.uhura_plan.specs.declared.key.EdgeKey.{EdgeKey}
use Rattle.uhura_plan.specs.declared.key.EdgeKey.TheVariants.{Loose, Firm, Order, Steep}
use Rattle.uhura_plan.specs.declared.requirement.Requirement.{Requirement}
use Rattle.uhura_choice.specs.declared.prefix.Pick.{Pick}
use Rattle.uhura_choice.specs.Branch.{holds, is_picked}
use Rattle.uhura_net.specs.declared.edge.Edge.{Edge}
use Rattle.uhura_net.specs.declared.place.Place.{Place}
use Rattle.uhura_net.specs.declared.place.TheConstants.{PLACES}
use Rattle.uhura_net.specs.Place.{place_number, HasPlace, StandsAt, is_loose}
use Rattle.uhura_net.specs.Circulation.{edges_of}
use Rattle.uhura_net.specs.Optimal.{firm_edges}
use Rattle.uhura_net.proofs.Keys as keys
use Rattle.uhura_net.proofs.Rows.{is_loose-place_number}
use Rattle.uhura_veto.specs.State.{State}
use Rattle.uhura_worst.specs.Edges.{edge_of, edge_in, item_of, requirement_edge, is_active_edge, is_active_item}
use Rattle.uhura_worst.specs.Filled.{IsTableOf}
use Rattle.uhura_worst.proofs.FirstItems.{passes}
use Rattle.uhura_worst.proofs.SoundItems.{Contains-found}
use Rattle.uhura_dual.specs.Settled.{key_at}
use Rattle.uhura_dual.proofs.KeysAt.{key_at-place_number}
use Rattle.uhura_conflict.specs.Learned.{units_in, AreRising}
use Rattle.uhura_conflict.specs.Literals.{slot_of, slot_of_item, HasPlaceAmong, AreLiteralsOf, AreAllPicked}
use Rattle.uhura_shows.proofs.Keyed.{IsFirmPlace}
use Rattle.uhura_shows.proofs.Pairs.{pair_units, ArePlacedPairs, ListUnits}
use Rattle.uhura_shows.proofs.Lists.{pairs-head, pairs-tail}

-- the key that stands at a place
pub key-stands : (place : ℕ) → place < PLACES → StandsAt place (key_at place)
key-stands place below =
    let found : (key : EdgeKey) × StandsAt place key = keys.key_at place below in
    let same : key_at place ≡ found.0 = ap key_at (sym found.1.1) ∙ key_at-place_number found.0 found.1.0 in
    subst (λ key. StandsAt place key) (sym same) found.1

-- the slot of a key is that of its item
pub slot-item : (key : EdgeKey) → slot_of key ≡ slot_of_item (item_of key)
slot-item (Loose key) = refl
slot-item (Firm key) = refl
slot-item (Steep key) = refl
slot-item (Order d) = refl

module _ (state : State) (table : List (Option Edge)) (is_table : IsTableOf state table) where
  -- the edge at a place is that of its key
  pub edge-at_key : (place : ℕ) → place < PLACES → edges_of table place ≡ edge_of state (key_at place)
  edge-at_key place below =
      let stands = key-stands place below in
      subst (λ p. edges_of table p ≡ edge_of state (key_at place)) stands.1 (is_table (key_at place) stands.0)

  module _ (prefix : List Pick) (places : List Place) (literals : List (Option ℕ)) (are : AreLiteralsOf state.plan places literals) (picked : AreAllPicked prefix literals) where
    -- the guard of a requirement at one of the places holds
    guard-holds : (r : Requirement) → HasPlaceAmong state.plan places r → holds r.guard prefix ≡ true
    guard-holds r there = list_all-from_AllPass (is_picked prefix) r.guard (λ k d below.
        picked (get_or r.guard k d) (are.all (get_or r.guard k d) (record { requirement = r; there = there; literal_of = Contains-get_or r.guard k d below })))

    active-item : (place : Place) (key : EdgeKey) (of : Item) → item_of key ≡ of → Contains places place → StandsAt place.0 key → IsSome (edge_in state key of) → is_active_item state.plan prefix of ≡ true
    active-item place key (item.Uncertain d) is among stands there = refl
    active-item place key (item.Requirement slot) is among stands there = by (requirement_in state.plan slot) refl there
      where
        by : (o : Option Requirement) → requirement_in state.plan slot ≡ o → IsSome (option_and_then (λ (r : Requirement). requirement_edge state.vetoes r key) o) →
            option_map_or (λ (r : Requirement). holds r.guard prefix) o false ≡ true
        by None found some = absurd (let never : ⊥ = cc in never)
        by (Some r) found some =
            let own : r.slot ≡ slot = (Decides-eqb r.slot slot).0 (passes (λ (q : Requirement). q.slot == slot) state.plan.requirements r found) in
            let slots : slot_of key ≡ Some r.slot = slot-item key ∙ ap slot_of_item is ∙ ap (λ (n : ℕ). Some n) (sym own) in
            guard-holds r (record {
              place = place;
              among = among;
              of_slot = (key, stands, slots);
              in_plan = Contains-found (λ (q : Requirement). q.slot == slot) state.plan.requirements r found;
            })

    -- the edge at one of the places, where there is one, is settled active
    pub edge-active : (place : Place) → Contains places place → place.0 < PLACES → IsSome (edges_of table place.0) → IsTrue (is_active_edge state.plan prefix (key_at place.0))
    edge-active place among below there =
        active-item place (key_at place.0) (item_of (key_at place.0)) refl among (key-stands place.0 below) (subst (λ (o : Option Edge). IsSome o) (edge-at_key place.0 below) there)

  -- the places of a walk have firm edges, those of their keys
  firm-place : (place : Place) → place.0 < PLACES → IsSome (firm_edges (edges_of table) place.0) → IsFirmPlace state (firm_edges (edges_of table)) place (key_at place.0)
  firm-place place below there = by (is_loose place.0) refl there
    where
      stands : StandsAt place.0 (key_at place.0)
      stands = key-stands place.0 below

      by : (b : Bool) → is_loose place.0 ≡ b → IsSome (cond b None (edges_of table place.0)) → IsFirmPlace state (firm_edges (edges_of table)) place (key_at place.0)
      by true loose some = absurd (let never : ⊥ = cc in never)
      by false firm some = record {
        there = ap (λ (b : Bool). cond b None (edges_of table place.0)) firm ∙ edge-at_key place.0 below;
        firm = sym (is_loose-place_number (key_at place.0) stands.0) ∙ ap is_loose stands.1 ∙ firm;
      }

  pub firm-places : (places : List Place) → All (λ place. place.0 < PLACES) places → All (λ place. IsSome (firm_edges (edges_of table) place.0)) places →
      AllZip (IsFirmPlace state (firm_edges (edges_of table))) places (map (λ (place : Place). key_at place.0) places)
  firm-places [] inside there = tt
  firm-places (place ∷ places) inside there =
      let here : place.0 < PLACES = All-head (λ (p : Place). p.0 < PLACES) place places inside in (
        firm-place place here (All-head (λ (p : Place). IsSome (firm_edges (edges_of table) p.0)) place places there),
        firm-places places (All-tail (λ (p : Place). p.0 < PLACES) place places inside) (All-tail (λ (p : Place). IsSome (firm_edges (edges_of table) p.0)) place places there),
      )

-- the pairs by key
abbrev pub keyed_pairs : List (Place × ℕ) → List (EdgeKey × ℕ)
keyed_pairs pairs = map (λ (pair : Place × ℕ). (key_at pair.0.0, pair.1)) pairs

-- a place before those of all pairs has no units
units-before : (pairs : List (Place × ℕ)) (place : ℕ) → All (λ pair. place < pair.0.0) pairs → units_in pairs place ≡ 0
units-before [] place later = refl
units-before (pair ∷ pairs) place later =
    let here : place < pair.0.0 = All-head (λ (p : Place × ℕ). place < p.0.0) pair pairs later in
    let elsewhere = ne_eqb pair.0.0 place (λ same. absurd (omega (arith, here, same))) in
    let whole = ap (λ (b : Bool). cond b pair.1 0 + units_in pairs place) elsewhere in
    omega (arith, whole, units-before pairs place (All-tail (λ (p : Place × ℕ). place < p.0.0) pair pairs later))

-- the pairs by key give each place the units that it has
pub units-listed : (pairs : List (Place × ℕ)) → All (λ pair. pair.0.0 < PLACES) pairs → AreRising pairs → (place : ℕ) → units_in pairs place ≡ pair_units (keyed_pairs pairs) place
unfolding pair_units
units-listed [] inside rising place = refl
units-listed (pair ∷ pairs) inside rising place =
    elim (cases_eq pair.0.0 place) [
      | inl same ↦
          let here = eq-eqb pair.0.0 place same in
          let there = eq-eqb (place_number (key_at pair.0.0)) place (number ∙ same) in
          let none = units-before pairs place (λ k d below. subst (λ (p : ℕ). p < (get_or pairs k d).0.0) same (later k d below)) in
          let left = ap (λ (b : Bool). cond b pair.1 0 + units_in pairs place) here in
          let right = ap (λ (b : Bool). cond b pair.1 (pair_units (keyed_pairs pairs) place)) there in
          left ∙ (omega (arith, none) ∙ sym right)
      | inr differs ↦
          let here = ne_eqb pair.0.0 place differs in
          let there = ne_eqb (place_number (key_at pair.0.0)) place (λ same. differs (sym number ∙ same)) in
          let left = ap (λ (b : Bool). cond b pair.1 0 + units_in pairs place) here in
          let right = ap (λ (b : Bool). cond b pair.1 (pair_units (keyed_pairs pairs) place)) there in
          let rest = units-listed pairs (All-tail (λ (p : Place × ℕ). p.0.0 < PLACES) pair pairs inside) (pairs-tail (λ (a b : Place × ℕ). a.0.0 < b.0.0) pair pairs rising) place in
          left ∙ (omega (arith, rest) ∙ sym right)
    ]
  where
    number : place_number (key_at pair.0.0) ≡ pair.0.0
    number = (key-stands pair.0.0 (All-head (λ (p : Place × ℕ). p.0.0 < PLACES) pair pairs inside)).1

    later : All (λ (p : Place × ℕ). pair.0.0 < p.0.0) pairs
    later = pairs-head (λ (a b : Place × ℕ). a.0.0 < b.0.0) pair pairs rising

-- no key stands twice
keyed-once : (pairs : List (Place × ℕ)) → All (λ pair. pair.0.0 < PLACES) pairs → AreRising pairs → AllPairs (λ a b. a.0 ≢ b.0) (keyed_pairs pairs)
keyed-once [] inside rising = λ i j d less below. absurd (omega arith)
keyed-once (pair ∷ pairs) inside rising =
    AllPairs-cons (λ (a b : EdgeKey × ℕ). a.0 ≢ b.0) (key_at pair.0.0, pair.1) (keyed_pairs pairs)
    (All-map (λ (b : EdgeKey × ℕ). key_at pair.0.0 ≢ b.0) (λ (p : Place × ℕ). (key_at p.0.0, p.1)) pairs (λ k d below same. apart (get_or pairs k d).0.0 (rest k d below) (later k d below) same))
    (keyed-once pairs rest (pairs-tail (λ (a b : Place × ℕ). a.0.0 < b.0.0) pair pairs rising))
  where
    rest : All (λ (p : Place × ℕ). p.0.0 < PLACES) pairs
    rest = All-tail (λ (p : Place × ℕ). p.0.0 < PLACES) pair pairs inside

    later : All (λ (p : Place × ℕ). pair.0.0 < p.0.0) pairs
    later = pairs-head (λ (a b : Place × ℕ). a.0.0 < b.0.0) pair pairs rising

    number : place_number (key_at pair.0.0) ≡ pair.0.0
    number = (key-stands pair.0.0 (All-head (λ (p : Place × ℕ). p.0.0 < PLACES) pair pairs inside)).1

    apart : (place : ℕ) → place < PLACES → pair.0.0 < place → key_at pair.0.0 ≡ key_at place → ⊥
    apart place below less same =
        let one : pair.0.0 ≡ place = sym number ∙ (ap place_number same ∙ (key-stands place below).1) in
        omega (arith, one, less)

-- and so they list the units on the edges of a table
module _ (state : State) (table : List (Option Edge)) (is_table : IsTableOf state table) (pairs : List (Place × ℕ)) (inside : All (λ pair. pair.0.0 < PLACES) pairs) (rising : AreRising pairs) where
  keyed-placed : ArePlacedPairs (keyed_pairs pairs)
  keyed-placed = record {
    placed = All-map (λ (p : EdgeKey × ℕ). HasPlace p.0) (λ (pair : Place × ℕ). (key_at pair.0.0, pair.1)) pairs (λ k d below. (key-stands (get_or pairs k d).0.0 (inside k d below)).0);
    once = keyed-once pairs inside rising;
  }

  pub keyed-list : ListUnits state (edges_of table) (units_in pairs) (keyed_pairs pairs)
  keyed-list = record {
    placed = keyed-placed;
    there = All-map (λ (p : EdgeKey × ℕ). edges_of table (place_number p.0) ≡ edge_of state p.0) (λ (pair : Place × ℕ). (key_at pair.0.0, pair.1)) pairs
        (λ k d below. is_table (key_at (get_or pairs k d).0.0) (key-stands (get_or pairs k d).0.0 (inside k d below)).0);
    listed = units-listed pairs inside rising;
  }
