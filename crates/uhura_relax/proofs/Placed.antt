-- A table of the loosened edges turned around has, turned around again, the loosened edge of each key at its place.
use Rattle.std.proofs.Common.{rules, ◌≡◌, ℕ, ◌<◌, ◌≤◌, Bool, true, false, List, length, Option, None, Some, refl, sym, ap, ◌∙◌, inl, inr, get_or, slice_get, arith}
use Rattle.std.specs.Prelude.{if◌then◌else◌, option_map, option_and_then, replicate}
use Rattle.std.proofs.lemmas.List.{get_or-replicate, get_or_past, length-replicate}
use Rattle.std.proofs.lemmas.Bool.{cases_lt}
use Rattle.uhura_plan.specs.declared.key.SideKey.{SideKey}
use Rattle.uhura_plan.specs.declared.key.Item.{Item}
use Rattle.uhura_plan.specs.declared.key.Item.TheVariants as item
use Rattle.uhura_plan.specs.declared.key.EdgeKey.{EdgeKey}
use Rattle.uhura_plan.specs.declared.requirement.Requirement.{Requirement}
use Rattle.uhura_plan.specs.declared.uncertain.Uncertain.{Uncertain}
use Rattle.uhura_plan.specs.Lists.{Lists}
use Rattle.uhura_plan.specs.Find.{requirement_in}
use Rattle.uhura_choice.specs.declared.prefix.Pick.{Pick}
use Rattle.uhura_net.specs.declared.place.TheConstants.{PLACES}
use Rattle.uhura_net.specs.declared.edge.Edge.{Edge}
use Rattle.uhura_net.specs.Edges.{Edges, chosen_edges}
use Rattle.uhura_net.specs.Place.{place_number, HasPlace, StandsAt}
use Rattle.uhura_worst.specs.Edges.{edge_among, item_of}
use Rattle.uhura_worst.specs.Filled.{IsFilledBy}
use Rattle.uhura_relax.specs.Loosened.{loosened_tables, loosened_edge_of, turn_around, turned_tables, AreLoosenedEdges}
use Rattle.uhura_relax.proofs.Turning.{turned_edges, turned-twice}
use Rattle.uhura_net.proofs.Keys.{key_at}

-- each place below `PLACES` is chosen, and no other
pub record AreAllChosen (chosen : List Bool) : Type 0 where
  pub each : (place : ℕ) → place < PLACES → get_or chosen place false ≡ true
  pub others : (place : ℕ) → PLACES ≤ place → get_or chosen place false ≡ false

pub AreAllChosen-filled : (chosen : List Bool) → chosen ≡ replicate PLACES true → AreAllChosen chosen
AreAllChosen-filled chosen filled = record {
  each = λ place below. ap (λ (c : List Bool). get_or c place false) filled ∙ get_or-replicate PLACES place true false below;
  others = λ place past.
      get_or_past chosen place false (omega (arith, past, ap length filled, length-replicate {A = Bool} PLACES true));
}

-- the loosened edges at their places
pub record AreAtTheirPlaces (plan : Lists) (branch : List Pick) (units : SideKey → ℕ) (edges : Edges) : Type 0 where
  pub at_key : (key : EdgeKey) → HasPlace key → edges (place_number key) ≡ loosened_edge_of plan branch units key
  pub loosened : AreLoosenedEdges plan branch units edges

-- what the tables of turned edges have among an item's is what the others have, turned around
turned_among : (plan : Lists) (branch : List Pick) (units : SideKey → ℕ) (key : EdgeKey) (of : Item) →
    edge_among (turned_tables branch units) plan key of ≡ option_map turn_around (edge_among (loosened_tables branch units) plan key of)
turned_among plan branch units key (item.Requirement slot) = by (requirement_in plan slot)
  where
    by : (o : Option Requirement) → option_and_then (λ (r : Requirement). (turned_tables branch units).of_requirement r key) o ≡ option_map turn_around (option_and_then (λ (r : Requirement). (loosened_tables branch units).of_requirement r key) o)
    by None = refl
    by (Some r) = refl
turned_among plan branch units key (item.Uncertain d) = by (slice_get plan.uncertains d)
  where
    by : (o : Option Uncertain) → option_and_then (λ (u : Uncertain). (turned_tables branch units).of_duration d u key) o ≡ option_map turn_around (option_and_then (λ (u : Uncertain). (loosened_tables branch units).of_duration d u key) o)
    by None = refl
    by (Some u) = refl

-- a place of a key is below `PLACES`
below_places : (key : EdgeKey) → HasPlace key → place_number key < PLACES
below_places key placed = search rules

chosen_at : (table : List (Option Edge)) (chosen : List Bool) (place : ℕ) → get_or chosen place false ≡ true → chosen_edges table chosen place ≡ get_or table place None
chosen_at table chosen place is = ap (λ (b : Bool). if b then get_or table place None else None) is

none_at : (table : List (Option Edge)) (chosen : List Bool) (place : ℕ) → get_or chosen place false ≡ false → chosen_edges table chosen place ≡ None
none_at table chosen place is = ap (λ (b : Bool). if b then get_or table place None else None) is

at_key : (plan : Lists) (branch : List Pick) (units : SideKey → ℕ) (table : List (Option Edge)) (chosen : List Bool) → AreAllChosen chosen → IsFilledBy (turned_tables branch units) plan table →
    (key : EdgeKey) → HasPlace key → turned_edges (chosen_edges table chosen) (place_number key) ≡ loosened_edge_of plan branch units key
at_key plan branch units table chosen all filled key placed =
    ap (option_map turn_around)
    (chosen_at table chosen (place_number key) (all.each (place_number key) (below_places key placed))
    ∙ filled key placed
    ∙ turned_among plan branch units key (item_of key))
    ∙ turned-twice (loosened_edge_of plan branch units key)

pub AreAtTheirPlaces-turned : (plan : Lists) (branch : List Pick) (units : SideKey → ℕ) (table : List (Option Edge)) (chosen : List Bool) → AreAllChosen chosen → IsFilledBy (turned_tables branch units) plan table →
    AreAtTheirPlaces plan branch units (turned_edges (chosen_edges table chosen))
AreAtTheirPlaces-turned plan branch units table chosen all filled = record {
  at_key = at_key plan branch units table chosen all filled;
  loosened = λ place edge is.
      elim (cases_lt place PLACES) [
        | inl below ↦
            let found : (key : EdgeKey) × StandsAt place key = key_at place below in (
              found.0,
              found.1.0,
              sym found.1.1,
              sym (at_key plan branch units table chosen all filled found.0 found.1.0) ∙ ap (turned_edges (chosen_edges table chosen)) found.1.1 ∙ is,
            )
        | inr past ↦
            let none : option_map turn_around (chosen_edges table chosen place) ≡ None = ap (option_map turn_around) (none_at table chosen place (all.others place past)) in
            absurd (let never : ⊥ = cc in never)
      ];
}
