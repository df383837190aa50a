-- All settled edges are such, and they have the firm edges of the state among them.
use Rattle.std.proofs.Common.{◌≡◌, ℕ, ◌<◌, Bool, true, false, ℤ, List, Option, None, Some, slice_get, refl, sym, ap, ◌∙◌, arith, inl, inr}
use Rattle.std.specs.Prelude.{if◌then◌else◌, cond, option_and_then, ◌==◌}
use Rattle.std.proofs.lemmas.Int.{ints}
use Rattle.std.proofs.lemmas.Bool.{cases_lt}
use Rattle.std.proofs.lemmas.Bool.Decides.{Decides-eqb}
use Rattle.std.proofs.lemmas.Option.{none-some}
use Rattle.uhura_plan.specs.declared.limits.TheConstants.{REQUIREMENTS}
use Rattle.uhura_plan.specs.declared.key.Item.{Item}
use Rattle.uhura_plan.specs.declared.key.Item.TheVariants as item
use Rattle.uhura_plan.specs.declared.key.EdgeKey.{EdgeKey}
use Rattle.uhura_plan.specs.declared.key.EdgeKey.TheVariants.{Loose, Firm, Order, Steep}
use Rattle.uhura_plan.specs.declared.requirement.Requirement.{Requirement}
use Rattle.uhura_plan.specs.declared.uncertain.Uncertain.{Uncertain}
use Rattle.uhura_plan.specs.Find.{requirement_in}
use Rattle.uhura_plan.specs.Sound.{IsSound}
use Rattle.uhura_choice.specs.declared.prefix.Pick.{Pick}
use Rattle.uhura_net.specs.declared.edge.Edge.{Edge}
use Rattle.uhura_net.specs.declared.place.TheConstants.{PLACES}
use Rattle.uhura_net.specs.Place.{place_number, HasPlace, IsPlacedItem, StandsAt}
use Rattle.uhura_net.specs.Edges.{Edges, AreKept}
use Rattle.uhura_net.specs.Optimal.{firm_edges}
use Rattle.uhura_net.proofs.Keys.{key_at}
use Rattle.uhura_net.proofs.Rows.{is_loose-place_number}
use Rattle.uhura_net.proofs.Scaled.{once}
use Rattle.uhura_veto.specs.State.{State}
use Rattle.uhura_worst.specs.Edges.{item_of, edge_in, edge_of, is_active_edge, requirement_edge, duration_edge}
use Rattle.uhura_worst.specs.WorstCase.{KeepsFirmEdges}
use Rattle.uhura_worst.proofs.SoundItems.{Contains-found, sound_requirement, uncertain-placed}
use Rattle.uhura_worst.proofs.FirstItems.{passes}
use Rattle.uhura_dual.specs.Settled.{IsSettled, AreSettled, active_edge, AreAllSettled}

-- an edge that is there and active is settled at the place of its key
settled-there : (state : State) (picks : List Pick) (place : ℕ) (edge : Edge) (key : EdgeKey) → StandsAt place key → active_edge state picks key ≡ Some edge → IsSettled state picks place edge
settled-there state picks place edge key stands is = by (is_active_edge state.plan picks key) refl is
  where
    by : (b : Bool) → is_active_edge state.plan picks key ≡ b → (if b then edge_of state key else None) ≡ Some edge → IsSettled state picks place edge
    by true active is = record { key = key; stands = stands; there = is; active = active }
    by false other is = absurd (none-some edge is)

pub all-settled : (state : State) (picks : List Pick) (edges : Edges) → AreAllSettled state picks edges → AreSettled state picks edges
all-settled state picks edges all place edge is =
    elim (cases_lt place PLACES) [
      | inl inside ↦
          let found : (key : EdgeKey) × StandsAt place key = key_at place inside in
          settled-there state picks place edge found.0 found.1 (sym (all.each found.0 found.1.0) ∙ ap edges found.1.1 ∙ is)
      | inr past ↦ absurd (none-some edge (sym (all.none place past) ∙ is))
    ]

-- an edge that is there has a place
item-placed : (state : State) (key : EdgeKey) (edge : Edge) (of : Item) → IsSound state.plan → edge_in state key of ≡ Some edge → IsPlacedItem of
item-placed state key edge (item.Requirement slot) sound is = by (requirement_in state.plan slot) refl is
  where
    by : (o : Option Requirement) → requirement_in state.plan slot ≡ o → option_and_then (λ (r : Requirement). requirement_edge state.vetoes r key) o ≡ Some edge → slot < REQUIREMENTS
    by None found is = absurd (none-some edge is)
    by (Some r) found is =
        let own : r.slot ≡ slot = (Decides-eqb r.slot slot).0 (passes (λ (q : Requirement). q.slot == slot) state.plan.requirements r found) in
        let below = (sound_requirement state.plan r sound (Contains-found (λ (q : Requirement). q.slot == slot) state.plan.requirements r found)).slot in
        omega (arith, own, below)
item-placed state key edge (item.Uncertain d) sound is = by (slice_get state.plan.uncertains d) refl is
  where
    by : (o : Option Uncertain) → slice_get state.plan.uncertains d ≡ o → option_and_then (λ (u : Uncertain). duration_edge state.vetoes d u key) o ≡ Some edge → IsPlacedItem (item.Uncertain d)
    by None found is = absurd (none-some edge is)
    by (Some u) found is = uncertain-placed state.plan d u sound found

has_place : (key : EdgeKey) → IsPlacedItem (item_of key) → HasPlace key
has_place (Loose key) placed = placed
has_place (Firm key) placed = placed
has_place (Order d) placed = placed
has_place (Steep key) placed = placed

pub edge-placed : (state : State) (key : EdgeKey) (edge : Edge) → IsSound state.plan → edge_of state key ≡ Some edge → HasPlace key
edge-placed state key edge sound there = has_place key (item-placed state key edge (item_of key) sound there)

-- so where times keep the settled edges that aren't loose, they keep the firm edges of the state
pub firm-among : (state : State) (picks : List Pick) (edges : Edges) (times : ℕ → ℤ) → IsSound state.plan → AreAllSettled state picks edges → AreKept (firm_edges edges) times → KeepsFirmEdges state 1 picks times
firm-among state picks edges times sound all kept key edge there firm active =
    let placed : HasPlace key = edge-placed state key edge sound there in
    let is : firm_edges edges (place_number key) ≡ Some edge =
    ap (λ (b : Bool). cond b None (edges (place_number key))) (is_loose-place_number key placed ∙ firm)
    ∙ all.each key placed ∙ ap (λ (b : Bool). if b then edge_of state key else None) active ∙ there in
    omega (arith, ints, kept (place_number key) edge is, once edge.bound)
