-- The edges of a document have places, and those with units are few.
use Rattle.std.proofs.Common.{◌≡◌, ℕ, zero, suc, ◌+◌, ◌<◌, ◌≤◌, Bool, true, false, List, [], ◌∷◌, Option, None, Some, length, refl, subst, arith, cond, not}
use Rattle.std.specs.Prelude.{All, IsSome, slice_get, ◌==◌}
use Rattle.std.specs.List.{position_or_len}
use Rattle.std.proofs.lemmas.Bool.Decides.{Decides-eqb}
use Rattle.std.proofs.lemmas.Option.{none-some, same_Some}
use Rattle.std.proofs.lemmas.List.Elements.{All-from_recursion, All-weaker, All-head, All-tail}
use Rattle.uhura_plan.specs.declared.limits.TheConstants.{REQUIREMENTS, UNCERTAINS}
use Rattle.uhura_plan.specs.declared.key.Side.{Side}
use Rattle.uhura_plan.specs.declared.key.Side.TheVariants.{Lower, Upper}
use Rattle.uhura_plan.specs.declared.key.Item.{Item}
use Rattle.uhura_plan.specs.declared.key.Item.TheVariants as item
use Rattle.uhura_plan.specs.declared.key.EdgeKey.{EdgeKey}
use Rattle.uhura_plan.specs.declared.key.EdgeKey.TheVariants.{Loose, Firm, Order, Steep}
use Rattle.uhura_plan.specs.declared.requirement.Requirement.{Requirement}
use Rattle.uhura_plan.specs.Lists.{Lists}
use Rattle.uhura_plan.specs.Sound.{IsSound}
use Rattle.uhura_plan.specs.Find.{requirement_in}
use Rattle.uhura_net.specs.Place.{HasPlace, IsPlacedItem}
use Rattle.uhura_veto.specs.Vetoes.{IsItemOf}
use Rattle.uhura_worst.proofs.SoundItems.{Contains-found, sound_requirement}
use Rattle.uhura_worst.proofs.FirstItems.{passes}
use Rattle.uhura_cert.specs.declared.document.Shared.{Shared}
use Rattle.uhura_cert.specs.declared.document.Shared.TheVariants as shared
use Rattle.uhura_cert.specs.Order.{place_in, item_place, side_number, edge_place, IsEdgeOf, Rises}
use Rattle.uhura_cert.specs.Document.{Document, IsDocument, AreEdgeUnits, AreEdges, IsShared, AreShared}
use Rattle.uhura_check.specs.Edges.{AreFew, most_edges}
use Rattle.uhura_check.specs.Entries.{HasPlaces}

-- ---- places

item-placed : (plan : Lists) (of : Item) → IsSound plan → IsItemOf plan of → IsPlacedItem of
item-placed plan (item.Requirement slot) sound there = by (requirement_in plan slot) refl there
  where
    by : (o : Option Requirement) → requirement_in plan slot ≡ o → IsSome o → slot < REQUIREMENTS
    by None found is = absurd (let never : ⊥ = cc in never)
    by (Some r) found is =
        let own : r.slot ≡ slot = (Decides-eqb r.slot slot).0 (passes (λ (q : Requirement). q.slot == slot) plan.requirements r found) in
        let below = (sound_requirement plan r sound (Contains-found (λ (q : Requirement). q.slot == slot) plan.requirements r found)).slot in
        omega (arith, own, below)
item-placed plan (item.Uncertain d) sound there = omega (arith, there, sound.counts.uncertains)

pub edge-placed : (plan : Lists) (key : EdgeKey) → IsSound plan → IsEdgeOf plan key → HasPlace key
edge-placed plan (Loose key) sound there = item-placed plan key.item sound there
edge-placed plan (Firm key) sound there = item-placed plan key.item sound there
edge-placed plan (Steep key) sound there = item-placed plan key.item sound there
edge-placed plan (Order d) sound there = omega (arith, there, sound.counts.uncertains)

pub edges-placed : (plan : Lists) (keys : List EdgeKey) → IsSound plan → AreEdges plan keys → All HasPlace keys
edges-placed plan keys sound are = All-weaker (IsEdgeOf plan) HasPlace (λ key there. edge-placed plan key sound there) keys (All-from_recursion (IsEdgeOf plan) keys are)

-- ---- how many there are

position-few : {X : Type 0} (test : X → Bool) (xs : List X) → position_or_len test xs ≤ length xs
position-few test [] = omega arith
position-few test (x ∷ xs) = by (not (test x)) (position-few test xs)
  where
    by : (b : Bool) → position_or_len test xs ≤ length xs → cond b (1 + position_or_len test xs) 0 ≤ length (x ∷ xs)
    by true rest = omega (arith, rest)
    by false rest = omega arith

item-few : (plan : Lists) (of : Item) → IsSound plan → IsItemOf plan of → item_place (place_in plan) of + 1 ≤ REQUIREMENTS + UNCERTAINS
item-few plan (item.Requirement slot) sound there = omega (arith, position-few (λ (r : Requirement). r.slot == slot) plan.requirements, sound.counts.requirements)
item-few plan (item.Uncertain d) sound there = omega (arith, there, sound.counts.uncertains)

side-few : (side : Side) → side_number side ≤ 1
side-few Lower = omega arith
side-few Upper = omega arith

edge-few : (plan : Lists) (key : EdgeKey) → IsSound plan → IsEdgeOf plan key → edge_place (place_in plan) key < most_edges
edge-few plan (Loose key) sound there = omega (arith, item-few plan key.item sound there, side-few key.side)
edge-few plan (Firm key) sound there = omega (arith, item-few plan key.item sound there, side-few key.side)
edge-few plan (Steep key) sound there = omega (arith, item-few plan key.item sound there, side-few key.side)
edge-few plan (Order d) sound there = omega (arith, there, sound.counts.uncertains)

-- places that rise below some place are no more than it
rises-few : {X : Type 0} (place : X → ℕ) (least most : ℕ) (xs : List X) → least ≤ most → Rises place least xs → All (λ x. place x < most) xs → least + length xs ≤ most
rises-few place least most [] within rises below = omega (arith, within)
rises-few place least most (x ∷ xs) within rises below =
    let here = All-head (λ x. place x < most) x xs below in
    let rest = rises-few place (place x + 1) most xs (omega (arith, here)) rises.1 (All-tail (λ x. place x < most) x xs below) in
    omega (arith, rest, rises.0)

pub units-few : (plan : Lists) (pairs : List (EdgeKey × ℕ)) → IsSound plan → AreEdgeUnits (place_in plan) plan pairs → AreFew pairs
units-few plan pairs sound units =
    let among : All (λ (p : EdgeKey × ℕ). IsEdgeOf plan p.0) pairs = All-from_recursion (λ (p : EdgeKey × ℕ). IsEdgeOf plan p.0) pairs units.among in
    let below : All (λ (p : EdgeKey × ℕ). edge_place (place_in plan) p.0 < most_edges) pairs =
    All-weaker (λ (p : EdgeKey × ℕ). IsEdgeOf plan p.0) (λ (p : EdgeKey × ℕ). edge_place (place_in plan) p.0 < most_edges) (λ p there. edge-few plan p.0 sound there) pairs among in
    let few = rises-few (λ (p : EdgeKey × ℕ). edge_place (place_in plan) p.0) 0 most_edges pairs (omega arith) units.in_order below in
    record {
      placed = All-weaker (λ (p : EdgeKey × ℕ). IsEdgeOf plan p.0) (λ (p : EdgeKey × ℕ). HasPlace p.0) (λ p there. edge-placed plan p.0 sound there) pairs among;
      few = omega (arith, few);
    }

-- ---- shared entries

entry-places : (plan : Lists) (given : Shared) → IsSound plan → IsShared (place_in plan) plan given → HasPlaces given
entry-places plan (shared.Flow pairs) sound is = units-few plan pairs sound is
entry-places plan (shared.Stuck keys) sound is = edges-placed plan keys sound is

entries-places : (plan : Lists) (version : ℕ) (entries : List Shared) (place : ℕ) (given : Shared) → IsSound plan → AreShared (place_in plan) version plan entries → slice_get entries place ≡ Some given → HasPlaces given
entries-places plan version [] place given sound are there = absurd (none-some given there)
entries-places plan version (e ∷ entries) zero given sound are there = subst HasPlaces (same_Some e given there) (entry-places plan e sound are.0.1)
entries-places plan version (e ∷ entries) (suc place) given sound are there = entries-places plan version entries place given sound are.1 there

pub document-places : (d : Document) (place : ℕ) (given : Shared) → IsDocument d → slice_get d.shared place ≡ Some given → HasPlaces given
document-places d place given document there = entries-places d.state.plan d.version d.shared place given document.state.plan document.parts.shared there
