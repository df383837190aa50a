-- What conflicts ask for: by the guards of slots, and by the requirements of a plan.
use Rattle.std.proofs.Common.{◌≡◌, ℕ, zero, suc, ◌≤◌, ◌==◌, Bool, true, false, List, [], ◌∷◌, Option, Some, None, unwrap_or, cond, eqb, inl, inr, ap, sym, subst, refl, ◌∙◌, arith}
use Rattle.std.specs.Prelude.{All, Contains, IsSome, IfSome, option_and_then, if◌then◌else◌}
use Rattle.std.specs.Bool.{MatchBool}
use Rattle.std.proofs.lemmas.Bool.{eq-eqb}
use Rattle.std.proofs.lemmas.Bool.Decides.{Decides-eqb}
use Rattle.std.proofs.lemmas.List.Elements.{All-contains}
use Rattle.uhura_plan.specs.declared.guard.Literal.{Literal}
use Rattle.uhura_plan.specs.declared.requirement.Requirement.{Requirement}
use Rattle.uhura_plan.specs.declared.key.Item.{Item}
use Rattle.uhura_plan.specs.declared.key.Item.TheVariants as item
use Rattle.uhura_plan.specs.Find.{requirement_in}
use Rattle.uhura_net.specs.declared.edge.Edge.{Edge}
use Rattle.uhura_net.specs.declared.place.Place.{Place}
use Rattle.uhura_net.specs.declared.place.TheConstants.{PLACES}
use Rattle.uhura_net.specs.Place.{is_loose}
use Rattle.uhura_net.specs.Edges.{Edges, no_edge}
use Rattle.uhura_net.specs.Walk.{IsNegativeWalk}
use Rattle.uhura_net.specs.Circulation.{edges_of, IsCirculation}
use Rattle.uhura_net.specs.Optimal.{firm_edges}
use Rattle.uhura_veto.specs.State.{State}
use Rattle.uhura_worst.specs.Edges.{edge_among, tables_under, item_of}
use Rattle.uhura_worst.specs.Filled.{IsTableOf}
use Rattle.uhura_worst.proofs.SoundItems.{Contains-found}
use Rattle.uhura_worst.proofs.FirstItems.{passes}
use Rattle.uhura_conflict.specs.Learned.{Learned, places_in, units_in, IsLearned, IsValid}
use Rattle.uhura_conflict.specs.Literals.{slot_of_item, IsOfSlot, IsAskedBy, AreLiteralsOf}
use Rattle.uhura_conflict.specs.Store.{Stored, conflict_at, IsStore, if_it_outlasts, Revises}
use Rattle.uhura_conflict.specs.Kept.{outlasts}
use Rattle.uhura_search.specs.Guards.{guard_at, HaveGuardsOf, IsGuardedAt, AsksForGuards, IsWithoutReguarded, AllAskForGuards}
use Rattle.uhura_search.specs.Known.{IsStoreFor}
use Rattle.uhura_search.proofs.Shown.{slot-item}

-- what holds of a value that is there
pub if-some : {X : Type 0} (P : X → Type 0) (o : Option X) → ((x : X) → o ≡ Some x → P x) → IfSome o P
if-some P None holds = tt
if-some P (Some x) holds = holds x refl

pub if-some-at : {X : Type 0} (P : X → Type 0) (o : Option X) (x : X) → IfSome o P → o ≡ Some x → P x
if-some-at P None x holds is = absurd (let never : ⊥ = cc in never)
if-some-at P (Some y) x holds is = subst P (let same : y ≡ x = cc in same) holds

-- an edge that isn't loose is there
firm-there : (found : Option Edge) (loose : Bool) → IsSome (cond loose None found) → IsSome found
firm-there found true there = absurd (cc)
firm-there found false there = there

-- an edge with room for units is there
room-there : (found : Option Edge) (units : ℕ) → 1 ≤ units → units ≤ (unwrap_or found no_edge).capacity → IsSome found
room-there None units some room = absurd (omega arith)
room-there (Some edge) units some room = refl

-- a place of pairs with units has units
has-units : (pairs : List (Place × ℕ)) (place : Place) → All (λ (pair : Place × ℕ). 1 ≤ pair.1) pairs → Contains (places_in pairs) place → 1 ≤ units_in pairs place.0
has-units [] place some (k, below, is) = absurd (omega (arith, below))
has-units (pair ∷ pairs) place some (zero, below, is) =
    let here : cond (eqb pair.0.0 place.0) pair.1 0 ≡ pair.1 = ap (λ b. cond b pair.1 0) (eq-eqb pair.0.0 place.0 (ap (λ (p : Place). p.0) is)) in
    omega (arith, here, some 0 pair)
has-units (pair ∷ pairs) place some (suc k, below, is) =
    let rest = has-units pairs place (λ i d inside. some (suc i) d (omega (arith, inside))) (k, omega (arith, below), is) in
    omega (arith, rest)

-- a valid conflict has an edge at each of its places
has-edge : (edges : Edges) (pairs : List (Place × ℕ)) (stuck : Bool) (place : Place) → All (λ (pair : Place × ℕ). 1 ≤ pair.1) pairs →
    MatchBool stuck (IsNegativeWalk (firm_edges edges) (places_in pairs)) (IsCirculation PLACES edges (units_in pairs)) → Contains (places_in pairs) place → IsSome (edges place.0)
has-edge edges pairs true place some valid among =
    firm-there (edges place.0) (is_loose place.0) (All-contains (λ (p : Place). IsSome (firm_edges edges p.0)) (places_in pairs) place valid.there among)
has-edge edges pairs false place some valid among = room-there (edges place.0) (units_in pairs place.0) (has-units pairs place some among) (valid.within place.0)

pub there-at : (edges : Edges) (conflict : Learned) (place : Place) → IsLearned conflict → IsValid edges conflict → Contains (places_in conflict.pairs) place → IsSome (edges place.0)
there-at edges conflict place learned valid among = has-edge edges conflict.pairs conflict.stuck place learned.some valid among

-- a slot with an edge that is there keeps its guard
module _ (old new : List (List Literal)) (all without : List (Option Edge)) (is_without : IsWithoutReguarded old new all without) where
  same-guard : (place slot : ℕ) → IsSome (edges_of without place) → IsOfSlot place slot → guard_at new slot ≡ guard_at old slot
  same-guard place slot there (key, (placed, number), of_slot) = elim (is_without key placed) [
    | inl same ↦ same.0 slot of_slot
    | inr other ↦
        let none : edges_of without place ≡ None = ap (edges_of without) (sym number) ∙ other.1 in
        absurd (let never : ⊥ = cc in never)
  ]

  -- so a conflict that is valid over what is left asks for what it asked for
  still-asks : (conflict : Learned) → IsLearned conflict → IsValid (edges_of without) conflict → AsksForGuards old conflict → AsksForGuards new conflict
  still-asks conflict learned valid asks = record {
    all = λ literal at.
        let same : guard_at new at.slot ≡ guard_at old at.slot = same-guard at.place.0 at.slot (there-at (edges_of without) conflict at.place learned valid at.among) at.of_slot in
        asks.all literal (record { place = at.place; slot = at.slot; among = at.among; of_slot = at.of_slot; literal_of = subst (λ (guard : List Literal). Contains guard literal) same at.literal_of });
    only = λ literal asked.
        let at = asks.only literal asked in
        let same : guard_at new at.slot ≡ guard_at old at.slot = same-guard at.place.0 at.slot (there-at (edges_of without) conflict at.place learned valid at.among) at.of_slot in
        record { place = at.place; slot = at.slot; among = at.among; of_slot = at.of_slot; literal_of = subst (λ (guard : List Literal). Contains guard literal) (sym same) at.literal_of };
  }

-- what is there after a revision was there before
stayed : (from to : List (Option Edge)) (found : Option Learned) (conflict : Learned) → option_and_then (if_it_outlasts from to) found ≡ Some conflict → found ≡ Some conflict
stayed from to None conflict is = absurd (let never : ⊥ = cc in never)
stayed from to (Some held) conflict is = by (outlasts (edges_of from) (edges_of to) held) is
  where
    by : (b : Bool) → (if b then Some held else None) ≡ Some conflict → Some held ≡ Some conflict
    by true same = same
    by false none = absurd (let never : ⊥ = cc in never)

pub was-there : (old new : Stored) (to : List (Option Edge)) (key : ℕ) (conflict : Learned) → Revises old new to → conflict_at new key ≡ Some conflict → conflict_at old key ≡ Some conflict
was-there old new to key conflict revises is = stayed old.table to (conflict_at old key) conflict (sym (revises.conflicts key) ∙ is)

-- after a revision over what is left of a table, and one over the whole, all conflicts ask for what the new guards say
pub all-still-ask : (old new : List (List Literal)) (all without : List (Option Edge)) (before between after : Stored) (to : List (Option Edge)) → IsWithoutReguarded old new all without →
    AllAskForGuards old before → Revises before between without → IsStore between → Revises between after to → AllAskForGuards new after
all-still-ask old new all without before between after to is_without asks first sound second key =
    if-some (AsksForGuards new) (conflict_at after key)
    (λ conflict is.
    let there : conflict_at between key ≡ Some conflict = was-there between after to key conflict second is in
    let valid : IsValid (edges_of without) conflict =
    subst (λ (table : List (Option Edge)). IsValid (edges_of table) conflict) first.table (if-some-at (IsValid (edges_of between.table)) (conflict_at between key) conflict (sound.valid key) there) in
    still-asks old new all without is_without conflict (if-some-at IsLearned (conflict_at between key) conflict (sound.learned key) there) valid
    (if-some-at (AsksForGuards old) (conflict_at before key) conflict (asks key) (was-there before between without key conflict first there)))

-- the item of an edge in a slot is its requirement
of-requirement : (of : Item) (slot : ℕ) → slot_of_item of ≡ Some slot → of ≡ item.Requirement slot
of-requirement (item.Requirement s) slot is = ap (λ (n : ℕ). item.Requirement n) (let same : s ≡ slot = cc in same)
of-requirement (item.Uncertain d) slot is = absurd (let never : ⊥ = cc in never)

-- Over the table of a state, the literals of guards at the places of edges are those of the plan's requirements.
module _ (state : State) (table : List (Option Edge)) (guards : List (List Literal)) (is_table : IsTableOf state table) (have : HaveGuardsOf guards state.plan.requirements) where
  requirement-there : (place slot : ℕ) → IsSome (edges_of table place) → IsOfSlot place slot → (r : Requirement) × (requirement_in state.plan slot ≡ Some r)
  requirement-there place slot there (key, (placed, number), of_slot) =
      found (requirement_in state.plan slot) refl
      (ap (edges_of table) (sym number) ∙ is_table key placed ∙ ap (edge_among (tables_under state.vetoes) state.plan key) (of-requirement (item_of key) slot (sym (slot-item key) ∙ of_slot)))
    where
      found : (o : Option Requirement) → requirement_in state.plan slot ≡ o → edges_of table place ≡ option_and_then (λ r. (tables_under state.vetoes).of_requirement r key) o →
          (r : Requirement) × (requirement_in state.plan slot ≡ Some r)
      found None is none = absurd (let never : ⊥ = cc in never)
      found (Some r) is same = (r, is)

  -- by the plan, and by the guards
  guarded : (places : List Place) (literal : Literal) → IsAskedBy state.plan places literal → IsGuardedAt guards places literal
  guarded places literal asked =
      let r = asked.requirement in
      record {
        place = asked.there.place;
        slot = r.slot;
        among = asked.there.among;
        of_slot = asked.there.of_slot;
        literal_of = subst (λ (guard : List Literal). Contains guard literal) (sym (have r asked.there.in_plan)) asked.literal_of;
      }

  asked : (places : List Place) (literal : Literal) → ((place : Place) → Contains places place → IsSome (edges_of table place.0)) → IsGuardedAt guards places literal → IsAskedBy state.plan places literal
  asked places literal there at =
      let found = requirement-there at.place.0 at.slot (there at.place at.among) at.of_slot in
      let r : Requirement = found.0 in
      let in_plan : Contains state.plan.requirements r = Contains-found (λ (p : Requirement). p.slot == at.slot) state.plan.requirements r found.1 in
      let named : r.slot ≡ at.slot = (Decides-eqb r.slot at.slot).0 (passes (λ (p : Requirement). p.slot == at.slot) state.plan.requirements r found.1) in
      record {
        requirement = r;
        there = record { place = at.place; among = at.among; of_slot = subst (IsOfSlot at.place.0) (sym named) at.of_slot; in_plan = in_plan };
        literal_of = subst (λ (guard : List Literal). Contains guard literal) (ap (guard_at guards) (sym named) ∙ have r in_plan) at.literal_of;
      }

  pub literals-of-plan : (conflict : Learned) → IsLearned conflict → IsValid (edges_of table) conflict → AsksForGuards guards conflict → AreLiteralsOf state.plan (places_in conflict.pairs) conflict.literals
  literals-of-plan conflict learned valid asks = record {
    all = λ literal by_plan. asks.all literal (guarded (places_in conflict.pairs) literal by_plan);
    only = λ literal asks_for. asked (places_in conflict.pairs) literal (λ place among. there-at (edges_of table) conflict place learned valid among) (asks.only literal asks_for);
  }

  pub asks-for-guards : (conflict : Learned) → IsLearned conflict → IsValid (edges_of table) conflict → AreLiteralsOf state.plan (places_in conflict.pairs) conflict.literals → AsksForGuards guards conflict
  asks-for-guards conflict learned valid literals = record {
    all = λ literal at. literals.all literal (asked (places_in conflict.pairs) literal (λ place among. there-at (edges_of table) conflict place learned valid among) at);
    only = λ literal asks_for. guarded (places_in conflict.pairs) literal (literals.only literal asks_for);
  }

-- so a store over it whose conflicts ask for what the guards say is one for the state, and the other way round
module _ (state : State) (store : Stored) (guards : List (List Literal)) where
  pub store-for : IsTableOf state store.table → HaveGuardsOf guards state.plan.requirements → IsStore store → AllAskForGuards guards store → IsStoreFor state store
  store-for is_table have sound asks = record {
    table = is_table;
    sound = sound;
    literals = λ key.
        if-some (λ (c : Learned). AreLiteralsOf state.plan (places_in c.pairs) c.literals) (conflict_at store key)
        (λ conflict is.
        literals-of-plan state store.table guards is_table have conflict (if-some-at IsLearned (conflict_at store key) conflict (sound.learned key) is)
        (if-some-at (IsValid (edges_of store.table)) (conflict_at store key) conflict (sound.valid key) is) (if-some-at (AsksForGuards guards) (conflict_at store key) conflict (asks key) is));
  }

  pub all-ask : HaveGuardsOf guards state.plan.requirements → IsStoreFor state store → AllAskForGuards guards store
  all-ask have known key =
      if-some (AsksForGuards guards) (conflict_at store key)
      (λ conflict is.
      asks-for-guards state store.table guards known.table have conflict (if-some-at IsLearned (conflict_at store key) conflict (known.sound.learned key) is)
      (if-some-at (IsValid (edges_of store.table)) (conflict_at store key) conflict (known.sound.valid key) is)
      (if-some-at (λ (c : Learned). AreLiteralsOf state.plan (places_in c.pairs) c.literals) (conflict_at store key) conflict (known.literals key) is))
