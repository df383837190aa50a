-- What keeps firm edges, and what times that keep them are worth.
use Rattle.std.proofs.Common.{◌≡◌, ℕ, false, true≢false, Option, None, Some, IfSome, IsTrue, IsFalse, slice_get, Contains, refl, subst, arith}
use Rattle.std.specs.Prelude.{ℤ, pos, ◌+ℤ◌, option_and_then}
use Rattle.std.specs.Option.{option_map_or}
use Rattle.std.proofs.lemmas.Int.{ints}
use Rattle.uhura_plan.specs.declared.key.Item.{Item}
use Rattle.uhura_plan.specs.declared.key.Item.TheVariants as item
use Rattle.uhura_plan.specs.declared.key.EdgeKey.{EdgeKey}
use Rattle.uhura_plan.specs.declared.key.EdgeKey.TheVariants.{Loose, Firm, Order, Steep}
use Rattle.uhura_plan.specs.declared.requirement.Requirement.{Requirement}
use Rattle.uhura_plan.specs.declared.uncertain.Uncertain.{Uncertain}
use Rattle.uhura_plan.specs.Find.{requirement_in}
use Rattle.uhura_plan.specs.Sound.{IsSound}
use Rattle.uhura_choice.specs.Branch.{holds}
use Rattle.uhura_net.specs.declared.edge.TheConstants.{FIRM_CAPACITY}
use Rattle.uhura_net.specs.declared.edge.Edge.{Edge}
use Rattle.uhura_net.specs.Edges.{Keeps, KeepsAt}
use Rattle.uhura_net.specs.Place.{is_loose_key}
use Rattle.uhura_net.proofs.Scaled.{scaled-plus}
use Rattle.uhura_veto.specs.declared.room.Room.{Room}
use Rattle.uhura_veto.specs.declared.room.Room.TheVariants.{Units, Unlimited}
use Rattle.uhura_veto.specs.State.{State}
use Rattle.uhura_veto.specs.Room.{requirement_room, duration_room, IsWithinRoom}
use Rattle.uhura_worst.specs.declared.constraint.Constraint.{Constraint}
use Rattle.uhura_worst.specs.Proposal.{Proposal, loosened, narrowed}
use Rattle.uhura_worst.specs.Allowed.{Allowed}
use Rattle.uhura_worst.specs.Edges.{requirement_constraint, duration_constraint, order_constraint, firm_edge, requirement_edge, duration_edge, item_of, edge_in, is_active_item}
use Rattle.uhura_worst.specs.WorstCase.{loosened_edge, MeetsWorstCase, extreme_times, KeepsFirmEdges}
use Rattle.uhura_worst.proofs.SoundItems.{Contains-found}
use Rattle.uhura_worst.proofs.WorstCase.{extremes-meet, extreme_times-are}

-- times that keep a constraint loosened within its room keep its firm edge
firm-kept : (k : ℕ) (times : ℕ → ℤ) (room : Room) (c : Constraint) (units : ℕ) (edge : Edge) → Keeps times (loosened_edge k units c) → IsWithinRoom k room units → firm_edge room c ≡ Some edge → KeepsAt k times edge
firm-kept k times Unlimited c units edge kept within is = absurd (let never : ⊥ = cc in never)
firm-kept k times (Units most) c units edge kept within is =
    let firm : Edge = record { from = c.from; to = c.to; bound = c.bound +ℤ pos most; capacity = FIRM_CAPACITY } in
    let same : firm ≡ edge = cc in
    let moved : KeepsAt k times firm = omega (arith, ints, kept, within, scaled-plus k c.bound (pos most)) in
    subst (KeepsAt k times) same moved

firm-kept_where_there : (k : ℕ) (times : ℕ → ℤ) (room : Room) (constraint : Option Constraint) (units : ℕ) (edge : Edge) →
    IfSome constraint (λ (c : Constraint). Keeps times (loosened_edge k units c)) → IsWithinRoom k room units → option_and_then (firm_edge room) constraint ≡ Some edge → KeepsAt k times edge
firm-kept_where_there k times room None units edge kept within is = absurd (let never : ⊥ = cc in never)
firm-kept_where_there k times room (Some c) units edge kept within is = firm-kept k times room c units edge kept within is

-- the firm edges of a requirement, and of a duration
requirement-kept : (state : State) (k : ℕ) (q : Proposal) (times : ℕ → ℤ) (slot : ℕ) (key : EdgeKey) (edge : Edge) (found : Option Requirement) → Allowed state k q → MeetsWorstCase state.plan k q times →
    requirement_in state.plan slot ≡ found → option_and_then (λ (r : Requirement). requirement_edge state.vetoes r key) found ≡ Some edge → IsFalse (is_loose_key key) → IsTrue (option_map_or (λ (r : Requirement). holds r.guard q.branch) found false) → KeepsAt k times edge
requirement-kept state k q times slot key edge None allowed worst found is firm active = absurd (let never : ⊥ = cc in never)
requirement-kept state k q times slot (Loose key) edge (Some r) allowed worst found is firm active = absurd (true≢false firm)
requirement-kept state k q times slot (Steep key) edge (Some r) allowed worst found is firm active = absurd (true≢false firm)
requirement-kept state k q times slot (Order d) edge (Some r) allowed worst found is firm active = absurd (let never : ⊥ = cc in never)
requirement-kept state k q times slot (Firm key) edge (Some r) allowed worst found is firm active =
    let member : Contains state.plan.requirements r = Contains-found _ state.plan.requirements r found in
    firm-kept_where_there k times (requirement_room state.vetoes key.side r) (requirement_constraint key.side r) (loosened q key.side r) edge
    (worst.requirements key.side r member active) (allowed.loosened_within key.side r member) is

duration-kept : (state : State) (k : ℕ) (q : Proposal) (times : ℕ → ℤ) (d : ℕ) (key : EdgeKey) (edge : Edge) (found : Option Uncertain) → Allowed state k q → MeetsWorstCase state.plan k q times →
    slice_get state.plan.uncertains d ≡ found → option_and_then (λ (u : Uncertain). duration_edge state.vetoes d u key) found ≡ Some edge → IsFalse (is_loose_key key) → KeepsAt k times edge
duration-kept state k q times d key edge None allowed worst found is firm = absurd (let never : ⊥ = cc in never)
duration-kept state k q times d (Loose key) edge (Some u) allowed worst found is firm = absurd (true≢false firm)
duration-kept state k q times d (Steep key) edge (Some u) allowed worst found is firm = absurd (true≢false firm)
duration-kept state k q times d (Order e) edge (Some u) allowed worst found is firm =
    firm-kept k times (Units 0) (order_constraint d) 0 edge (worst.order d u found) (omega arith) is
duration-kept state k q times d (Firm key) edge (Some u) allowed worst found is firm =
    firm-kept k times (duration_room state.vetoes d key.side u) (duration_constraint key.side d u) (narrowed q key.side d) edge
    (worst.durations key.side d u found) (allowed.narrowed_within key.side d u found) is

-- an allowed proposal keeps all firm edges
pub allowed-keeps : (state : State) (k : ℕ) (q : Proposal) → IsSound state.plan → Allowed state k q → KeepsFirmEdges state k q.branch (extreme_times state.plan k q)
allowed-keeps state k q sound allowed key edge is firm active = by (item_of key) is active
  where
    worst : MeetsWorstCase state.plan k q (extreme_times state.plan k q)
    worst = extremes-meet state.plan k q (extreme_times state.plan k q) sound allowed.ranges_left (extreme_times-are state.plan k q sound) allowed.covers

    by : (of : Item) → edge_in state key of ≡ Some edge → IsTrue (is_active_item state.plan q.branch of) → KeepsAt k (extreme_times state.plan k q) edge
    by (item.Requirement slot) is active = requirement-kept state k q (extreme_times state.plan k q) slot key edge (requirement_in state.plan slot) allowed worst refl is firm active
    by (item.Uncertain d) is active = duration-kept state k q (extreme_times state.plan k q) d key edge (slice_get state.plan.uncertains d) allowed worst refl is firm
