-- The lines of a document are such as a line may be: its names are names, and its numbers are within their limits.
use Rattle.std.proofs.Common.{◌≡◌, ℕ, ◌<◌, ◌≤◌, Bool, true, false, cond, ◌&&◌, ◌==◌, List, [], ◌∷◌, ◌++◌, length, map, flat_map, Option, Some, None, IsSome, IfSome, All, find, get_or, arith}
use Rattle.std.specs.List.{AllByRecursion, zip}
use Rattle.std.specs.Option.{option_map_or}
use Rattle.std.proofs.lemmas.Bool.{and_parts}
use Rattle.std.proofs.lemmas.List.{length-map}
use Rattle.std.proofs.lemmas.Option.{slice_get-get_or}
use Rattle.std.proofs.lemmas.List.Elements.{All-map, All-head, All-tail, All-weaker, All-cons, All-nil}
use Rattle.uhura_plan.specs.declared.key.EdgeKey.{EdgeKey}
use Rattle.uhura_plan.specs.declared.key.EdgeKey.TheVariants as key
use Rattle.uhura_plan.specs.declared.key.Item.{Item as Thing}
use Rattle.uhura_plan.specs.declared.key.Item.TheVariants.{Requirement as InSlot, Uncertain as AtPlace}
use Rattle.uhura_plan.specs.declared.guard.Literal.{Literal}
use Rattle.uhura_plan.specs.declared.choice.Choice.{Choice}
use Rattle.uhura_plan.specs.declared.requirement.Requirement.{Requirement}
use Rattle.uhura_plan.specs.Name.{is_name}
use Rattle.uhura_plan.specs.Lists.{Lists, uncertain_names, alternative_names}
use Rattle.uhura_plan.specs.Sound.{IsName, IsSound, IsSoundUncertain, IsSoundRequirement, IsLiteralAmong}
use Rattle.uhura_choice.specs.declared.prefix.Pick.{Pick}
use Rattle.uhura_choice.specs.declared.prefix.Pick.TheVariants.{Alternative, Inactive}
use Rattle.uhura_veto.specs.State.{State}
use Rattle.uhura_veto.specs.Vetoes.{IsItemOf, veto_name, veto_names}
use Rattle.uhura_line.specs.Reads.{name_of, are_names}
use Rattle.uhura_command.specs.Script.{name_at, item_name, literal_names, commands_of}
use Rattle.uhura_command.specs.State.{IsSoundState}
use Rattle.uhura_command.proofs.CommandLines.{FitsLine}
use Rattle.uhura_command.proofs.ScriptReplays.{state_commands_fit}
use Rattle.uhura_command.proofs.PlanNames.{place_named, guard_named}
use Rattle.uhura_item.specs.declared.item.Item.TheVariants as item
use Rattle.uhura_item.specs.Item.{IsBetween, IsEdgeName, IsItem}
use Rattle.uhura_cert.specs.declared.document.Proposal.{Proposal}
use Rattle.uhura_cert.specs.declared.document.Shared.{Shared}
use Rattle.uhura_cert.specs.declared.document.Shared.TheVariants as shared
use Rattle.uhura_cert.specs.declared.document.Reason.{Reason}
use Rattle.uhura_cert.specs.declared.document.Reason.TheVariants as reason
use Rattle.uhura_cert.specs.declared.document.Leaf.{Leaf}
use Rattle.uhura_cert.specs.Order.{place_in, IsEdgeOf}
use Rattle.uhura_cert.proofs.Writing.{at_each, length-picked}
use Rattle.uhura_cert.specs.Document.{Document, FitsPlan, AreEdgeUnits, AreEdges, IsShared, IsReasonOf, IsPickOf, ArePicks, IsLeaf, HasFittingParts}
use Rattle.uhura_cert.specs.Items.{pick_item, relax_item, time_item, to_cost, to_picks, to_sides, to_times, proposal_items, answer_items, edge_name, units_item, edge_item, shared_items, reason_items, picked_name, picked_names, leaf_items, to_version, to_script, to_question, to_answer, to_shared, to_leaves, items_of}

-- ---- all of a list

pub all_append : {X : Type 0} (P : X → Type 0) (xs ys : List X) → AllByRecursion P xs → AllByRecursion P ys → AllByRecursion P (xs ++ ys)
all_append P [] ys first second = second
all_append P (x ∷ xs) ys first second = (first.0, all_append P xs ys first.1 second)

pub all_mapped : {X Y : Type 0} (P : Y → Type 0) (Q : X → Type 0) (f : X → Y) → ((x : X) → Q x → P (f x)) → (xs : List X) → AllByRecursion Q xs → AllByRecursion P (map f xs)
all_mapped P Q f each [] are = tt
all_mapped P Q f each (x ∷ xs) are = (each x are.0, all_mapped P Q f each xs are.1)

pub all_flat_mapped : {X Y : Type 0} (P : Y → Type 0) (Q : X → Type 0) (f : X → List Y) → ((x : X) → Q x → AllByRecursion P (f x)) → (xs : List X) → AllByRecursion Q xs → AllByRecursion P (flat_map f xs)
all_flat_mapped P Q f each [] are = tt
all_flat_mapped P Q f each (x ∷ xs) are = all_append P (f x) (flat_map f xs) (each x are.0) (all_flat_mapped P Q f each xs are.1)

pub all_both : {X : Type 0} (P Q : X → Type 0) (xs : List X) → AllByRecursion P xs → AllByRecursion Q xs → AllByRecursion (λ x. P x × Q x) xs
all_both P Q [] first second = tt
all_both P Q (x ∷ xs) first second = ((first.0, second.0), all_both P Q xs first.1 second.1)

-- ---- names of a sound plan

-- the requirement that is found has a name
found_named : (plan : Lists) (rs : List Requirement) (slot : ℕ) → All (IsSoundRequirement plan) rs → IsSome (find (λ r. r.slot == slot) rs)
    → IsName (option_map_or (λ r. r.name) (find (λ r. r.slot == slot) rs) [])
found_named plan [] slot sound there = let no : ⊥ = cc in absurd no
found_named plan (r ∷ rs) slot sound there =
    by_test (r.slot == slot) there (λ more. found_named plan rs slot (All-tail (IsSoundRequirement plan) r rs sound) more)
  where
    by_test : (test : Bool) → IsSome (cond {A = Option Requirement} test (Some r) (find (λ r. r.slot == slot) rs))
        → (IsSome (find (λ r. r.slot == slot) rs) → IsName (option_map_or (λ r. r.name) (find (λ r. r.slot == slot) rs) []))
        → IsName (option_map_or (λ r. r.name) (cond {A = Option Requirement} test (Some r) (find (λ r. r.slot == slot) rs)) [])
    by_test true there more = (All-head (IsSoundRequirement plan) r rs sound).name
    by_test false there more = more there

uncertain_named : (plan : Lists) (d : ℕ) → IsSound plan → d < length plan.uncertains → IsName (name_at (uncertain_names plan.uncertains) d)
uncertain_named plan d sound there =
    place_named (uncertain_names plan.uncertains) d
    (All-map IsName (λ u. u.name) plan.uncertains (All-weaker (IsSoundUncertain (length plan.events)) (λ u. IsName u.name) (λ u s. s.name) plan.uncertains sound.uncertains))
    (omega (arith, there, length-map plan.uncertains (λ u. u.name)))

thing_named : (plan : Lists) (thing : Thing) → IsSound plan → IsItemOf plan thing → IsName (name_of (item_name plan thing))
thing_named plan (InSlot slot) sound there = found_named plan plan.requirements slot sound.requirements there
thing_named plan (AtPlace d) sound there = uncertain_named plan d sound there

edge_named : (plan : Lists) (edge : EdgeKey) → IsSound plan → IsEdgeOf plan edge → IsEdgeName (edge_name plan edge)
edge_named plan (key.Loose k) sound there = thing_named plan k.item sound there
edge_named plan (key.Steep k) sound there = thing_named plan k.item sound there
edge_named plan (key.Firm k) sound there = thing_named plan k.item sound there
edge_named plan (key.Order d) sound there = uncertain_named plan d sound there

pick_fits : (plan : Lists) (l : Literal) → IsSound plan → IsLiteralAmong plan.choices l → IsItem (pick_item plan l)
pick_fits plan l sound among =
    let names = literal_names plan.choices l in
    let all : are_names (names ∷ []) ≡ true = guard_named plan.choices (l ∷ []) sound.choices (All-cons (IsLiteralAmong plan.choices) l [] among (All-nil (IsLiteralAmong plan.choices))) in
    let first : (is_name names.0 && is_name names.1) ≡ true = (and_parts (is_name names.0 && is_name names.1) true all).0 in
    and_parts (is_name names.0) (is_name names.1) first

times_fit : (names : List (List ℕ)) (times : List ℕ) → All IsName names → AllByRecursion (λ time. time ≤ 10000000000000) times → AllByRecursion IsItem (map time_item (zip names times))
times_fit [] times named within = tt
times_fit (name ∷ names) [] named within = tt
times_fit (name ∷ names) (time ∷ times) named within =
    ((All-head IsName name names named, within.0), times_fit names times (All-tail IsName name names named) within.1)

-- ---- the answer

proposal_fits : (place : ℕ → ℕ) (plan : Lists) (p : Proposal) → IsSound plan → FitsPlan place plan p → AllByRecursion IsItem (proposal_items plan p)
proposal_fits place plan p sound fits =
    let cost : AllByRecursion IsItem (to_cost p) = (fits.cost, tt) in
    let picks = all_append IsItem (to_cost p) (map (pick_item plan) p.picks) cost
    (all_mapped IsItem (IsLiteralAmong plan.choices) (pick_item plan) (λ l among. pick_fits plan l sound among) p.picks fits.picks) in
    let sides = all_append IsItem (to_picks plan p) (map (relax_item plan) p.loosening) picks
    (all_mapped IsItem (λ s. IsItemOf plan s.0.item × IsBetween 1 10000000000000 s.1) (relax_item plan) (λ s is. (thing_named plan s.0.item sound is.0, is.1)) p.loosening
    (all_both (λ s. IsItemOf plan s.0.item) (λ s. IsBetween 1 10000000000000 s.1) p.loosening fits.sides.among fits.sides.units)) in
    let times = all_append IsItem (to_sides plan p) (map time_item (zip plan.events p.times)) sides (times_fit plan.events p.times sound.events fits.times_within) in
    all_append IsItem (to_times plan p) (item.End ∷ []) times (tt, tt)

answer_fits : (place : ℕ → ℕ) (plan : Lists) (answer : Option Proposal) → IsSound plan → IfSome answer (FitsPlan place plan) → AllByRecursion IsItem (answer_items plan answer)
answer_fits place plan None sound fits = (tt, tt)
answer_fits place plan (Some p) sound fits = proposal_fits place plan p sound fits

-- ---- what is shown

units_fit : (place : ℕ → ℕ) (plan : Lists) (edges : List (EdgeKey × ℕ)) → IsSound plan → AreEdgeUnits place plan edges → AllByRecursion IsItem (map (units_item plan) edges)
units_fit place plan edges sound are =
    all_mapped IsItem (λ e. IsEdgeOf plan e.0 × IsBetween 1 10000000000 e.1) (units_item plan) (λ e is. (edge_named plan e.0 sound is.0, is.1)) edges
    (all_both (λ e. IsEdgeOf plan e.0) (λ e. IsBetween 1 10000000000 e.1) edges are.among are.units)

edges_fit : (plan : Lists) (edges : List EdgeKey) → IsSound plan → AreEdges plan edges → AllByRecursion IsItem (map (edge_item plan) edges)
edges_fit plan edges sound are = all_mapped IsItem (IsEdgeOf plan) (edge_item plan) (λ e is. edge_named plan e sound is) edges are

shared_fits : (place : ℕ → ℕ) (plan : Lists) (entry : Shared) → IsSound plan → IsShared place plan entry → AllByRecursion IsItem (shared_items plan entry)
shared_fits place plan (shared.Flow edges) sound fits = (tt, units_fit place plan edges sound fits)
shared_fits place plan (shared.Stuck edges) sound fits = (tt, edges_fit plan edges sound fits)

veto_named : (state : State) (veto : ℕ) → IsSoundState state → veto < length state.vetoes → IsName (name_at (veto_names state.vetoes) veto)
veto_named state veto sound there =
    place_named (veto_names state.vetoes) veto (All-map IsName veto_name state.vetoes sound.vetoes.sound.names) (omega (arith, there, length-map state.vetoes veto_name))

reason_fits : (place : ℕ → ℕ) (state : State) (r : Reason) → IsSoundState state → IsReasonOf place state r → AllByRecursion IsItem (reason_items state r)
reason_fits place state (reason.Denied veto) sound fits = (veto_named state veto sound fits, tt)
reason_fits place state (reason.Flow edges) sound fits = (tt, units_fit place state.plan edges sound.plan fits)
reason_fits place state (reason.Stuck edges) sound fits = (tt, edges_fit state.plan edges sound.plan fits)
reason_fits place state (reason.Entry entry) sound fits = (fits, tt)

-- a choice with names
abbrev HasNames : Choice → Type 0
HasNames c = All IsName (alternative_names c)

picked_named : (c : Choice) (pick : Pick) → HasNames c → IsPickOf c pick → IfSome (picked_name c pick) IsName
picked_named c (Alternative a) named there = place_named (alternative_names c) a named (omega (arith, there, length-map c.alternatives (λ a. a.0)))
picked_named c Inactive named there = tt

prefix_named : (choices : List Choice) (picks : List Pick) → All HasNames choices → ArePicks choices picks → AllByRecursion (λ p. IfSome p IsName) (picked_names choices picks)
prefix_named choices [] named are = tt
prefix_named [] (pick ∷ picks) named are = absurd are
prefix_named (c ∷ choices) (pick ∷ picks) named are =
    (picked_named c pick (All-head HasNames c choices named) are.0, prefix_named choices picks (All-tail HasNames c choices named) are.1)

prefix_short : (choices : List Choice) (picks : List Pick) → length (picked_names choices picks) ≤ length choices
prefix_short choices [] = omega arith
prefix_short [] (pick ∷ picks) = omega arith
prefix_short (c ∷ choices) (pick ∷ picks) = omega (arith, prefix_short choices picks)

choices_named : (plan : Lists) → IsSound plan → All HasNames plan.choices
choices_named plan sound = λ k d within. (sound.choices k (get_or plan.choices k d) (slice_get-get_or plan.choices k d within)).names

leaf_fits : (place : ℕ → ℕ) (version : ℕ) (state : State) (entries : ℕ) (leaf : Leaf) → IsSoundState state → IsLeaf place version state entries leaf → AllByRecursion IsItem (leaf_items state leaf)
leaf_fits place version state entries leaf sound fits = (
  (prefix_named state.plan.choices leaf.prefix (choices_named state.plan sound.plan) fits.prefix, omega (arith, prefix_short state.plan.choices leaf.prefix, sound.plan.counts.choices)),
  reason_fits place state leaf.reason sound fits.reason,
)

-- ---- the whole

commands_fit : (state : State) → IsSoundState state → AllByRecursion IsItem (map (λ c. item.Command c) (commands_of state))
commands_fit state sound =
    all_mapped IsItem FitsLine (λ c. item.Command c) (λ c fits. record { command = fits.command; short = fits.short }) (commands_of state) (state_commands_fit state sound)

pub items_fit : (place : ℕ → ℕ) (d : Document) → IsSoundState d.state → HasFittingParts place d → AllByRecursion IsItem (items_of d)
items_fit place d sound parts =
    let version : AllByRecursion IsItem (to_version d) = (parts.version, tt) in
    let script = all_append IsItem (to_version d) (map (λ c. item.Command c) (commands_of d.state)) version (commands_fit d.state sound) in
    let question = all_append IsItem (to_script d) (item.Answer ∷ []) script (tt, tt) in
    let answer = all_append IsItem (to_question d) (answer_items d.state.plan d.answer) question (answer_fits place d.state.plan d.answer sound.plan parts.answer) in
    let entries = all_append IsItem (to_answer d) (flat_map (shared_items d.state.plan) d.shared) answer
    (all_flat_mapped IsItem (λ entry. (d.version ≡ 2) × IsShared place d.state.plan entry) (shared_items d.state.plan) (λ entry is. shared_fits place d.state.plan entry sound.plan is.1) d.shared parts.shared) in
    let leaves = all_append IsItem (to_shared d) (flat_map (leaf_items d.state) d.leaves) entries
    (all_flat_mapped IsItem (IsLeaf place d.version d.state (length d.shared)) (leaf_items d.state) (λ leaf is. leaf_fits place d.version d.state (length d.shared) leaf sound is) d.leaves parts.leaves) in
    all_append IsItem (to_leaves d) (item.End ∷ []) leaves (tt, tt)

-- ---- the lists of a proposal, as its writer wants them

pub record AreWritable (plan : Lists) (p : Proposal) : Type 0 where
  pub picks_among : All (IsLiteralAmong plan.choices) p.picks
  pub picks_fit : All (λ l. IsItem (pick_item plan l)) p.picks
  pub sides_there : All (λ s. IsItemOf plan s.0.item) p.loosening
  pub sides_fit : All (λ s. IsItem (relax_item plan s)) p.loosening
  pub times_within : All (λ time. time ≤ 10000000000000) p.times

pub proposal_writable : (plan : Lists) (p : Proposal) → IsSound plan → FitsPlan (place_in plan) plan p → AreWritable plan p
proposal_writable plan p sound fits = record {
  picks_among = at_each (IsLiteralAmong plan.choices) p.picks fits.picks;
  picks_fit = All-weaker (IsLiteralAmong plan.choices) (λ l. IsItem (pick_item plan l)) (λ l among. pick_fits plan l sound among) p.picks (at_each (IsLiteralAmong plan.choices) p.picks fits.picks);
  sides_there = at_each (λ s. IsItemOf plan s.0.item) p.loosening fits.sides.among;
  sides_fit = All-weaker (λ s. IsItemOf plan s.0.item × IsBetween 1 10000000000000 s.1) (λ s. IsItem (relax_item plan s)) (λ s is. (thing_named plan s.0.item sound is.0, is.1)) p.loosening
      (at_each (λ s. IsItemOf plan s.0.item × IsBetween 1 10000000000000 s.1) p.loosening (all_both (λ s. IsItemOf plan s.0.item) (λ s. IsBetween 1 10000000000000 s.1) p.loosening fits.sides.among fits.sides.units));
  times_within = at_each (λ time. time ≤ 10000000000000) p.times fits.times_within;
}

pub units_writable : (plan : Lists) (edges : List (EdgeKey × ℕ)) → IsSound plan → AreEdgeUnits (place_in plan) plan edges → All (λ e. IsItem (units_item plan e)) edges
units_writable plan edges sound are =
    All-weaker (λ e. IsEdgeOf plan e.0 × IsBetween 1 10000000000 e.1) (λ e. IsItem (units_item plan e)) (λ e is. (edge_named plan e.0 sound is.0, is.1)) edges
    (at_each (λ e. IsEdgeOf plan e.0 × IsBetween 1 10000000000 e.1) edges (all_both (λ e. IsEdgeOf plan e.0) (λ e. IsBetween 1 10000000000 e.1) edges are.among are.units))

pub edges_writable : (plan : Lists) (edges : List EdgeKey) → IsSound plan → AreEdges plan edges → All (λ e. IsItem (edge_item plan e)) edges
edges_writable plan edges sound are = All-weaker (IsEdgeOf plan) (λ e. IsItem (edge_item plan e)) (λ e is. edge_named plan e sound is) edges (at_each (IsEdgeOf plan) edges are)

-- the picks of a leaf are few, and their line may stand
pub few_picks : (plan : Lists) (picks : List Pick) → IsSound plan → ArePicks plan.choices picks → length picks ≤ 16
few_picks plan picks sound are = omega (arith, length-picked plan.choices picks are, prefix_short plan.choices picks, sound.counts.choices)

pub picks_writable : (plan : Lists) (picks : List Pick) → IsSound plan → ArePicks plan.choices picks → IsItem (item.Leaf (picked_names plan.choices picks))
picks_writable plan picks sound are =
    (prefix_named plan.choices picks (choices_named plan sound) are, omega (arith, prefix_short plan.choices picks, sound.counts.choices))
