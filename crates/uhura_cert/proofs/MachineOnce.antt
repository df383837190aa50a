-- A line leads from a spot of the reader of documents to one spot at most.
use Rattle.std.proofs.Common.{◌≡◌, ℕ, ◌<◌, List, [], ◌∷◌, map, Option, Some, refl, sym, ap, ◌∙◌, arith, ⊎_elim}
use Rattle.std.proofs.lemmas.Bool.{cases_lt}
use Rattle.std.proofs.lemmas.Option.{same_Some}
use Rattle.uhura_plan.specs.declared.key.EdgeKey.{EdgeKey}
use Rattle.uhura_plan.specs.declared.key.EventRef.TheVariants.{Controllable}
use Rattle.uhura_plan.specs.declared.key.SideKey.{SideKey}
use Rattle.uhura_plan.specs.declared.key.Side.{Side}
use Rattle.uhura_plan.specs.declared.guard.Literal.{Literal}
use Rattle.uhura_plan.specs.declared.requirement.Requirement.{Requirement}
use Rattle.uhura_plan.specs.Edits.{AreLiteralsOf, AddsUncertain, AddsChoice, AddsRequirement, IsRequirementOf, IsLeastFree, StatedUncertain, StatedChoice, StatedRequirement, uncertain_from, with_uncertain, choice_under, with_choice, with_requirement}
use Rattle.uhura_plan.specs.Lists.{Lists}
use Rattle.uhura_choice.specs.declared.prefix.Pick.{Pick}
use Rattle.uhura_veto.specs.declared.veto.Veto.{Veto}
use Rattle.uhura_veto.specs.declared.veto.Veto.TheVariants.{Deny}
use Rattle.uhura_veto.specs.Edits.{AddsDenial, AddsCap, StatedDenial, StatedCap, with_veto, cap_on}
use Rattle.uhura_veto.specs.State.{State}
use Rattle.uhura_line.specs.declared.command.Command.{Command}
use Rattle.uhura_line.specs.declared.command.Command.TheVariants as command
use Rattle.uhura_line.specs.declared.command.ItemName.{ItemName}
use Rattle.uhura_item.specs.declared.item.EdgeName.{EdgeName}
use Rattle.uhura_item.specs.declared.item.Item.{Item}
use Rattle.uhura_item.specs.declared.item.Item.TheVariants as item
use Rattle.uhura_cert.specs.declared.document.Proposal.{Proposal}
use Rattle.uhura_cert.specs.declared.document.Shared.TheVariants as shared
use Rattle.uhura_cert.specs.declared.document.Reason.TheVariants as reason
use Rattle.uhura_cert.specs.Document.{Document}
use Rattle.uhura_cert.specs.Machine.{Spot, start, script, question, picks, sides, times, entries, entry_flow, entry_walk, leaves, leaf_head, leaf_flow, leaf_walk, done, Leads, Goes, Makes, IsNextPick, IsNextSide, IsNextEdge, IsNextPrefix, edge_named, with_entry, with_leaf, proposal_of, leaf_of, FromStart, FromScript, FromQuestion, FromTimes, FromSides, FromPicks, FromLeaves, FromEntries, FromEntryFlow, FromEntryWalk, FromLeafHead, FromLeafFlow, FromLeafWalk, Step}
use Rattle.uhura_cert.proofs.FoundNames.{picks_once}

leads_once : {X : Type 0} (IsSuch : X → Type 0) (to : X → Spot) (t u : Spot) → ((x y : X) → IsSuch x → IsSuch y → x ≡ y) → Leads IsSuch to t → Leads IsSuch to u → t ≡ u
leads_once IsSuch to t u one first second = first.leads ∙ (ap to (one first.thing second.thing first.such second.such) ∙ sym second.leads)

goes_once : (Holds : Type 0) (to t u : Spot) → Goes Holds to t → Goes Holds to u → t ≡ u
goes_once Holds to t u first second = first.leads ∙ sym second.leads

-- ---- commands

-- names are of one list of literals
some_once : {X : Type 0} (xs ys : List X) → map (λ x. Some x) xs ≡ map (λ x. Some x) ys → xs ≡ ys
some_once [] [] same = refl
some_once [] (y ∷ ys) same = let no : ⊥ = cc in absurd no
some_once (x ∷ xs) [] same = let no : ⊥ = cc in absurd no
some_once (x ∷ xs) (y ∷ ys) same =
    let here : x ≡ y = cc in
    let rest : map (λ x. Some x) xs ≡ map (λ x. Some x) ys = cc in
    let more = some_once xs ys rest in
    λ i. here i ∷ more i

literals_once : (plan : Lists) (names : List (List ℕ × List ℕ)) (l m : List Literal) → AreLiteralsOf plan names l → AreLiteralsOf plan names m → l ≡ m
literals_once plan names l m first second = some_once l m (first ∙ sym second)

-- one slot is the least that is free
not_below : (rs : List Requirement) (a b : ℕ) → IsLeastFree rs a → IsLeastFree rs b → a < b → ⊥
not_below rs a b first second below = first.free (second.least a below)

slot_once : (rs : List Requirement) (a b : ℕ) → IsLeastFree rs a → IsLeastFree rs b → a ≡ b
slot_once rs a b first second =
    ⊎_elim (λ below. absurd (not_below rs a b first second below))
    (λ above. ⊎_elim (λ below. absurd (not_below rs b a second first below)) (λ least. omega (arith, above, least)) (cases_lt b a))
    (cases_lt a b)

made_once : (plan : Lists) (stated : StatedRequirement) (r q : Requirement) → IsRequirementOf plan stated r → IsRequirementOf plan stated q → r ≡ q
made_once plan stated r q first second =
    let name = first.same_name ∙ sym second.same_name in
    let from = same_Some r.from q.from (first.found_from ∙ sym second.found_from) in
    let to = same_Some r.to q.to (first.found_to ∙ sym second.found_to) in
    let lower = first.same_lower ∙ sym second.same_lower in
    let upper = first.same_upper ∙ sym second.same_upper in
    let guard = literals_once plan stated.guard r.guard q.guard first.found_guard second.found_guard in
    let slot = slot_once plan.requirements r.slot q.slot first.least_slot second.least_slot in
    λ i. record { name = name i; slot = slot i; from = from i; to = to i; lower = lower i; upper = upper i; guard = guard i }

uncertain_once : (old t u : Lists) (stated : StatedUncertain) → AddsUncertain old t stated → AddsUncertain old u stated → t ≡ u
uncertain_once old t u stated first second =
    let found : Some (Controllable first.from) ≡ Some (Controllable second.from) = sym first.found ∙ second.found in
    let from : first.from ≡ second.from = cc in
    first.lists ∙ (ap (λ place. with_uncertain old (uncertain_from place stated)) from ∙ sym second.lists)

choice_once : (old t u : Lists) (stated : StatedChoice) → AddsChoice old t stated → AddsChoice old u stated → t ≡ u
choice_once old t u stated first second =
    first.lists ∙ (ap (λ literals. with_choice old (choice_under literals stated)) (literals_once old stated.guard first.literals second.literals first.found second.found) ∙ sym second.lists)

requirement_once : (old t u : Lists) (stated : StatedRequirement) → AddsRequirement old t stated → AddsRequirement old u stated → t ≡ u
requirement_once old t u stated first second =
    first.lists ∙ (ap (with_requirement old) (made_once old stated first.made second.made first.found second.found) ∙ sym second.lists)

denial_once : (plan : Lists) (old t u : List Veto) (stated : StatedDenial) → AddsDenial plan old t stated → AddsDenial plan old u stated → t ≡ u
denial_once plan old t u stated first second =
    first.list ∙ (ap (λ literals. with_veto old (Deny stated.name literals)) (literals_once plan stated.literals first.literals second.literals first.found second.found) ∙ sym second.list)

cap_once : (plan : Lists) (old t u : List Veto) (stated : StatedCap) → AddsCap plan old t stated → AddsCap plan old u stated → t ≡ u
cap_once plan old t u stated first second =
    first.list ∙ (ap (λ on. with_veto old (cap_on on stated)) (same_Some first.on second.on (sym first.found ∙ second.found)) ∙ sym second.list)

state_once : (t u : State) → t.plan ≡ u.plan → t.vetoes ≡ u.vetoes → t ≡ u
state_once t u plan vetoes = λ i. record { plan = plan i; vetoes = vetoes i }

-- a command of a script makes one state
makes_once : (state : State) (c : Command) (t u : State) → Makes state c t → Makes state c u → t ≡ u
makes_once state (command.Event name) t u first second =
    state_once t u (first.applies.plan ∙ sym second.applies.plan) (first.applies.vetoes ∙ sym second.applies.vetoes)
makes_once state (command.Uncertain name from end lower upper lower_rate upper_rate) t u first second =
    state_once t u (uncertain_once state.plan t.plan u.plan _ first.applies.plan second.applies.plan) (first.applies.vetoes ∙ sym second.applies.vetoes)
makes_once state (command.Choice name alternatives guard) t u first second =
    state_once t u (choice_once state.plan t.plan u.plan _ first.applies.plan second.applies.plan) (first.applies.vetoes ∙ sym second.applies.vetoes)
makes_once state (command.Require name from to lower upper guard) t u first second =
    state_once t u (requirement_once state.plan t.plan u.plan _ first.applies.plan second.applies.plan) (first.applies.vetoes ∙ sym second.applies.vetoes)
makes_once state (command.Deny name literals) t u first second =
    state_once t u (first.applies.plan ∙ sym second.applies.plan) (denial_once state.plan state.vetoes t.vetoes u.vetoes _ first.applies.vetoes second.applies.vetoes)
makes_once state (command.Cap name thing side units) t u first second =
    state_once t u (first.applies.plan ∙ sym second.applies.plan) (cap_once state.plan state.vetoes t.vetoes u.vetoes _ first.applies.vetoes second.applies.vetoes)
makes_once state c t u first second = let no : ⊥ = omega (arith, first.in_order) in absurd no

-- ---- names

pick_once : (plan : Lists) (literals : List Literal) (choice alternative : List ℕ) (l m : Literal) → IsNextPick plan literals choice alternative l → IsNextPick plan literals choice alternative m → l ≡ m
pick_once plan literals choice alternative l m first second = same_Some l m (sym first.found ∙ second.found)

side_once : (plan : Lists) (relaxed : List (SideKey × ℕ)) (i : ItemName) (side : Side) (k l : SideKey) → IsNextSide plan relaxed i side k → IsNextSide plan relaxed i side l → k ≡ l
side_once plan relaxed i side k l first second =
    let thing = same_Some k.item l.item (sym first.found ∙ second.found) in
    let on = first.of_side ∙ sym second.of_side in
    λ j. record { item = thing j; side = on j }

edge_once : (plan : Lists) (edges : List (EdgeKey × ℕ)) (name : EdgeName) (e f : EdgeKey) → IsNextEdge plan edges name e → IsNextEdge plan edges name f → e ≡ f
edge_once plan edges name e f first second = same_Some e f (sym first.found ∙ second.found)

prefix_once : (d : Document) (names : List (Option (List ℕ))) (p q : List Pick) → IsNextPrefix d names p → IsNextPrefix d names q → p ≡ q
prefix_once d names p q first second = picks_once d.state.plan.choices names p q first.named second.named

-- what is looked up is one thing
found_once : {X : Type 0} (o : Option X) (x y : X) → o ≡ Some x → o ≡ Some y → x ≡ y
found_once o x y first second = same_Some x y (sym first ∙ second)

-- ---- spots

once_leaves : (d : Document) (i : Item) (t u : Spot) → FromLeaves d i t → FromLeaves d i u → t ≡ u
once_leaves d (item.Leaf names) t u first second = leads_once (IsNextPrefix d names) (leaf_head d) t u (prefix_once d names) first second
once_leaves d item.End t u first second = first ∙ sym second
once_leaves d i t u first second = absurd first

once_entries : (d : Document) (i : Item) (t u : Spot) → FromEntries d i t → FromEntries d i u → t ≡ u
once_entries d item.SharedFlow t u first second = first.leads ∙ sym second.leads
once_entries d item.SharedStuck t u first second = first.leads ∙ sym second.leads
once_entries d i t u first second = once_leaves d i t u first second

once_entry_flow : (d : Document) (edges : List (EdgeKey × ℕ)) (i : Item) (t u : Spot) → FromEntryFlow d edges i t → FromEntryFlow d edges i u → t ≡ u
once_entry_flow d edges (item.Units name units) t u first second = leads_once (IsNextEdge d.state.plan edges name) _ t u (edge_once d.state.plan edges name) first second
once_entry_flow d edges i t u first second = once_entries (with_entry d (shared.Flow edges)) i t u first second

once_entry_walk : (d : Document) (edges : List EdgeKey) (i : Item) (t u : Spot) → FromEntryWalk d edges i t → FromEntryWalk d edges i u → t ≡ u
once_entry_walk d edges (item.Edge name) t u first second = leads_once (λ e. edge_named d.state.plan name ≡ Some e) _ t u (found_once (edge_named d.state.plan name)) first second
once_entry_walk d edges i t u first second = once_entries (with_entry d (shared.Stuck edges)) i t u first second

once_leaf_head : (d : Document) (prefix : List Pick) (i : Item) (t u : Spot) → FromLeafHead d prefix i t → FromLeafHead d prefix i u → t ≡ u
once_leaf_head d prefix (item.Denied name) t u first second = leads_once _ _ t u (found_once _) first second
once_leaf_head d prefix item.Flow t u first second = first.leads ∙ sym second.leads
once_leaf_head d prefix item.Stuck t u first second = first.leads ∙ sym second.leads
once_leaf_head d prefix (item.Use entry) t u first second = first.leads ∙ sym second.leads
once_leaf_head d prefix i t u first second = absurd first

once_leaf_flow : (d : Document) (prefix : List Pick) (edges : List (EdgeKey × ℕ)) (i : Item) (t u : Spot) → FromLeafFlow d prefix edges i t → FromLeafFlow d prefix edges i u → t ≡ u
once_leaf_flow d prefix edges (item.Units name units) t u first second = leads_once (IsNextEdge d.state.plan edges name) _ t u (edge_once d.state.plan edges name) first second
once_leaf_flow d prefix edges i t u first second = once_leaves (with_leaf d (leaf_of prefix (reason.Flow edges))) i t u first second

once_leaf_walk : (d : Document) (prefix : List Pick) (edges : List EdgeKey) (i : Item) (t u : Spot) → FromLeafWalk d prefix edges i t → FromLeafWalk d prefix edges i u → t ≡ u
once_leaf_walk d prefix edges (item.Edge name) t u first second = leads_once (λ e. edge_named d.state.plan name ≡ Some e) _ t u (found_once (edge_named d.state.plan name)) first second
once_leaf_walk d prefix edges i t u first second = once_leaves (with_leaf d (leaf_of prefix (reason.Stuck edges))) i t u first second

once_times : (version : ℕ) (state : State) (p : Proposal) (i : Item) (t u : Spot) → FromTimes version state p i t → FromTimes version state p i u → t ≡ u
once_times version state p (item.At event time) t u first second = first.leads ∙ sym second.leads
once_times version state p item.End t u first second = first.leads ∙ sym second.leads
once_times version state p i t u first second = absurd first

once_sides : (version : ℕ) (state : State) (cost : ℕ) (literals : List Literal) (relaxed : List (SideKey × ℕ)) (i : Item) (t u : Spot)
    → FromSides version state cost literals relaxed i t → FromSides version state cost literals relaxed i u → t ≡ u
once_sides version state cost literals relaxed (item.Relax name side units) t u first second =
    leads_once (IsNextSide state.plan relaxed name side) _ t u (side_once state.plan relaxed name side) first second
once_sides version state cost literals relaxed i t u first second = once_times version state (proposal_of cost literals relaxed []) i t u first second

once_picks : (version : ℕ) (state : State) (cost : ℕ) (literals : List Literal) (i : Item) (t u : Spot) → FromPicks version state cost literals i t → FromPicks version state cost literals i u → t ≡ u
once_picks version state cost literals (item.Pick choice alternative) t u first second =
    leads_once (IsNextPick state.plan literals choice alternative) _ t u (pick_once state.plan literals choice alternative) first second
once_picks version state cost literals i t u first second = once_sides version state cost literals [] i t u first second

once_question : (version : ℕ) (state : State) (i : Item) (t u : Spot) → FromQuestion version state i t → FromQuestion version state i u → t ≡ u
once_question version state item.Nothing t u first second = first ∙ sym second
once_question version state (item.Proposal cost) t u first second = first ∙ sym second
once_question version state i t u first second = absurd first

once_script : (version : ℕ) (state : State) (i : Item) (t u : Spot) → FromScript version state i t → FromScript version state i u → t ≡ u
once_script version state (item.Command c) t u first second = leads_once (Makes state c) _ t u (makes_once state c) first second
once_script version state item.Answer t u first second = first ∙ sym second
once_script version state i t u first second = absurd first

once_start : (i : Item) (t u : Spot) → FromStart i t → FromStart i u → t ≡ u
once_start (item.Version version) t u first second = first ∙ sym second
once_start i t u first second = absurd first

pub step_once : (s : Spot) (i : Item) (t u : Spot) → Step s i t → Step s i u → t ≡ u
step_once start i t u first second = once_start i t u first second
step_once (script version state) i t u first second = once_script version state i t u first second
step_once (question version state) i t u first second = once_question version state i t u first second
step_once (picks version state cost literals) i t u first second = once_picks version state cost literals i t u first second
step_once (sides version state cost literals relaxed) i t u first second = once_sides version state cost literals relaxed i t u first second
step_once (times version state p) i t u first second = once_times version state p i t u first second
step_once (entries d) i t u first second = once_entries d i t u first second
step_once (entry_flow d edges) i t u first second = once_entry_flow d edges i t u first second
step_once (entry_walk d edges) i t u first second = once_entry_walk d edges i t u first second
step_once (leaves d) i t u first second = once_leaves d i t u first second
step_once (leaf_head d prefix) i t u first second = once_leaf_head d prefix i t u first second
step_once (leaf_flow d prefix edges) i t u first second = once_leaf_flow d prefix edges i t u first second
step_once (leaf_walk d prefix edges) i t u first second = once_leaf_walk d prefix edges i t u first second
step_once (done d) i t u first second = absurd first
