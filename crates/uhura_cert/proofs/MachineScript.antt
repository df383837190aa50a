-- A command of a script that makes the next state is the next of the state's commands, and slots stay places.
use Rattle.std.proofs.Common.{◌≡◌, ℕ, zero, suc, ◌+◌, ◌<◌, ◌≤◌, List, [], ◌∷◌, ◌++◌, length, map, get_or, Option, None, Some, option_map, slice_get, All, refl, sym, ap, subst, ◌∙◌, arith, append_assoc, append-nil, ⊎_elim}
use Rattle.std.specs.Option.{option_or, option_map_or}
use Rattle.std.proofs.lemmas.Bool.{cases_lt}
use Rattle.std.proofs.lemmas.List.{length_push, map_push, length-map, get_or-map}
use Rattle.std.proofs.lemmas.List.Elements.{All-head, All-tail}
use Rattle.std.proofs.lemmas.Option.{same_Some, slice_get_within, slice_get-get_or}
use Rattle.uhura_plan.specs.declared.key.EventRef.{EventRef}
use Rattle.uhura_plan.specs.declared.key.EventRef.TheVariants.{Controllable, End}
use Rattle.uhura_plan.specs.declared.guard.Literal.{Literal}
use Rattle.uhura_plan.specs.declared.uncertain.Uncertain.{Uncertain}
use Rattle.uhura_plan.specs.declared.choice.Choice.{Choice}
use Rattle.uhura_plan.specs.declared.requirement.Requirement.{Requirement}
use Rattle.uhura_plan.specs.Edits.{AreLiteralsOf, IsLeastFree}
use Rattle.uhura_plan.specs.Find.{place_of, find_event, literal_named}
use Rattle.uhura_plan.specs.Lists.{Lists, end_names, alternative_names, slots}
use Rattle.uhura_plan.specs.Sound.{IsLiteralAmong, IsSound}
use Rattle.uhura_plan.proofs.Building.{choice_within}
use Rattle.uhura_plan.proofs.Finds.{literal_among}
use Rattle.uhura_veto.specs.declared.veto.Veto.{Veto}
use Rattle.uhura_veto.specs.State.{State}
use Rattle.uhura_line.specs.declared.command.Command.{Command}
use Rattle.uhura_line.specs.declared.command.Command.TheVariants as command
use Rattle.uhura_command.specs.Script.{name_at, event_name, literal_names, guard_names, uncertain_command, choice_command, requirement_command, veto_command, plan_commands, commands_of}
use Rattle.uhura_command.proofs.PlanNames.{literals_among_all}
use Rattle.uhura_cert.specs.Document.{HasPlacesAsSlots}
use Rattle.uhura_cert.specs.Machine.{Makes, IsBegun}
use Rattle.uhura_cert.proofs.Ordered.{slice_get-kept, slice_get-last}
use Rattle.uhura_cert.proofs.FoundNames.{named_at, literal_back, item_back}

-- ---- events

-- an event that is found has the name
pub event_back : (plan : Lists) (name : List ℕ) (e : EventRef) → find_event plan name ≡ Some e → event_name plan e ≡ name
event_back plan name e found = by (place_of plan.events name) (place_of (end_names plan.uncertains) name) refl refl found
  where
    by : (event end : Option ℕ) → place_of plan.events name ≡ event → place_of (end_names plan.uncertains) name ≡ end
        → option_or (option_map (λ e. Controllable e) event) (option_map (λ d. End d) end) ≡ Some e → event_name plan e ≡ name
    by (Some k) end at_event at_end is = ap (event_name plan) (sym (same_Some (Controllable k) e is)) ∙ named_at plan.events name k at_event
    by None (Some d) at_event at_end is = ap (event_name plan) (sym (same_Some (End d) e is)) ∙ named_at (end_names plan.uncertains) name d at_end
    by None None at_event at_end is = let no : ⊥ = cc in absurd no

-- ---- guards

guard_back : (plan : Lists) (names : List (List ℕ × List ℕ)) (literals : List Literal) → AreLiteralsOf plan names literals → guard_names plan.choices literals ≡ names
guard_back plan [] [] are = refl
guard_back plan [] (l ∷ literals) are = let no : ⊥ = cc in absurd no
guard_back plan (pair ∷ names) [] are = let no : ⊥ = cc in absurd no
guard_back plan (pair ∷ names) (l ∷ literals) are =
    let here : Some l ≡ literal_named plan pair = cc in
    let rest : AreLiteralsOf plan names literals = cc in
    let first = literal_back plan pair l (sym here) in
    let more = guard_back plan names literals rest in
    λ i. first i ∷ more i

guard_among : (plan : Lists) (names : List (List ℕ × List ℕ)) (literals : List Literal) → AreLiteralsOf plan names literals → (k : ℕ) (d : Literal) → k < length literals
    → IsLiteralAmong plan.choices (get_or literals k d)
guard_among plan [] [] are k d within = absurd (omega (arith, within))
guard_among plan [] (l ∷ literals) are k d within = let no : ⊥ = cc in absurd no
guard_among plan (pair ∷ names) [] are k d within = absurd (omega (arith, within))
guard_among plan (pair ∷ names) (l ∷ literals) are zero d within = let here : Some l ≡ literal_named plan pair = cc in literal_among plan pair l here
guard_among plan (pair ∷ names) (l ∷ literals) are (suc k) d within =
    let rest : AreLiteralsOf plan names literals = cc in guard_among plan names literals rest k d (omega (arith, within))

-- a literal has its names also where one more choice is there
literal_kept : (choices : List Choice) (added : Choice) (l : Literal) → IsLiteralAmong choices l → literal_names (choices ++ added ∷ []) l ≡ literal_names choices l
literal_kept choices added l among =
    ap (λ o. option_map_or (λ c. (c.name, name_at (alternative_names c) l.alternative)) o ([], [])) (slice_get-kept choices added l.choice (choice_within choices l among))

guard_kept : (choices : List Choice) (added : Choice) (literals : List Literal) → All (IsLiteralAmong choices) literals → guard_names (choices ++ added ∷ []) literals ≡ guard_names choices literals
guard_kept choices added [] among = refl
guard_kept choices added (l ∷ literals) among =
    let first = literal_kept choices added l (All-head (IsLiteralAmong choices) l literals among) in
    let more = guard_kept choices added literals (All-tail (IsLiteralAmong choices) l literals among) in
    λ i. first i ∷ more i

-- ---- the commands of a state that grows

abbrev state_of : List (List ℕ) → List Uncertain → List Choice → List Requirement → List Veto → State
state_of events uncertains choices requirements vetoes =
    record { plan = record { events = events; uncertains = uncertains; choices = choices; requirements = requirements }; vetoes = vetoes }

nil_1 : (l : List Command) → l ++ [] ≡ l
nil_1 l = append-nil l

nil_2 : (l : List Command) → (l ++ []) ++ [] ≡ l
nil_2 l = append-nil (l ++ []) ∙ append-nil l

nil_3 : (l : List Command) → ((l ++ []) ++ []) ++ [] ≡ l
nil_3 l = append-nil ((l ++ []) ++ []) ∙ nil_2 l

nil_4 : (l : List Command) → (((l ++ []) ++ []) ++ []) ++ [] ≡ l
nil_4 l = append-nil (((l ++ []) ++ []) ++ []) ∙ nil_3 l

-- the commands of a list that grows, behind others
pushed : {X : Type 0} (front : List Command) (made : X → Command) (xs : List X) (x : X) (c : Command) → made x ≡ c → front ++ map made (xs ++ x ∷ []) ≡ (front ++ map made xs) ++ c ∷ []
pushed front made xs x c is =
    ap (λ l. front ++ l) (map_push made xs x ∙ ap (λ d. map made xs ++ d ∷ []) is) ∙ sym (append_assoc front (map made xs) (c ∷ []))

event_shown : (events : List (List ℕ)) (name : List ℕ) (us : List Uncertain) (cs : List Choice) (rs : List Requirement) (vs : List Veto) → length us + length cs + length rs + length vs ≡ 0
    → commands_of (state_of (events ++ name ∷ []) us cs rs vs) ≡ commands_of (state_of events us cs rs vs) ++ command.Event name ∷ []
event_shown events name [] [] [] [] none =
    let line = λ (name : List ℕ). command.Event name in
    nil_4 (map line (events ++ name ∷ [])) ∙ (map_push line events name ∙ ap (λ l. l ++ command.Event name ∷ []) (sym (nil_4 (map line events))))
event_shown events name (u ∷ us) cs rs vs none = absurd (omega (arith, none))
event_shown events name [] (c ∷ cs) rs vs none = absurd (omega (arith, none))
event_shown events name [] [] (r ∷ rs) vs none = absurd (omega (arith, none))
event_shown events name [] [] [] (v ∷ vs) none = absurd (omega (arith, none))

uncertain_shown : (events : List (List ℕ)) (us : List Uncertain) (u : Uncertain) (cs : List Choice) (rs : List Requirement) (vs : List Veto) (c : Command) → length cs + length rs + length vs ≡ 0
    → uncertain_command (state_of events us cs rs vs).plan u ≡ c
    → commands_of (state_of events (us ++ u ∷ []) cs rs vs) ≡ commands_of (state_of events us cs rs vs) ++ c ∷ []
uncertain_shown events us u [] [] [] c none is =
    let front = map (λ (name : List ℕ). command.Event name) events in
    let made = uncertain_command (state_of events us [] [] []).plan in
    nil_3 (front ++ map made (us ++ u ∷ [])) ∙ (pushed front made us u c is ∙ ap (λ l. l ++ c ∷ []) (sym (nil_3 (front ++ map made us))))
uncertain_shown events us u (d ∷ cs) rs vs c none is = absurd (omega (arith, none))
uncertain_shown events us u [] (r ∷ rs) vs c none is = absurd (omega (arith, none))
uncertain_shown events us u [] [] (v ∷ vs) c none is = absurd (omega (arith, none))

-- choices keep their commands where one more is there
choices_kept : (plan new : Lists) (added : Choice) (ds : List Choice) → new.choices ≡ plan.choices ++ added ∷ [] → ((k : ℕ) (d : Choice) → slice_get ds k ≡ Some d → All (IsLiteralAmong plan.choices) d.guard)
    → map (choice_command new) ds ≡ map (choice_command plan) ds
choices_kept plan new added [] is among = refl
choices_kept plan new added (d ∷ ds) is among =
    let guard : guard_names new.choices d.guard ≡ guard_names plan.choices d.guard = ap (λ cs. guard_names cs d.guard) is ∙ guard_kept plan.choices added d.guard (among zero d refl) in
    let more = choices_kept plan new added ds is (λ k e at. among (suc k) e at) in
    λ i. command.Choice d.name d.alternatives (guard i) ∷ more i

choice_shown : (events : List (List ℕ)) (us : List Uncertain) (cs : List Choice) (added : Choice) (rs : List Requirement) (vs : List Veto) (c : Command) → length rs + length vs ≡ 0
    → ((k : ℕ) (d : Choice) → slice_get cs k ≡ Some d → All (IsLiteralAmong cs) d.guard) → choice_command (state_of events us (cs ++ added ∷ []) rs vs).plan added ≡ c
    → commands_of (state_of events us (cs ++ added ∷ []) rs vs) ≡ commands_of (state_of events us cs rs vs) ++ c ∷ []
choice_shown events us cs added [] [] c none among is =
    let old = (state_of events us cs [] []).plan in
    let new = (state_of events us (cs ++ added ∷ []) [] []).plan in
    let front = map (λ (name : List ℕ). command.Event name) events ++ map (uncertain_command old) us in
    nil_2 (front ++ map (choice_command new) (cs ++ added ∷ []))
    ∙ (pushed front (choice_command new) cs added c is
    ∙ ap (λ l. l ++ c ∷ []) (ap (λ l. front ++ l) (choices_kept old new added cs refl among) ∙ sym (nil_2 (front ++ map (choice_command old) cs))))
choice_shown events us cs added (r ∷ rs) vs c none among is = absurd (omega (arith, none))
choice_shown events us cs added [] (v ∷ vs) c none among is = absurd (omega (arith, none))

requirement_shown : (events : List (List ℕ)) (us : List Uncertain) (cs : List Choice) (rs : List Requirement) (r : Requirement) (vs : List Veto) (c : Command) → length vs ≡ 0
    → requirement_command (state_of events us cs rs vs).plan r ≡ c
    → commands_of (state_of events us cs (rs ++ r ∷ []) vs) ≡ commands_of (state_of events us cs rs vs) ++ c ∷ []
requirement_shown events us cs rs r [] c none is =
    let plan = (state_of events us cs rs []).plan in
    let front = map (λ (name : List ℕ). command.Event name) events ++ map (uncertain_command plan) us ++ map (choice_command plan) cs in
    nil_1 (front ++ map (requirement_command plan) (rs ++ r ∷ []))
    ∙ (pushed front (requirement_command plan) rs r c is ∙ ap (λ l. l ++ c ∷ []) (sym (nil_1 (front ++ map (requirement_command plan) rs))))
requirement_shown events us cs rs r (v ∷ vs) c none is = absurd (omega (arith, none))

veto_shown : (plan : Lists) (vs : List Veto) (v : Veto) (c : Command) → veto_command plan v ≡ c
    → commands_of (record { plan = plan; vetoes = vs ++ v ∷ [] }) ≡ commands_of (record { plan = plan; vetoes = vs }) ++ c ∷ []
veto_shown plan vs v c is = pushed (plan_commands plan) (veto_command plan) vs v c is

-- ---- slots

pub slot_there : (rs : List Requirement) (k d : ℕ) → ((place : ℕ) (r : Requirement) → slice_get rs place ≡ Some r → r.slot ≡ place) → k < length rs → get_or (slots rs) k d ≡ k
slot_there [] k d places within = absurd (omega (arith, within))
slot_there (r ∷ rs) k d places within =
    get_or-map (λ (r : Requirement). r.slot) (r ∷ rs) k r d within ∙ places k (get_or (r ∷ rs) k r) (slice_get-get_or (r ∷ rs) k r within)

-- the least free slot behind slots that are places is the next place
next_slot : (plan : Lists) (slot : ℕ) → HasPlacesAsSlots plan → IsLeastFree plan.requirements slot → slot ≡ length plan.requirements
next_slot plan slot places free =
    ⊎_elim (λ below. absurd (inside below)) (λ above. ⊎_elim (λ more. absurd (outside more)) (λ most. omega (arith, above, most)) (cases_lt (length plan.requirements) slot))
    (cases_lt slot (length plan.requirements))
  where
    many : length (slots plan.requirements) ≡ length plan.requirements
    many = length-map plan.requirements (λ (r : Requirement). r.slot)

    inside : slot < length plan.requirements → ⊥
    inside below = free.free (slot, omega (arith, below, many), slot_there plan.requirements slot slot places below)

    outside : length plan.requirements < slot → ⊥
    outside more =
        let there = free.least (length plan.requirements) more in
        let below : there.0 < length plan.requirements = omega (arith, there.1, many) in
        let is : there.0 ≡ length plan.requirements = sym (slot_there plan.requirements there.0 (length plan.requirements) places below) ∙ there.2 in
        omega (arith, is, below)

-- one requirement more, in the next slot
slots_kept : (plan : Lists) (made : Requirement) → HasPlacesAsSlots plan → made.slot ≡ length plan.requirements
    → (place : ℕ) (r : Requirement) → slice_get (plan.requirements ++ made ∷ []) place ≡ Some r → r.slot ≡ place
slots_kept plan made places slot place r at = ⊎_elim earlier last (cases_lt place (length plan.requirements))
  where
    earlier : place < length plan.requirements → r.slot ≡ place
    earlier within = places place r (sym (slice_get-kept plan.requirements made place within) ∙ at)

    last : length plan.requirements ≤ place → r.slot ≡ place
    last end =
        let is_end : place ≡ length plan.requirements = omega (arith, end, slice_get_within (plan.requirements ++ made ∷ []) place r at, length_push plan.requirements made) in
        let same : made ≡ r = same_Some made r (sym (slice_get-last plan.requirements made) ∙ (ap (slice_get (plan.requirements ++ made ∷ [])) (sym is_end) ∙ at)) in
        ap (λ (q : Requirement). q.slot) (sym same) ∙ (slot ∙ sym is_end)

-- ---- one command

-- the next state has places as slots, and one command more
pub record Grows (state : State) (c : Command) (next : State) : Type 0 where
  pub slots : HasPlacesAsSlots next.plan
  pub commands : commands_of next ≡ commands_of state ++ c ∷ []

-- a state of this plan and these vetoes
of_lists : (state : State) (c : Command) (plan : Lists) (vetoes : List Veto) (next : State) → next.plan ≡ plan → next.vetoes ≡ vetoes
    → Grows state c (record { plan = plan; vetoes = vetoes }) → Grows state c next
of_lists state c plan vetoes next plan_is vetoes_is grows =
    let same : next ≡ record { plan = plan; vetoes = vetoes } = λ i. record { plan = plan_is i; vetoes = vetoes_is i } in
    subst (Grows state c) (sym same) grows

guards_among : (plan : Lists) → IsSound plan → (k : ℕ) (d : Choice) → slice_get plan.choices k ≡ Some d → All (IsLiteralAmong plan.choices) d.guard
guards_among plan sound k d at = literals_among_all plan.choices k d.guard (sound.choices k d at).guard.among

pub grows : (version : ℕ) (state : State) (c : Command) (next : State) → IsBegun version state → Makes state c next → Grows state c next
grows version state (command.Event name) next begins makes =
    of_lists state _ _ _ next makes.applies.plan makes.applies.vetoes (record {
      slots = begins.slots;
      commands = event_shown state.plan.events name state.plan.uncertains state.plan.choices state.plan.requirements state.vetoes makes.in_order;
    })
grows version state (command.Uncertain name from end lower upper lower_rate upper_rate) next begins makes =
    let c = command.Uncertain name from end lower upper lower_rate upper_rate in
    let adds = makes.applies.plan in
    let start : name_at state.plan.events adds.from ≡ from = event_back state.plan from (Controllable adds.from) adds.found in
    of_lists state c _ _ next adds.lists makes.applies.vetoes (record {
      slots = begins.slots;
      commands = uncertain_shown state.plan.events state.plan.uncertains _ state.plan.choices state.plan.requirements state.vetoes c makes.in_order
          (ap (λ n. command.Uncertain name n end lower upper lower_rate upper_rate) start);
    })
grows version state (command.Choice name alternatives guard) next begins makes =
    let c = command.Choice name alternatives guard in
    let adds = makes.applies.plan in
    let made : Choice = record { name = name; alternatives = alternatives; guard = adds.literals } in
    let among : All (IsLiteralAmong state.plan.choices) adds.literals = λ k d within. guard_among state.plan guard adds.literals adds.found k d within in
    let shown : guard_names (state.plan.choices ++ made ∷ []) adds.literals ≡ guard = guard_kept state.plan.choices made adds.literals among ∙ guard_back state.plan guard adds.literals adds.found in
    of_lists state c _ _ next adds.lists makes.applies.vetoes (record {
      slots = begins.slots;
      commands = choice_shown state.plan.events state.plan.uncertains state.plan.choices made state.plan.requirements state.vetoes c makes.in_order
          (guards_among state.plan begins.sound.plan) (ap (command.Choice name alternatives) shown);
    })
grows version state (command.Require name from to lower upper guard) next begins makes =
    let c = command.Require name from to lower upper guard in
    let adds = makes.applies.plan in
    let made = adds.made in
    let found = adds.found in
    let n = found.same_name in
    let f = event_back state.plan from made.from (sym found.found_from) in
    let t = event_back state.plan to made.to (sym found.found_to) in
    let l = found.same_lower in
    let u = found.same_upper in
    let g = guard_back state.plan guard made.guard found.found_guard in
    let is : requirement_command state.plan made ≡ c = λ i. command.Require (n i) (f i) (t i) (l i) (u i) (g i) in
    of_lists state c _ _ next adds.lists makes.applies.vetoes (record {
      slots = slots_kept state.plan made begins.slots (next_slot state.plan made.slot begins.slots found.least_slot);
      commands = requirement_shown state.plan.events state.plan.uncertains state.plan.choices state.plan.requirements made state.vetoes c makes.in_order is;
    })
grows version state (command.Deny name literals) next begins makes =
    let c = command.Deny name literals in
    let adds = makes.applies.vetoes in
    of_lists state c state.plan _ next makes.applies.plan adds.list (record {
      slots = begins.slots;
      commands = veto_shown state.plan state.vetoes _ c (ap (command.Deny name) (guard_back state.plan literals adds.literals adds.found));
    })
grows version state (command.Cap name thing side units) next begins makes =
    let c = command.Cap name thing side units in
    let adds = makes.applies.vetoes in
    of_lists state c state.plan _ next makes.applies.plan adds.list (record {
      slots = begins.slots;
      commands = veto_shown state.plan state.vetoes _ c (ap (λ i. command.Cap name i side units) (item_back state.plan thing adds.on begins.slots adds.found));
    })
grows version state c next begins makes = let no : ⊥ = omega (arith, makes.in_order) in absurd no
