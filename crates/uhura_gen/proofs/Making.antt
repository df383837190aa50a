-- What each call adds, and that no plan so far refuses it.
use Rattle.std.proofs.Common.{◌≡◌, ℕ, ◌+◌, ◌-◌, ◌*◌, ◌%◌, ◌<◌, ◌≤◌, ℤ, pos, ◌≤ℤ◌, to_z, of_z, w64, true, false, not, List, [], ◌∷◌, ◌++◌, length, map, None, Some, is_some, position, bytes_eq, option_map, refl, ap, sym, ◌∙◌, arith, append_assoc, length-append}
use Rattle.std.proofs.lemmas.List.{length-map, map_push, append-nil}
use Rattle.std.proofs.lemmas.Int.{ints}
use Rattle.std.proofs.lemmas.List.FromFn.{length-map-range_with_len}
use Rattle.uhura_plan.specs.declared.key.EventRef.{EventRef}
use Rattle.uhura_plan.specs.declared.key.EventRef.TheVariants.{Controllable, End}
use Rattle.uhura_plan.specs.declared.guard.Literal.{Literal}
use Rattle.uhura_plan.specs.declared.price.Rate.{Rate}
use Rattle.uhura_plan.specs.declared.refusal.EditRefusal.TheVariants.{Unknown}
use Rattle.uhura_plan.specs.declared.requirement.Bounded.{Bounded}
use Rattle.uhura_plan.specs.declared.requirement.Requirement.{Requirement}
use Rattle.uhura_plan.specs.Limits.{IsRangeEnd}
use Rattle.uhura_plan.specs.Lists.{Lists, empty, slots}
use Rattle.uhura_plan.specs.Find.{find_event, choice_named, literal_named, requirement_named, place_of}
use Rattle.uhura_plan.specs.Edits.{with_event, with_uncertain, with_requirement, StatedUncertain, uncertain_from, AddsUncertain, StatedRequirement, IsRequirementOf, AddsRequirement}
use Rattle.uhura_plan.specs.Refusals.{carried, unknown_in, event_refusal, uncertain_refusal, requirement_refusal}
use Rattle.uhura_gen.specs.declared.draw.Span.{Span}
use Rattle.uhura_gen.specs.Draws.{drawn, span_drawn}
use Rattle.uhura_gen.specs.Names.{up_to, event_name, duration_name, end_name, choice_name, alternative_name, step_name, stop_name, whole_name, first_names}
use Rattle.uhura_gen.specs.Items.{plain_rate, duration, priced, unbounded, step, stop, whole}
use Rattle.uhura_gen.specs.Generator.{plan_of_events}
use Rattle.uhura_gen.specs.Numbered.{IsNumbered, HasRequirements, names_of_requirements}
use Rattle.uhura_gen.proofs.Spelling.{unlike}
use Rattle.uhura_gen.proofs.Naming.{event_family, step_family, stop_family, other_letter, no_first, no_next, no_place, in_neither}
use Rattle.uhura_gen.proofs.Adding.{FitsRequirement, in_order, event_unrefused, uncertain_unrefused, requirement_unrefused}
use Rattle.uhura_gen.proofs.Numbering.{first_names_more, least_slot, find_numbered_event, find_numbered_end, next_end_unknown, next_event_unknown, next_duration_unknown, find_numbered_choice, find_numbered_literal}

-- the next controllable event isn't refused
pub event_answer : (plan : Lists) (name : List ℕ) (place : ℕ) → plan ≡ plan_of_events place → name ≡ event_name place → place < 256 → event_refusal plan name ≡ None
event_answer plan name place are is few =
    let count : length (first_names event_name place) ≡ place = length-map-range_with_len event_name 0 place in
    ap (λ p. event_refusal p name) are
    ∙ (ap (event_refusal (plan_of_events place)) is
    ∙ event_unrefused (plan_of_events place) (event_name place) (next_event_unknown place few) (omega (arith, count, few)))

-- with it there is one event more
pub next_events : (plan next : Lists) (name : List ℕ) (place : ℕ) → plan ≡ plan_of_events place → name ≡ event_name place → next ≡ with_event plan name → next ≡ plan_of_events (place + 1)
next_events plan next name place are is added =
    added
    ∙ (ap (λ p. with_event p name) are
    ∙ (ap (with_event (plan_of_events place)) is
    ∙ ap (λ names. record empty { events = names }) (sym (first_names_more event_name place))))

-- two events of two letters
ends_apart : (place event : ℕ) → bytes_eq (end_name place) (event_name event) ≡ false
ends_apart place event = unlike (end_name place) (event_name event) (other_letter (end_name place) (event_name event) (λ same. let one : 102 ≡ 101 = same in omega (arith, one)))

-- a small number of 64 bits keeps its value
pub kept : (z : ℤ) → IsRangeEnd z → to_z w64 (of_z w64 z) ≡ z
kept z small = let least = small.least in let most = small.most in omega (arith, ints)

pub kept_positive : (n : ℕ) → n < 10000 → to_z w64 n ≡ pos n
kept_positive n small = omega (arith, ints)

-- the call of a duration
pub record IsDurationCall (name start end : List ℕ) (lower upper : ℤ) (low high : Rate) (span : Span) (x place : ℕ) : Type 0 where
  pub name_is : name ≡ duration_name place
  pub start_is : start ≡ event_name (4 * place)
  pub end_is : end ≡ end_name place
  pub lower_is : lower ≡ span.lower
  pub upper_is : upper ≡ span.upper
  pub low_is : low ≡ plain_rate span.lower_price
  pub high_is : high ≡ plain_rate span.upper_price
  pub span_is : span ≡ span_drawn x 20 20
  pub ordered : span.lower ≤ℤ span.upper

-- a plan in which it may stand
pub record TakesDuration (plan : Lists) (place : ℕ) : Type 0 where
  pub numbered : IsNumbered plan
  pub next : length plan.uncertains ≡ place
  pub event : 4 * place < length plan.events
  pub few : length plan.events ≤ 256

-- the next duration isn't refused
pub duration_answer : (plan : Lists) (name start end : List ℕ) (lower upper : ℤ) (low high : Rate) (span : Span) (x place : ℕ) → IsDurationCall name start end lower upper low high span x place → TakesDuration plan place
    → uncertain_refusal plan name start end lower upper ≡ None
duration_answer plan name start end lower upper low high span x place call takes =
    ap (λ n. uncertain_refusal plan n start end lower upper) call.name_is
    ∙ (ap (λ s. uncertain_refusal plan (duration_name place) s end lower upper) call.start_is
    ∙ (ap (λ e. uncertain_refusal plan (duration_name place) (event_name (4 * place)) e lower upper) call.end_is
    ∙ (ap (λ l. uncertain_refusal plan (duration_name place) (event_name (4 * place)) (end_name place) l upper) call.lower_is
    ∙ (ap (λ u. uncertain_refusal plan (duration_name place) (event_name (4 * place)) (end_name place) span.lower u) call.upper_is
    ∙ uncertain_unrefused plan (duration_name place) (event_name (4 * place)) (end_name place) span.lower span.upper (4 * place) record {
      name_free = next_duration_unknown plan place takes.numbered takes.next (omega (arith, takes.event, takes.few));
      end_free = next_end_unknown plan place takes.numbered takes.next (omega (arith, takes.event, takes.few));
      start_found = find_numbered_event plan (4 * place) takes.numbered takes.event takes.few;
      two_events = ends_apart place (4 * place);
      ordered = call.ordered;
      room = omega (arith, takes.next, takes.event, takes.few);
      event_room = omega (arith, takes.next, takes.event, takes.few);
    }))))

-- what a call states of a duration
abbrev pub stated_of : List ℕ → List ℕ → List ℕ → ℤ → ℤ → Rate → Rate → StatedUncertain
stated_of name start end lower upper low high = record {
  name = name;
  start = start;
  end = end;
  lower = lower;
  upper = upper;
  lower_rate = Some low;
  upper_rate = Some high;
}

-- the duration that it adds
pub adds_duration : (plan next : Lists) (name start end : List ℕ) (lower upper : ℤ) (low high : Rate) (span : Span) (x place : ℕ) → IsDurationCall name start end lower upper low high span x place → TakesDuration plan place
    → AddsUncertain plan next (stated_of name start end lower upper low high) → next ≡ with_uncertain plan (duration x place)
adds_duration plan next name start end lower upper low high span x place call takes adds =
    let drawn_span = span_drawn x 20 20 in
    let lowest = call.lower_is ∙ ap (λ s. s.lower) call.span_is in
    let highest = call.upper_is ∙ ap (λ s. s.upper) call.span_is in
    let low_rate = call.low_is ∙ ap (λ s. plain_rate s.lower_price) call.span_is in
    let high_rate = call.high_is ∙ ap (λ s. plain_rate s.upper_price) call.span_is in
    let at : Some (Controllable adds.from) ≡ Some (Controllable (4 * place)) =
    sym adds.found ∙ (ap (find_event plan) call.start_is ∙ find_numbered_event plan (4 * place) takes.numbered takes.event takes.few) in
    let from_is : adds.from ≡ 4 * place = cc in
    adds.lists
    ∙ (ap (λ f. with_uncertain plan (uncertain_from f (stated_of name start end lower upper low high))) from_is
    ∙ (ap (λ n. with_uncertain plan (uncertain_from (4 * place) (stated_of n start end lower upper low high))) call.name_is
    ∙ (ap (λ e. with_uncertain plan (uncertain_from (4 * place) (stated_of (duration_name place) start e lower upper low high))) call.end_is
    ∙ (ap (λ l. with_uncertain plan (uncertain_from (4 * place) (stated_of (duration_name place) start (end_name place) l upper low high))) lowest
    ∙ (ap (λ u. with_uncertain plan (uncertain_from (4 * place) (stated_of (duration_name place) start (end_name place) drawn_span.lower u low high))) highest
    ∙ (ap (λ l. with_uncertain plan (uncertain_from (4 * place) (stated_of (duration_name place) start (end_name place) drawn_span.lower drawn_span.upper l high))) low_rate
    ∙ ap (λ h. with_uncertain plan (uncertain_from (4 * place) (stated_of (duration_name place) start (end_name place) drawn_span.lower drawn_span.upper (plain_rate drawn_span.lower_price) h))) high_rate))))))

-- literals are those that they are looked up as
pub somes_injective : (a b : List Literal) → map (λ l. Some l) a ≡ map (λ l. Some l) b → a ≡ b
somes_injective [] [] same = refl
somes_injective [] (y ∷ ys) same = let no : ⊥ = cc in absurd no
somes_injective (x ∷ xs) [] same = let no : ⊥ = cc in absurd no
somes_injective (x ∷ xs) (y ∷ ys) same =
    let first : x ≡ y = cc in
    let rest : map (λ l. Some l) xs ≡ map (λ l. Some l) ys = cc in
    ap (λ z. z ∷ xs) first ∙ ap (λ zs. y ∷ zs) (somes_injective xs ys rest)

-- a requirement, from its parts
abbrev requirement_from : List ℕ → ℕ → EventRef → EventRef → Bounded → Bounded → List Literal → Requirement
requirement_from name slot from to lower upper guard = record {
  name = name;
  slot = slot;
  from = from;
  to = to;
  lower = lower;
  upper = upper;
  guard = guard;
}

-- a plan has the requirement's events and literals where a call names them, and its slot is the next
pub record IsStated (plan : Lists) (stated : StatedRequirement) (target : Requirement) : Type 0 where
  pub name : stated.name ≡ target.name
  pub from : find_event plan stated.from ≡ Some target.from
  pub to : find_event plan stated.to ≡ Some target.to
  pub lower : stated.lower ≡ target.lower
  pub upper : stated.upper ≡ target.upper
  pub guard : map (literal_named plan) stated.guard ≡ map (λ l. Some l) target.guard
  pub slot : slots plan.requirements ≡ up_to target.slot

made_is : (plan : Lists) (stated : StatedRequirement) (made target : Requirement) → IsStated plan stated target → IsRequirementOf plan stated made → made ≡ target
made_is plan stated made target is of =
    let froms : Some made.from ≡ Some target.from = of.found_from ∙ is.from in
    let from_is : made.from ≡ target.from = cc in
    let tos : Some made.to ≡ Some target.to = of.found_to ∙ is.to in
    let to_is : made.to ≡ target.to = cc in
    let slot_is : made.slot ≡ target.slot = least_slot plan.requirements target.slot made.slot is.slot of.least_slot in
    let guard_is : made.guard ≡ target.guard = somes_injective made.guard target.guard (of.found_guard ∙ is.guard) in
    ap (λ n. requirement_from n made.slot made.from made.to made.lower made.upper made.guard) (of.same_name ∙ is.name)
    ∙ (ap (λ s. requirement_from target.name s made.from made.to made.lower made.upper made.guard) slot_is
    ∙ (ap (λ f. requirement_from target.name target.slot f made.to made.lower made.upper made.guard) from_is
    ∙ (ap (λ t. requirement_from target.name target.slot target.from t made.lower made.upper made.guard) to_is
    ∙ (ap (λ l. requirement_from target.name target.slot target.from target.to l made.upper made.guard) (of.same_lower ∙ is.lower)
    ∙ (ap (λ u. requirement_from target.name target.slot target.from target.to target.lower u made.guard) (of.same_upper ∙ is.upper)
    ∙ ap (λ g. requirement_from target.name target.slot target.from target.to target.lower target.upper g) guard_is)))))

-- the requirement that a call states is the one added
pub adds_requirement : (plan next : Lists) (stated : StatedRequirement) (target : Requirement) → IsStated plan stated target → AddsRequirement plan next stated → next ≡ with_requirement plan target
adds_requirement plan next stated target is adds = adds.lists ∙ ap (with_requirement plan) (made_is plan stated adds.made target is adds.found)

-- how many requirements there are
pub count_requirements : (plan : Lists) (steps stops : ℕ) → HasRequirements plan steps stops → length plan.requirements ≡ steps + stops
count_requirements plan steps stops has =
    sym (length-map plan.requirements (λ r. r.name))
    ∙ (ap length has
    ∙ (length-append (first_names (λ place. step_name (place + 1)) steps) (first_names stop_name stops)
    ∙ (ap (λ n. n + length (first_names stop_name stops)) (length-map-range_with_len (λ place. step_name (place + 1)) 0 steps)
    ∙ ap (λ n. steps + n) (length-map-range_with_len stop_name 0 stops))))

-- the next slot
pub next_slot : (plan : Lists) (steps stops : ℕ) → IsNumbered plan → HasRequirements plan steps stops → slots plan.requirements ≡ up_to (steps + stops)
next_slot plan steps stops numbered has = numbered.slots ∙ ap up_to (count_requirements plan steps stops has)

-- the place of the next requirement between neighbours
pub step_place : (plan : Lists) (place : ℕ) → HasRequirements plan place 0 → place ≡ length plan.requirements
step_place plan place has = omega (arith, count_requirements plan place 0 has)

-- one more requirement between neighbours
pub one_more_step : (plan : Lists) (made : Requirement) (place : ℕ) → HasRequirements plan place 0 → made.name ≡ step_name (place + 1) → HasRequirements (with_requirement plan made) (place + 1) 0
one_more_step plan made place has is =
    map_push (λ r. r.name) plan.requirements made
    ∙ (ap (λ names. names ++ made.name ∷ []) (has ∙ append-nil (first_names (λ p. step_name (p + 1)) place))
    ∙ (ap (λ n. first_names (λ p. step_name (p + 1)) place ++ n ∷ []) is
    ∙ (sym (first_names_more (λ p. step_name (p + 1)) place)
    ∙ sym (append-nil (first_names (λ p. step_name (p + 1)) (place + 1))))))

-- one more requirement on a duration's end
pub one_more_stop : (plan : Lists) (made : Requirement) (steps place : ℕ) → HasRequirements plan steps place → made.name ≡ stop_name place → HasRequirements (with_requirement plan made) steps (place + 1)
one_more_stop plan made steps place has is =
    map_push (λ r. r.name) plan.requirements made
    ∙ (ap (λ names. names ++ made.name ∷ []) has
    ∙ (append_assoc (first_names (λ p. step_name (p + 1)) steps) (first_names stop_name place) (made.name ∷ [])
    ∙ ap (λ names. first_names (λ p. step_name (p + 1)) steps ++ names)
    (ap (λ n. first_names stop_name place ++ n ∷ []) is ∙ sym (first_names_more stop_name place))))

-- names that no requirement has
step_free : (plan : Lists) (place : ℕ) → HasRequirements plan place 0 → place < 256 → requirement_named plan (step_name (place + 1)) ≡ None
step_free plan place has few =
    ap (λ names. place_of names (step_name (place + 1))) has
    ∙ no_place (names_of_requirements place 0) (step_name (place + 1)) (in_neither (step_name (place + 1)) (first_names (λ p. step_name (p + 1)) place) [] (no_next (λ p. step_name (p + 1)) place step_family (omega (arith, few))) refl)

stop_free : (plan : Lists) (steps place : ℕ) → HasRequirements plan steps place → place < 256 → requirement_named plan (stop_name place) ≡ None
stop_free plan steps place has few =
    ap (λ names. place_of names (stop_name place)) has
    ∙ no_place (names_of_requirements steps place) (stop_name place) (in_neither (stop_name place) (first_names (λ p. step_name (p + 1)) steps) (first_names stop_name place)
    (no_first (λ p. step_name (p + 1)) steps (stop_name place) (λ k below. other_letter (stop_name place) (step_name (k + 1)) (λ same. let one : 115 ≡ 114 = same in omega (arith, one))))
    (no_next stop_name place stop_family (omega (arith, few))))

whole_free : (plan : Lists) (steps stops : ℕ) → HasRequirements plan steps stops → requirement_named plan whole_name ≡ None
whole_free plan steps stops has =
    ap (λ names. place_of names whole_name) has
    ∙ no_place (names_of_requirements steps stops) whole_name (in_neither whole_name (first_names (λ p. step_name (p + 1)) steps) (first_names stop_name stops)
    (no_first (λ p. step_name (p + 1)) steps whole_name (λ k below. other_letter whole_name (step_name (k + 1)) (λ same. let one : 97 ≡ 114 = same in omega (arith, one))))
    (no_first stop_name stops whole_name (λ k below. other_letter whole_name (stop_name k) (λ same. let one : 97 ≡ 115 = same in omega (arith, one)))))

-- two controllable events are two
events_apart : (a b : ℕ) → a < 256 → b < 256 → (a ≡ b → ⊥) → bytes_eq (event_name a) (event_name b) ≡ false
events_apart a b small few apart = unlike (event_name a) (event_name b) (λ same. apart (event_family.apart a b (omega (arith, small)) (omega (arith, few)) same))

-- a requirement's call, with the names that it should have
requirement_answer : (plan : Lists) (name from to : List ℕ) (lower upper : Bounded) (guard : List (List ℕ × List ℕ)) (name' from' to' : List ℕ) (lower' upper' : Bounded) (guard' : List (List ℕ × List ℕ)) (first second : EventRef)
    → name ≡ name' → from ≡ from' → to ≡ to' → lower ≡ lower' → upper ≡ upper' → guard ≡ guard'
    → FitsRequirement plan name' from' to' lower' upper' guard' first second → requirement_refusal plan name from to lower upper guard ≡ None
requirement_answer plan name from to lower upper guard name' from' to' lower' upper' guard' first second e1 e2 e3 e4 e5 e6 fits =
    ap (λ n. requirement_refusal plan n from to lower upper guard) e1
    ∙ (ap (λ f. requirement_refusal plan name' f to lower upper guard) e2
    ∙ (ap (λ t. requirement_refusal plan name' from' t lower upper guard) e3
    ∙ (ap (λ l. requirement_refusal plan name' from' to' l upper guard) e4
    ∙ (ap (λ u. requirement_refusal plan name' from' to' lower' u guard) e5
    ∙ (ap (requirement_refusal plan name' from' to' lower' upper') e6
    ∙ requirement_unrefused plan name' from' to' lower' upper' guard' first second fits)))))

-- the call of a requirement between neighbours
pub record IsStepCall (name from to : List ℕ) (lower upper : Bounded) (span : Span) (x place : ℕ) : Type 0 where
  pub name_is : name ≡ step_name (place + 1)
  pub from_is : from ≡ event_name place
  pub to_is : to ≡ event_name (place + 1)
  pub lower_is : lower ≡ priced span.lower span.lower_price
  pub upper_is : upper ≡ priced span.upper span.upper_price
  pub span_is : span ≡ span_drawn x 10 40
  pub ordered : span.lower ≤ℤ span.upper

pub step_answer : (plan : Lists) (name from to : List ℕ) (lower upper : Bounded) (span : Span) (x place : ℕ) → IsStepCall name from to lower upper span x place
    → IsNumbered plan → HasRequirements plan place 0 → place + 1 < length plan.events → length plan.events ≤ 256 → requirement_refusal plan name from to lower upper [] ≡ None
step_answer plan name from to lower upper span x place call numbered has below few =
    requirement_answer plan name from to lower upper [] (step_name (place + 1)) (event_name place) (event_name (place + 1)) (priced span.lower span.lower_price) (priced span.upper span.upper_price) []
    (Controllable place) (Controllable (place + 1)) call.name_is call.from_is call.to_is call.lower_is call.upper_is refl record {
      name_free = step_free plan place has (omega (arith, below, few));
      from_found = find_numbered_event plan place numbered (omega (arith, below)) few;
      to_found = find_numbered_event plan (place + 1) numbered below few;
      known = refl;
      two_events = events_apart place (place + 1) (omega (arith, below, few)) (omega (arith, below, few)) (λ same. omega (arith, same));
      ordered = in_order span.lower span.upper call.ordered;
      once = refl;
      room = omega (arith, count_requirements plan place 0 has, below, few);
    }

pub step_stated : (plan : Lists) (name from to : List ℕ) (lower upper : Bounded) (span : Span) (x place : ℕ) → IsStepCall name from to lower upper span x place
    → IsNumbered plan → HasRequirements plan place 0 → place + 1 < length plan.events → length plan.events ≤ 256
    → IsStated plan (record { name = name; from = from; to = to; lower = lower; upper = upper; guard = [] }) (step x place)
step_stated plan name from to lower upper span x place call numbered has below few = record {
  name = call.name_is;
  from = ap (find_event plan) call.from_is ∙ find_numbered_event plan place numbered (omega (arith, below)) few;
  to = ap (find_event plan) call.to_is ∙ find_numbered_event plan (place + 1) numbered below few;
  lower = call.lower_is ∙ ap (λ s. priced s.lower s.lower_price) call.span_is;
  upper = call.upper_is ∙ ap (λ s. priced s.upper s.upper_price) call.span_is;
  guard = refl;
  slot = next_slot plan place 0 numbered has ∙ ap up_to (omega arith);
}

-- the call of a requirement on a duration's end
pub record IsStopCall (name from to : List ℕ) (lower upper : Bounded) (choice alternative : List ℕ) (span : Span) (x place : ℕ) : Type 0 where
  pub name_is : name ≡ stop_name place
  pub from_is : from ≡ end_name place
  pub to_is : to ≡ event_name (4 * place + 3)
  pub lower_is : lower ≡ priced span.lower span.lower_price
  pub upper_is : upper ≡ priced span.upper span.upper_price
  pub choice_is : choice ≡ choice_name (place % 3)
  pub alternative_is : alternative ≡ alternative_name (drawn x 4 3)
  pub span_is : span ≡ span_drawn x 10 30
  pub ordered : span.lower ≤ℤ span.upper

-- a plan in which such a requirement may stand
pub record TakesStop (plan : Lists) (steps place : ℕ) : Type 0 where
  pub numbered : IsNumbered plan
  pub names : HasRequirements plan steps place
  pub choices : length plan.choices ≡ 3
  pub duration : place < length plan.uncertains
  pub event : 4 * place + 3 < length plan.events
  pub few : length plan.events ≤ 256
  pub steps_are : steps ≡ length plan.events - 1
  pub durations : length plan.uncertains ≤ 256

third : (n : ℕ) → n % 3 < 3
third n = omega arith

-- the literal is there
stop_literal : (plan : Lists) (steps place pick : ℕ) → TakesStop plan steps place → pick < 3 → literal_named plan (choice_name (place % 3), alternative_name pick) ≡ Some (record { choice = place % 3; alternative = pick })
stop_literal plan steps place pick takes small =
    find_numbered_literal plan (place % 3) pick takes.numbered (omega (arith, takes.choices, third place)) (omega (arith, takes.choices)) small

-- a guard of one known literal
known_one : (plan : Lists) (before place : ℕ) (names : List ℕ × List ℕ) (literal : Literal) → choice_named plan names.0 ≡ Some place → literal_named plan names ≡ Some literal → unknown_in plan before (names ∷ []) ≡ None
known_one plan before place names literal choice_is literal_is =
    ap (λ t. option_map (λ at. Unknown (carried (before + at))) (position not (t ∷ is_some (literal_named plan names) ∷ []))) (ap is_some choice_is)
    ∙ ap (λ t. option_map (λ at. Unknown (carried (before + at))) (position not (true ∷ t ∷ []))) (ap is_some literal_is)

pub stop_answer : (plan : Lists) (name from to : List ℕ) (lower upper : Bounded) (choice alternative : List ℕ) (span : Span) (x steps place : ℕ) → IsStopCall name from to lower upper choice alternative span x place
    → TakesStop plan steps place → requirement_refusal plan name from to lower upper ((choice, alternative) ∷ []) ≡ None
stop_answer plan name from to lower upper choice alternative span x steps place call takes =
    requirement_answer plan name from to lower upper ((choice, alternative) ∷ []) (stop_name place) (end_name place) (event_name (4 * place + 3)) (priced span.lower span.lower_price) (priced span.upper span.upper_price)
    ((choice_name (place % 3), alternative_name (drawn x 4 3)) ∷ [])
    (End place) (Controllable (4 * place + 3)) call.name_is call.from_is call.to_is call.lower_is call.upper_is
    (ap (λ c. (c, alternative) ∷ []) call.choice_is ∙ ap (λ a. (choice_name (place % 3), a) ∷ []) call.alternative_is) record {
      name_free = stop_free plan steps place takes.names (omega (arith, takes.event, takes.few));
      from_found = find_numbered_end plan place takes.numbered takes.duration takes.durations;
      to_found = find_numbered_event plan (4 * place + 3) takes.numbered takes.event takes.few;
      known = known_one plan 3 (place % 3) (choice_name (place % 3), alternative_name (drawn x 4 3)) (record { choice = place % 3; alternative = drawn x 4 3 })
          (find_numbered_choice plan (place % 3) takes.numbered (omega (arith, takes.choices, third place)) (omega (arith, takes.choices)))
          (stop_literal plan steps place (drawn x 4 3) takes (third _));
      two_events = ends_apart place (4 * place + 3);
      ordered = in_order span.lower span.upper call.ordered;
      once = refl;
      room = omega (arith, count_requirements plan steps place takes.names, takes.event, takes.few, takes.steps_are);
    }

pub stop_stated : (plan : Lists) (name from to : List ℕ) (lower upper : Bounded) (choice alternative : List ℕ) (span : Span) (x steps place : ℕ) → IsStopCall name from to lower upper choice alternative span x place
    → TakesStop plan steps place
    → IsStated plan (record { name = name; from = from; to = to; lower = lower; upper = upper; guard = (choice, alternative) ∷ [] }) (stop x (steps + place) place)
stop_stated plan name from to lower upper choice alternative span x steps place call takes = record {
  name = call.name_is;
  from = ap (find_event plan) call.from_is ∙ find_numbered_end plan place takes.numbered takes.duration takes.durations;
  to = ap (find_event plan) call.to_is ∙ find_numbered_event plan (4 * place + 3) takes.numbered takes.event takes.few;
  lower = call.lower_is ∙ ap (λ s. priced s.lower s.lower_price) call.span_is;
  upper = call.upper_is ∙ ap (λ s. priced s.upper s.upper_price) call.span_is;
  guard =
      ap (λ c. literal_named plan (c, alternative) ∷ []) call.choice_is
      ∙ (ap (λ a. literal_named plan (choice_name (place % 3), a) ∷ []) call.alternative_is
      ∙ ap (λ l. l ∷ []) (stop_literal plan steps place (drawn x 4 3) takes (third _)));
  slot = next_slot plan steps place takes.numbered takes.names;
}

-- the call of the requirement on the whole
pub record IsWholeCall (name from to : List ℕ) (lower upper : Bounded) (x events : ℕ) : Type 0 where
  pub name_is : name ≡ whole_name
  pub from_is : from ≡ event_name 0
  pub to_is : to ≡ event_name (events - 1)
  pub lower_is : lower ≡ unbounded
  pub upper_is : upper ≡ priced (pos (drawn x 0 (10 * events))) (1 + drawn x 1 50)

pub whole_answer : (plan : Lists) (name from to : List ℕ) (lower upper : Bounded) (x events stops : ℕ) → IsWholeCall name from to lower upper x events
    → IsNumbered plan → HasRequirements plan (events - 1) stops → 2 ≤ events → length plan.events ≡ events → events ≤ 256 → stops ≤ 256 → requirement_refusal plan name from to lower upper [] ≡ None
whole_answer plan name from to lower upper x events stops call numbered has some are few short =
    requirement_answer plan name from to lower upper [] whole_name (event_name 0) (event_name (events - 1)) unbounded (priced (pos (drawn x 0 (10 * events))) (1 + drawn x 1 50)) []
    (Controllable 0) (Controllable (events - 1)) call.name_is call.from_is call.to_is call.lower_is call.upper_is refl record {
      name_free = whole_free plan (events - 1) stops has;
      from_found = find_numbered_event plan 0 numbered (omega (arith, some, are)) (omega (arith, are, few));
      to_found = find_numbered_event plan (events - 1) numbered (omega (arith, some, are)) (omega (arith, are, few));
      known = refl;
      two_events = events_apart 0 (events - 1) (omega arith) (omega (arith, few, some)) (λ same. omega (arith, same, some));
      ordered = refl;
      once = refl;
      room = omega (arith, count_requirements plan (events - 1) stops has, few, short);
    }

pub whole_stated : (plan : Lists) (name from to : List ℕ) (lower upper : Bounded) (x events stops : ℕ) → IsWholeCall name from to lower upper x events
    → IsNumbered plan → HasRequirements plan (events - 1) stops → 2 ≤ events → length plan.events ≡ events → events ≤ 256
    → IsStated plan (record { name = name; from = from; to = to; lower = lower; upper = upper; guard = [] }) (whole x (events - 1 + stops) events)
whole_stated plan name from to lower upper x events stops call numbered has some are few = record {
  name = call.name_is;
  from = ap (find_event plan) call.from_is ∙ find_numbered_event plan 0 numbered (omega (arith, some, are)) (omega (arith, are, few));
  to = ap (find_event plan) call.to_is ∙ find_numbered_event plan (events - 1) numbered (omega (arith, some, are)) (omega (arith, are, few));
  lower = call.lower_is;
  upper = call.upper_is;
  guard = refl;
  slot = next_slot plan (events - 1) stops numbered has;
}
