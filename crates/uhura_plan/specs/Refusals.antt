-- What an edit of a plan refuses: the first refusal of its list, in the one order of all edits.
use Rattle.std.specs.Prelude.{◌≡◌, ℕ, ◌+◌, ◌*◌, min, nat_le, nat_lt, Bool, true, false, not, if◌then◌else◌, int_lt, ℤ, List, [], ◌∷◌, length, take, map, Option, Some, None, Result, Ok, Err, is_some, is_none, position, option_map, option_and_then, bytes_eq, alloc_error, ⊤}
use Rattle.std.specs.List.{list_any, enumerate_from, flat_map}
use Rattle.uhura_plan.specs.declared.limits.TheConstants.{ALTERNATIVES, BRANCHES, CHOICES, EVENTS, REQUIREMENTS, UNCERTAINS}
use Rattle.uhura_plan.specs.declared.key.EventRef.{EventRef}
use Rattle.uhura_plan.specs.declared.key.EventRef.TheVariants.{Controllable, End}
use Rattle.uhura_plan.specs.declared.key.Side.{Side}
use Rattle.uhura_plan.specs.declared.requirement.Bounded.{Bounded}
use Rattle.uhura_plan.specs.declared.requirement.Requirement.{Requirement}
use Rattle.uhura_plan.specs.declared.refusal.EditRefusal.{EditRefusal}
use Rattle.uhura_plan.specs.declared.refusal.EditRefusal.TheVariants.{Taken, Unknown, Kind, Empty, Guard, Full, Memory}
use Rattle.uhura_plan.specs.Lists.{Lists}
use Rattle.uhura_plan.specs.Sound.{alternatives_product}
use Rattle.uhura_plan.specs.Find.{find_event, uncertain_named, choice_named, literal_named, requirement_named, requirement_of}
use Rattle.uhura_plan.specs.Changes.{with_bound}

-- the refusal, where the test holds
abbrev pub refuse_if : Bool → EditRefusal → Option EditRefusal
refuse_if holds refusal = if holds then Some refusal else None

-- the first refusal that there is
abbrev pub first_of : List (Option EditRefusal) → Option EditRefusal
first_of [] = None
first_of (None ∷ later) = first_of later
first_of (Some refusal ∷ later) = Some refusal

-- a number as a `u32` carries it
abbrev pub carried : ℕ → ℕ
carried n = min n 4294967295

-- the edit answers its first refusal; where it has none, it succeeds or wants memory
abbrev pub Answers : {X : Type 0} → Option EditRefusal → Result X EditRefusal → Type 0
Answers (Some refusal) result = result ≡ Err refusal
Answers None (Ok done) = ⊤
Answers None (Err refusal) = refusal ≡ Memory alloc_error

-- the edit, which takes no memory, answers its first refusal; where it has none, it succeeds
abbrev pub AnswersAlways : Option EditRefusal → Result ⊤ EditRefusal → Type 0
AnswersAlways (Some refusal) result = result ≡ Err refusal
AnswersAlways None result = result ≡ Ok tt

-- the refusal of one more thing, where as many are there as the limit allows
abbrev pub full : ℕ → ℕ → Option EditRefusal
full limit has = refuse_if (nat_le limit has) (Full limit has)

-- the number of events, ends of durations included
abbrev pub event_count : Lists → ℕ
event_count plan = length plan.events + length plan.uncertains

-- as many events and ends are there as may be
abbrev pub full_of_events : Lists → Option EditRefusal
full_of_events plan = full EVENTS (event_count plan)

-- the first refusal of an event: its name is taken, or as many events and ends are there as may be
abbrev pub event_refusal : Lists → List ℕ → Option EditRefusal
event_refusal plan name = first_of (
    refuse_if (is_some (find_event plan name)) Taken
    ∷ full_of_events plan
    ∷ [])

-- whether the plan has the choice of a literal, and whether that has the alternative
abbrev pub known_pair : Lists → List ℕ × List ℕ → List Bool
known_pair plan names =
    is_some (choice_named plan names.0) ∷ is_some (literal_named plan names) ∷ []

-- for each name of a guard's literals, in order, whether it is known
abbrev pub known_names : Lists → List (List ℕ × List ℕ) → List Bool
known_names plan guard = flat_map (known_pair plan) guard

-- the first refusal of a guard for a name that isn't there, whose names follow so many others
abbrev pub unknown_in : Lists → ℕ → List (List ℕ × List ℕ) → Option EditRefusal
unknown_in plan before guard =
    option_map (λ at. Unknown (carried (before + at))) (position not (known_names plan guard))

-- the first name that stands at an earlier place too
abbrev pub repeated_at : List (List ℕ) → Option ℕ
repeated_at names =
    position (λ p. list_any (bytes_eq p.1) (take p.0 names)) (enumerate_from 0 names)

-- the refusal of the first literal that names a choice already named
abbrev pub repeated_in : List (List ℕ × List ℕ) → Option EditRefusal
repeated_in guard =
    option_map (λ at. Guard (carried at)) (repeated_at (map (λ names. names.0) guard))

-- the refusal of a lower bound above the upper bound
abbrev pub empty_between : Option ℤ → Option ℤ → Option EditRefusal
empty_between (Some lower) (Some upper) = refuse_if (int_lt upper lower) (Empty lower upper)
empty_between (Some lower) None = None
empty_between None upper = None

-- the refusal of a requirement between whose bounds nothing lies
abbrev pub empty_bounds : Requirement → Option EditRefusal
empty_bounds requirement = empty_between requirement.lower.bound requirement.upper.bound

-- whether an event that was looked up is the end of a duration
abbrev pub is_end : Option EventRef → Bool
is_end (Some (End duration)) = true
is_end (Some (Controllable event)) = false
is_end None = false

-- the first refusal of a duration. The names of the call are counted: its own is 0, that of its
-- start is 1
abbrev pub uncertain_refusal : Lists → List ℕ → List ℕ → List ℕ → ℤ → ℤ → Option EditRefusal
uncertain_refusal plan name start end lower upper = first_of (
    refuse_if (is_some (uncertain_named plan name)) Taken
    ∷ refuse_if (is_some (find_event plan end)) Taken
    ∷ refuse_if (bytes_eq end start) Taken
    ∷ refuse_if (is_none (find_event plan start)) (Unknown 1)
    ∷ refuse_if (is_end (find_event plan start)) Kind
    ∷ empty_between (Some lower) (Some upper)
    ∷ full UNCERTAINS (length plan.uncertains)
    ∷ full_of_events plan
    ∷ [])

-- the product of the numbers of alternatives, with those of one more choice
abbrev pub product_with : Lists → List (List ℕ × ℕ) → ℕ
product_with plan alternatives = alternatives_product plan.choices * length alternatives

-- the first refusal of a choice. The names of the call are counted: its own is 0, those of its
-- alternatives follow
abbrev pub choice_refusal : Lists → List ℕ → List (List ℕ × ℕ) → List (List ℕ × List ℕ)
    → Option EditRefusal
choice_refusal plan name alternatives guard = first_of (
    refuse_if (is_some (choice_named plan name)) Taken
    ∷ refuse_if (is_some (repeated_at (map (λ a. a.0) alternatives))) Taken
    ∷ unknown_in plan (1 + length alternatives) guard
    ∷ repeated_in guard
    ∷ full CHOICES (length plan.choices)
    ∷ refuse_if (nat_lt ALTERNATIVES (length alternatives))
    (Full ALTERNATIVES (carried (length alternatives)))
    ∷ refuse_if (nat_lt BRANCHES (product_with plan alternatives))
    (Full BRANCHES (product_with plan alternatives))
    ∷ [])

-- the first refusal of a requirement. The names of the call are counted: its own is 0, those of its
-- events are 1 and 2
abbrev pub requirement_refusal : Lists → List ℕ → List ℕ → List ℕ → Bounded → Bounded
    → List (List ℕ × List ℕ) → Option EditRefusal
requirement_refusal plan name from to lower upper guard = first_of (
    refuse_if (is_some (requirement_named plan name)) Taken
    ∷ refuse_if (is_none (find_event plan from)) (Unknown 1)
    ∷ refuse_if (is_none (find_event plan to)) (Unknown 2)
    ∷ unknown_in plan 3 guard
    ∷ refuse_if (bytes_eq from to) Kind
    ∷ empty_between lower.bound upper.bound
    ∷ repeated_in guard
    ∷ full REQUIREMENTS (length plan.requirements)
    ∷ [])

-- the refusal of a change to a requirement that isn't there
abbrev pub no_requirement : Lists → List ℕ → Option EditRefusal
no_requirement plan name = refuse_if (is_none (requirement_named plan name)) (Unknown 0)

-- the refusal of a change to a duration that isn't there
abbrev pub no_uncertain : Lists → List ℕ → Option EditRefusal
no_uncertain plan name = refuse_if (is_none (uncertain_named plan name)) (Unknown 0)

-- the first refusal of a bound: there is no such requirement, or with the new bound nothing lies
-- between its bounds
abbrev pub bound_refusal : Lists → List ℕ → Side → Option ℤ → Option EditRefusal
bound_refusal plan name side bound = first_of (
    no_requirement plan name
    ∷ option_and_then (λ r. empty_bounds (with_bound side bound r)) (requirement_of plan name)
    ∷ [])

-- the first refusal of a range
abbrev pub range_refusal : Lists → List ℕ → ℤ → ℤ → Option EditRefusal
range_refusal plan name lower upper = first_of (
    no_uncertain plan name
    ∷ empty_between (Some lower) (Some upper)
    ∷ [])

-- the first refusal of an alternative's new cost: there is no such choice, or it has no such alternative
abbrev pub preference_refusal : Lists → List ℕ → List ℕ → Option EditRefusal
preference_refusal plan choice alternative = first_of (
    refuse_if (is_none (choice_named plan choice)) (Unknown 0)
    ∷ refuse_if (is_none (literal_named plan (choice, alternative))) (Unknown 1)
    ∷ [])
