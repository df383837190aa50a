-- What no plan refuses.
use Rattle.std.proofs.Common.{◌≡◌, ℕ, ◌+◌, ◌<◌, ℤ, ◌≤ℤ◌, Bool, false, List, ◌∷◌, length, Option, None, Some, Result, Ok, Err, is_ok, is_some, is_none, OnOk, int_lt, nat_le, bytes_eq, option_map, refl, ap, ◌∙◌, true≢false, arith}
use Rattle.std.specs.Option.{option_or}
use Rattle.std.proofs.lemmas.Bool.Decides.{nat_tests}
use Rattle.std.proofs.lemmas.Int.{ints}
use Rattle.uhura_plan.specs.declared.key.EventRef.{EventRef}
use Rattle.uhura_plan.specs.declared.key.EventRef.TheVariants.{Controllable, End}
use Rattle.uhura_plan.specs.declared.requirement.Bounded.{Bounded}
use Rattle.uhura_plan.specs.declared.refusal.EditRefusal.{EditRefusal}
use Rattle.uhura_plan.specs.declared.refusal.EditRefusal.TheVariants.{Taken, Unknown, Kind, Empty, Full}
use Rattle.uhura_plan.specs.Lists.{Lists, end_names}
use Rattle.uhura_plan.specs.Find.{place_of, find_event, uncertain_named, requirement_named}
use Rattle.uhura_plan.specs.Refusals.{refuse_if, first_of, full, full_of_events, event_count, unknown_in, repeated_in, empty_between, is_end, event_refusal, uncertain_refusal, requirement_refusal}

-- an answer that is handed on keeps what holds where it is `Ok`
pub handed_on : {X Y E F P Q : Type 0} (result : Result X E) (answer : Result Y F) → is_ok result ≡ is_ok answer → (P → Q) → OnOk answer P → OnOk result Q
handed_on (Ok x) (Ok y) same then holds = then holds
handed_on (Ok x) (Err e) same then holds = absurd (true≢false same)
handed_on (Err e) answer same then holds = tt

-- a test that fails refuses nothing
pub passes : (test : Bool) (refusal : EditRefusal) → test ≡ false → refuse_if test refusal ≡ None
passes test refusal fails = ap (λ t. refuse_if t refusal) fails

-- nor does a look-up that finds nothing, or one that finds something
pub none_found : {X : Type 0} (o : Option X) → o ≡ None → is_some o ≡ false
none_found o none = ap is_some none

pub one_found : {X : Type 0} (o : Option X) (x : X) → o ≡ Some x → is_none o ≡ false
one_found o x some = ap is_none some

-- a limit that isn't reached refuses nothing
pub has_room : (limit has : ℕ) → has < limit → full limit has ≡ None
has_room limit has room = passes (nat_le limit has) (Full limit has) (by limit has room)
  where
    by : (l h : ℕ) → h < l → nat_le l h ≡ false
    by l h less = grind (arith, nat_tests)

-- nor do bounds in order
pub in_order : (lower upper : ℤ) → lower ≤ℤ upper → empty_between (Some lower) (Some upper) ≡ None
in_order lower upper order = passes (int_lt upper lower) (Empty lower upper) (by lower upper order)
  where
    by : (l u : ℤ) → l ≤ℤ u → int_lt u l ≡ false
    by l u less = grind (arith, ints, nat_tests)

-- where the first isn't there, the first is among the later ones
pub later_one : (refusal : Option EditRefusal) (later : List (Option EditRefusal)) → refusal ≡ None → first_of later ≡ None → first_of (refusal ∷ later) ≡ None
later_one refusal later none rest = ap (λ r. first_of (r ∷ later)) none ∙ rest

-- an event that no list has
pub event_unknown : (plan : Lists) (name : List ℕ) → place_of plan.events name ≡ None → place_of (end_names plan.uncertains) name ≡ None → find_event plan name ≡ None
event_unknown plan name no_event no_end =
    ap (λ o. option_or (option_map (λ e. Controllable e) o) (option_map (λ d. End d) (place_of (end_names plan.uncertains) name))) no_event
    ∙ ap (option_map (λ d. End d)) no_end

-- a controllable event in its place
pub event_at : (plan : Lists) (name : List ℕ) (place : ℕ) → place_of plan.events name ≡ Some place → find_event plan name ≡ Some (Controllable place)
event_at plan name place found =
    ap (λ o. option_or (option_map (λ e. Controllable e) o) (option_map (λ d. End d) (place_of (end_names plan.uncertains) name))) found

-- the end of a duration in its place
pub end_at : (plan : Lists) (name : List ℕ) (place : ℕ) → place_of plan.events name ≡ None → place_of (end_names plan.uncertains) name ≡ Some place → find_event plan name ≡ Some (End place)
end_at plan name place no_event found =
    ap (λ o. option_or (option_map (λ e. Controllable e) o) (option_map (λ d. End d) (place_of (end_names plan.uncertains) name))) no_event
    ∙ ap (option_map (λ d. End d)) found

-- there is room for one more event
pub room_for_event : (plan : Lists) → length plan.events + length plan.uncertains < 512 → full_of_events plan ≡ None
room_for_event plan room = has_room 512 (event_count plan) room

-- an event that is new and has room
pub event_unrefused : (plan : Lists) (name : List ℕ) → find_event plan name ≡ None → length plan.events + length plan.uncertains < 512 → event_refusal plan name ≡ None
event_unrefused plan name new room =
    later_one _ _ (passes _ Taken (none_found _ new)) (later_one _ _ (room_for_event plan room) refl)

-- what a duration that isn't refused has
pub record FitsUncertain (plan : Lists) (name start end : List ℕ) (lower upper : ℤ) (place : ℕ) : Type 0 where
  pub name_free : uncertain_named plan name ≡ None
  pub end_free : find_event plan end ≡ None
  pub start_found : find_event plan start ≡ Some (Controllable place)
  pub two_events : bytes_eq end start ≡ false
  pub ordered : lower ≤ℤ upper
  pub room : length plan.uncertains < 256
  pub event_room : length plan.events + length plan.uncertains < 512

pub uncertain_unrefused : (plan : Lists) (name start end : List ℕ) (lower upper : ℤ) (place : ℕ) → FitsUncertain plan name start end lower upper place → uncertain_refusal plan name start end lower upper ≡ None
uncertain_unrefused plan name start end lower upper place fits =
    later_one _ _ (passes _ Taken (none_found _ fits.name_free))
    (later_one _ _ (passes _ Taken (none_found _ fits.end_free))
    (later_one _ _ (passes _ Taken fits.two_events)
    (later_one _ _ (passes _ (Unknown 1) (one_found _ (Controllable place) fits.start_found))
    (later_one _ _ (passes _ Kind (ap is_end fits.start_found))
    (later_one _ _ (in_order lower upper fits.ordered)
    (later_one _ _ (has_room 256 (length plan.uncertains) fits.room)
    (later_one _ _ (room_for_event plan fits.event_room) refl)))))))

-- what a requirement that isn't refused has
pub record FitsRequirement (plan : Lists) (name from to : List ℕ) (lower upper : Bounded) (guard : List (List ℕ × List ℕ)) (first second : EventRef) : Type 0 where
  pub name_free : requirement_named plan name ≡ None
  pub from_found : find_event plan from ≡ Some first
  pub to_found : find_event plan to ≡ Some second
  pub known : unknown_in plan 3 guard ≡ None
  pub two_events : bytes_eq from to ≡ false
  pub ordered : empty_between lower.bound upper.bound ≡ None
  pub once : repeated_in guard ≡ None
  pub room : length plan.requirements < 2048

pub requirement_unrefused : (plan : Lists) (name from to : List ℕ) (lower upper : Bounded) (guard : List (List ℕ × List ℕ)) (first second : EventRef)
    → FitsRequirement plan name from to lower upper guard first second → requirement_refusal plan name from to lower upper guard ≡ None
requirement_unrefused plan name from to lower upper guard first second fits =
    later_one _ _ (passes _ Taken (none_found _ fits.name_free))
    (later_one _ _ (passes _ (Unknown 1) (one_found _ first fits.from_found))
    (later_one _ _ (passes _ (Unknown 2) (one_found _ second fits.to_found))
    (later_one _ _ fits.known
    (later_one _ _ (passes _ Kind fits.two_events)
    (later_one _ _ fits.ordered
    (later_one _ _ fits.once
    (later_one _ _ (has_room 2048 (length plan.requirements) fits.room) refl)))))))
