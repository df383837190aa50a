-- What holds where an edit isn't refused.
use Rattle.std.proofs.Common.{◌≡◌, ℕ, ◌<◌, ◌≤ℤ◌, ℤ, Bool, true, false, not, List, [], ◌∷◌, length, get_or, zero, suc, Option, None, Some, is_some, is_none, IsSome, All, position, option_map, map, int_lt, nat_le, nat_lt, bytes_eq, refl, sym, ap, true≢false, arith, ◌+◌, ◌≤◌}
use Rattle.std.specs.List.{list_any}
use Rattle.std.proofs.lemmas.Bool.Decides.{nat_tests}
use Rattle.std.proofs.lemmas.Int.{ints}
use Rattle.uhura_plan.specs.declared.limits.TheConstants.{ALTERNATIVES, BRANCHES, CHOICES, EVENTS, REQUIREMENTS, UNCERTAINS}
use Rattle.uhura_plan.specs.declared.requirement.Bounded.{Bounded}
use Rattle.uhura_plan.specs.declared.refusal.EditRefusal.{EditRefusal}
use Rattle.uhura_plan.specs.declared.refusal.EditRefusal.TheVariants.{Taken, Unknown, Kind, Empty, Full}
use Rattle.uhura_plan.specs.Lists.{Lists}
use Rattle.uhura_plan.specs.Find.{find_event, uncertain_named, choice_named, requirement_named, literal_named}
use Rattle.uhura_plan.specs.Limits.{AreOrdered}
use Rattle.uhura_plan.specs.Refusals.{refuse_if, full, first_of, carried, known_names, unknown_in, repeated_at, repeated_in, empty_between, is_end, event_count, full_of_events, uncertain_refusal, product_with, choice_refusal, requirement_refusal}
use Rattle.uhura_plan.proofs.Positions.{none_passes}
use Rattle.uhura_plan.proofs.Literals.{or_false}

-- where none is the first refusal there is none
none_of : (refusals : List (Option EditRefusal)) → first_of refusals ≡ None → (i : ℕ) → get_or refusals i None ≡ None
none_of [] none i = refl
none_of (None ∷ later) none zero = refl
none_of (None ∷ later) none (suc i) = none_of later none i
none_of (Some r ∷ later) none i = let no : ⊥ = cc in absurd no

-- a test without its refusal fails
test_fails : (test : Bool) (refusal : EditRefusal) → refuse_if test refusal ≡ None → test ≡ false
test_fails true refusal none = let no : ⊥ = cc in absurd no
test_fails false refusal none = refl

-- bounds that aren't refused are in order
pub bounds_ordered : (lower upper : Option ℤ) → empty_between lower upper ≡ None → AreOrdered lower upper
bounds_ordered (Some lower) (Some upper) none = by (int_lt upper lower) refl none
  where
    by : (b : Bool) → int_lt upper lower ≡ b → refuse_if b (Empty lower upper) ≡ None → lower ≤ℤ upper
    by true less refused = let no : ⊥ = cc in absurd no
    by false other refused = grind (arith, ints, nat_tests)
bounds_ordered (Some lower) None none = tt
bounds_ordered None (Some upper) none = tt
bounds_ordered None None none = tt

-- a limit that isn't reached leaves room
room_left : (limit n : ℕ) → full limit n ≡ None → n < limit
room_left limit n none = let reached = test_fails (nat_le limit n) (Full limit n) none in grind (arith, nat_tests)

-- a limit that isn't passed bounds the number
within_limit : (limit n : ℕ) (refusal : EditRefusal) → refuse_if (nat_lt limit n) refusal ≡ None → n ≤ limit
within_limit limit n refusal none = let over = test_fails (nat_lt limit n) refusal none in grind (arith, nat_tests)

-- where fewer events and ends than may be are there, there is room for one more
pub event_room : (plan : Lists) → full_of_events plan ≡ None → event_count plan < EVENTS
event_room plan none = room_left EVENTS (event_count plan) none

-- what a duration that isn't refused meets
pub record IsUnrefusedUncertain (plan : Lists) (name start end : List ℕ) (lower upper : ℤ) : Type 0 where
  pub name_free : is_some (uncertain_named plan name) ≡ false
  pub end_free : is_some (find_event plan end) ≡ false
  pub ordered : lower ≤ℤ upper
  pub room : length plan.uncertains < UNCERTAINS
  pub event_room : event_count plan < EVENTS

pub unrefused_uncertain : (plan : Lists) (name start end : List ℕ) (lower upper : ℤ) → uncertain_refusal plan name start end lower upper ≡ None → IsUnrefusedUncertain plan name start end lower upper
unrefused_uncertain plan name start end lower upper none =
    let passed = none_of (
    refuse_if (is_some (uncertain_named plan name)) Taken
    ∷ refuse_if (is_some (find_event plan end)) Taken
    ∷ refuse_if (bytes_eq end start) Taken
    ∷ refuse_if (is_none (find_event plan start)) (Unknown 1)
    ∷ refuse_if (is_end (find_event plan start)) Kind
    ∷ empty_between (Some lower) (Some upper)
    ∷ full UNCERTAINS (length plan.uncertains)
    ∷ full_of_events plan
    ∷ []) none in
    record {
      name_free = test_fails (is_some (uncertain_named plan name)) Taken (passed 0);
      end_free = test_fails (is_some (find_event plan end)) Taken (passed 1);
      ordered = bounds_ordered (Some lower) (Some upper) (passed 5);
      room = room_left UNCERTAINS (length plan.uncertains) (passed 6);
      event_room = event_room plan (passed 7);
    }

no_value : {X : Type 0} (o : Option X) → is_some o ≡ false → o ≡ None
no_value None none = refl
no_value (Some x) none = absurd (true≢false none)

-- what a choice that isn't refused meets
pub record IsUnrefusedChoice (plan : Lists) (name : List ℕ) (alternatives : List (List ℕ × ℕ)) (guard : List (List ℕ × List ℕ)) : Type 0 where
  pub name_free : is_some (choice_named plan name) ≡ false
  pub names_once : repeated_at (map (λ a. a.0) alternatives) ≡ None
  pub known : unknown_in plan (1 + length alternatives) guard ≡ None
  pub room : length plan.choices < CHOICES
  pub few : length alternatives ≤ ALTERNATIVES
  pub product : product_with plan alternatives ≤ BRANCHES

pub unrefused_choice : (plan : Lists) (name : List ℕ) (alternatives : List (List ℕ × ℕ)) (guard : List (List ℕ × List ℕ)) → choice_refusal plan name alternatives guard ≡ None → IsUnrefusedChoice plan name alternatives guard
unrefused_choice plan name alternatives guard none =
    let passed = none_of (
    refuse_if (is_some (choice_named plan name)) Taken
    ∷ refuse_if (is_some (repeated_at (map (λ a. a.0) alternatives))) Taken
    ∷ unknown_in plan (1 + length alternatives) guard
    ∷ repeated_in guard
    ∷ full CHOICES (length plan.choices)
    ∷ refuse_if (nat_lt ALTERNATIVES (length alternatives)) (Full ALTERNATIVES (carried (length alternatives)))
    ∷ refuse_if (nat_lt BRANCHES (product_with plan alternatives)) (Full BRANCHES (product_with plan alternatives))
    ∷ []) none in
    record {
      name_free = test_fails (is_some (choice_named plan name)) Taken (passed 0);
      names_once = no_value _ (test_fails (is_some (repeated_at (map (λ a. a.0) alternatives))) Taken (passed 1));
      known = passed 2;
      room = room_left CHOICES (length plan.choices) (passed 4);
      few = within_limit ALTERNATIVES (length alternatives) (Full ALTERNATIVES (carried (length alternatives))) (passed 5);
      product = within_limit BRANCHES (product_with plan alternatives) (Full BRANCHES (product_with plan alternatives)) (passed 6);
    }

-- what a requirement that isn't refused meets
pub record IsUnrefusedRequirement (plan : Lists) (name from to : List ℕ) (lower upper : Bounded) (guard : List (List ℕ × List ℕ)) : Type 0 where
  pub name_free : is_some (requirement_named plan name) ≡ false
  pub known : unknown_in plan 3 guard ≡ None
  pub two_events : bytes_eq from to ≡ false
  pub ordered : AreOrdered lower.bound upper.bound
  pub room : length plan.requirements < REQUIREMENTS

pub unrefused_requirement : (plan : Lists) (name from to : List ℕ) (lower upper : Bounded) (guard : List (List ℕ × List ℕ)) → requirement_refusal plan name from to lower upper guard ≡ None
    → IsUnrefusedRequirement plan name from to lower upper guard
unrefused_requirement plan name from to lower upper guard none =
    let passed = none_of (
    refuse_if (is_some (requirement_named plan name)) Taken
    ∷ refuse_if (is_none (find_event plan from)) (Unknown 1)
    ∷ refuse_if (is_none (find_event plan to)) (Unknown 2)
    ∷ unknown_in plan 3 guard
    ∷ refuse_if (bytes_eq from to) Kind
    ∷ empty_between lower.bound upper.bound
    ∷ repeated_in guard
    ∷ full REQUIREMENTS (length plan.requirements)
    ∷ []) none in
    record {
      name_free = test_fails (is_some (requirement_named plan name)) Taken (passed 0);
      known = passed 3;
      two_events = test_fails (bytes_eq from to) Kind (passed 4);
      ordered = bounds_ordered lower.bound upper.bound (passed 5);
      room = room_left REQUIREMENTS (length plan.requirements) (passed 7);
    }

-- no value comes from none
pub mapped_none : {X Y : Type 0} (f : X → Y) (o : Option X) → option_map f o ≡ None → o ≡ None
mapped_none f None none = refl
mapped_none f (Some x) none = let no : ⊥ = cc in absurd no

not_true : (b : Bool) → not b ≡ false → b ≡ true
not_true true h = refl
not_true false h = sym h

-- where no name is unknown, each literal is spelled
known_literal : (plan : Lists) (guard : List (List ℕ × List ℕ)) (i : ℕ) (d : List ℕ × List ℕ) → list_any not (known_names plan guard) ≡ false → i < length guard → is_some (literal_named plan (get_or guard i d)) ≡ true
known_literal plan [] i d known within = absurd (omega (arith, within))
known_literal plan (names ∷ guard) zero d known within = not_true _ (or_false _ _ (or_false _ _ known).1).0
known_literal plan (names ∷ guard) (suc i) d known within = known_literal plan guard i d (or_false _ _ (or_false _ _ known).1).1 (omega (arith, within))

pub all_known : (plan : Lists) (before : ℕ) (guard : List (List ℕ × List ℕ)) → unknown_in plan before guard ≡ None → All (λ names. IsSome (literal_named plan names)) guard
all_known plan before guard none = λ i d within.
    known_literal plan guard i d (none_passes not (known_names plan guard) (ap is_some (mapped_none _ (position not (known_names plan guard)) none))) within
