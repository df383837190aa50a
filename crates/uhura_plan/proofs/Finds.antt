-- What a look-up by name found.
use Rattle.std.proofs.Common.{◌≡◌, ℕ, ◌<◌, List, [], length, Option, None, Some, option_map, option_and_then, slice_get, bytes_eq, IsSomeAnd, refl, sym, ap, subst, ◌∙◌, arith}
use Rattle.std.specs.Option.{option_or}
use Rattle.std.proofs.lemmas.List.{length-map}
use Rattle.std.proofs.lemmas.List.Quantifiers.{position-Some}
use Rattle.std.proofs.lemmas.Slice.Eq.{bytes_eq-Decides}
use Rattle.uhura_plan.specs.declared.key.EventRef.{EventRef}
use Rattle.uhura_plan.specs.declared.key.EventRef.TheVariants.{Controllable, End}
use Rattle.uhura_plan.specs.declared.guard.Literal.{Literal}
use Rattle.uhura_plan.specs.declared.choice.Choice.{Choice}
use Rattle.uhura_plan.specs.Lists.{Lists, end_names, alternative_names}
use Rattle.uhura_plan.specs.Find.{place_of, find_event, choice_named, alternative_named, literal_named}
use Rattle.uhura_plan.specs.Sound.{IsEventAmong, IsLiteralAmong}

-- a name's place is within the list
pub place_within : (names : List (List ℕ)) (name : List ℕ) (place : ℕ) → place_of names name ≡ Some place → place < length names
place_within names name place found = (position-Some (bytes_eq name) names place name found).0

-- two names at one place are one name
pub same_place : (names : List (List ℕ)) (first second : List ℕ) (place : ℕ) → place_of names first ≡ Some place → place_of names second ≡ Some place → first ≡ second
same_place names first second place found again =
    let at_first = (position-Some (bytes_eq first) names place [] found).1 in
    let at_second = (position-Some (bytes_eq second) names place [] again).1 in
    (bytes_eq-Decides first _).0 at_first ∙ sym ((bytes_eq-Decides second _).0 at_second)

-- the event's place is that of the name
abbrev IsPlaceOf : Lists → List ℕ → EventRef → Type 0
IsPlaceOf plan name (Controllable event) = place_of plan.events name ≡ Some event
IsPlaceOf plan name (End uncertain) = place_of (end_names plan.uncertains) name ≡ Some uncertain

-- of two kinds of events one is found
one_of : (plan : Lists) (name : List ℕ) (event end : Option ℕ) (found : EventRef) → place_of plan.events name ≡ event → place_of (end_names plan.uncertains) name ≡ end
    → Some found ≡ option_or (option_map (λ e. Controllable e) event) (option_map (λ d. End d) end) → IsPlaceOf plan name found
one_of plan name (Some e) end found at_event at_end is = let same : found ≡ Controllable e = cc in subst (IsPlaceOf plan name) (sym same) at_event
one_of plan name None (Some d) found at_event at_end is = let same : found ≡ End d = cc in subst (IsPlaceOf plan name) (sym same) at_end
one_of plan name None None found at_event at_end is = let no : ⊥ = cc in absurd no

event_place : (plan : Lists) (name : List ℕ) (found : EventRef) → Some found ≡ find_event plan name → IsPlaceOf plan name found
event_place plan name found is = one_of plan name (place_of plan.events name) (place_of (end_names plan.uncertains) name) found refl refl is

-- a found event is in the plan
pub event_among : (plan : Lists) (name : List ℕ) (found : EventRef) → Some found ≡ find_event plan name → IsEventAmong (length plan.events) (length plan.uncertains) found
event_among plan name found is = by found (event_place plan name found is)
  where
    by : (e : EventRef) → IsPlaceOf plan name e → IsEventAmong (length plan.events) (length plan.uncertains) e
    by (Controllable e) at = place_within plan.events name e at
    by (End d) at = omega (arith, place_within (end_names plan.uncertains) name d at, length-map plan.uncertains (λ u. u.end))

-- two names of one event are one name
pub same_event : (plan : Lists) (first second : List ℕ) (found : EventRef) → Some found ≡ find_event plan first → Some found ≡ find_event plan second → first ≡ second
same_event plan first second found is again = by found (event_place plan first found is) (event_place plan second found again)
  where
    by : (e : EventRef) → IsPlaceOf plan first e → IsPlaceOf plan second e → first ≡ second
    by (Controllable e) one other = same_place plan.events first second e one other
    by (End d) one other = same_place (end_names plan.uncertains) first second d one other

-- a spelled literal has the place of its choice, and of its alternative there
pub record IsSpelled (plan : Lists) (names : List ℕ × List ℕ) (literal : Literal) : Type 0 where
  pub choice : choice_named plan names.0 ≡ Some literal.choice
  pub alternative : alternative_named plan literal.choice names.1 ≡ Some literal.alternative

spelled_by : (plan : Lists) (names : List ℕ × List ℕ) (literal : Literal) (choice : Option ℕ) → choice_named plan names.0 ≡ choice
    → Some literal ≡ option_and_then (λ c. option_map (λ a. record { choice = c; alternative = a }) (alternative_named plan c names.1)) choice → IsSpelled plan names literal
spelled_by plan names literal None at is = let no : ⊥ = cc in absurd no
spelled_by plan names literal (Some c) at is = by (alternative_named plan c names.1) refl is
  where
    by : (alternative : Option ℕ) → alternative_named plan c names.1 ≡ alternative → Some literal ≡ option_map (λ a. record { choice = c; alternative = a }) alternative → IsSpelled plan names literal
    by None found same = let no : ⊥ = cc in absurd no
    by (Some a) found same =
        let whole : literal ≡ record { choice = c; alternative = a } = cc in
        record {
          choice = at ∙ ap (λ l. Some l.choice) (sym whole);
          alternative = subst (λ l. alternative_named plan l.choice names.1 ≡ Some l.alternative) (sym whole) found;
        }

pub spelled : (plan : Lists) (names : List ℕ × List ℕ) (literal : Literal) → Some literal ≡ literal_named plan names → IsSpelled plan names literal
spelled plan names literal is = spelled_by plan names literal (choice_named plan names.0) refl is

-- a spelled literal is about the choices
pub literal_among : (plan : Lists) (names : List ℕ × List ℕ) (literal : Literal) → Some literal ≡ literal_named plan names → IsLiteralAmong plan.choices literal
literal_among plan names literal is = by (slice_get plan.choices literal.choice) refl (spelled plan names literal is).alternative
  where
    by : (choice : Option Choice) → slice_get plan.choices literal.choice ≡ choice → option_and_then (λ c. place_of (alternative_names c) names.1) choice ≡ Some literal.alternative → IsSomeAnd choice (λ c. literal.alternative < length c.alternatives)
    by None at found = let no : ⊥ = cc in absurd no
    by (Some c) at found = omega (arith, place_within (alternative_names c) names.1 literal.alternative found, length-map c.alternatives (λ a. a.0))
