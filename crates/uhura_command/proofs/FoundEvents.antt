-- A plan's events are found by their names.
use Rattle.std.proofs.Common.{◌≡◌, ℕ, ◌<◌, List, length, Option, None, Some, slice_get, option_map, Contains, ap, subst, ◌∙◌, arith}
use Rattle.std.specs.Option.{option_or}
use Rattle.std.proofs.lemmas.List.{length-map}
use Rattle.std.proofs.lemmas.Option.{get_or_from_slice_get, slice_get_within}
use Rattle.uhura_plan.specs.declared.key.EventRef.{EventRef}
use Rattle.uhura_plan.specs.declared.key.EventRef.TheVariants.{Controllable, End}
use Rattle.uhura_plan.specs.Lists.{Lists, end_names}
use Rattle.uhura_plan.specs.Find.{place_of, find_event}
use Rattle.uhura_plan.specs.Sound.{AreDistinct, IsEventAmong, HasDistinctNames}
use Rattle.uhura_command.specs.Script.{name_at, event_name}
use Rattle.uhura_command.proofs.Naming.{found_at, not_found, name_there}

-- the event that two look-ups give
abbrev of_places : Option ℕ → Option ℕ → Option EventRef
of_places event end = option_or (option_map (λ e. Controllable e) event) (option_map (λ d. End d) end)

-- a controllable event is found by its name
pub event_found : (plan : Lists) → AreDistinct plan.events → (event : ℕ) → event < length plan.events → find_event plan (name_at plan.events event) ≡ Some (Controllable event)
event_found plan distinct event within =
    let name = name_at plan.events event in
    ap (λ place. of_places place (place_of (end_names plan.uncertains) name)) (found_at plan.events distinct event name (name_there plan.events event within))

-- no event has the name of an end
pub end_apart : (plan : Lists) → HasDistinctNames plan → (duration : ℕ) (end : List ℕ) → slice_get (end_names plan.uncertains) duration ≡ Some end → Contains plan.events end → ⊥
end_apart plan distinct duration end at =
    let ends = end_names plan.uncertains in
    subst (λ name. Contains plan.events name → ⊥) (get_or_from_slice_get ends duration end end at) (distinct.apart duration end (slice_get_within ends duration end at))

-- the end of a duration is found by its name
pub end_found : (plan : Lists) → HasDistinctNames plan → (duration : ℕ) → duration < length plan.uncertains → find_event plan (name_at (end_names plan.uncertains) duration) ≡ Some (End duration)
end_found plan distinct duration within =
    let ends = end_names plan.uncertains in
    let name = name_at ends duration in
    let inside : duration < length ends = omega (arith, within, length-map plan.uncertains (λ u. u.end)) in
    let at : slice_get ends duration ≡ Some name = name_there ends duration inside in
    ap (λ place. of_places place (place_of ends name)) (not_found plan.events name (end_apart plan distinct duration name at))
    ∙ ap (of_places None) (found_at ends distinct.ends duration name at)

-- each event is found by its name
pub name_found : (plan : Lists) → HasDistinctNames plan → (event : EventRef) → IsEventAmong (length plan.events) (length plan.uncertains) event → find_event plan (event_name plan event) ≡ Some event
name_found plan distinct (Controllable event) among = event_found plan distinct.events event among
name_found plan distinct (End duration) among = end_found plan distinct duration among
