-- The tables without a requirement hold the plan without it.
use Rattle.std.proofs.Common.{◌≡◌, ◌≢◌, ℕ, ◌<◌, Bool, List, [], ◌∷◌, get_or, map, filter, not, length, Some, position, bytes_eq, AllPairs, sym, ap, subst, ◌∙◌, arith}
use Rattle.std.specs.List.{remove}
use Rattle.std.specs.Map.{keys_of, values_of}
use Rattle.indexmap.proofs.SetLemmas.{map-remove}
use Rattle.std.proofs.lemmas.List.{length-map, get_or-map}
use Rattle.std.proofs.lemmas.List.Elements.{All-filter}
use Rattle.std.proofs.lemmas.List.Kept.{AllPairs-filter}
use Rattle.std.proofs.lemmas.List.Sums.{length-filter, count_by-le-length}
use Rattle.std.proofs.lemmas.Map.Made.{AllPairs-from_IsDistinct, IsDistinct-from_AllPairs}
use Rattle.std.proofs.lemmas.Slice.Eq.{bytes_eq-Decides}
use Rattle.uhura_plan.specs.declared.uncertain.Uncertain.{Uncertain}
use Rattle.uhura_plan.specs.declared.choice.Choice.{Choice}
use Rattle.uhura_plan.specs.declared.requirement.Requirement.{Requirement}
use Rattle.uhura_plan.specs.Lists.{Lists}
use Rattle.uhura_plan.specs.Sound.{IsSoundRequirement, IsSound}
use Rattle.uhura_plan.specs.Tables.{lists_of, HoldsPlan}
use Rattle.uhura_plan.specs.Changes.{without_requirement}
use Rattle.uhura_plan.proofs.More.{stay_sound}
use Rattle.uhura_plan.proofs.Named.{removed_named}

-- what holds of each two images holds of each two elements by their images
pairs_of_map : {X Y : Type 0} (R : Y → Y → Type 0) (f : X → Y) (xs : List X) → AllPairs R (map f xs) → AllPairs (λ a b. R (f a) (f b)) xs
pairs_of_map R f xs pairs = λ i j d before within.
    let inside : j < length (map f xs) = omega (arith, within, length-map xs f) in
    let first = get_or-map f xs i d (f d) (omega (arith, before, within)) in
    let second = get_or-map f xs j d (f d) within in
    subst (λ y. R y (f (get_or xs j d))) first (subst (λ y. R (get_or (map f xs) i (f d)) y) second (pairs i j (f d) before inside))

-- and the other way round
pairs_to_map : {X Y : Type 0} (R : Y → Y → Type 0) (f : X → Y) (xs : List X) → AllPairs (λ a b. R (f a) (f b)) xs → AllPairs R (map f xs)
pairs_to_map R f [] pairs = λ i j d before within. absurd (omega (arith, within))
pairs_to_map R f (x ∷ xs) pairs = λ i j d before within.
    let inside : j < length (x ∷ xs) = omega (arith, within, length-map (x ∷ xs) f) in
    let first = get_or-map f (x ∷ xs) i x d (omega (arith, before, inside)) in
    let second = get_or-map f (x ∷ xs) j x d inside in
    subst (λ y. R y (get_or (map f (x ∷ xs)) j d)) (sym first) (subst (λ y. R (f (get_or (x ∷ xs) i x)) y) (sym second) (pairs i j x before inside))

-- what holds of each two images holds of those that a filter keeps
filtered_pairs : {X Y : Type 0} (R : Y → Y → Type 0) (f : X → Y) (p : X → Bool) (xs : List X) → AllPairs R (map f xs) → AllPairs R (map f (filter p xs))
filtered_pairs R f p xs pairs = pairs_to_map R f (filter p xs) (AllPairs-filter (λ a b. R (f a) (f b)) p xs (pairs_of_map R f xs pairs))

-- a plan with some of its requirements alone is sound
IsSound-filtered : (plan : Lists) (keep : Requirement → Bool) → IsSound plan → IsSound (record plan { requirements = filter keep plan.requirements })
IsSound-filtered plan keep sound = record {
  counts = record {
    events = sound.counts.events;
    uncertains = sound.counts.uncertains;
    choices = sound.counts.choices;
    product = sound.counts.product;
    requirements = omega (arith, length-filter keep plan.requirements, count_by-le-length keep plan.requirements, sound.counts.requirements);
  };
  distinct = record {
    events = sound.distinct.events;
    ends = sound.distinct.ends;
    apart = sound.distinct.apart;
    uncertains = sound.distinct.uncertains;
    choices = sound.distinct.choices;
    requirements =
        IsDistinct-from_AllPairs bytes_eq-Decides _
        (filtered_pairs ◌≢◌ (λ r. r.name) keep plan.requirements (AllPairs-from_IsDistinct bytes_eq-Decides _ sound.distinct.requirements));
    slots = filtered_pairs ◌≢◌ (λ r. r.slot) keep plan.requirements sound.distinct.slots;
  };
  events = sound.events;
  uncertains = sound.uncertains;
  choices = sound.choices;
  requirements =
      stay_sound plan (record plan { requirements = filter keep plan.requirements }) (record { events = omega arith; uncertains = omega arith; literals = λ _ among. among })
      (filter keep plan.requirements) (All-filter keep (IsSoundRequirement plan) plan.requirements sound.requirements);
}

module _ {events ends : List (List ℕ)} {uncertains : List (List ℕ × Uncertain)} {choices : List (List ℕ × Choice)} {requirements new : List (List ℕ × Requirement)} {plan : Lists} (name : List ℕ)
    (view : lists_of events uncertains choices requirements ≡ plan) (held : HoldsPlan events ends uncertains choices requirements) (place : ℕ)
    (found : Some place ≡ position (bytes_eq name) (keys_of requirements)) (removed : new ≡ remove requirements place) where
  abbrev old : Lists
  old = lists_of events uncertains choices requirements

  -- the requirement at the place is taken out
  values_removed : values_of new ≡ remove (values_of requirements) place
  values_removed = ap values_of removed ∙ map-remove (λ e. e.1) requirements place

  -- the requirements of other names are left
  others_left : values_of new ≡ filter (λ r. not (bytes_eq name r.name)) (values_of requirements)
  others_left =
      values_removed
      ∙ removed_named (λ r. r.name) name (values_of requirements) place held.sound.distinct.requirements
      (ap (position (bytes_eq name)) (sym held.requirement_keys) ∙ sym found)

  pub view-without_requirement : lists_of events uncertains choices new ≡ without_requirement name plan
  view-without_requirement = ap (λ rs. record old { requirements = rs }) others_left ∙ ap (without_requirement name) view

  pub HoldsPlan-without_requirement : HoldsPlan events ends uncertains choices new
  HoldsPlan-without_requirement = record {
    end_keys = held.end_keys;
    uncertain_keys = held.uncertain_keys;
    choice_keys = held.choice_keys;
    requirement_keys =
        ap keys_of removed ∙ (map-remove (λ e. e.0) requirements place
        ∙ (ap (λ keys. remove keys place) held.requirement_keys
        ∙ (sym (map-remove (λ r. r.name) (values_of requirements) place) ∙ ap (map (λ r. r.name)) (sym values_removed))));
    sound = subst (λ rs. IsSound (record old { requirements = rs })) (sym others_left) (IsSound-filtered old (λ r. not (bytes_eq name r.name)) held.sound);
  }
