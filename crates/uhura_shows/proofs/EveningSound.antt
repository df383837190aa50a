-- The plan of an evening is sound.
use Rattle.std.proofs.Common.{rules, ◌≡◌, ℕ, zero, suc, List, Some, take, false, true≢false, refl, sym, subst, ◌∙◌}
use Rattle.std.specs.Prelude.{slice_get, All, Contains, bytes_eq}
use Rattle.std.specs.List.{IsDistinct, list_any}
use Rattle.std.specs.Cmp.Lexicographic.{nat_list_eq_equiv}
use Rattle.std.proofs.lemmas.Option.{none-some, same_Some}
use Rattle.std.proofs.lemmas.List.Elements.{All-from_recursion}
use Rattle.std.proofs.lemmas.Bool.Decides.{Decides-eqb}
use Rattle.std.proofs.lemmas.Map.Made.{AllPairs-from_IsDistinct}
use Rattle.std.proofs.lemmas.Map.Views.{list_any-from_Contains}
use Rattle.uhura_plan.specs.Lists.{end_names, slots}
use Rattle.uhura_plan.specs.Name.{is_name, is_letter, is_name_byte, is_fixed_word}
use Rattle.uhura_plan.specs.Sound.{IsSound, IsName, IsWithinCounts, HasDistinctNames, IsSoundUncertain, IsSoundChoice, IsSoundRequirement}
use Rattle.uhura_plan.specs.declared.choice.Choice.{Choice}
use Rattle.uhura_shows.specs.Evening.{evening, evening_events, evening_drives, evening_choices, evening_requirements}

not-among : (names : List (List ℕ)) (name : List ℕ) → list_any (bytes_eq name) names ≡ false → Contains names name → ⊥
not-among names name none has = true≢false (sym (list_any-from_Contains nat_list_eq_equiv name names has) ∙ none)

counts : IsWithinCounts evening.plan
counts = search rules

distinct : HasDistinctNames evening.plan
unfolding IsDistinct
distinct = record {
  events = search rules;
  ends = search rules;
  apart = All-from_recursion (λ (end : List ℕ). Contains evening_events end → ⊥) (end_names evening_drives) (
    not-among evening_events _ refl,
    (not-among evening_events _ refl, (not-among evening_events _ refl, (not-among evening_events _ refl, (not-among evening_events _ refl, tt)))),
  );
  uncertains = search rules;
  choices = search rules;
  requirements = search rules;
  slots = AllPairs-from_IsDistinct Decides-eqb (slots evening_requirements) (search rules);
}

names : All IsName evening_events
unfolding is_name is_letter is_name_byte is_fixed_word
names = All-from_recursion IsName evening_events (search rules)

drives : All (IsSoundUncertain 9) evening_drives
unfolding is_name is_letter is_name_byte is_fixed_word
drives = All-from_recursion (IsSoundUncertain 9) evening_drives (search rules)

requirements : All (IsSoundRequirement evening.plan) evening_requirements
unfolding is_name is_letter is_name_byte is_fixed_word
requirements = All-from_recursion (IsSoundRequirement evening.plan) evening_requirements (search rules)

choices : (place : ℕ) (c : Choice) → slice_get evening_choices place ≡ Some c → IsSoundChoice (take place evening_choices) c
unfolding is_name is_letter is_name_byte is_fixed_word IsDistinct
choices zero c is = subst (IsSoundChoice (take 0 evening_choices)) (same_Some _ c is) (search rules)
choices (suc zero) c is = subst (IsSoundChoice (take 1 evening_choices)) (same_Some _ c is) (search rules)
choices (suc (suc zero)) c is = subst (IsSoundChoice (take 2 evening_choices)) (same_Some _ c is) (search rules)
choices (suc (suc (suc place))) c is = absurd (none-some c is)

pub evening-sound : IsSound evening.plan
evening-sound = record {
  counts = counts;
  distinct = distinct;
  events = names;
  uncertains = drives;
  choices = choices;
  requirements = requirements;
}
