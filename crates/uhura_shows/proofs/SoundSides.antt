-- The plan of two sides is sound.
use Rattle.std.proofs.Common.{rules, ◌≡◌, ℕ, zero, suc, [], ◌∷◌, Some, take, refl, subst, lit≤}
use Rattle.std.specs.Prelude.{slice_get}
use Rattle.std.specs.List.{IsDistinct}
use Rattle.std.proofs.lemmas.Option.{none-some, same_Some}
use Rattle.std.proofs.lemmas.List.Elements.{All-nil, All-cons}
use Rattle.uhura_plan.specs.Name.{is_name, is_letter, is_name_byte, is_fixed_word}
use Rattle.uhura_plan.specs.Sound.{IsSound, IsWithinCounts, HasDistinctNames, IsSoundChoice, IsSoundRequirement}
use Rattle.uhura_plan.specs.declared.choice.Choice.{Choice}
use Rattle.uhura_worst.specs.Examples.{two_sides, side_choice, near, far}

counts : IsWithinCounts two_sides.plan
counts = search rules

distinct : HasDistinctNames two_sides.plan
unfolding IsDistinct
distinct = record {
  events = ((refl, tt), (tt, tt));
  ends = tt;
  apart = search rules;
  uncertains = tt;
  choices = (tt, tt);
  requirements = ((refl, tt), (tt, tt));
  slots = search rules;
}

choice : IsSoundChoice [] side_choice
unfolding IsDistinct is_name is_letter is_name_byte is_fixed_word
choice = record {
  name = refl;
  some = lit≤ tt;
  few = lit≤ tt;
  names = search rules;
  distinct = ((refl, tt), (tt, tt));
  costs = search rules;
  guard = search rules;
}

requirement-near : IsSoundRequirement two_sides.plan near
unfolding is_name is_letter is_name_byte is_fixed_word
requirement-near = search rules

requirement-far : IsSoundRequirement two_sides.plan far
unfolding is_name is_letter is_name_byte is_fixed_word
requirement-far = search rules

pub two_sides-sound : IsSound two_sides.plan
unfolding is_name is_letter is_name_byte is_fixed_word
two_sides-sound = record {
  counts = counts;
  distinct = distinct;
  events = search rules;
  uncertains = search rules;
  choices = choices;
  requirements = All-cons (IsSoundRequirement two_sides.plan) near (far ∷ []) requirement-near
      (All-cons (IsSoundRequirement two_sides.plan) far [] requirement-far (All-nil (IsSoundRequirement two_sides.plan)));
}
  where
    choices : (place : ℕ) (c : Choice) → slice_get (side_choice ∷ []) place ≡ Some c → IsSoundChoice (take place (side_choice ∷ [])) c
    choices zero c is = subst (IsSoundChoice []) (same_Some side_choice c is) choice
    choices (suc place) c is = absurd (none-some c is)
