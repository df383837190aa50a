-- The commands that make a sound plan are commands that fit on a line.
use Rattle.std.proofs.Common.{◌≡◌, ◌≢◌, ℕ, ◌≤◌, pos, ◌≤ℤ◌, true, List, [], ◌∷◌, ◌++◌, length, take, map, All, get_or, codes, refl, sym, ap, ◌∙◌, true≢false, false, arith, length-append}
use Rattle.std.specs.List.{AllByRecursion, list_all}
use Rattle.std.specs.Prelude.{option_map}
use Rattle.std.proofs.lemmas.Int.{ints}
use Rattle.std.proofs.lemmas.Option.{slice_get-get_or}
use Rattle.std.proofs.lemmas.List.{length-map, length-take}
use Rattle.std.proofs.lemmas.List.Elements.{All-append, All-map, All-weaker, recursion_from_All}
use Rattle.uhura_text.specs.Number.{number_of, is_magnitude}
use Rattle.uhura_plan.specs.declared.key.Side.TheVariants.{Lower, Upper}
use Rattle.uhura_plan.specs.declared.uncertain.Uncertain.{Uncertain}
use Rattle.uhura_plan.specs.declared.choice.Choice.{Choice}
use Rattle.uhura_plan.specs.declared.requirement.Requirement.{Requirement}
use Rattle.uhura_plan.specs.Name.{is_name}
use Rattle.uhura_plan.specs.Limits.{IsAmount}
use Rattle.uhura_plan.specs.Lists.{Lists, alternative_names}
use Rattle.uhura_plan.specs.Sound.{IsName, IsSound, IsSoundUncertain, IsSoundChoice, IsSoundRequirement, IsLiteralAmong}
use Rattle.uhura_plan.proofs.Building.{few_literals}
use Rattle.uhura_line.specs.declared.command.Command.TheVariants as command
use Rattle.uhura_line.specs.Form.{Word, pair_words, guard_words, rate_words, price_words}
use Rattle.uhura_line.specs.Reads.{IsCommand, count_word, rated_of, priced_of, alternative_pairs, is_amount}
use Rattle.uhura_command.specs.Script.{literal_names, guard_names, uncertain_command, choice_command, requirement_command, plan_commands}
use Rattle.uhura_line.proofs.LineLengths.{length-pair_words, length-guard_words, length-rate_words, length-price_words}
use Rattle.uhura_command.proofs.CommandLines.{FitsLine, few_words}
use Rattle.uhura_command.proofs.PlanNames.{place_named, event_named, guard_named, literals_among_all, name_not_when}
use Rattle.uhura_line.proofs.PlanNumbers.{amount_passes, end_passes, rates_pass, bound_passes, price_passes, has_max}

-- ---- events

event_fits : (name : List ℕ) → IsName name → FitsLine (command.Event name)
event_fits name named = few_words (command.Event name) (record { taken = tt; names = named; numbers = refl }) (omega arith)

-- ---- durations

uncertain_is_command : (plan : Lists) (u : Uncertain) → IsSound plan → IsSoundUncertain (length plan.events) u → IsCommand (uncertain_command plan u)
uncertain_is_command plan u sound is = record {
  taken = tt;
  names = rw (is.name, place_named plan.events u.start sound.events is.start, is.end) refl;
  numbers = rw (end_passes u.lower record { least = is.least; most = lower_most }, end_passes u.upper record { least = upper_least; most = is.most }, rates_pass u.lower_rate is.lower_rate, rates_pass u.upper_rate is.upper_rate) refl;
}
  where
    lower_most : u.lower ≤ℤ pos 1000000000
    lower_most = omega (arith, ints, is.ordered, is.most)

    upper_least : pos 0 ≤ℤ u.upper
    upper_least = omega (arith, ints, is.ordered, is.least)

uncertain_fits : (plan : Lists) (u : Uncertain) → IsSound plan → IsSoundUncertain (length plan.events) u → FitsLine (uncertain_command plan u)
uncertain_fits plan u sound is =
    let lower : List Word = rate_words Lower (option_map rated_of u.lower_rate) in
    let upper : List Word = rate_words Upper (option_map rated_of u.upper_rate) in
    few_words (uncertain_command plan u) (uncertain_is_command plan u sound is)
    (omega (arith, length-append lower upper, length-rate_words Lower (option_map rated_of u.lower_rate), length-rate_words Upper (option_map rated_of u.upper_rate)))

-- ---- choices

-- an alternative with a name and a cost
record IsAlternative (a : List ℕ × ℕ) : Type 0 where
  name : IsName a.0
  cost : IsAmount a.1

are_alternatives : (alternatives : List (List ℕ × ℕ)) → AllByRecursion IsName (map (λ a. a.0) alternatives) → AllByRecursion (λ a. IsAmount a.1) alternatives → AllByRecursion IsAlternative alternatives
are_alternatives [] names costs = tt
are_alternatives (a ∷ alternatives) names costs = (record { name = names.0; cost = costs.0 }, are_alternatives alternatives names.1 costs.1)

cost_not_when : (n : ℕ) → IsAmount n → count_word n ≢ codes "when"
unfolding number_of is_magnitude
cost_not_when n small same =
    let no : is_amount (codes "when") ≡ false = refl in
    true≢false (sym (amount_passes n small) ∙ (ap is_amount same ∙ no))

whenless : (alternatives : List (List ℕ × ℕ)) → AllByRecursion IsAlternative alternatives → AllByRecursion (λ word. word ≢ codes "when") (pair_words (alternative_pairs alternatives))
whenless [] are = tt
whenless (a ∷ alternatives) are = (name_not_when a.0 are.0.name, (cost_not_when a.1 are.0.cost, whenless alternatives are.1))

alternatives_named : (alternatives : List (List ℕ × ℕ)) → AllByRecursion IsAlternative alternatives → list_all (λ a. is_name a.0) (alternative_pairs alternatives) ≡ true
alternatives_named [] are = refl
alternatives_named (a ∷ alternatives) are = rw are.0.name (alternatives_named alternatives are.1)

alternatives_cost : (alternatives : List (List ℕ × ℕ)) → AllByRecursion IsAlternative alternatives → list_all (λ a. is_amount a.1) (alternative_pairs alternatives) ≡ true
alternatives_cost [] are = refl
alternatives_cost (a ∷ alternatives) are = rw (amount_passes a.1 are.0.cost) (alternatives_cost alternatives are.1)

some_pairs : (alternatives : List (List ℕ × ℕ)) → 1 ≤ length alternatives → alternative_pairs alternatives ≢ []
some_pairs [] some none = absurd (omega arith)
some_pairs (a ∷ alternatives) some none = cc

module _ (plan : Lists) (place : ℕ) (choice : Choice) (sound : IsSound plan) (is : IsSoundChoice (take place plan.choices) choice) where
  alternatives_are : AllByRecursion IsAlternative choice.alternatives
  alternatives_are =
      are_alternatives choice.alternatives (recursion_from_All IsName (alternative_names choice) is.names) (recursion_from_All (λ a. IsAmount a.1) choice.alternatives is.costs)

  among : All (IsLiteralAmong plan.choices) choice.guard
  among = literals_among_all plan.choices place choice.guard is.guard.among

  choice_is_command : IsCommand (choice_command plan choice)
  choice_is_command = record {
    taken = (some_pairs choice.alternatives is.some, whenless choice.alternatives alternatives_are);
    names = rw (is.name, alternatives_named choice.alternatives alternatives_are, guard_named plan.choices choice.guard sound.choices among) refl;
    numbers = alternatives_cost choice.alternatives alternatives_are;
  }

  choice_fits : FitsLine (choice_command plan choice)
  choice_fits =
      let pairs : List (Word × Word) = alternative_pairs choice.alternatives in
      let guard : List (Word × Word) = guard_names plan.choices choice.guard in
      few_words (choice_command plan choice) choice_is_command
      (omega (
        arith,
        is.few,
        sound.counts.choices,
        length-append (pair_words pairs) (guard_words guard),
        length-pair_words pairs,
        length-map {B = Word × Word} choice.alternatives (λ a. (a.0, count_word a.1)),
        length-guard_words guard,
        length-map choice.guard (literal_names plan.choices),
        few_literals (take place plan.choices) choice.guard is.guard,
        length-take place plan.choices,
      ))

-- ---- requirements

requirement_is_command : (plan : Lists) (r : Requirement) → IsSound plan → IsSoundRequirement plan r → IsCommand (requirement_command plan r)
requirement_is_command plan r sound is = record {
  taken = (has_max Lower r.lower.price is.lower.price, has_max Upper r.upper.price is.upper.price);
  names = rw (is.name, event_named plan r.from sound is.from, event_named plan r.to sound is.to, guard_named plan.choices r.guard sound.choices is.guard.among) refl;
  numbers = rw (bound_passes r.lower.bound is.lower.bound, bound_passes r.upper.bound is.upper.bound, price_passes r.lower.price is.lower.price, price_passes r.upper.price is.upper.price) refl;
}

requirement_fits : (plan : Lists) (r : Requirement) → IsSound plan → IsSoundRequirement plan r → FitsLine (requirement_command plan r)
requirement_fits plan r sound is =
    let lower : List Word = price_words Lower (option_map priced_of r.lower.price) in
    let upper : List Word = price_words Upper (option_map priced_of r.upper.price) in
    let guard : List (Word × Word) = guard_names plan.choices r.guard in
    few_words (requirement_command plan r) (requirement_is_command plan r sound is)
    (omega (
      arith,
      sound.counts.choices,
      length-append lower upper,
      length-append (lower ++ upper) (guard_words guard),
      length-price_words Lower (option_map priced_of r.lower.price),
      length-price_words Upper (option_map priced_of r.upper.price),
      length-guard_words guard,
      length-map r.guard (literal_names plan.choices),
      few_literals plan.choices r.guard is.guard,
    ))

-- ---- all of them

pub commands_fit : (plan : Lists) → IsSound plan → All FitsLine (plan_commands plan)
commands_fit plan sound =
    All-append FitsLine _ _
    (All-append FitsLine _ _
    (All-append FitsLine _ _
    (All-map FitsLine (λ name. command.Event name) plan.events (All-weaker IsName (λ name. FitsLine (command.Event name)) event_fits plan.events sound.events))
    (All-map FitsLine (uncertain_command plan) plan.uncertains
    (All-weaker (IsSoundUncertain (length plan.events)) (λ u. FitsLine (uncertain_command plan u)) (λ u is. uncertain_fits plan u sound is) plan.uncertains sound.uncertains)))
    (All-map FitsLine (choice_command plan) plan.choices
    (λ k d within. choice_fits plan k (get_or plan.choices k d) sound (sound.choices k (get_or plan.choices k d) (slice_get-get_or plan.choices k d within)))))
    (All-map FitsLine (requirement_command plan) plan.requirements
    (All-weaker (IsSoundRequirement plan) (λ r. FitsLine (requirement_command plan r)) (λ r is. requirement_fits plan r sound is) plan.requirements sound.requirements))
