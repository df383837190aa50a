-- The commands of a plan's choices make its choices.
use Rattle.std.proofs.Common.{◌≡◌, ℕ, suc, ◌<◌, ◌≤◌, List, [], length, take, map, get_or, None, Some, slice_get, option_map, is_some, All, refl, ap, arith}
use Rattle.std.proofs.lemmas.Bool.{lt-leb, le-ltb}
use Rattle.std.proofs.lemmas.Option.{slice_get_within, slice_get-get_or}
use Rattle.uhura_plan.specs.declared.limits.TheConstants.{BRANCHES, CHOICES}
use Rattle.uhura_plan.specs.declared.choice.Choice.{Choice}
use Rattle.uhura_plan.specs.Lists.{Lists, choice_names, alternative_names}
use Rattle.uhura_plan.specs.Refusals.{choice_refusal, product_with}
use Rattle.uhura_plan.specs.Sound.{AreDistinct, IsSoundChoice, alternatives_product}
use Rattle.uhura_veto.specs.State.{State}
use Rattle.uhura_command.specs.Apply.{Applies, of_edit}
use Rattle.uhura_command.specs.Replay.{Makes}
use Rattle.uhura_command.specs.Script.{choice_command, guard_names}
use Rattle.uhura_command.proofs.Beginnings.{take_next, length_before}
use Rattle.uhura_command.proofs.Naming.{new_name, not_repeated}
use Rattle.uhura_command.proofs.Spelling.{Begins, begins_first, none_unknown, none_repeated, spells}
use Rattle.uhura_command.proofs.Making.{state_with, makes_each}
use Rattle.uhura_command.proofs.Products.{product_of_first}
use Rattle.uhura_command.proofs.Accepting.{none_then, passed}

module _ (plan : Lists) (distinct : AreDistinct (choice_names plan.choices)) (sound : (place : ℕ) (choice : Choice) → slice_get plan.choices place ≡ Some choice → IsSoundChoice (take place plan.choices) choice) (few : length plan.choices ≤ CHOICES) (product : alternatives_product plan.choices ≤ BRANCHES) where
  -- the state with all events and durations, and the choices before a place
  abbrev before : ℕ → State
  before i = state_with plan.events plan.uncertains (take i plan.choices) []

  each_has_one : All (λ c. 1 ≤ length c.alternatives) plan.choices
  each_has_one = λ k d within. (sound k (get_or plan.choices k d) (slice_get-get_or plan.choices k d within)).some

  module _ (i : ℕ) (c : Choice) (at : slice_get plan.choices i ≡ Some c) where
    begins : Begins plan.choices (take i plan.choices)
    begins = begins_first plan.choices i distinct (λ place choice there. (sound place choice there).distinct)

    -- the names of its guard's literals
    abbrev guard : List (List ℕ × List ℕ)
    guard = guard_names plan.choices c.guard

    accepted : choice_refusal (before i).plan c.name c.alternatives guard ≡ None
    accepted =
        let here = sound i c at in
        let room : length (take i plan.choices) < CHOICES = omega (arith, few, slice_get_within plan.choices i c at, length_before plan.choices i c at) in
        let small : product_with (before i).plan c.alternatives ≤ BRANCHES = omega (arith, product, product_of_first plan.choices i c each_has_one at) in
        none_then _ _ (passed _ _ (ap is_some (new_name (λ x. x.name) plan.choices i c distinct at)))
        (none_then _ _ (passed _ _ (ap is_some (not_repeated (alternative_names c) here.distinct)))
        (none_then _ _ (none_unknown plan.choices (before i).plan begins _ c.guard here.guard.among)
        (none_then _ _ (none_repeated plan.choices (before i).plan begins c.guard here.guard)
        (none_then _ _ (passed _ _ (lt-leb _ _ room))
        (none_then _ _ (passed _ _ (le-ltb _ _ here.few))
        (none_then _ _ (passed _ _ (le-ltb _ _ small)) refl))))))

    -- the choice at a place is the next
    pub adds : Applies (before i) (choice_command plan c) (before (suc i))
    adds = record {
      edits = tt;
      accepted = ap (option_map of_edit) accepted;
      plan = record {
        literals = c.guard;
        found = spells plan.choices (before i).plan begins c.guard (sound i c at).guard.among;
        lists = ap (λ cs. (state_with plan.events plan.uncertains cs []).plan) (take_next plan.choices i c at);
      };
      vetoes = refl;
    }

  -- the choices are made from the events and durations
  pub makes_choices : Makes (before 0) (map (choice_command plan) plan.choices) (before (length plan.choices))
  makes_choices = makes_each (choice_command plan) plan.choices before adds
