-- What each loop has made so far.
use Rattle.std.proofs.Common.{◌≡◌, ℕ, ◌+◌, ◌*◌, [], ◌∷◌, ◌++◌, length, refl, ap, sym, ◌∙◌, arith, append_assoc}
use Rattle.std.proofs.lemmas.List.{append-nil}
use Rattle.std.proofs.lemmas.List.FromFn.{length-map-range_with_len, map-range_with_len_more}
use Rattle.uhura_plan.specs.Lists.{Lists, requirement_names}
use Rattle.uhura_plan.specs.Edits.{with_uncertain, with_choice, with_requirement}
use Rattle.uhura_gen.specs.Draws.{after}
use Rattle.uhura_gen.specs.Items.{duration, choice, step, stop}
use Rattle.uhura_gen.specs.Generator.{durations, choices, steps, stops}
use Rattle.uhura_gen.specs.Numbered.{IsNumbered, HasRequirements}
use Rattle.uhura_gen.proofs.Drawing.{more_draws}

-- so many durations
pub record DurationsSoFar (initial plan : Lists) (x y place : ℕ) : Type 0 where
  pub list : plan ≡ record initial { uncertains = durations x place }
  pub numbered : IsNumbered plan
  pub number : y ≡ after x (4 * place)

pub no_durations : (plan : Lists) (x : ℕ) → plan.uncertains ≡ [] → IsNumbered plan → DurationsSoFar plan plan x x 0
no_durations plan x none numbered = record {
  list = ap (λ us. record plan { uncertains = us }) none;
  numbered = numbered;
  number = refl;
}

pub more_durations : (initial plan next : Lists) (x y z place : ℕ) → DurationsSoFar initial plan x y place → next ≡ with_uncertain plan (duration y place) → IsNumbered next → z ≡ after y 4 → DurationsSoFar initial next x z (place + 1)
more_durations initial plan next x y z place before added numbered drawn = record {
  list =
      added
      ∙ (ap (λ p. with_uncertain p (duration y place)) before.list
      ∙ (ap (λ w. with_uncertain (record initial { uncertains = durations x place }) (duration w place)) before.number
      ∙ ap (λ us. record initial { uncertains = us }) (sym (map-range_with_len_more (λ p. duration (after x (4 * p)) p) 0 place place (omega arith)))));
  numbered = numbered;
  number = more_draws x y z 4 place before.number drawn;
}

pub count_durations : (initial plan : Lists) (x y place : ℕ) → DurationsSoFar initial plan x y place → length plan.uncertains ≡ place
count_durations initial plan x y place so_far = ap (λ p. length p.uncertains) so_far.list ∙ length-map-range_with_len (λ p. duration (after x (4 * p)) p) 0 place

-- so many choices
pub record ChoicesSoFar (initial plan : Lists) (x y place : ℕ) : Type 0 where
  pub list : plan ≡ record initial { choices = choices x place }
  pub numbered : IsNumbered plan
  pub number : y ≡ after x (3 * place)

pub no_choices : (plan : Lists) (x : ℕ) → plan.choices ≡ [] → IsNumbered plan → ChoicesSoFar plan plan x x 0
no_choices plan x none numbered = record {
  list = ap (λ cs. record plan { choices = cs }) none;
  numbered = numbered;
  number = refl;
}

pub more_choices : (initial plan next : Lists) (x y z place : ℕ) → ChoicesSoFar initial plan x y place → next ≡ with_choice plan (choice y place) → IsNumbered next → z ≡ after y 3 → ChoicesSoFar initial next x z (place + 1)
more_choices initial plan next x y z place before added numbered drawn = record {
  list =
      added
      ∙ (ap (λ p. with_choice p (choice y place)) before.list
      ∙ (ap (λ w. with_choice (record initial { choices = choices x place }) (choice w place)) before.number
      ∙ ap (λ cs. record initial { choices = cs }) (sym (map-range_with_len_more (λ p. choice (after x (3 * p)) p) 0 place place (omega arith)))));
  numbered = numbered;
  number = more_draws x y z 3 place before.number drawn;
}

pub count_choices : (initial plan : Lists) (x y place : ℕ) → ChoicesSoFar initial plan x y place → length plan.choices ≡ place
count_choices initial plan x y place so_far = ap (λ p. length p.choices) so_far.list ∙ length-map-range_with_len (λ p. choice (after x (3 * p)) p) 0 place

-- so many requirements between neighbours
pub record StepsSoFar (initial plan : Lists) (x y place : ℕ) : Type 0 where
  pub list : plan ≡ record initial { requirements = steps x place }
  pub numbered : IsNumbered plan
  pub names : HasRequirements plan place 0
  pub number : y ≡ after x (4 * place)

pub no_steps : (plan : Lists) (x : ℕ) → plan.requirements ≡ [] → IsNumbered plan → StepsSoFar plan plan x x 0
no_steps plan x none numbered = record {
  list = ap (λ rs. record plan { requirements = rs }) none;
  numbered = numbered;
  names = ap requirement_names none;
  number = refl;
}

pub more_steps : (initial plan next : Lists) (x y z place : ℕ) → StepsSoFar initial plan x y place → next ≡ with_requirement plan (step y place) → IsNumbered next → HasRequirements next (place + 1) 0 → z ≡ after y 4 → StepsSoFar initial next x z (place + 1)
more_steps initial plan next x y z place before added numbered names drawn = record {
  list =
      added
      ∙ (ap (λ p. with_requirement p (step y place)) before.list
      ∙ (ap (λ w. with_requirement (record initial { requirements = steps x place }) (step w place)) before.number
      ∙ ap (λ rs. record initial { requirements = rs }) (sym (map-range_with_len_more (λ p. step (after x (4 * p)) p) 0 place place (omega arith)))));
  numbered = numbered;
  names = names;
  number = more_draws x y z 4 place before.number drawn;
}

-- so many requirements on durations' ends, behind others
pub record StopsSoFar (initial plan : Lists) (x y slot place : ℕ) : Type 0 where
  pub list : plan ≡ record initial { requirements = initial.requirements ++ stops x slot place }
  pub numbered : IsNumbered plan
  pub names : HasRequirements plan slot place
  pub number : y ≡ after x (5 * place)

pub no_stops : (plan : Lists) (x slot : ℕ) → IsNumbered plan → HasRequirements plan slot 0 → StopsSoFar plan plan x x slot 0
no_stops plan x slot numbered names = record {
  list = ap (λ rs. record plan { requirements = rs }) (sym (append-nil plan.requirements));
  numbered = numbered;
  names = names;
  number = refl;
}

pub more_stops : (initial plan next : Lists) (x y z slot place : ℕ) → StopsSoFar initial plan x y slot place → next ≡ with_requirement plan (stop y (slot + place) place) → IsNumbered next → HasRequirements next slot (place + 1) → z ≡ after y 5 → StopsSoFar initial next x z slot (place + 1)
more_stops initial plan next x y z slot place before added numbered names drawn = record {
  list =
      added
      ∙ (ap (λ p. with_requirement p (stop y (slot + place) place)) before.list
      ∙ (ap (λ w. with_requirement (record initial { requirements = initial.requirements ++ stops x slot place }) (stop w (slot + place) place)) before.number
      ∙ ap (λ rs. record initial { requirements = rs })
      (append_assoc initial.requirements (stops x slot place) (stop (after x (5 * place)) (slot + place) place ∷ [])
      ∙ ap (λ rs. initial.requirements ++ rs) (sym (map-range_with_len_more (λ p. stop (after x (5 * p)) (slot + p) p) 0 place place (omega arith))))));
  numbered = numbered;
  names = names;
  number = more_draws x y z 5 place before.number drawn;
}
