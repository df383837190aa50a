-- A plan stays sound where its items change and keep their names, slots and numbers of alternatives.
use Rattle.std.proofs.Common.{◌≡◌, ◌≢◌, ℕ, ◌*◌, ◌<◌, List, length, map, fold, take, Option, None, Some, option_map, slice_get, IsSomeAnd, All, AllPairs, Contains, sym, ap, subst, ◌∙◌, arith}
use Rattle.std.proofs.lemmas.List.{length-map}
use Rattle.std.proofs.lemmas.List.Folds.{fold-map}
use Rattle.std.proofs.lemmas.Option.{slice_get-map}
use Rattle.uhura_plan.specs.declared.uncertain.Uncertain.{Uncertain}
use Rattle.uhura_plan.specs.declared.choice.Choice.{Choice}
use Rattle.uhura_plan.specs.declared.requirement.Requirement.{Requirement}
use Rattle.uhura_plan.specs.Lists.{Lists, end_names, uncertain_names, choice_names, requirement_names, slots}
use Rattle.uhura_plan.specs.Sound.{AreDistinct, IsSoundUncertain, IsSoundChoice, IsSoundRequirement, IsSound, alternatives_product}
use Rattle.uhura_plan.proofs.More.{KeepsLiterals, HasNoFewer, stay_sound}

-- the numbers of alternatives of the choices
abbrev pub alternative_counts : List Choice → List ℕ
alternative_counts choices = map (λ c. length c.alternatives) choices

-- a choice has an alternative at the place where their number is above it
counted : (alternative : ℕ) (choice : Option Choice) → IsSomeAnd choice (λ c. alternative < length c.alternatives) → IsSomeAnd (option_map (λ c. length c.alternatives) choice) (λ n. alternative < n)
counted alternative None there = there
counted alternative (Some c) there = there

of_count : (alternative : ℕ) (choice : Option Choice) → IsSomeAnd (option_map (λ c. length c.alternatives) choice) (λ n. alternative < n) → IsSomeAnd choice (λ c. alternative < length c.alternatives)
of_count alternative None there = there
of_count alternative (Some c) there = there

module _ (old new : List Choice) (same : alternative_counts new ≡ alternative_counts old) where
  -- a literal stays one about the choices
  pub IsLiteralAmong-kept : KeepsLiterals old new
  IsLiteralAmong-kept literal among =
      let Has : Option ℕ → Type 0 = λ n. IsSomeAnd n (λ n. literal.alternative < n) in
      let counts : slice_get (alternative_counts old) literal.choice ≡ slice_get (alternative_counts new) literal.choice = ap (λ ns. slice_get ns literal.choice) (sym same) in
      of_count literal.alternative (slice_get new literal.choice)
      (subst Has (sym (slice_get-map _ old literal.choice) ∙ (counts ∙ slice_get-map _ new literal.choice))
      (counted literal.alternative (slice_get old literal.choice) among))

-- lists of one image are of one length
same_length : {X Y Z : Type 0} (f : X → Z) (g : Y → Z) (xs : List X) (ys : List Y) → map f xs ≡ map g ys → length xs ≡ length ys
same_length f g xs ys same = sym (length-map xs f) ∙ (ap length same ∙ length-map ys g)

-- the product is that of the counts
product_of_counts : (choices : List Choice) → alternatives_product choices ≡ fold (λ n count. n * count) 1 (alternative_counts choices)
product_of_counts choices = sym (fold-map (λ n count. n * count) (λ c. length c.alternatives) 1 choices)

-- the new plan has the names, the slots and the numbers of alternatives of the old one
pub record KeepsParts (old new : Lists) : Type 0 where
  pub uncertains : uncertain_names new.uncertains ≡ uncertain_names old.uncertains
  pub ends : end_names new.uncertains ≡ end_names old.uncertains
  pub choices : choice_names new.choices ≡ choice_names old.choices
  pub alternatives : alternative_counts new.choices ≡ alternative_counts old.choices
  pub requirements : requirement_names new.requirements ≡ requirement_names old.requirements
  pub slots : slots new.requirements ≡ slots old.requirements

-- each choice is sound over the earlier ones
abbrev pub AreSoundChoices : List Choice → Type 0
AreSoundChoices choices = (place : ℕ) (choice : Choice) → slice_get choices place ≡ Some choice → IsSoundChoice (take place choices) choice

-- the new plan's items are sound
pub record HasSoundItems (old new : Lists) : Type 0 where
  pub uncertains : All (IsSoundUncertain (length old.events)) new.uncertains
  pub choices : AreSoundChoices new.choices
  pub requirements : All (IsSoundRequirement old) new.requirements

module _ (plan : Lists) (uncertains : List Uncertain) (choices : List Choice) (requirements : List Requirement) where
  -- the plan with other items than its events
  abbrev pub with_items : Lists
  with_items = record plan { uncertains = uncertains; choices = choices; requirements = requirements }

  -- it is sound where it keeps these parts and its items are sound
  pub IsSound-kept : IsSound plan → KeepsParts plan with_items → HasSoundItems plan with_items → IsSound with_items
  IsSound-kept sound keeps items =
      let more : length uncertains ≡ length plan.uncertains = same_length _ _ uncertains plan.uncertains keeps.uncertains in
      let product : alternatives_product choices ≡ alternatives_product plan.choices =
      product_of_counts choices ∙ (ap (fold (λ n count. n * count) 1) keeps.alternatives ∙ sym (product_of_counts plan.choices)) in
      let no_fewer : HasNoFewer plan with_items =
      record { events = omega arith; uncertains = omega (arith, more); literals = IsLiteralAmong-kept plan.choices choices keeps.alternatives } in
      record {
        counts = record {
          events = omega (arith, more, sound.counts.events);
          uncertains = omega (arith, more, sound.counts.uncertains);
          choices = omega (arith, same_length _ _ choices plan.choices keeps.choices, sound.counts.choices);
          product = omega (arith, product, sound.counts.product);
          requirements = omega (arith, same_length _ _ requirements plan.requirements keeps.requirements, sound.counts.requirements);
        };
        distinct = record {
          events = sound.distinct.events;
          ends = subst AreDistinct (sym keeps.ends) sound.distinct.ends;
          apart = subst (All (λ end. Contains plan.events end → ⊥)) (sym keeps.ends) sound.distinct.apart;
          uncertains = subst AreDistinct (sym keeps.uncertains) sound.distinct.uncertains;
          choices = subst AreDistinct (sym keeps.choices) sound.distinct.choices;
          requirements = subst AreDistinct (sym keeps.requirements) sound.distinct.requirements;
          slots = subst (λ ns. AllPairs ◌≢◌ ns) (sym keeps.slots) sound.distinct.slots;
        };
        events = sound.events;
        uncertains = items.uncertains;
        choices = items.choices;
        requirements = stay_sound plan with_items no_fewer requirements items.requirements;
      }
