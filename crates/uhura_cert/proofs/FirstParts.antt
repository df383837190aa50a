-- The first things of a sound state are a sound state: its first events, all events and its first durations, and so on.
use Rattle.std.proofs.Common.{◌≡◌, ◌≢◌, ℕ, ◌*◌, ◌<◌, ◌≤◌, List, [], ◌∷◌, length, take, map, get_or, Some, slice_get, Contains, All, AllPairs, refl, sym, ap, subst, ◌∙◌, arith, length-take, get_or-take, ⊎_elim}
use Rattle.std.proofs.Math.Nat.{mul-le-mul_left}
use Rattle.std.proofs.lemmas.Bool.{cases_lt}
use Rattle.std.proofs.lemmas.List.{take-map, take_all, take-take}
use Rattle.std.proofs.lemmas.List.Elements.{All-take}
use Rattle.std.proofs.lemmas.Option.{slice_get_within, slice_get-get_or}
use Rattle.uhura_plan.specs.declared.limits.TheConstants.{BRANCHES}
use Rattle.uhura_plan.specs.declared.uncertain.Uncertain.{Uncertain}
use Rattle.uhura_plan.specs.declared.choice.Choice.{Choice}
use Rattle.uhura_plan.specs.declared.requirement.Requirement.{Requirement}
use Rattle.uhura_plan.specs.Lists.{Lists, end_names, slots}
use Rattle.uhura_plan.specs.Sound.{AreDistinct, IsName, IsSound, IsSoundUncertain, IsSoundChoice, IsSoundRequirement, alternatives_product}
use Rattle.uhura_veto.specs.declared.veto.Veto.{Veto}
use Rattle.uhura_veto.specs.Vetoes.{HasName, IsSoundVeto, IsVetoOf, AreVetoesOf, veto_name}
use Rattle.uhura_command.proofs.Beginnings.{slice_get-take}
use Rattle.uhura_command.proofs.Naming.{distinct_take}
use Rattle.uhura_command.proofs.Products.{product_of_first}

abbrev pub lists : List (List ℕ) → List Uncertain → List Choice → List Requirement → Lists
lists events uncertains choices requirements = record { events = events; uncertains = uncertains; choices = choices; requirements = requirements }

-- the first of some things have distinct names where all have
first_distinct : {X : Type 0} (name : X → List ℕ) (xs : List X) (n : ℕ) → AreDistinct (map name xs) → AreDistinct (map name (take n xs))
first_distinct name xs n distinct = subst AreDistinct (take-map name n xs) (distinct_take (map name xs) distinct n)

-- numbers differ among the first where they differ among all
first_differ : (ns : List ℕ) (n : ℕ) → AllPairs ◌≢◌ ns → AllPairs ◌≢◌ (take n ns)
first_differ ns n differ = λ i j d before within same.
    differ i j d before (omega (arith, within, length-take n ns))
    (sym (get_or-take n ns i d (omega (arith, before, within, length-take n ns))) ∙ (same ∙ get_or-take n ns j d (omega (arith, within, length-take n ns))))

pub none_of : {X : Type 0} (P : X → Type 0) → All P []
none_of P = λ k d within. absurd (omega (arith, within))

-- a requirement is sound over the same events, durations and choices
sound_along : (plan new : Lists) (r : Requirement) → new.events ≡ plan.events → new.uncertains ≡ plan.uncertains → new.choices ≡ plan.choices → IsSoundRequirement plan r → IsSoundRequirement new r
sound_along plan new r events uncertains choices s = record {
  name = s.name;
  slot = s.slot;
  from = rw (events, uncertains) s.from;
  to = rw (events, uncertains) s.to;
  two_events = s.two_events;
  lower = s.lower;
  upper = s.upper;
  ordered = s.ordered;
  guard = rw choices s.guard;
}

pub first_requirements : (plan : Lists) (n : ℕ) → IsSound plan → IsSound (lists plan.events plan.uncertains plan.choices (take n plan.requirements))
first_requirements plan n s = record {
  counts = record {
    events = s.counts.events;
    uncertains = s.counts.uncertains;
    choices = s.counts.choices;
    product = s.counts.product;
    requirements = omega (arith, s.counts.requirements, length-take n plan.requirements);
  };
  distinct = record {
    events = s.distinct.events;
    ends = s.distinct.ends;
    apart = s.distinct.apart;
    uncertains = s.distinct.uncertains;
    choices = s.distinct.choices;
    requirements = first_distinct (λ (r : Requirement). r.name) plan.requirements n s.distinct.requirements;
    slots = subst (AllPairs ◌≢◌) (take-map (λ (r : Requirement). r.slot) n plan.requirements) (first_differ (slots plan.requirements) n s.distinct.slots);
  };
  events = s.events;
  uncertains = s.uncertains;
  choices = s.choices;
  requirements = λ k d within.
      sound_along plan (lists plan.events plan.uncertains plan.choices (take n plan.requirements)) (get_or (take n plan.requirements) k d) refl refl refl
      (All-take (IsSoundRequirement plan) n plan.requirements s.requirements k d within);
}

-- the product of the first choices is no greater
first_product : (choices : List Choice) (n : ℕ) → ((place : ℕ) (choice : Choice) → slice_get choices place ≡ Some choice → IsSoundChoice (take place choices) choice)
    → alternatives_product choices ≤ BRANCHES → alternatives_product (take n choices) ≤ BRANCHES
first_product [] n sound few = omega (arith, ap alternatives_product (take_all n no_choices (omega arith)), few)
  where
    no_choices : List Choice
    no_choices = []
first_product (c ∷ cs) n sound few = ⊎_elim part whole (cases_lt n (length (c ∷ cs)))
  where
    part : n < length (c ∷ cs) → alternatives_product (take n (c ∷ cs)) ≤ BRANCHES
    part within =
        let d : Choice = get_or (c ∷ cs) n c in
        let there : slice_get (c ∷ cs) n ≡ Some d = slice_get-get_or (c ∷ cs) n c within in
        let some : 1 ≤ length d.alternatives = (sound n d there).some in
        let product = alternatives_product (take n (c ∷ cs)) in
        let more : product * 1 ≤ product * length d.alternatives = mul-le-mul_left product some in
        let all = product_of_first (c ∷ cs) n d (λ k e inside. (sound k (get_or (c ∷ cs) k e) (slice_get-get_or (c ∷ cs) k e inside)).some) there in
        omega (arith, more, all, few)

    whole : length (c ∷ cs) ≤ n → alternatives_product (take n (c ∷ cs)) ≤ BRANCHES
    whole end = omega (arith, ap alternatives_product (take_all n (c ∷ cs) end), few)

pub first_choices : (events : List (List ℕ)) (uncertains : List Uncertain) (choices : List Choice) (n : ℕ) → IsSound (lists events uncertains choices []) → IsSound (lists events uncertains (take n choices) [])
first_choices events uncertains choices n s = record {
  counts = record {
    events = s.counts.events;
    uncertains = s.counts.uncertains;
    choices = omega (arith, s.counts.choices, length-take n choices);
    product = first_product choices n s.choices s.counts.product;
    requirements = omega arith;
  };
  distinct = record {
    events = s.distinct.events;
    ends = s.distinct.ends;
    apart = s.distinct.apart;
    uncertains = s.distinct.uncertains;
    choices = first_distinct (λ (c : Choice). c.name) choices n s.distinct.choices;
    requirements = s.distinct.requirements;
    slots = s.distinct.slots;
  };
  events = s.events;
  uncertains = s.uncertains;
  choices = λ place choice at.
      let inside : place < length (take n choices) = slice_get_within (take n choices) place choice at in
      subst (λ earlier. IsSoundChoice earlier choice) (sym (take-take place n choices (omega (arith, inside, length-take n choices))))
      (s.choices place choice (slice_get-take choices n place choice at));
  requirements = none_of (IsSoundRequirement (lists events uncertains (take n choices) []));
}

pub first_uncertains : (events : List (List ℕ)) (uncertains : List Uncertain) (n : ℕ) → IsSound (lists events uncertains [] []) → IsSound (lists events (take n uncertains) [] [])
first_uncertains events uncertains n s = record {
  counts = record {
    events = omega (arith, s.counts.events, length-take n uncertains);
    uncertains = omega (arith, s.counts.uncertains, length-take n uncertains);
    choices = omega arith;
    product = s.counts.product;
    requirements = omega arith;
  };
  distinct = record {
    events = s.distinct.events;
    ends = first_distinct (λ (u : Uncertain). u.end) uncertains n s.distinct.ends;
    apart = subst (All (λ end. Contains events end → ⊥)) (take-map (λ (u : Uncertain). u.end) n uncertains) (All-take (λ end. Contains events end → ⊥) n (end_names uncertains) s.distinct.apart);
    uncertains = first_distinct (λ (u : Uncertain). u.name) uncertains n s.distinct.uncertains;
    choices = s.distinct.choices;
    requirements = s.distinct.requirements;
    slots = s.distinct.slots;
  };
  events = s.events;
  uncertains = All-take (IsSoundUncertain (length events)) n uncertains s.uncertains;
  choices = s.choices;
  requirements = none_of (IsSoundRequirement (lists events (take n uncertains) [] []));
}

pub first_events : (events : List (List ℕ)) (n : ℕ) → IsSound (lists events [] [] []) → IsSound (lists (take n events) [] [] [])
first_events events n s = record {
  counts = record {
    events = omega (arith, s.counts.events, length-take n events);
    uncertains = omega arith;
    choices = omega arith;
    product = s.counts.product;
    requirements = omega arith;
  };
  distinct = record {
    events = distinct_take events s.distinct.events n;
    ends = s.distinct.ends;
    apart = none_of (λ end. Contains (take n events) end → ⊥);
    uncertains = s.distinct.uncertains;
    choices = s.distinct.choices;
    requirements = s.distinct.requirements;
    slots = s.distinct.slots;
  };
  events = All-take IsName n events s.events;
  uncertains = none_of (IsSoundUncertain (length (take n events)));
  choices = s.choices;
  requirements = none_of (IsSoundRequirement (lists (take n events) [] [] []));
}

pub first_vetoes : (plan : Lists) (vetoes : List Veto) (n : ℕ) → AreVetoesOf plan vetoes → AreVetoesOf plan (take n vetoes)
first_vetoes plan vetoes n are = record {
  sound = record {
    count = omega (arith, are.sound.count, length-take n vetoes);
    names = All-take HasName n vetoes are.sound.names;
    distinct = first_distinct veto_name vetoes n are.sound.distinct;
    each = All-take IsSoundVeto n vetoes are.sound.each;
  };
  there = All-take (IsVetoOf plan) n vetoes are.there;
}
