-- Each part finds what it needs, and together they are the generated plan.
use Rattle.std.proofs.Common.{◌≡◌, ◌-◌, ◌/◌, ◌++◌, length, subst, sym, ap, ◌∙◌, arith}
use Rattle.uhura_gen.specs.Generator.{stops}
use Rattle.uhura_gen.specs.Numbered.{IsNumbered, HasRequirements}
use Rattle.uhura_gen.proofs.Generating.{count_events, all_durations, events_at_stops, made_in_turn}
use Rattle.uhura_gen.proofs.Numbering.{numbered_events}
use Rattle.uhura_gen.proofs.plan.plan_of.Goals as goal

pub add_durations-requires-clause-numbered : goal.add_durations-requires-clause-numbered
add_durations-requires-clause-numbered c = subst IsNumbered (sym c.in_ok-add_events.ensures) (numbered_events c.args.events)

pub add_durations-requires-clause-events : goal.add_durations-requires-clause-events
add_durations-requires-clause-events c = omega (arith, count_events c.add_events.new.plan c.args.events c.in_ok-add_events.ensures)

pub add_durations-requires-clause-few : goal.add_durations-requires-clause-few
add_durations-requires-clause-few c = omega (arith, count_events c.add_events.new.plan c.args.events c.in_ok-add_events.ensures, c.requires.events.most)

pub add_steps-requires-clause-events : goal.add_steps-requires-clause-events
add_steps-requires-clause-events c =
    ap (λ p. length p.events) (c.in_ok-add_choices.ensures.choices)
    ∙ (ap (λ p. length p.events) c.in_ok-add_durations.ensures.durations
    ∙ count_events c.add_events.new.plan c.args.events c.in_ok-add_events.ensures)

pub add_stops-requires-clause-names : goal.add_stops-requires-clause-names
add_stops-requires-clause-names c =
    subst (λ n. HasRequirements c.add_steps.new.plan (n - 1) 0)
    (sym (events_at_stops c.args.number c.args.events c.add_durations.new.generator.x c.add_choices.new.generator.x c.add_events.new.plan c.add_durations.new.plan c.add_choices.new.plan c.add_steps.new.plan
    c.in_ok-add_events.ensures c.in_ok-add_durations.ensures.durations c.in_ok-add_choices.ensures.choices c.in_ok-add_steps.ensures.steps))
    c.in_ok-add_steps.ensures.names

pub add_stops-requires-clause-durations : goal.add_stops-requires-clause-durations
add_stops-requires-clause-durations c =
    ap (λ p. length p.uncertains) c.in_ok-add_steps.ensures.steps
    ∙ (ap (λ p. length p.uncertains) c.in_ok-add_choices.ensures.choices
    ∙ all_durations c.add_events.new.plan c.add_durations.new.plan c.args.number (c.args.events / 4) c.in_ok-add_durations.ensures.durations)

pub add_stops-requires-clause-events : goal.add_stops-requires-clause-events
add_stops-requires-clause-events c =
    let count : length c.add_steps.new.plan.events ≡ c.args.events =
    (events_at_stops c.args.number c.args.events c.add_durations.new.generator.x c.add_choices.new.generator.x c.add_events.new.plan c.add_durations.new.plan c.add_choices.new.plan c.add_steps.new.plan
    c.in_ok-add_events.ensures c.in_ok-add_durations.ensures.durations c.in_ok-add_choices.ensures.choices c.in_ok-add_steps.ensures.steps) in
    omega (arith, count, c.requires.events.fourfold)

pub add_stops-requires-clause-few : goal.add_stops-requires-clause-few
add_stops-requires-clause-few c =
    let count : length c.add_steps.new.plan.events ≡ c.args.events =
    (events_at_stops c.args.number c.args.events c.add_durations.new.generator.x c.add_choices.new.generator.x c.add_events.new.plan c.add_durations.new.plan c.add_choices.new.plan c.add_steps.new.plan
    c.in_ok-add_events.ensures c.in_ok-add_durations.ensures.durations c.in_ok-add_choices.ensures.choices c.in_ok-add_steps.ensures.steps) in
    omega (arith, count, c.requires.events.most)

pub add_whole-requires-clause-names : goal.add_whole-requires-clause-names
add_whole-requires-clause-names c =
    subst (λ n. HasRequirements c.add_stops.new.plan (n - 1) (c.args.events / 4))
    (events_at_stops c.args.number c.args.events c.add_durations.new.generator.x c.add_choices.new.generator.x c.add_events.new.plan c.add_durations.new.plan c.add_choices.new.plan c.add_steps.new.plan
    c.in_ok-add_events.ensures c.in_ok-add_durations.ensures.durations c.in_ok-add_choices.ensures.choices c.in_ok-add_steps.ensures.steps)
    c.in_ok-add_stops.ensures.names

pub add_whole-requires-clause-events : goal.add_whole-requires-clause-events
add_whole-requires-clause-events c =
    ap (λ p. length p.events) c.in_ok-add_stops.ensures.stops
    ∙ (events_at_stops c.args.number c.args.events c.add_durations.new.generator.x c.add_choices.new.generator.x c.add_events.new.plan c.add_durations.new.plan c.add_choices.new.plan c.add_steps.new.plan
    c.in_ok-add_events.ensures c.in_ok-add_durations.ensures.durations c.in_ok-add_choices.ensures.choices c.in_ok-add_steps.ensures.steps)

pub returns : goal.returns
returns c =
    made_in_turn c.args.number c.args.events c.add_durations.new.generator.x c.add_choices.new.generator.x c.add_steps.new.generator.x c.add_stops.new.generator.x
    c.add_events.new.plan c.add_durations.new.plan c.add_choices.new.plan c.add_steps.new.plan c.add_stops.new.plan c.add_whole.new.plan
    (record {
      events_made = c.in_ok-add_events.ensures;
      durations_made = c.in_ok-add_durations.ensures.durations;
      at_choices = c.in_ok-add_durations.ensures.number;
      choices_made = c.in_ok-add_choices.ensures.choices;
      at_steps = c.in_ok-add_choices.ensures.number;
      steps_made = c.in_ok-add_steps.ensures.steps;
      at_stops = c.in_ok-add_steps.ensures.number;
      stops_made =
          c.in_ok-add_stops.ensures.stops
          ∙ ap (λ n. record c.add_steps.new.plan {
            requirements = c.add_steps.new.plan.requirements ++ stops c.add_steps.new.generator.x (n - 1) (c.args.events / 4);
          }) (events_at_stops c.args.number c.args.events c.add_durations.new.generator.x c.add_choices.new.generator.x c.add_events.new.plan c.add_durations.new.plan c.add_choices.new.plan c.add_steps.new.plan
          c.in_ok-add_events.ensures c.in_ok-add_durations.ensures.durations c.in_ok-add_choices.ensures.choices c.in_ok-add_steps.ensures.steps);
      at_whole = c.in_ok-add_stops.ensures.number;
      whole_made = c.in_ok-add_whole.ensures;
    })
