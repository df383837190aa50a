-- The parts one after another make the generated plan.
use Rattle.std.proofs.Common.{◌≡◌, ℕ, ◌+◌, ◌-◌, ◌*◌, ◌/◌, ◌++◌, length, ap, ◌∙◌}
use Rattle.std.proofs.lemmas.List.FromFn.{length-map-range_with_len}
use Rattle.uhura_plan.specs.Lists.{Lists}
use Rattle.uhura_plan.specs.Edits.{with_requirement}
use Rattle.uhura_gen.specs.Draws.{after}
use Rattle.uhura_gen.specs.Names.{event_name}
use Rattle.uhura_gen.specs.Items.{duration, whole}
use Rattle.uhura_gen.specs.Generator.{plan_of_events, durations, choices, steps, stops, generated}

-- how many events there are
pub count_events : (plan : Lists) (count : ℕ) → plan ≡ plan_of_events count → length plan.events ≡ count
count_events plan count are = ap (λ p. length p.events) are ∙ length-map-range_with_len event_name 0 count

-- how many durations there are
pub all_durations : (initial plan : Lists) (x count : ℕ) → plan ≡ record initial { uncertains = durations x count } → length plan.uncertains ≡ count
all_durations initial plan x count are = ap (λ p. length p.uncertains) are ∙ length-map-range_with_len (λ p. duration (after x (4 * p)) p) 0 count

-- there are as many events before the requirements on durations' ends
pub events_at_stops : (number events x1 x2 : ℕ) (p1 p2 p3 p4 : Lists) → p1 ≡ plan_of_events events → p2 ≡ record p1 { uncertains = durations number (events / 4) } → p3 ≡ record p2 { choices = choices x1 3 }
    → p4 ≡ record p3 { requirements = steps x2 (events - 1) } → length p4.events ≡ events
events_at_stops number events x1 x2 p1 p2 p3 p4 events_made durations_made choices_made steps_made =
    ap (λ p. length p.events) steps_made
    ∙ (ap (λ p. length p.events) choices_made
    ∙ (ap (λ p. length p.events) durations_made
    ∙ count_events p1 events events_made))

-- what the parts have made, with the generator's numbers between them
pub record MadeInTurn (number events : ℕ) (x1 x2 x3 x4 : ℕ) (p1 p2 p3 p4 p5 p6 : Lists) : Type 0 where
  pub events_made : p1 ≡ plan_of_events events
  pub durations_made : p2 ≡ record p1 { uncertains = durations number (events / 4) }
  pub at_choices : x1 ≡ after number (4 * (events / 4))
  pub choices_made : p3 ≡ record p2 { choices = choices x1 3 }
  pub at_steps : x2 ≡ after x1 9
  pub steps_made : p4 ≡ record p3 { requirements = steps x2 (events - 1) }
  pub at_stops : x3 ≡ after x2 (4 * (events - 1))
  pub stops_made : p5 ≡ record p4 { requirements = p4.requirements ++ stops x3 (events - 1) (events / 4) }
  pub at_whole : x4 ≡ after x3 (5 * (events / 4))
  pub whole_made : p6 ≡ with_requirement p5 (whole x4 (events - 1 + events / 4) events)

-- they are the generated plan
pub made_in_turn : (number events x1 x2 x3 x4 : ℕ) (p1 p2 p3 p4 p5 p6 : Lists) → MadeInTurn number events x1 x2 x3 x4 p1 p2 p3 p4 p5 p6 → p6 ≡ generated number events
made_in_turn number events x1 x2 x3 x4 p1 p2 p3 p4 p5 p6 made =
    let y1 = after number (4 * (events / 4)) in
    let y2 = after y1 9 in
    let y3 = after y2 (4 * (events - 1)) in
    let y4 = after y3 (5 * (events / 4)) in
    let g2 : x2 ≡ y2 = made.at_steps ∙ ap (λ x. after x 9) made.at_choices in
    let g3 : x3 ≡ y3 = made.at_stops ∙ ap (λ x. after x (4 * (events - 1))) g2 in
    let g4 : x4 ≡ y4 = made.at_whole ∙ ap (λ x. after x (5 * (events / 4))) g3 in
    let q2 : Lists = record (plan_of_events events) { uncertains = durations number (events / 4) } in
    let q3 : Lists = record q2 { choices = choices y1 3 } in
    let q4 : Lists = record q3 { requirements = steps y2 (events - 1) } in
    let q5 : Lists = record q4 { requirements = q4.requirements ++ stops y3 (events - 1) (events / 4) } in
    let e2 : p2 ≡ q2 = made.durations_made ∙ ap (λ (p : Lists). record p { uncertains = durations number (events / 4) }) made.events_made in
    let e3 : p3 ≡ q3 = made.choices_made ∙ (ap (λ (p : Lists). record p { choices = choices x1 3 }) e2 ∙ ap (λ x. record q2 { choices = choices x 3 }) made.at_choices) in
    let e4 : p4 ≡ q4 = made.steps_made ∙ (ap (λ (p : Lists). record p { requirements = steps x2 (events - 1) }) e3 ∙ ap (λ x. record q3 { requirements = steps x (events - 1) }) g2) in
    let e5 : p5 ≡ q5 =
    made.stops_made
    ∙ (ap (λ (p : Lists). record p { requirements = p.requirements ++ stops x3 (events - 1) (events / 4) }) e4
    ∙ ap (λ x. record q4 { requirements = q4.requirements ++ stops x (events - 1) (events / 4) }) g3) in
    made.whole_made
    ∙ (ap (λ p. with_requirement p (whole x4 (events - 1 + events / 4) events)) e5
    ∙ ap (λ x. with_requirement q5 (whole x (events - 1 + events / 4) events)) g4)
