-- What is looked up is what stands there.
use Rattle.std.proofs.Common.{◌≡◌, ap, sym, ◌∙◌, refl, Some, None, length, Option}
use Rattle.std.proofs.lemmas.Option.{slice_get_read, slice_get_past}
use Rattle.std.specs.Prelude.{slice_get, option_and_then}
use Rattle.uhura_plan.specs.declared.choice.Choice.{Choice}
use Rattle.uhura_choice.specs.declared.prefix.Pick.{Pick}
use Rattle.uhura_choice.specs.Walk.{later_pick}
use Rattle.uhura_choice.proofs.Prefixes.{sound-few_alternatives}
use Rattle.uhura_choice.proofs.walk.later_at.Goals as goal

pub later_pick-requires : goal.later_pick-requires
later_pick-requires c = sound-few_alternatives c.args.plan.now c.args.place c.in-Some.choice.now c.in-Some.ensures.sound (sym c.in-Some.ensures.choice)

pub returns-in-Some-get-clause-later : goal.returns-in-Some-get-clause-later
returns-in-Some-get-clause-later c =
    let picks = c.args.picks.now in
    let lookup = c.in-Some-get.ensures.lookup in
    let pick : slice_get picks c.args.place ≡ Some c.in-Some-get.pick.now = slice_get_read picks (length picks) c.args.place c.in-Some-get.pick.now refl lookup.3.0 lookup.1 in
    c.later_pick.ensures
    ∙ sym (
    ap (λ (o : Option Choice). option_and_then (λ c'. option_and_then (later_pick c') (slice_get picks c.args.place)) o) (sym c.in-Some.ensures.choice)
    ∙ ap (λ (o : Option Pick). option_and_then (later_pick c.in-Some.choice.now) o) pick
    )

pub returns-in-None-clause-later : goal.returns-in-None-clause-later
returns-in-None-clause-later c =
    let picks = c.args.picks.now in
    let lookup = c.in-None.ensures.lookup in
    let pick : slice_get picks c.args.place ≡ None = slice_get_past picks c.args.place lookup.3 in
    sym (
    ap (λ (o : Option Choice). option_and_then (λ c'. option_and_then (later_pick c') (slice_get picks c.args.place)) o) (sym c.in-Some.ensures.choice)
    ∙ ap (λ (o : Option Pick). option_and_then (later_pick c.in-Some.choice.now) o) pick
    )
