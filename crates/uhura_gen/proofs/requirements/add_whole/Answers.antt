-- The name is new, the events are there, and with it there is one requirement more.
use Rattle.std.proofs.Common.{◌+◌, ◌-◌, ◌*◌, ◌/◌, ◌%◌, pos, subst, ap, ◌∙◌, arith}
use Rattle.uhura_plan.specs.Refusals.{Answers}
use Rattle.uhura_gen.specs.Draws.{following, drawn}
use Rattle.uhura_gen.specs.Items.{priced, whole}
use Rattle.uhura_gen.proofs.Adding.{handed_on}
use Rattle.uhura_gen.proofs.Making.{kept_positive, whole_answer, whole_stated, adds_requirement}
use Rattle.uhura_gen.proofs.requirements.add_whole.Goals as goal

pub unrefused-requires : goal.unrefused-requires
unrefused-requires c =
    subst (λ o. Answers o c.add_requirement.result)
    (whole_answer c.args.plan.now c.whole_name.result c.name_of.result c.name_of-2.result c.unbounded.result c.priced.result c.args.generator.now.x c.args.events (c.args.events / 4)
    (record {
      name_is = c.whole_name.ensures;
      from_is = c.name_of.ensures;
      to_is = c.name_of-2.ensures;
      lower_is = c.unbounded.ensures.side;
      upper_is =
          c.priced.ensures.side
          ∙ (ap (λ b. priced b c.price-price.result) (kept_positive c.draw-bound.result (omega (arith, c.draw-bound.ensures.below, c.requires.few)) ∙ ap (λ n. pos n) c.draw-bound.ensures.draw)
          ∙ ap (priced (pos (drawn c.args.generator.now.x 0 (10 * c.args.events)))) (c.price-price.ensures.draw ∙ ap (λ y. 1 + following y % 50) c.draw-bound.ensures.number));
    })
    c.requires.numbered c.requires.names c.requires.some c.requires.events c.requires.few (omega (arith, c.requires.few)))
    c.add_requirement.ensures.answer

pub returns : goal.returns
returns c =
    handed_on c.unrefused.result c.add_requirement.result c.unrefused.ensures
    (adds_requirement c.args.plan.now c.add_requirement.new.self _ (whole c.args.generator.now.x (c.args.events - 1 + c.args.events / 4) c.args.events)
    (whole_stated c.args.plan.now c.whole_name.result c.name_of.result c.name_of-2.result c.unbounded.result c.priced.result c.args.generator.now.x c.args.events (c.args.events / 4)
    (record {
      name_is = c.whole_name.ensures;
      from_is = c.name_of.ensures;
      to_is = c.name_of-2.ensures;
      lower_is = c.unbounded.ensures.side;
      upper_is =
          c.priced.ensures.side
          ∙ (ap (λ b. priced b c.price-price.result) (kept_positive c.draw-bound.result (omega (arith, c.draw-bound.ensures.below, c.requires.few)) ∙ ap (λ n. pos n) c.draw-bound.ensures.draw)
          ∙ ap (priced (pos (drawn c.args.generator.now.x 0 (10 * c.args.events)))) (c.price-price.ensures.draw ∙ ap (λ y. 1 + following y % 50) c.draw-bound.ensures.number));
    })
    c.requires.numbered c.requires.names c.requires.some c.requires.events c.requires.few))
    c.add_requirement.ensures.ok
