use Rattle.std.proofs.Common.{rules, SFits, ℤ, pos, subst}
use Rattle.std.specs.Prelude.{◌≤ℤ◌}
use Rattle.std.specs.Bool.{Decides}
use Rattle.std.specs.Int.{w128}
use Rattle.std.proofs.lemmas.Int.{to_z-of_z}
use Rattle.uhura_choice.proofs.Earlier.{earlier-irreflexive, earlier-trans}
use Rattle.uhura_check.proofs.Reaching.{reaches-not_earlier, front-not_earlier}
use Rattle.uhura_check.proofs.enough.reaches.Goals as goal

pub returns-in-Equal : goal.returns-in-Equal
returns-in-Equal c =
    let fits : SFits w128 c.args.shown = search rules in
    reaches-not_earlier c.args.shown c.args.cost c.args.prefix.now c.args.branch.now c.is_as_much.result (front-not_earlier c.args.prefix.now c.args.branch.now c.in-Equal.ensures)
    (subst (λ (z : ℤ). Decides c.is_as_much.result (pos c.args.cost ≤ℤ z)) (to_z-of_z w128 c.args.shown fits) c.is_as_much.ensures)

pub returns-in-Greater : goal.returns-in-Greater
returns-in-Greater c =
    let fits : SFits w128 c.args.shown = search rules in
    reaches-not_earlier c.args.shown c.args.cost c.args.prefix.now c.args.branch.now c.is_as_much-in-Greater.result
    (λ earlier. earlier-irreflexive c.args.prefix.now (earlier-trans c.args.prefix.now c.args.branch.now c.args.prefix.now earlier c.in-Greater.ensures))
    (subst (λ (z : ℤ). Decides c.is_as_much-in-Greater.result (pos c.args.cost ≤ℤ z)) (to_z-of_z w128 c.args.shown fits) c.is_as_much-in-Greater.ensures)
