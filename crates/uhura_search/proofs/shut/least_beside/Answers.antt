use Rattle.std.specs.Int.{w128}
use Rattle.std.specs.Prelude.{◌≡◌, pos, ◌+ℤ◌}
use Rattle.std.proofs.Common.{rules, SFits, to_z, of_z, sym, ap, ◌∙◌}
use Rattle.std.proofs.lemmas.Int.{to_z-of_z}
use Rattle.uhura_search.specs.Shut.{left_of}
use Rattle.uhura_search.proofs.Enough.{earlier-least, later-least, same-least, proper-least, as-long, not-as_long}
use Rattle.uhura_search.proofs.shut.least_beside.Goals as goal

pub returns-in-Less : goal.returns-in-Less
returns-in-Less c =
    let left = c.left_of-left.result in
    let least = c.one_more.result in
    let fits : SFits w128 left = search rules in
    let least_fits : SFits w128 least = search rules in
    let more : least ≡ left_of c.args.plan.now c.args.best.now c.args.prefix.now +ℤ pos 1 =
    c.one_more.ensures ∙ ap (λ n. n +ℤ pos 1) (to_z-of_z w128 left fits ∙ c.left_of-left.ensures.left) in
    earlier-least c.args.plan.now c.args.best.now c.args.prefix.now (to_z w128 (of_z w128 least)) c.in-Less.ensures (to_z-of_z w128 least least_fits ∙ more)

pub returns-in-Greater : goal.returns-in-Greater
returns-in-Greater c =
    let left = c.left_of-left.result in
    let fits : SFits w128 left = search rules in
    later-least c.args.plan.now c.args.best.now c.args.prefix.now (to_z w128 (of_z w128 left)) c.in-Greater.ensures (to_z-of_z w128 left fits ∙ c.left_of-left.ensures.left)

pub returns-then-is_as_long : goal.returns-then-is_as_long
returns-then-is_as_long c =
    let left = c.left_of-left.result in
    let fits : SFits w128 left = search rules in
    same-least c.args.plan.now c.args.best.now c.args.prefix.now (to_z w128 (of_z w128 left)) c.in-Equal.ensures
    (as-long c.args.prefix.now c.args.best.now.branch (sym c.is_as_long.ensures ∙ c.if-is_as_long.true)) (to_z-of_z w128 left fits ∙ c.left_of-left.ensures.left)

pub returns-else-is_as_long : goal.returns-else-is_as_long
returns-else-is_as_long c =
    proper-least c.args.plan.now c.args.best.now c.args.prefix.now c.requires.prefix c.requires.branch c.in-Equal.ensures
    (not-as_long c.args.prefix.now c.args.best.now.branch (sym c.is_as_long.ensures ∙ c.if-is_as_long.false))
