use Rattle.std.proofs.Common.{subst, sym, []}
use Rattle.uhura_choice.specs.Branch.{IsPrefix}
use Rattle.uhura_choice.specs.Walk.{IsFirstFrom}
use Rattle.uhura_choice.proofs.Prefixes.{sound-have_alternatives, starts-prefix}
use Rattle.uhura_choice.proofs.Fillings.{first-of_all}
use Rattle.uhura_choice.proofs.walk.first_branch.Goals as goal

pub first_from-requires : goal.first_from-requires
first_from-requires c =
    subst (λ p. IsPrefix c.args.plan.now.choices p) (sym c.empty.ensures)
    (starts-prefix c.args.plan.now.choices [] (sound-have_alternatives c.args.plan.now c.choices.ensures.sound) tt)

pub returns : goal.returns
returns c =
    first-of_all c.args.plan.now.choices c.first_from.result
    (subst (λ p. IsFirstFrom c.args.plan.now.choices p c.first_from.result) c.empty.ensures c.first_from.ensures)
