use Rattle.std.proofs.Common.{rules, refl, inr, subst}
use Rattle.std.proofs.lemmas.Int.{to_z-of_z}
use Rattle.std.specs.Int.{w128}
use Rattle.uhura_search.specs.declared.incumbent.Incumbent.{Incumbent}
use Rattle.uhura_search.specs.Shut.{IsDear}
use Rattle.uhura_search.proofs.trying.better.Goals as goal

pub returns-clause-bettered : goal.returns-clause-bettered
returns-clause-bettered c =
    let new : Incumbent = record { branch = c.copy_of.result; cost = c.cost_with.result } in
    inr (
      subst (λ v. IsDear c.args.plan.now c.args.best.now c.args.branch.now v → ⊥) (to_z-of_z w128 c.args.value c.ranges.value) c.if-is_dear.ensures,
      record { incumbent = new; is = refl; branch_is = c.copy_of.ensures; cost_is = search rules },
    )
