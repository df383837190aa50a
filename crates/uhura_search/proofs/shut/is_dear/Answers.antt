use Rattle.std.specs.Int.{w128}
use Rattle.std.specs.Bool.{MatchBool}
use Rattle.std.proofs.Common.{subst}
use Rattle.std.proofs.lemmas.Int.{to_z-of_z}
use Rattle.uhura_conflict.specs.Store.{IsReachedBy}
use Rattle.uhura_search.proofs.Enough.{dear-match}
use Rattle.uhura_search.proofs.shut.is_dear.Goals as goal

pub returns : goal.returns
returns c =
    let least = c.least_enough.result in
    dear-match c.is_reached.result c.args.plan.now c.args.best.now c.args.prefix.now least c.args.value c.least_enough.ensures
    (subst (λ v. MatchBool c.is_reached.result (IsReachedBy least v) (IsReachedBy least v → ⊥)) (to_z-of_z w128 c.args.value c.ranges.value) c.is_reached.ensures)
