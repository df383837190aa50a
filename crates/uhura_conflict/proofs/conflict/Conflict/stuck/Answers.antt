use Rattle.std.proofs.Common.{◌≡◌, ◌<◌, ◌≤◌, ◌∙◌, ap, subst, sym, ℕ, List, map, arith}
use Rattle.std.specs.Prelude.{All, IfOk}
use Rattle.std.proofs.lemmas.List.Elements.{All-weaker}
use Rattle.uhura_net.specs.declared.place.Place.{Place}
use Rattle.uhura_net.specs.declared.place.TheConstants.{PLACES}
use Rattle.uhura_conflict.specs.Learned.{places_in}
use Rattle.uhura_conflict.specs.Literals.{AreActiveTogether, AreLiteralsOf}
use Rattle.uhura_conflict.proofs.Walking.{places_of_walk, inside_of_walk, ones_of_walk}
use Rattle.uhura_conflict.proofs.conflict.Conflict.stuck.Goals as goal

pub of_pairs-requires-clause-inside : goal.of_pairs-requires-clause-inside
of_pairs-requires-clause-inside c =
    subst (λ (pairs : List (Place × ℕ)). All (λ (pair : Place × ℕ). pair.0.0 < PLACES) pairs) (sym c.in_ok-walk_pairs.ensures) (inside_of_walk c.args.cycle.now c.requires.inside)

pub of_pairs-requires-clause-some : goal.of_pairs-requires-clause-some
of_pairs-requires-clause-some c =
    subst (λ (pairs : List (Place × ℕ)). All (λ (pair : Place × ℕ). 1 ≤ pair.1) pairs) (sym c.in_ok-walk_pairs.ensures)
    (All-weaker (λ (pair : Place × ℕ). pair.1 ≡ 1) (λ (pair : Place × ℕ). 1 ≤ pair.1) (λ pair one. omega (arith, one)) (map (λ (place : Place). (place, 1)) c.args.cycle.now) (ones_of_walk c.args.cycle.now))

pub of_pairs-requires-clause-walk : goal.of_pairs-requires-clause-walk
of_pairs-requires-clause-walk c = λ stuck.
    subst (λ (pairs : List (Place × ℕ)). All (λ (pair : Place × ℕ). pair.1 ≡ 1) pairs) (sym c.in_ok-walk_pairs.ensures) (ones_of_walk c.args.cycle.now)

pub of_pairs-requires-clause-together : goal.of_pairs-requires-clause-together
of_pairs-requires-clause-together c =
    let same : places_in c.in_ok-walk_pairs.field-0.items ≡ c.args.cycle.now = ap places_in c.in_ok-walk_pairs.ensures ∙ places_of_walk c.args.cycle.now in
    subst (λ places. AreActiveTogether c.args.plan.now places) (sym same) c.requires.together

pub returns-clause-literals : goal.returns-clause-literals
returns-clause-literals c =
    let same : places_in c.in_ok-walk_pairs.field-0.items ≡ c.args.cycle.now = ap places_in c.in_ok-walk_pairs.ensures ∙ places_of_walk c.args.cycle.now in
    subst (λ places. IfOk c.of_pairs.result (λ it. AreLiteralsOf c.args.plan.now places it.literals)) same c.of_pairs.ensures.literals
