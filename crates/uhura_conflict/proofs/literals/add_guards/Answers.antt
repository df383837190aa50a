use Rattle.std.proofs.Common.{◌≡◌, ◌≤◌, ◌+◌, ◌∷◌, ◌++◌, [], ℕ, List, Option, Some, take, length, sym, subst, arith}
use Rattle.std.specs.Prelude.{All, slice_get}
use Rattle.std.proofs.lemmas.List.{take_all}
use Rattle.uhura_plan.specs.declared.requirement.Requirement.{Requirement}
use Rattle.uhura_plan.specs.declared.guard.Literal.{Literal}
use Rattle.uhura_conflict.specs.Gathered.{IsSmallLiteral, AreAdded, AreGathered}
use Rattle.uhura_conflict.proofs.Gathering.{gathered-none, gathered-more, gathered-same, guards-small, take_found, within}
use Rattle.uhura_conflict.proofs.literals.add_guards.Goals as goal
use Rattle.uhura_conflict.proofs.literals.add_guards.Goals.{then-used-requirement, else-used-requirement}

pub loop-position-init : goal.loop-position-init
loop-position-init c = gathered-none c.args.used.now c.args.literals.now 16 c.requires.none

pub add_literals-requires : goal.add_literals-requires
add_literals-requires c =
    subst (λ (guard : List Literal). All IsSmallLiteral guard) (sym c.literals.ensures.literals)
    (guards-small c.args.plan.now c.loop-position.position c.in-Some.requirement.now c.requirements-position-end.ensures.sound (sym c.in-Some.ensures))

pub loop-position-preserved : goal.loop-position-preserved
loop-position-preserved c =
    let rs = c.args.plan.now.requirements in
    let at = c.loop-position.position in
    let r : Requirement = c.in-Some.requirement.now in
    let there : slice_get rs at ≡ Some r = sym c.in-Some.ensures in
    let next : take (at + 1) rs ≡ take at rs ++ r ∷ [] = take_found rs at r (within rs at r there) there in
    subst (λ (list : List Requirement). AreGathered list c.args.used.now c.if-used-requirement.literals) (sym next) (elim c.if-used-requirement.branch [
      | then-used-requirement w ↦
          let adds : AreAdded r.guard c.loop-position.literals w.add_literals.new.literals =
          subst (λ (guard : List Literal). AreAdded guard c.loop-position.literals w.add_literals.new.literals) w.literals.ensures.literals w.add_literals.ensures in
          subst (λ (literals : List (Option ℕ)). AreGathered (take at rs ++ r ∷ []) c.args.used.now literals) (sym w.literals-is)
          (gathered-more (take at rs) r c.args.used.now c.loop-position.literals w.add_literals.new.literals w.if-used-requirement.true adds c.loop-position.invariant)
      | else-used-requirement w ↦
          subst (λ (literals : List (Option ℕ)). AreGathered (take at rs ++ r ∷ []) c.args.used.now literals) (sym w.literals-is)
          (gathered-same (take at rs) r c.args.used.now c.loop-position.literals w.if-used-requirement.false c.loop-position.invariant)
    ])

pub returns : goal.returns
returns c =
    let rs = c.args.plan.now.requirements in
    let past : length rs ≤ c.loop-position.position = omega (arith, c.requirements-position-end.ensures.count, c.loop-position-test.false) in
    subst (λ (list : List Requirement). AreGathered list c.args.used.now c.loop-position.literals) (take_all c.loop-position.position rs past) c.loop-position.invariant
