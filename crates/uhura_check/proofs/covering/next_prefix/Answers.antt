use Rattle.std.proofs.Common.{◌≡◌, List, sym, ◌∙◌, subst, true≢false}
use Rattle.std.specs.Prelude.{IfSome}
use Rattle.uhura_choice.specs.declared.prefix.Pick.{Pick}
use Rattle.uhura_choice.specs.Order.{IsFrontOf}
use Rattle.uhura_check.proofs.Leaving.{next-first, next-comes}
use Rattle.uhura_check.proofs.covering.next_prefix.Goals as goal

pub returns-in_default-prefix_of_first-clause-next : goal.returns-in_default-prefix_of_first-clause-next
returns-in_default-prefix_of_first-clause-next c = λ before covers comes.
    c.in_default-prefix_of_first.ensures (next-first c.args.plan.now.choices c.args.answer.now before c.args.picks.now c.args.next.now c.in-Some.branch c.in-Some.is covers comes)

pub returns-then-may_stand-clause-next : goal.returns-then-may_stand-clause-next
returns-then-may_stand-clause-next c = λ before covers.
    let found = c.in-Some-prefix_of_first in
    next-comes c.args.plan.now.choices c.args.answer.now before c.args.picks.now c.args.next.now c.in-Some.branch found.prefix c.in-Some.is covers found.ensures.picked found.ensures.is_prefix found.ensures.first (c.may_stand.ensures.0 c.if-may_stand.true)

pub returns-else-may_stand-clause-next : goal.returns-else-may_stand-clause-next
returns-else-may_stand-clause-next c = λ before covers comes.
    let found = c.in-Some-prefix_of_first in
    true≢false (sym (c.may_stand.ensures.1 (subst (λ (p : List Pick). IfSome c.args.answer.now (λ a. IsFrontOf p a.0 → p ≡ a.0)) (sym found.ensures.picked) comes.whole)) ∙ c.if-may_stand.false)
