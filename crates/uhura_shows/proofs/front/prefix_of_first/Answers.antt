use Rattle.std.proofs.Common.{◌≡◌, true≢false, sym, ◌∙◌, subst}
use Rattle.uhura_choice.specs.Order.{IsFrontOf}
use Rattle.uhura_choice.specs.Walk.{IsFirstFrom}
use Rattle.uhura_shows.proofs.Behind.{first-unique, front-take}
use Rattle.uhura_shows.proofs.front.prefix_of_first.Goals as goal

pub returns-else-is_same : goal.returns-else-is_same
returns-else-is_same c = λ first.
    let choices = c.args.plan.now.choices in
    let picks = c.args.picks.now in
    let branch = c.args.branch.now in
    let begun : IsFrontOf picks branch = subst (λ b. IsFrontOf picks b) c.entries.ensures.entries (c.begins.ensures.0 c.if-not-begins.false) in
    let front : c.front_of.result ≡ picks = c.front_of.ensures ∙ front-take picks branch begun in
    let own : IsFirstFrom choices picks c.first_branch_with-first.result = subst (λ p. IsFirstFrom choices p c.first_branch_with-first.result) front c.first_branch_with-first.ensures in
    let same : c.first_branch_with-first.result ≡ branch = first-unique choices picks c.first_branch_with-first.result branch own first in
    true≢false (sym (c.is_same.ensures.1 (c.entries-2.ensures.entries ∙ same ∙ sym c.entries-3.ensures.entries)) ∙ c.if-is_same.false)
