use Rattle.std.proofs.Common.{◌≡◌, ◌++◌, ◌∷◌, [], ap, sym, ◌∙◌, subst, length, Some, true≢false}
use Rattle.std.specs.Prelude.{slice_get}
use Rattle.std.proofs.lemmas.Option.{slice_get_within}
use Rattle.uhura_choice.specs.Children.{children}
use Rattle.uhura_choice.proofs.Prefixes.{sound-have_alternatives, prefix-entry}
use Rattle.uhura_check.proofs.Branches.{child-by, longer-by, none-behind}
use Rattle.uhura_check.proofs.picks.with_pick.Goals as goal

pub returns-in_default : goal.returns-in_default
returns-in_default c =
    none-behind c.args.plan.now.choices c.args.prefix.now c.args.pick
    (ap (λ p. slice_get c.args.plan.now.choices (length p)) (sym c.entries.ensures.entries) ∙ sym c.in_default.ensures.choice)

pub child-requires : goal.child-requires
child-requires c =
    let choices = c.args.plan.now.choices in
    let picks = c.args.prefix.now in
    let there : slice_get choices (length picks) ≡ Some c.in-Some.choice.now = ap (λ p. slice_get choices (length p)) (sym c.entries.ensures.entries) ∙ sym c.in-Some.ensures.choice in
    slice_get_within (children choices picks) c.child_index.result (picks ++ c.args.pick ∷ [])
    (subst (λ i. slice_get (children choices picks) i ≡ Some (picks ++ c.args.pick ∷ [])) (sym c.child_index.ensures)
    (child-by choices picks c.in-Some.choice.now c.args.pick there (c.is_entry.ensures.0 c.if-is_entry.true)))

pub returns-then-is_entry : goal.returns-then-is_entry
returns-then-is_entry c =
    let choices = c.args.plan.now.choices in
    let picks = c.args.prefix.now in
    let there : slice_get choices (length picks) ≡ Some c.in-Some.choice.now = ap (λ p. slice_get choices (length p)) (sym c.entries.ensures.entries) ∙ sym c.in-Some.ensures.choice in
    longer-by choices picks c.in-Some.choice.now c.args.pick c.child.result (sound-have_alternatives c.args.plan.now c.in-Some.ensures.sound) c.requires there
    (c.is_entry.ensures.0 c.if-is_entry.true) (subst (λ i. slice_get (children choices picks) i ≡ Some c.child.result) c.child_index.ensures c.child.ensures)

pub returns-else-is_entry : goal.returns-else-is_entry
returns-else-is_entry c = λ prefix.
    let choices = c.args.plan.now.choices in
    let picks = c.args.prefix.now in
    let there : slice_get choices (length picks) ≡ Some c.in-Some.choice.now = ap (λ p. slice_get choices (length p)) (sym c.entries.ensures.entries) ∙ sym c.in-Some.ensures.choice in
    true≢false (sym (c.is_entry.ensures.1 (prefix-entry choices picks c.args.pick [] c.in-Some.choice.now prefix there)) ∙ c.if-is_entry.false)
