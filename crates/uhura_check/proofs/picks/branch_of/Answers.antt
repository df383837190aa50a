use Rattle.std.proofs.Common.{◌≡◌, ◌++◌, ◌∷◌, [], List, ap, sym, ◌∙◌, subst, length, arith}
use Rattle.uhura_choice.specs.declared.prefix.Pick.{Pick}
use Rattle.uhura_choice.specs.Branch.{IsPrefix}
use Rattle.uhura_choice.proofs.Prefixes.{sound-have_alternatives}
use Rattle.uhura_check.specs.Confirmed.{pick_of, picks_of}
use Rattle.uhura_check.proofs.Branches.{nothing-prefix, picks-more, no-branch, whole-branch}
use Rattle.uhura_check.proofs.picks.branch_of.Goals as goal

pub loop-place-init : goal.loop-place-init
loop-place-init c = record {
  so_far = c.empty-front.ensures;
  prefix =
      subst (λ p. IsPrefix c.args.plan.now.choices p) (sym c.empty-front.ensures)
      (nothing-prefix c.args.plan.now.choices (sound-have_alternatives c.args.plan.now c.choices-place-end.ensures.sound));
}

pub returns-in_default : goal.returns-in_default
returns-in_default c =
    no-branch c.args.plan.now.choices c.args.literals.now c.loop-place.place c.loop-place.front c.loop-place.invariant.so_far
    (omega (arith, c.loop-place-test.true, c.choices-place-end.ensures.count))
    (subst (λ (x : Pick). IsPrefix c.args.plan.now.choices (c.loop-place.front ++ x ∷ []) → ⊥) c.pick_of.ensures c.in_default.ensures)

pub loop-place-preserved : goal.loop-place-preserved
loop-place-preserved c = record {
  so_far =
      c.in-Some.ensures.picks_are
      ∙ ap (λ (x : Pick). c.loop-place.front ++ x ∷ []) c.pick_of.ensures
      ∙ ap (λ (l : List Pick). l ++ pick_of c.args.literals.now c.loop-place.place ∷ []) c.loop-place.invariant.so_far
      ∙ sym (picks-more c.args.literals.now c.loop-place.place);
  prefix = c.in-Some.ensures.is_prefix;
}

pub returns : goal.returns
returns c =
    let all : c.loop-place.place ≡ length c.args.plan.now.choices = omega (arith, c.loop-place.auto.place-end, c.loop-place-test.false, c.choices-place-end.ensures.count) in
    whole-branch c.args.plan.now.choices c.args.literals.now c.loop-place.front (c.loop-place.invariant.so_far ∙ ap (picks_of c.args.literals.now) all) c.loop-place.invariant.prefix
