use Rattle.std.proofs.Common.{◌≡◌, Some, None, get_or, inl, inr, sym, subst, refl, ◌∙◌, arith}
use Rattle.std.proofs.lemmas.Bool.{cases_eq, cases_lt}
use Rattle.std.proofs.lemmas.List.{get_or_past}
use Rattle.uhura_conflict.proofs.Asking.{asked_picked, asked_unpicked}
use Rattle.uhura_conflict.proofs.literals.applies.Goals as goal
use Rattle.uhura_conflict.proofs.literals.applies.Goals.{in-Some+else-not-is_picked, in_default}

pub loop-choice-preserved : goal.loop-choice-preserved
loop-choice-preserved c = λ literal below asks.
    let literals = c.args.literals.now in
    let choice = c.loop-choice.choice in
    elim (cases_eq literal.choice choice) [
      | inl same ↦ elim c.match-literals-choice.branch [
        | in-Some+else-not-is_picked w ↦
            asked_picked literals c.args.picks.now choice w.in-Some.alternative literal w.in-Some.is (sym w.is_picked.ensures ∙ w.if-not-is_picked.false) same asks
        | in_default w ↦ absurd (w.in_default.not-Some literal.alternative (subst (λ n. get_or literals n None ≡ Some literal.alternative) same asks))
      ]
      | inr differs ↦ c.loop-choice.invariant literal (omega arith) asks
    ]

pub returns-then-not-is_picked : goal.returns-then-not-is_picked
returns-then-not-is_picked c = (
  λ no. absurd (cc),
  λ all. absurd
      (asked_unpicked c.args.literals.now c.args.picks.now c.loop-choice.choice c.in-Some.alternative c.in-Some.is (sym c.is_picked.ensures ∙ c.if-not-is_picked.true) all),
)

pub returns : goal.returns
returns c = (
  λ yes literal asks. elim (cases_lt literal.choice 16) [
    | inl below ↦ c.loop-choice.invariant literal (omega (arith, c.loop-choice-test.false)) asks
    | inr past ↦
        let none : get_or c.args.literals.now literal.choice None ≡ None = get_or_past c.args.literals.now literal.choice None (omega (arith, c.told-literals)) in
        absurd (cc)
  ],
  λ all. refl,
)
