use Rattle.std.proofs.Common.{◌≡◌, ℕ, Bool, true, false, true≢false, ◌&&◌, refl, sym, ap, ◌∙◌}
use Rattle.std.specs.Prelude.{nat_eq}
use Rattle.std.specs.Bool.{Decides}
use Rattle.std.proofs.lemmas.Bool.Decides.{Decides-eqb}
use Rattle.std.proofs.lemmas.Slice.Eq.{slice_eq-Decides}
use Rattle.uhura_plan.specs.declared.guard.Literal.{Literal}
use Rattle.uhura_plan.specs.contracts.guard.LiteralPartialEq.TheImpl.{eq-value}
use Rattle.uhura_search.proofs.guards.is_same.Goals as goal

both : (p q : Bool) → (p && q) ≡ true → (p ≡ true) × (q ≡ true)
both true q same = (refl, same)
both false q same = absurd (true≢false (sym same))

-- two literals are the same where both numbers are
literal-same : (a b : Literal) → (nat_eq a.choice b.choice && nat_eq a.alternative b.alternative) ≡ true → a ≡ b
literal-same a b same =
    let parts : (nat_eq a.choice b.choice ≡ true) × (nat_eq a.alternative b.alternative ≡ true) = both (nat_eq a.choice b.choice) (nat_eq a.alternative b.alternative) same in
    let choice : a.choice ≡ b.choice = (Decides-eqb a.choice b.choice).0 parts.0 in
    let alternative : a.alternative ≡ b.alternative = (Decides-eqb a.alternative b.alternative).0 parts.1 in
    let with_choice : ℕ → Literal = λ n. record { choice = n; alternative = a.alternative } in
    let with_alternative : ℕ → Literal = λ n. record { choice = b.choice; alternative = n } in
    ap with_choice choice ∙ ap with_alternative alternative

literal-itself : (a : Literal) → (nat_eq a.choice a.choice && nat_eq a.alternative a.alternative) ≡ true
literal-itself a = rw ((Decides-eqb a.choice a.choice).1 refl, (Decides-eqb a.alternative a.alternative).1 refl) refl

literal-decides : (a b : Literal) → Decides (eq-value.it a b) (a ≡ b)
literal-decides a b = (λ same. literal-same a b same, λ same. ap (λ (l : Literal). nat_eq a.choice l.choice && nat_eq a.alternative l.alternative) (sym same) ∙ literal-itself a)

pub returns : goal.returns
returns c =
    let decides = slice_eq-Decides literal-decides c.literals.result.now c.literals-2.result.now c.eq.result c.eq.ensures in
    rw (← c.literals.ensures.literals, ← c.literals-2.ensures.literals) decides
