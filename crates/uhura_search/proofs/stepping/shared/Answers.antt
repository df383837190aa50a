use Rattle.std.proofs.Common.{◌≡◌, ℕ, ◌+◌, ◌<◌, List, [], ◌∷◌, ◌++◌, length, get_or, take, sym, subst, ap, ◌∙◌, arith}
use Rattle.std.proofs.lemmas.List.{take_more}
use Rattle.uhura_choice.specs.declared.prefix.Pick.{Pick}
use Rattle.uhura_choice.specs.declared.prefix.Pick.TheVariants.{Alternative}
use Rattle.uhura_search.proofs.stepping.shared.Goals as goal

-- one pick more
taken-further : (xs ys : List Pick) (i : ℕ) (d : Pick) → i < length xs → i < length ys → take i xs ≡ take i ys → get_or xs i d ≡ get_or ys i d → take (i + 1) xs ≡ take (i + 1) ys
taken-further xs ys i d one other same both =
    take_more xs i d one ∙ (ap (λ l. l ++ get_or xs i d ∷ []) same ∙ (ap (λ p. take i ys ++ p ∷ []) both ∙ sym (take_more ys i d other)))

pub loop-place-preserved : goal.loop-place-preserved
loop-place-preserved c =
    taken-further c.entries-one.result.now c.entries-other.result.now c.loop-place.place (Alternative 0) (omega (arith, c.loop-place-test.true, c.min-most.ensures)) (omega (arith, c.loop-place-test.true, c.min-most.ensures))
    c.loop-place.invariant (c.is_same.ensures c.if-not-is_same.false)

pub returns-then-not-is_same-clause-same : goal.returns-then-not-is_same-clause-same
returns-then-not-is_same-clause-same c =
    subst (λ l. take c.loop-place.place l ≡ take c.loop-place.place c.args.other.now) c.entries-one.ensures.entries
    (subst (λ l. take c.loop-place.place c.entries-one.result.now ≡ take c.loop-place.place l) c.entries-other.ensures.entries c.loop-place.invariant)

pub returns-clause-same : goal.returns-clause-same
returns-clause-same c =
    subst (λ n. take n c.args.one.now ≡ take n c.args.other.now) (omega (arith, c.loop-place.auto.place-end, c.loop-place-test.false))
    (subst (λ l. take c.loop-place.place l ≡ take c.loop-place.place c.args.other.now) c.entries-one.ensures.entries
    (subst (λ l. take c.loop-place.place c.entries-one.result.now ≡ take c.loop-place.place l) c.entries-other.ensures.entries c.loop-place.invariant))
