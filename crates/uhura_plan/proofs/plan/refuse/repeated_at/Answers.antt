-- No name before the loop's stood before, so the one that did is the first.
use Rattle.std.proofs.Common.{ℕ, ◌<◌, List, length, map, sym, ◌∙◌, arith, below_more}
use Rattle.std.proofs.lemmas.List.{length-map}
use Rattle.uhura_plan.proofs.Repeats.{repeats-pair, repeated_at-first, repeated_at-none}
use Rattle.uhura_plan.proofs.plan.refuse.repeated_at.Goals as goal

pub returns-then-has_name : goal.returns-then-has_name
returns-then-has_name g c =
    let names : List (List ℕ) = map (λ pair. pair.0) c.args.named.now in
    let within : c.loop-at.at < length names = omega (arith, c.loop-at-test.true, length-map c.args.named.now (λ pair. pair.0)) in
    sym (repeated_at-first names c.loop-at.at within c.loop-at.invariant
    (repeats-pair c.args.named.now c.loop-at.at c.index-named-at.result c.loop-at-test.true c.index-named-at.is ∙ (sym c.has_name.ensures ∙ c.if-has_name.true)))

pub loop-at-preserved : goal.loop-at-preserved
loop-at-preserved g c =
    below_more _ _ c.loop-at.invariant
    (repeats-pair c.args.named.now c.loop-at.at c.index-named-at.result c.loop-at-test.true c.index-named-at.is ∙ (sym c.has_name.ensures ∙ c.if-has_name.false))

pub returns : goal.returns
returns g c =
    let names : List (List ℕ) = map (λ pair. pair.0) c.args.named.now in
    sym (repeated_at-none names (λ k below. c.loop-at.invariant k (omega (arith, below, c.loop-at-test.false, length-map c.args.named.now (λ pair. pair.0)))))
