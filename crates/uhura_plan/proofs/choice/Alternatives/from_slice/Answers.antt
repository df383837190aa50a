-- One more pair is copied, and its name is one.
use Rattle.std.proofs.Common.{◌≡◌, ℕ, ◌+◌, List, [], ◌∷◌, ◌++◌, take, All, sym, ap, subst, ◌∙◌}
use Rattle.std.proofs.lemmas.List.{take_more}
use Rattle.std.proofs.lemmas.List.Elements.{All-push}
use Rattle.uhura_plan.specs.Sound.{IsName}
use Rattle.uhura_plan.proofs.choice.Alternatives.from_slice.Goals as goal

pub loop-name-preserved : goal.loop-name-preserved
loop-name-preserved c =
    let pairs : List (List ℕ × ℕ) = c.args.pairs.now in
    let next : List ℕ × ℕ = c.loop-name-item.result in
    let more : take (c.loop-name.name-index + 1) pairs ≡ take c.loop-name.name-index pairs ++ next ∷ [] =
    take_more pairs c.loop-name.name-index next c.loop-name-test.true ∙ ap (λ p. take c.loop-name.name-index pairs ++ p ∷ []) (sym c.loop-name-item.is) in
    let IsNamed : List ℕ × ℕ → Type 0 = λ a. IsName a.0 in (
      c.in_ok-push.ensures.items ∙ (ap (λ copied. copied ++ next ∷ []) c.loop-name.invariant.0 ∙ sym more),
      subst (λ ps. All IsNamed ps) (sym more) (All-push IsNamed (take c.loop-name.name-index pairs) next c.loop-name.invariant.1 c.bytes.ensures.name),
    )
