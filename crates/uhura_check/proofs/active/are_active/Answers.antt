use Rattle.std.proofs.Common.{rules, ◌≡◌, true, All, refl, sym, subst, ◌∙◌}
use Rattle.std.specs.Prelude.{IsTrue}
use Rattle.std.proofs.lemmas.List.{take_all}
use Rattle.std.proofs.lemmas.List.Elements.{All-more}
use Rattle.uhura_worst.specs.Edges.{is_active_edge}
use Rattle.uhura_check.proofs.Things.{some_key}
use Rattle.uhura_check.proofs.active.are_active.Goals as goal

pub loop-place-preserved : goal.loop-place-preserved
loop-place-preserved c =
    let so : c.is_active_edge.result ≡ true = search rules in
    All-more (λ key. IsTrue (is_active_edge c.args.plan.now c.args.prefix.now key)) c.args.keys.now c.loop-place.place some_key c.loop-place-test.true c.loop-place.invariant (sym c.is_active_edge.ensures ∙ so)

pub returns : goal.returns
returns c = (λ _. subst (λ l. All (λ key. IsTrue (is_active_edge c.args.plan.now c.args.prefix.now key)) l) (take_all c.loop-place.place c.args.keys.now c.loop-place-test.false) c.loop-place.invariant, λ _. refl)
