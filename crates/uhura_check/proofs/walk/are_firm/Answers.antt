use Rattle.std.proofs.Common.{rules, ◌≡◌, true, All, refl, subst}
use Rattle.std.proofs.lemmas.List.{take_all}
use Rattle.std.proofs.lemmas.List.Elements.{All-more}
use Rattle.uhura_shows.specs.Carried.{IsFirmKey}
use Rattle.uhura_check.proofs.Things.{some_key}
use Rattle.uhura_check.proofs.walk.are_firm.Goals as goal

pub loop-place-preserved : goal.loop-place-preserved
loop-place-preserved c = λ state is.
    let so : c.is_firm.result ≡ true = search rules in
    All-more (IsFirmKey state) c.args.keys.now c.loop-place.place some_key c.loop-place-test.true (c.loop-place.invariant state is) ((c.is_firm.ensures state is).0 so)

pub returns : goal.returns
returns c = λ state is. (λ _. subst (λ l. All (IsFirmKey state) l) (take_all c.loop-place.place c.args.keys.now c.loop-place-test.false) (c.loop-place.invariant state is), λ _. refl)
