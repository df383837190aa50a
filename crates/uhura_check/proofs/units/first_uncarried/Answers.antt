use Rattle.std.proofs.Common.{rules, ◌≡◌, true, false, All, subst}
use Rattle.std.proofs.lemmas.List.{take_all}
use Rattle.std.proofs.lemmas.List.Elements.{All-more}
use Rattle.uhura_shows.specs.Carried.{IsCarried}
use Rattle.uhura_check.proofs.Firsts.{first-not}
use Rattle.uhura_check.proofs.Things.{some_pair}
use Rattle.uhura_check.proofs.units.first_uncarried.Goals as goal

pub returns-then-not-is_carried : goal.returns-then-not-is_carried
returns-then-not-is_carried c = λ state is.
    let unso : c.is_carried.result ≡ false = search rules in
    first-not (IsCarried state) c.args.pairs.now c.loop-place.place some_pair c.is_carried.result c.loop-place-test.true (c.is_carried.ensures state is) unso (c.loop-place.invariant state is)

pub loop-place-preserved : goal.loop-place-preserved
loop-place-preserved c = λ state is.
    let so : c.is_carried.result ≡ true = search rules in
    All-more (IsCarried state) c.args.pairs.now c.loop-place.place some_pair c.loop-place-test.true (c.loop-place.invariant state is) ((c.is_carried.ensures state is).0 so)

pub returns : goal.returns
returns c = λ state is. subst (λ l. All (IsCarried state) l) (take_all c.loop-place.place c.args.pairs.now c.loop-place-test.false) (c.loop-place.invariant state is)
