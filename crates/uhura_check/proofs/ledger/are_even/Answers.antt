use Rattle.std.proofs.Common.{rules, ◌≡◌, true, get_or, refl, subst}
use Rattle.std.specs.Prelude.{All}
use Rattle.std.proofs.lemmas.List.{take_all}
use Rattle.std.proofs.lemmas.List.Elements.{All-more}
use Rattle.uhura_check.specs.Ledger.{IsEven}
use Rattle.uhura_check.proofs.Things.{some_pair}
use Rattle.uhura_check.proofs.Ledgers.{even-is}
use Rattle.uhura_check.proofs.ledger.are_even.Goals as goal

pub loop-place-preserved : goal.loop-place-preserved
loop-place-preserved c =
    let so : c.is_even.result ≡ true = search rules in
    let pairs = c.args.pairs.now in
    let place = c.loop-place.place in
    All-more (IsEven c.args.table.now c.args.due.now) pairs place some_pair c.loop-place-test.true c.loop-place.invariant
    (even-is c.args.table.now c.args.due.now c.edge_in.result (get_or pairs place some_pair) c.edge_in.ensures.edge (c.is_even.ensures.0 so))

pub returns : goal.returns
returns c = (λ _. subst (λ l. All (IsEven c.args.table.now c.args.due.now) l) (take_all c.loop-place.place c.args.pairs.now c.loop-place-test.false) c.loop-place.invariant, λ _. refl)
