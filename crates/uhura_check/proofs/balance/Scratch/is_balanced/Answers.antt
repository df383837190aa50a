use Rattle.uhura_check.proofs.Balances.{even-decides}
use Rattle.uhura_check.proofs.balance.Scratch.is_balanced.Goals as goal

pub returns : goal.returns
returns c = λ state is.
    even-decides state c.args.table.now c.args.pairs.now c.enter_all.new.due is c.requires.placed c.enter_all.ensures.small c.enter_all.ensures.due c.are_even-balanced.result c.are_even-balanced.ensures
