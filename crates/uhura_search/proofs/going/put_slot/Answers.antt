use Rattle.std.proofs.Common.{arith}
use Rattle.uhura_search.proofs.Coming.{slot-stuck, slot-put}
use Rattle.uhura_search.proofs.going.put_slot.Goals as goal

pub returns-in-Stuck : goal.returns-in-Stuck
returns-in-Stuck c = slot-stuck c.args.flow.now c.put_from.new.flow c.args.table.now c.args.slot c.place_of-first.result.0 c.requires.slot (omega (arith, c.place_of-first.ensures.place)) c.in-Stuck.ensures

pub returns-in-Holds : goal.returns-in-Holds
returns-in-Holds c =
    slot-put c.args.flow.now c.put_from.new.flow c.put_from-in-Holds.new.flow c.args.table.now c.args.slot c.place_of-first.result.0 c.place_of-steep.result.0 c.requires.slot (omega (arith, c.place_of-first.ensures.place)) (omega (arith, c.place_of-steep.ensures.place))
    c.in-Holds.ensures c.put_from-in-Holds.result c.put_from-in-Holds.ensures
