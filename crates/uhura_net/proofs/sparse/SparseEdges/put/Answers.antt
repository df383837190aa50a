use Rattle.std.proofs.Common.{◌∙◌, sym, arith}
use Rattle.uhura_net.proofs.Cells.{IsPutAt-over, put_none, IsPutAt-new, room_left}
use Rattle.uhura_net.proofs.sparse.SparseEdges.put.Goals as goal

pub push_reserved-requires : goal.push_reserved-requires
push_reserved-requires c =
    let room = room_left c.self.inside.numbers.items c.self.inside.cells.items c.args.place.0 c.index-number.result.now c.self.invariant.0 c.requires c.index-number.ensures c.if-number-ne0.false in
    omega (arith, room, c.self.invariant.1)

pub returns-then-number-ne0 : goal.returns-then-number-ne0
returns-then-number-ne0 c =
    (IsPutAt-over c.self.inside.numbers.items c.self.inside.cells.items c.args.self.now c.args.place.0 c.index-number.result.now c.args.edge c.self.view_is c.self.invariant.0
    c.requires c.index-number.ensures (omega (arith, c.if-number-ne0.true))).edges

pub returns-then-is_some : goal.returns-then-is_some
returns-then-is_some c =
    let put = IsPutAt-new c.self.inside.numbers.items c.self.inside.cells.items c.args.self.now c.args.place.0 c.index-number.result.now c.len.result c.args.edge c.self.view_is
    c.self.invariant.0 c.requires c.index-number.ensures c.if-number-ne0.false (c.len.ensures ∙ c.self.inside.cells.ok.0) in
    rw c.push_reserved.ensures.items put.edges

pub returns-else-is_some : goal.returns-else-is_some
returns-else-is_some c =
    put_none c.self.inside.numbers.items c.self.inside.cells.items c.args.self.now c.args.place.0 c.index-number.result.now c.args.edge c.self.view_is c.self.invariant.0 c.requires
    c.index-number.ensures c.if-number-ne0.false (sym c.is_some.ensures ∙ c.if-is_some.false)
