use Rattle.std.proofs.Common.{sym, arith}
use Rattle.uhura_net.proofs.Relisting.{AreListedSoFar-none, AreListedSoFar-passed, AreListedSoFar-more, AreListed-done}
use Rattle.uhura_net.proofs.lists.Lists.list_all.Goals as goal
use Rattle.uhura_net.proofs.lists.Lists.list_all.Goals.{in-Some, in_default}

pub link-requires-clause-free : goal.link-requires-clause-free
link-requires-clause-free c = c.loop-number.invariant.rest c.loop-number.number (omega arith)

pub link-requires-clause-room : goal.link-requires-clause-room
link-requires-clause-room c = omega (arith, c.loop-number.invariant.few, c.loop-number-test.true)

pub loop-number-init : goal.loop-number-init
loop-number-init c = AreListedSoFar-none c.args.edges.now c.args.end c.clear.new.self c.clear.ensures

pub loop-number-preserved : goal.loop-number-preserved
loop-number-preserved c =
    elim c.match-get.branch [
      | in-Some w ↦
          rw w.self-is
          (AreListedSoFar-more c.args.edges.now c.args.end c.loop-number.self w.link.new.self c.loop-number.number w.in-Some.edge (sym w.in-Some.ensures)
          (rw w.node.ensures at w.link.ensures.linked) w.link.ensures.listing c.loop-number.invariant)
      | in_default w ↦
          rw w.self-is
          (AreListedSoFar-passed c.args.edges.now c.args.end c.loop-number.self c.loop-number.number (sym w.in_default.ensures) c.loop-number.invariant)
    ]

pub returns : goal.returns
returns c =
    AreListed-done c.args.edges.now c.args.end c.loop-number.self c.loop-number.number (omega (arith, c.loop-number-test.false, c.requires.edges.places))
    c.loop-number.invariant
