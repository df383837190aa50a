use Rattle.std.proofs.Common.{◌≤◌, length, subst, sym, arith}
use Rattle.std.specs.Prelude.{IfSome}
use Rattle.uhura_conflict.specs.Entries.{IsKeptFor}
use Rattle.uhura_conflict.proofs.Passing.{revised-none, revised-more, revised-all}
use Rattle.uhura_conflict.proofs.revising.revise_all.Goals as goal

pub loop-key-init : goal.loop-key-init
loop-key-init c = revised-none c.args.entries.now c.args.old.now c.args.new.now

pub revise_touched-requires-clause-kept : goal.revise_touched-requires-clause-kept
revise_touched-requires-clause-kept c =
    subst (λ found. IfSome found (IsKeptFor c.args.old.now)) (sym (c.loop-key.invariant.left c.loop-key.key (omega arith))) (c.requires.kept c.loop-key.key)

pub loop-key-preserved : goal.loop-key-preserved
loop-key-preserved c =
    revised-more c.args.entries.now c.loop-key.entries c.revise_touched.new.entries c.args.old.now c.args.new.now c.loop-key.key c.revise_touched.ensures.here c.revise_touched.ensures.others
    c.revise_touched.ensures.slots c.loop-key.invariant

pub returns : goal.returns
returns c =
    let past : length c.args.entries.now.slots ≤ c.loop-key.key = omega (arith, c.capacity-key-end.ensures.slots, c.loop-key-test.false) in
    revised-all c.args.entries.now c.loop-key.entries c.args.old.now c.args.new.now c.loop-key.key past c.loop-key.invariant
