use Rattle.std.proofs.Common.{arith}
use Rattle.uhura_io.proofs.CopiedFront.{Copied, Copied-split, Copied-end}
use Rattle.uhura_io.proofs.memory_source.MemorySourceSource.read.Goals as goal

pub returns-clause-bytes : goal.returns-clause-bytes
returns-clause-bytes c =
    let got = rw c.deref-2.ensures.value at c.copy_front-n.ensures in
    let copied : Copied c.self.inside.bytes.items c.args.into.now c.copy_front-n.new.into c.self.inside.at c.self.inside.piece c.copy_front-n.result
    = record { count = got.count; copied = got.copied } in
    rw (← c.self.view_is)
    (Copied-split copied, λ none room. Copied-end copied c.self.invariant.1 none (omega (arith, c.copy_front-n.auto.into)))
