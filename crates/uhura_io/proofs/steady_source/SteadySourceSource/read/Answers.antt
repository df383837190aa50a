use Rattle.std.proofs.Common.{arith, lit<}
use Rattle.uhura_io.proofs.CopiedFront.{Copied, Copied-split, Copied-end}
use Rattle.uhura_io.proofs.steady_source.SteadySourceSource.read.Goals as goal

pub returns-clause-bytes : goal.returns-clause-bytes
returns-clause-bytes c =
    let got = rw c.deref.ensures.value at c.copy_front-n.ensures in
    let copied : Copied c.self.inside.bytes.items c.args.into.now c.copy_front-n.new.into c.self.inside.at 18446744073709551615 c.copy_front-n.result
    = record { count = got.count; copied = got.copied } in
    rw (← c.self.view_is)
    (Copied-split copied, λ none room. Copied-end copied (lit< tt) none (omega (arith, c.copy_front-n.auto.into)))
