use Rattle.std.proofs.Common.{arith}
use Rattle.uhura_search.proofs.Shorter.{begins-shared}
use Rattle.uhura_search.proofs.closing.least_in.Goals as goal

pub returns : goal.returns
returns c front begins short =
    (begins-shared c.args.passed.now.prefix c.args.branch.now front c.shared.result c.shared.ensures.same begins (omega (arith, short, c.min.ensures)), omega (arith, short, c.min.ensures))
