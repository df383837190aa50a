use Rattle.std.proofs.Common.{arith}
use Rattle.std.proofs.lemmas.Int.{ints}
use Rattle.uhura_net.proofs.worth.change_value.Goals as goal

pub returns : goal.returns
returns c =
    omega (
      arith,
      ints,
      c.requires.value.0,
      c.requires.value.1,
      c.worth_at.ensures.worth,
      c.worth_at.ensures.small.0,
      c.worth_at.ensures.small.1,
      c.worth_at-2.ensures.worth,
      c.worth_at-2.ensures.small.0,
      c.worth_at-2.ensures.small.1,
    )
