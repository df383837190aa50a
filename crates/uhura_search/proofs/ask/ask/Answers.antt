use Rattle.std.proofs.Common.{ap, arith}
use Rattle.uhura_search.specs.Learning.{KeepsLearned}
use Rattle.uhura_search.proofs.Learns.{learns-none, some-both, some-stops}
use Rattle.uhura_search.proofs.ask.ask.Goals as goal

pub returns-in-Some-clause-asked : goal.returns-in-Some-clause-asked
returns-in-Some-clause-asked c =
    let choices = c.args.plan.now.choices in
    let old = c.args.learning.now in
    let made = c.make_ready.new.learning in
    let closed = c.close_all.new.learning in
    let ready = c.make_ready.ensures in
    let keeps : KeepsLearned old made = record { store = ready.store; added = ready.added; table = ready.table; pushes = omega (arith, ap (λ flow. flow.net.pushes) ready.flow) } in
    some-stops choices old closed c.found.new.learning (some-both choices old made closed (learns-none choices old made ready.counts keeps (ap (λ flow. flow.settles) ready.flow)) c.in_ok-best.ensures.learns)
    c.found.ensures.asked
