use Rattle.std.proofs.Common.{None, Some, find, ap, ◌∙◌}
use Rattle.uhura_veto.specs.Denial.{denies}
use Rattle.uhura_veto.proofs.Denials.{is_denied-found}
use Rattle.uhura_veto.proofs.denial.denied_by.Goals as goal

pub returns-in-Some-clause-denied : goal.returns-in-Some-clause-denied
returns-in-Some-clause-denied c =
    is_denied-found c.args.vetoes.now c.args.prefix.now (Some c.in-Some.veto.now) (c.in-Some.ensures ∙ ap (find (denies c.args.prefix.now)) c.items.ensures.items)

pub returns-in-None-clause-denied : goal.returns-in-None-clause-denied
returns-in-None-clause-denied c =
    is_denied-found c.args.vetoes.now c.args.prefix.now None (c.in-None.ensures ∙ ap (find (denies c.args.prefix.now)) c.items.ensures.items)
