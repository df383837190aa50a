use Rattle.std.proofs.Common.{Option, subst}
use Rattle.uhura_check.specs.declared.failure.Failure.{Failure}
use Rattle.uhura_check.specs.Confirmed.{answer_of}
use Rattle.uhura_check.specs.Table.{asks_of}
use Rattle.uhura_check.specs.Failure.{Tells}
use Rattle.uhura_check.proofs.Confirming.{none-confirmed}
use Rattle.uhura_check.proofs.Shown.{confirmed-right}
use Rattle.uhura_check.proofs.checking.check.Goals as goal

pub returns-in-Ok-None-clause-checks : goal.returns-in-Ok-None-clause-checks
returns-in-Ok-None-clause-checks c =
    let d = c.args.document.now in
    none-confirmed d c.first_failure.ensures.fits (subst (λ (found : Option Failure). Tells d.state (answer_of d) (asks_of d) found) c.in-Ok-None.field-0-is c.in-Ok-None.ensures.found)

pub returns-in-Ok-None-clause-right : goal.returns-in-Ok-None-clause-right
returns-in-Ok-None-clause-right c =
    let d = c.args.document.now in
    let none = subst (λ (found : Option Failure). Tells d.state (answer_of d) (asks_of d) found) c.in-Ok-None.field-0-is c.in-Ok-None.ensures.found in
    confirmed-right d c.first_failure.ensures.fits (none-confirmed d c.first_failure.ensures.fits none)
