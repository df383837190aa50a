use Rattle.std.proofs.Common.{Bool, Result, Ok, ap, subst, ◌∙◌}
use Rattle.std.specs.declared.alloc.AllocError.{AllocError}
use Rattle.uhura_cert.specs.Machine.{Takes}
use Rattle.uhura_cert.specs.Reading.{spot_of, StepsTo}
use Rattle.uhura_cert.proofs.LinesTaken.{one_more, refused_next}
use Rattle.uhura_cert.proofs.progress.Progress.line.Goals as goal

pub returns-in-Ok-true : goal.returns-in-Ok-true
returns-in-Ok-true c = λ taken has.
    one_more taken c.args.line.now c.args.self.now (record { reader = c.take.new.self; count = c.saturating_add-next.result }) has
    (subst (λ (r : Result Bool AllocError). StepsTo r (Takes (spot_of c.args.self.now.reader) c.args.line.now) (spot_of c.take.new.self))
    (c.in-Ok-true.is ∙ ap (λ (b : Bool). Ok b) c.in-Ok-true.field-0-test) c.take.ensures)
    c.saturating_add-next.ensures

pub returns-in-Ok-false : goal.returns-in-Ok-false
returns-in-Ok-false c = λ taken has.
    refused_next c.lines_are_taken_one_by_one.ensures.refused taken c.args.line.now c.args.self.now c.saturating_add-next.result has
    (subst (λ (r : Result Bool AllocError). StepsTo r (Takes (spot_of c.args.self.now.reader) c.args.line.now) (spot_of c.take.new.self))
    (c.in-Ok-false.is ∙ ap (λ (b : Bool). Ok b) c.in-Ok-false.field-0-test) c.take.ensures)
    c.saturating_add-next.ensures
