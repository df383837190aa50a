use Rattle.uhura_cert.proofs.LinesTaken.{ended_early, all_read}
use Rattle.uhura_cert.proofs.progress.Progress.document.Goals as goal

pub returns-then-not-is_done : goal.returns-then-not-is_done
returns-then-not-is_done c = λ taken has.
    ended_early c.lines_are_taken_one_by_one.ensures.early taken c.args.self c.saturating_add.result has (λ d at. c.is_done.ensures.no c.if-not-is_done.true d at) c.saturating_add.ensures

pub invariant_of-result : goal.invariant_of-result
invariant_of-result c =
    (all_read c.lines_are_taken_one_by_one.ensures.whole c.requires.0 c.args.self c.from_vec.result c.from_vec-2.result c.from_vec.ensures c.from_vec-2.ensures
    (c.is_done.ensures.yes c.if-not-is_done.false) c.requires.1).is_text.fits

pub returns : goal.returns
returns c = λ taken has.
    all_read c.lines_are_taken_one_by_one.ensures.whole taken c.args.self c.from_vec.result c.from_vec-2.result c.from_vec.ensures c.from_vec-2.ensures
    (c.is_done.ensures.yes c.if-not-is_done.false) has
