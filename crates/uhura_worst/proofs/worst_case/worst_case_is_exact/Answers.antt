use Rattle.uhura_worst.specs.WorstCase.{AreExtremes, extreme_times}
use Rattle.uhura_worst.proofs.WorstCase.{covers, extremes-meet, extreme_times-are}
use Rattle.uhura_worst.proofs.worst_case.worst_case_is_exact.Goals as goal

pub returns-clause-exact : goal.returns-clause-exact
returns-clause-exact c = λ plan k q sound leaves.
    let extremes : AreExtremes plan k q (extreme_times plan k q) = extreme_times-are plan k q sound in
    (extremes-meet plan k q (extreme_times plan k q) sound leaves extremes, covers plan k q (extreme_times plan k q) sound extremes.events)

pub returns-clause-extremes : goal.returns-clause-extremes
returns-clause-extremes c = extreme_times-are
