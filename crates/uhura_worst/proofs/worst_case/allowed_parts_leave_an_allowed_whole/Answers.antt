use Rattle.std.proofs.Common.{refl, arith}
use Rattle.uhura_worst.specs.WorstCase.{proposal_at}
use Rattle.uhura_worst.proofs.PassedUnits.{keeping-allowed}
use Rattle.uhura_worst.proofs.WholeTimes.{whole_extremes, allowed-keeps_whole}
use Rattle.uhura_worst.proofs.worst_case.allowed_parts_leave_an_allowed_whole.Goals as goal

pub returns : goal.returns
returns c = λ state k q sound allowed.
    let times = whole_extremes state k q in
    (proposal_at state.plan 1 q.branch times, keeping-allowed state 1 q.branch times sound (omega arith) allowed.branch allowed.not_denied (allowed-keeps_whole state k q sound allowed), refl)
