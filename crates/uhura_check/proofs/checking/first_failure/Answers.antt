use Rattle.std.proofs.Common.{[], subst}
use Rattle.std.proofs.lemmas.Result.{IfOk-weaker}
use Rattle.uhura_shows.specs.Shows.{Answer}
use Rattle.uhura_cert.specs.Items.{to_shared}
use Rattle.uhura_check.specs.Confirmed.{answer_of}
use Rattle.uhura_check.specs.Table.{line_behind, answer_asks, asks_of}
use Rattle.uhura_check.specs.Failure.{Tells}
use Rattle.uhura_check.specs.Walked.{rest_asks}
use Rattle.uhura_check.proofs.Telling.{tells-stays, tells-behind}
use Rattle.uhura_check.proofs.Proposals.{answered-branch}
use Rattle.uhura_check.proofs.checking.first_failure.Goals as goal

pub returns-in-Err-clause-found : goal.returns-in-Err-clause-found
returns-in-Err-clause-found c =
    let d = c.args.document.now in
    tells-stays d.state (answer_of d) (answer_asks d d.answer) (rest_asks d [] (line_behind (to_shared d)) d.leaves) c.in-Err.failure c.in-Err.ensures.found

pub leaves_failure-requires : goal.leaves_failure-requires
leaves_failure-requires c = answered-branch c.args.document.now c.in-Ok.answer c.in-Ok.ensures.found

pub returns-clause-found : goal.returns-clause-found
returns-clause-found c =
    let d = c.args.document.now in
    IfOk-weaker c.leaves_failure.result (Tells d.state c.in-Ok.answer (rest_asks d [] (line_behind (to_shared d)) d.leaves)) (Tells d.state (answer_of d) (asks_of d))
    (λ found tells. tells-behind d.state (answer_of d) (answer_asks d d.answer) (rest_asks d [] (line_behind (to_shared d)) d.leaves) found c.in-Ok.ensures.found.kept
    (subst (λ (a : Answer). Tells d.state a (rest_asks d [] (line_behind (to_shared d)) d.leaves) found) c.in-Ok.ensures.found.is_stated tells))
    c.leaves_failure.ensures
