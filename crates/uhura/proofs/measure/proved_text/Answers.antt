use Rattle.std.proofs.Common.{subst}
use Rattle.std.specs.Prelude.{IfOk}
use Rattle.uhura_veto.specs.State.{State}
use Rattle.uhura_session.specs.Answers.{IsProved}
use Rattle.uhura.proofs.measure.proved_text.Goals as goal

pub returns : goal.returns
returns c =
    subst (λ (s : State). IfOk c.prove_anew.result (λ text. IsProved s text.items)) c.in_ok-state.ensures c.prove_anew.ensures
