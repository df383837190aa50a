use Rattle.uhura_session.proofs.Refusals.{refusal_is_error}
use Rattle.uhura_session.proofs.laws.refusals_are_errors.Goals as goal

pub returns : goal.returns
returns c = refusal_is_error
