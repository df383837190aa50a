use Rattle.uhura_check.proofs.Confirming.{none-confirmed, confirmed-none_fails}
use Rattle.uhura_check.proofs.laws.confirmed_where_none_fails.Goals as goal

pub returns : goal.returns
returns c = λ d document. (λ confirmed. confirmed-none_fails d document confirmed, λ all. none-confirmed d document all)
