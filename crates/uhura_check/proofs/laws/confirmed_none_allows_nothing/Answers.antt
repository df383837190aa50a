use Rattle.uhura_check.proofs.Shown.{confirmed-none}
use Rattle.uhura_check.proofs.laws.confirmed_none_allows_nothing.Goals as goal

pub returns : goal.returns
returns c = λ d k q document confirmed is allowed. confirmed-none d k q document confirmed is allowed
