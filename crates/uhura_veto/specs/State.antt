-- What a question is asked of.
use Rattle.std.specs.Prelude.{List}
use Rattle.uhura_plan.specs.Lists.{Lists}
use Rattle.uhura_veto.specs.declared.veto.Veto.{Veto}

-- a state is a plan with vetoes
pub record State : Type 0 where
  pub plan : Lists
  pub vetoes : List Veto
