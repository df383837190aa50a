-- A state: a plan with vetoes.
use Rattle.std.specs.Prelude.{[]}
use Rattle.uhura_plan.specs.Lists.{empty}
use Rattle.uhura_plan.specs.Sound.{IsSound}
use Rattle.uhura_veto.specs.State.{State}
use Rattle.uhura_veto.specs.Vetoes.{AreVetoesOf}

-- nothing is planned and nothing is vetoed
abbrev pub empty_state : State
empty_state = record { plan = empty; vetoes = [] }

-- a sound plan with vetoes of it
pub record IsSoundState (state : State) : Type 0 where
  pub plan : IsSound state.plan
  pub vetoes : AreVetoesOf state.plan state.vetoes
