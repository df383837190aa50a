use Rattle.std.proofs.Common.{subst}
use Rattle.uhura_veto.specs.Vetoes.{AreSoundVetoes}
use Rattle.uhura.proofs.Measuring.{none_vetoed}
use Rattle.uhura.proofs.measure.measured_state.Goals as goal

pub invariant_of-result : goal.invariant_of-result
invariant_of-result c =
    none_vetoed c.in_ok-plan.plan c.in_ok-vetoes.vetoes c.in_ok-vetoes.ensures
    (subst AreSoundVetoes c.vetoes.view_is c.vetoes.invariant.sound)
