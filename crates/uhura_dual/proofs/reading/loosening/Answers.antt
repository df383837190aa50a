use Rattle.std.proofs.Common.{ℕ, List, ap, ◌∙◌}
use Rattle.uhura_plan.specs.declared.key.SideKey.{SideKey}
use Rattle.uhura_veto.specs.State.{State}
use Rattle.uhura_worst.specs.Units.{side_units}
use Rattle.uhura_dual.proofs.ReadUnits.{all-given}
use Rattle.uhura_dual.proofs.ReadOff.{read_off-allowed, read_off-cost}
use Rattle.uhura_dual.proofs.reading.loosening.Goals as goal

pub returns-clause-units : goal.returns-clause-units
returns-clause-units c = λ key.
    ap (λ (pairs : List (SideKey × ℕ)). side_units pairs key) c.in_ok-add_durations.ensures ∙ all-given c.args.plan.now c.args.branch.now c.args.potentials.now key

pub returns-clause-allowed : goal.returns-clause-allowed
returns-clause-allowed c =
    let state : State = record { plan = c.args.plan.now; vetoes = c.args.vetoes.now } in
    read_off-allowed state c.args.branch.now c.add_durations.new.loosening c.args.potentials.now c.requirements.ensures.sound (returns-clause-units c)

pub returns-clause-cost : goal.returns-clause-cost
returns-clause-cost c =
    let state : State = record { plan = c.args.plan.now; vetoes = c.args.vetoes.now } in
    read_off-cost state c.args.branch.now c.add_durations.new.loosening c.args.potentials.now c.requirements.ensures.sound (returns-clause-units c)
