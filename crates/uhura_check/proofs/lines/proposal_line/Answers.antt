use Rattle.std.proofs.Common.{ap, length, arith}
use Rattle.uhura_veto.specs.State.{State}
use Rattle.uhura_command.specs.Script.{commands_of}
use Rattle.uhura_check.proofs.Lengths.{state-length}
use Rattle.uhura_check.proofs.lines.proposal_line.Goals as goal

pub returns : goal.returns
returns c =
    let inside : State = record { plan = c.state.inside.plan; vetoes = c.state.inside.vetoes } in
    omega (
      arith,
      ap (λ (s : State). length (commands_of s)) c.state.view_is,
      state-length inside,
      c.events.ensures.count,
      c.uncertains.ensures.count,
      c.choices.ensures.count,
      c.requirements.ensures.count,
      c.count.ensures.count,
    )
