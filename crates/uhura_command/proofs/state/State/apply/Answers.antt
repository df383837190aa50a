use Rattle.std.proofs.Common.{sym, ◌∙◌}
use Rattle.uhura_command.proofs.KeptVetoes.{answered_keep}
use Rattle.uhura_command.proofs.state.State.apply.Goals as goal

-- an edit of the plan keeps what the vetoes name
pub invariant_of-self-else-is_veto : goal.invariant_of-self-else-is_veto
invariant_of-self-else-is_veto c =
    let e = c.edit in
    answered_keep c.self.inside.plan e.new.plan c.self.inside.vetoes c.args.command.now e.result
    c.requirements.ensures.sound.distinct.requirements (sym c.is_veto.ensures ∙ c.if-is_veto.false) e.ensures.answer e.ensures.ok e.ensures.err c.self.invariant
