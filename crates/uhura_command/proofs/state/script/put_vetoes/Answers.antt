use Rattle.std.proofs.Common.{◌≡◌, Some, slice_get, sym, ap, subst, ◌∙◌}
use Rattle.std.specs.Prelude.{option_copied}
use Rattle.std.proofs.lemmas.Option.{get_or_from_slice_get, slice_get_within}
use Rattle.uhura_veto.specs.Vetoes.{IsVetoOf}
use Rattle.uhura_command.proofs.ScriptLines.{script_more}
use Rattle.uhura_command.specs.Script.{veto_command}
use Rattle.uhura_command.proofs.state.script.put_vetoes.Goals as goal

pub loop-place-preserved : goal.loop-place-preserved
loop-place-preserved c =
    script_more (veto_command c.args.plan.now) c.args.vetoes.now c.loop-place.place c.unwrap-veto.result.now _ _ _ _
    (sym c.veto.ensures ∙ ap option_copied c.unwrap-veto.ensures) c.in_ok-command.ensures c.loop-place.invariant c.in_ok-write_command.ensures.ok

pub veto_command-requires : goal.veto_command-requires
veto_command-requires c =
    let veto = c.unwrap-veto.result.now in
    let at : slice_get c.args.vetoes.now c.loop-place.place ≡ Some veto = sym c.veto.ensures ∙ ap option_copied c.unwrap-veto.ensures in
    subst (IsVetoOf c.args.plan.now) (get_or_from_slice_get c.args.vetoes.now c.loop-place.place veto veto at)
    (c.requires.there c.loop-place.place veto (slice_get_within c.args.vetoes.now c.loop-place.place veto at))
