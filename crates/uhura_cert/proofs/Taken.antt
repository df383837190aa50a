-- A command that is refused makes no next state, and one that is in the order of a script edits.
use Rattle.std.proofs.Common.{◌≡◌, Option, Result, Ok, Err, subst, arith}
use Rattle.std.specs.Prelude.{alloc_error}
use Rattle.uhura_veto.specs.State.{State}
use Rattle.uhura_line.specs.declared.command.Command.{Command}
use Rattle.uhura_line.specs.declared.command.Command.TheVariants as command
use Rattle.uhura_command.specs.declared.state.refusal.StateRefusal.{StateRefusal}
use Rattle.uhura_command.specs.Apply.{IsEdit, refusal_of, AnswersFirst, Applies}
use Rattle.uhura_plan.specs.Sound.{IsSound}
use Rattle.uhura_veto.specs.Vetoes.{AreVetoesOf}
use Rattle.uhura_cert.specs.Machine.{later, Makes}
use Rattle.uhura_cert.specs.Taking.{IsRefusedBy}

pub edits_in_order : (c : Command) (state : State) → later state c ≡ 0 → IsEdit c
edits_in_order command.Show state none = absurd (omega (arith, none))
edits_in_order command.Propose state none = absurd (omega (arith, none))
edits_in_order command.Prove state none = absurd (omega (arith, none))
edits_in_order c state none = tt

pub not_made : (state : State) (c : Command) (applied : Result (Unit {0}) StateRefusal) → AnswersFirst (refusal_of state c) applied → IsRefusedBy applied → (next : State) → Makes state c next → ⊥
not_made state c (Ok done) answers refused next makes = refused
not_made state c (Err refusal) answers refused next makes = refused alloc_error (subst (λ (first : Option StateRefusal). AnswersFirst first (Err refusal)) makes.applies.accepted answers)

pub made : (state : State) (c : Command) (next : State) → later state c ≡ 0 → Applies state c next → IsSound next.plan → AreVetoesOf next.plan next.vetoes → Makes state c next
made state c next none applies plan vetoes = record { in_order = none; applies = applies; sound = record { plan = plan; vetoes = vetoes } }
