use Rattle.std.proofs.Common.{ap, subst}
use Rattle.uhura_plan.specs.Sound.{IsSound}
use Rattle.uhura_veto.specs.State.{State}
use Rattle.uhura_shows.proofs.Leaves.{leaves-none}
use Rattle.uhura_search.specs.Answer.{IsAnswerTo, shown_leaves}
use Rattle.uhura_answer.proofs.answer.stated_answer.Goals as goal

pub returns-in-None-clause-best : goal.returns-in-None-clause-best
returns-in-None-clause-best c =
    let state : State = c.args.state.now in
    let sound : IsSound state.plan = subst IsSound (ap (λ (s : State). s.plan) c.state.view_is) c.requirements.ensures.sound in
    λ k q allowed. leaves-none state (shown_leaves state c.in-None.leaves.items) k q sound (subst (IsAnswerTo state) c.in-None.is c.requires) allowed
