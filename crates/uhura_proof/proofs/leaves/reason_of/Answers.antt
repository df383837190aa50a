use Rattle.std.proofs.Common.{subst, ◌∙◌}
use Rattle.std.proofs.lemmas.Result.{IfOk-weaker}
use Rattle.uhura_plan.specs.Sound.{IsSound}
use Rattle.uhura_veto.specs.State.{State}
use Rattle.uhura_cert.specs.declared.document.Shared.TheVariants.{Flow}
use Rattle.uhura_search.specs.Answer.{shown_reason}
use Rattle.uhura_proof.specs.Using.{IsUseOf, IsReasonMade}
use Rattle.uhura_proof.proofs.Making.{made_empty, made_learned}
use Rattle.uhura_proof.proofs.leaves.reason_of.Goals as goal

pub returns-in-Empty-clause-made : goal.returns-in-Empty-clause-made
returns-in-Empty-clause-made c =
    let state = c.args.state.now in
    let old = c.args.entries.now.items in
    let new = c.use_of.new.entries.items in
    IfOk-weaker c.use_of.result (IsUseOf old (Flow c.from_vec.result) new) (IsReasonMade state (shown_reason state c.args.reason.now) old new)
    (λ why uses. made_empty state c.args.places.now (subst (λ (s : State). IsSound s.plan) c.state.view_is c.choices.ensures.sound) c.requires.places old new c.args.reason.now c.from_vec.result why c.in-Empty.is (c.from_vec.ensures ∙ c.new.ensures.items) c.requires.there uses)
    c.use_of.ensures.use_of

pub returns-in_ok-entry-in-Learned-clause-made : goal.returns-in_ok-entry-in-Learned-clause-made
returns-in_ok-entry-in-Learned-clause-made c =
    let state = c.args.state.now in
    let old = c.args.entries.now.items in
    let new = c.use_of-in-Learned.new.entries.items in
    IfOk-weaker c.use_of-in-Learned.result (IsUseOf old c.in_ok-entry-in-Learned.entry new) (IsReasonMade state (shown_reason state c.args.reason.now) old new)
    (λ why uses. made_learned state c.args.places.now (subst (λ (s : State). IsSound s.plan) c.state.view_is c.choices.ensures.sound) c.requires.places old new c.args.reason.now c.in-Learned.conflict c.in_ok-entry-in-Learned.entry why c.in-Learned.is c.in_ok-entry-in-Learned.ensures c.requires.there uses)
    c.use_of-in-Learned.ensures.use_of
