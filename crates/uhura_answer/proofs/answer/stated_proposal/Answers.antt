use Rattle.std.proofs.Common.{refl, ap, ◌∙◌, subst}
use Rattle.uhura_net.specs.Edges.{time_at}
use Rattle.uhura_veto.specs.State.{State}
use Rattle.uhura_worst.specs.Units.{IsLoosening}
use Rattle.uhura_answer.proofs.Stating.{read-allowed, stated-with}
use Rattle.uhura_answer.proofs.answer.stated_proposal.Goals as goal

pub earliest_times-requires : goal.earliest_times-requires
earliest_times-requires c = (
  time_at c.args.potentials.now,
  read-allowed c.args.state.now c.args.branch.now c.args.cost c.args.potentials.now c.in_ok-loosening.loosening c.state.inside.plan (ap (λ (s : State). s.plan) c.state.view_is) c.requirements.ensures.sound c.requires
      c.in_ok-loosening.ensures.units,
)

pub returns : goal.returns
returns c =
    let pairs = c.in_ok-loosening.loosening in
    stated-with c.args.state.now c.args.branch.now c.args.cost c.args.potentials.now pairs c.state.inside.plan (ap (λ (s : State). s.plan) c.state.view_is) c.requirements.ensures.sound c.requires
    c.in_ok-loosening.ensures.units c.in_ok-times.times.items c.in_ok-times.ensures
    (record { cost = c.args.cost; picks = c.from_vec.result; loosening = pairs; times = c.from_vec-2.result })
    c.in_ok-loosening.ensures.pairs (subst IsLoosening c.loosening-2.view_is c.loosening-2.invariant) refl (c.from_vec.ensures ∙ c.in_ok-picks.ensures) refl c.from_vec-2.ensures
