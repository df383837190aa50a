use Rattle.std.proofs.Common.{List, sym, subst}
use Rattle.uhura_choice.specs.declared.prefix.Pick.{Pick}
use Rattle.uhura_choice.specs.Branch.{IsPrefix}
use Rattle.uhura_choice.proofs.Prefixes.{sound-have_alternatives, branch-prefix, prefix-take}
use Rattle.uhura_search.proofs.Appending.{child-prefix}
use Rattle.uhura_search.proofs.Learns.{some-both, some-stops}
use Rattle.uhura_search.proofs.starting.change_at.Goals as goal

pub follow-changed-requires : goal.follow-changed-requires
follow-changed-requires c =
    let choices = c.args.plan.now.choices in
    let front : IsPrefix choices c.front_of-front.result =
    subst (λ (p : List Pick). IsPrefix choices p) (sym c.front_of-front.ensures) (prefix-take choices c.args.place c.args.branch.now (branch-prefix choices c.args.branch.now c.requires.is_branch)) in
    child-prefix choices c.front_of-front.result c.child-changed.result c.loop-index.index (sound-have_alternatives c.args.plan.now c.requires.ready.sound) front c.child-changed.ensures

pub returns-in_err-consider-clause-stops : goal.returns-in_err-consider-clause-stops
returns-in_err-consider-clause-stops c = some-stops c.args.plan.now.choices c.args.learning.now c.loop-index.learning c.consider.new.learning c.loop-index.invariant.learns c.in_err-consider.ensures.stops

pub loop-index-preserved : goal.loop-index-preserved
loop-index-preserved c =
    let tries = c.in_ok-consider.ensures.tries in
    record {
      learns = some-both c.args.plan.now.choices c.args.learning.now c.loop-index.learning c.consider.new.learning c.loop-index.invariant.learns tries.learns;
      reached = tries.reached;
      ready = c.in_ok-consider.ensures.ready;
    }
