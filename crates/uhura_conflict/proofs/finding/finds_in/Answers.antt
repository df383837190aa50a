use Rattle.std.proofs.Common.{◌≡◌, ◌+◌, ◌*◌, ◌≤◌, List, Option, length, subst, sym, arith}
use Rattle.uhura_conflict.specs.declared.summary.Summary.{Summary}
use Rattle.uhura_conflict.specs.declared.summaries.TheConstants.{GROUP}
use Rattle.uhura_conflict.specs.Entries.{NoneBetween}
use Rattle.uhura_conflict.specs.Summaries.{AreCovered}
use Rattle.uhura_conflict.proofs.Reaching.{none-joined, none-found}
use Rattle.uhura_conflict.proofs.Summing.{none-in_block}
use Rattle.uhura_conflict.proofs.finding.finds_in.Goals as goal
use Rattle.uhura_conflict.proofs.finding.finds_in.Goals.{else-may_matter_in-via-then-may_matter_in+else-finds_in_group, else-may_matter_in-via-else-may_matter_in}

pub loop-group-init : goal.loop-group-init
loop-group-init c = λ key least less. absurd (omega (arith, least, less))

pub loop-group-preserved : goal.loop-group-preserved
loop-group-preserved c =
    let entries = c.args.entries.now in
    let picks = c.args.picks.now in
    let sought = c.args.sought in
    let group = c.loop-group.group in
    let next : group * GROUP + GROUP ≡ (group + 1) * GROUP = omega arith in
    subst (λ to. NoneBetween entries picks sought 0 to) next
    (none-joined entries picks sought 0 (group * GROUP) (group * GROUP + GROUP) c.loop-group.invariant
    (elim c.else-may_matter_in.branch [
      | else-may_matter_in-via-then-may_matter_in+else-finds_in_group v ↦ v.if-finds_in_group.ensures
      | else-may_matter_in-via-else-may_matter_in v ↦
          none-in_block GROUP c.deref.result.now entries picks sought group
          (subst (λ (groups : List (Option Summary)). AreCovered GROUP groups entries) (sym c.deref.ensures.value) c.requires.groups) (c.may_matter_in.ensures v.if-may_matter_in.false)
          (λ key least less. omega arith)
    ]))

pub returns-then-finds_in_group : goal.returns-then-finds_in_group
returns-then-finds_in_group c = c.if-finds_in_group.ensures

pub returns : goal.returns
returns c =
    let past : length c.args.entries.now.slots ≤ c.loop-group.group * GROUP = omega (arith, c.capacity.ensures.slots, c.loop-group-test.false) in
    none-found c.args.entries.now c.args.picks.now c.args.sought (c.loop-group.group * GROUP) past c.loop-group.invariant
