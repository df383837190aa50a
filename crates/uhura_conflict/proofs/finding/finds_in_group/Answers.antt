use Rattle.std.proofs.Common.{◌≡◌, ◌+◌, ◌*◌, subst, arith}
use Rattle.uhura_conflict.specs.declared.summaries.TheConstants.{BLOCK, BLOCKS, GROUP}
use Rattle.uhura_conflict.specs.Entries.{NoneBetween}
use Rattle.uhura_conflict.proofs.Reaching.{none-joined}
use Rattle.uhura_conflict.proofs.Summing.{none-in_block}
use Rattle.uhura_conflict.proofs.finding.finds_in_group.Goals as goal
use Rattle.uhura_conflict.proofs.finding.finds_in_group.Goals.{else-may_matter_in-via-then-may_matter_in+else-finds_in_block, else-may_matter_in-via-else-may_matter_in}

pub loop-place-init : goal.loop-place-init
loop-place-init c = λ key least less. absurd (omega (arith, least, less))

pub loop-place-preserved : goal.loop-place-preserved
loop-place-preserved c =
    let entries = c.args.entries.now in
    let picks = c.args.picks.now in
    let sought = c.args.sought in
    let block = c.args.group * BLOCKS + c.loop-place.place in
    let next : block * BLOCK + BLOCK ≡ (c.args.group * BLOCKS + (c.loop-place.place + 1)) * BLOCK = omega arith in
    subst (λ to. NoneBetween entries picks sought (c.args.group * GROUP) to) next
    (none-joined entries picks sought (c.args.group * GROUP) (block * BLOCK) (block * BLOCK + BLOCK) c.loop-place.invariant
    (elim c.else-may_matter_in.branch [
      | else-may_matter_in-via-then-may_matter_in+else-finds_in_block v ↦ v.if-finds_in_block.ensures
      | else-may_matter_in-via-else-may_matter_in v ↦
          none-in_block BLOCK c.args.blocks.now entries picks sought block c.requires.covered (c.may_matter_in.ensures v.if-may_matter_in.false) (λ key least less. omega arith)
    ]))

pub returns-then-finds_in_block : goal.returns-then-finds_in_block
returns-then-finds_in_block c = c.if-finds_in_block.ensures

pub returns : goal.returns
returns c =
    let last : (c.args.group * BLOCKS + c.loop-place.place) * BLOCK ≡ c.args.group * GROUP + GROUP = omega (arith, c.loop-place-test.false, c.loop-place.auto.place-end) in
    subst (λ to. NoneBetween c.args.entries.now c.args.picks.now c.args.sought (c.args.group * GROUP) to) last c.loop-place.invariant
