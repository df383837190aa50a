use Rattle.std.proofs.Common.{◌≡◌, ◌+◌, ◌*◌, None, get_or, subst, sym, arith}
use Rattle.uhura_conflict.specs.declared.bound.Bound.{Bound}
use Rattle.uhura_conflict.specs.declared.sought.Sought.{Sought}
use Rattle.uhura_conflict.specs.declared.summaries.TheConstants.{BLOCK, BLOCKS, GROUP}
use Rattle.uhura_conflict.specs.Entries.{IsBestBelow}
use Rattle.uhura_conflict.specs.Summaries.{CannotMatter}
use Rattle.uhura_conflict.proofs.Summing.{best-passed_block}
use Rattle.uhura_conflict.proofs.looking.best_in_group.Goals as goal
use Rattle.uhura_conflict.proofs.looking.best_in_group.Goals.{then-may_matter_in, else-may_matter_in}

pub loop-place-init : goal.loop-place-init
loop-place-init c =
    let start : c.args.group * GROUP ≡ (c.args.group * BLOCKS + 0) * BLOCK = omega arith in
    subst (λ n. IsBestBelow n c.args.entries.now c.args.picks.now c.args.known) start c.requires.known

pub loop-place-preserved : goal.loop-place-preserved
loop-place-preserved c =
    let entries = c.args.entries.now in
    let picks = c.args.picks.now in
    let block = c.args.group * BLOCKS + c.loop-place.place in
    let next : block * BLOCK + BLOCK ≡ (c.args.group * BLOCKS + (c.loop-place.place + 1)) * BLOCK = omega arith in
    let Is : Bound → Type 0 = λ b. IsBestBelow (block * BLOCK + BLOCK) entries picks b in
    subst (λ n. IsBestBelow n entries picks c.if-may_matter_in.best) next
    (elim c.if-may_matter_in.branch [
      | then-may_matter_in w ↦ subst Is (sym w.best-is) w.best_in_block-best.ensures
      | else-may_matter_in w ↦
          subst Is (sym w.best-is)
          (best-passed_block BLOCK c.args.blocks.now entries picks c.loop-place.best block c.requires.covered (subst (λ (s : Sought). CannotMatter (get_or c.args.blocks.now block None) picks s) c.beyond.ensures (c.may_matter_in.ensures w.if-may_matter_in.false)) (λ key least less. omega arith)
          c.loop-place.invariant)
    ])

pub returns : goal.returns
returns c =
    let last : (c.args.group * BLOCKS + c.loop-place.place) * BLOCK ≡ c.args.group * GROUP + GROUP = omega (arith, c.loop-place-test.false, c.loop-place.auto.place-end) in
    subst (λ n. IsBestBelow n c.args.entries.now c.args.picks.now c.loop-place.best) last c.loop-place.invariant
