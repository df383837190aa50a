use Rattle.std.proofs.Common.{◌≡◌, ◌+◌, ◌*◌, ◌≤◌, List, Option, None, get_or, length, subst, sym, arith}
use Rattle.uhura_conflict.specs.declared.bound.Bound.{Bound}
use Rattle.uhura_conflict.specs.declared.sought.Sought.{Sought}
use Rattle.uhura_conflict.specs.declared.summary.Summary.{Summary}
use Rattle.uhura_conflict.specs.declared.summaries.TheConstants.{GROUP}
use Rattle.uhura_conflict.specs.Store.{AppliesAt, value_at}
use Rattle.uhura_conflict.specs.Entries.{shown_as, IsBestBelow}
use Rattle.uhura_conflict.specs.Summaries.{AreCovered, CannotMatter}
use Rattle.uhura_conflict.proofs.Greatest.{best-none, best-all}
use Rattle.uhura_conflict.proofs.Summing.{best-passed_block}
use Rattle.uhura_conflict.proofs.looking.best_in.Goals as goal
use Rattle.uhura_conflict.proofs.looking.best_in.Goals.{then-may_matter_in, else-may_matter_in}

pub loop-group-init : goal.loop-group-init
loop-group-init c = λ order table worth. best-none (AppliesAt (shown_as c.args.entries.now order table) c.args.picks.now) (value_at (shown_as c.args.entries.now order table))

pub loop-group-preserved : goal.loop-group-preserved
loop-group-preserved c =
    let entries = c.args.entries.now in
    let picks = c.args.picks.now in
    let group = c.loop-group.group in
    let next : group * GROUP + GROUP ≡ (group + 1) * GROUP = omega arith in
    let Is : Bound → Type 0 = λ b. IsBestBelow (group * GROUP + GROUP) entries picks b in
    subst (λ n. IsBestBelow n entries picks c.if-may_matter_in.best) next
    (elim c.if-may_matter_in.branch [
      | then-may_matter_in w ↦ subst Is (sym w.best-is) w.best_in_group-best.ensures
      | else-may_matter_in w ↦
          subst Is (sym w.best-is)
          (best-passed_block GROUP c.deref.result.now entries picks c.loop-group.best group
          (subst (λ (groups : List (Option Summary)). AreCovered GROUP groups entries) (sym c.deref.ensures.value) c.requires.groups)
          (subst (λ (s : Sought). CannotMatter (get_or c.deref.result.now c.loop-group.group None) picks s) c.beyond.ensures (c.may_matter_in.ensures w.if-may_matter_in.false)) (λ key least less. omega arith) c.loop-group.invariant)
    ])

pub returns : goal.returns
returns c = λ order table worth.
    let past : length c.args.entries.now.slots ≤ c.loop-group.group * GROUP = omega (arith, c.capacity.ensures.slots, c.loop-group-test.false) in
    best-all c.args.entries.now order table c.args.picks.now (c.loop-group.group * GROUP) c.loop-group.best past (c.loop-group.invariant order table worth)
