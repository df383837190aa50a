use Rattle.std.proofs.Common.{◌≡◌, List, sym, ap, subst, ◌∙◌}
use Rattle.uhura_plan.specs.declared.key.EdgeKey.{EdgeKey}
use Rattle.uhura_shows.specs.Leaf as leaf
use Rattle.uhura_check.specs.Confirmed.{entry_reason}
use Rattle.uhura_check.specs.Failure.{Tells}
use Rattle.uhura_check.specs.Table.{reason_asks}
use Rattle.uhura_check.proofs.reasons.entry_failure.Goals as goal

pub returns-in-Stuck-Stuck : goal.returns-in-Stuck-Stuck
returns-in-Stuck-Stuck c = λ line first own head.
    let keys : leaf.Stuck c.as_slice-in-Stuck-Stuck.result.now ≡ entry_reason c.args.given.now = ap (λ (ks : List EdgeKey). leaf.Stuck ks) c.as_slice-in-Stuck-Stuck.ensures ∙ sym (ap entry_reason c.in-Stuck-Stuck.is-0) in
    subst (λ (r : leaf.LeafReason). Tells c.args.state.now c.args.answer.now (reason_asks c.args.prefix.now line first r) c.stuck_failure.result) keys (c.stuck_failure.ensures c.args.answer.now line first own)
