use Rattle.std.proofs.Common.{◌≡◌, ◌+◌, sym, subst, take, arith}
use Rattle.uhura_choice.proofs.Prefixes.{sound-have_alternatives}
use Rattle.uhura_shows.specs.Behind.{LeadsBehind}
use Rattle.uhura_shows.proofs.Behind.{at-entry, entry-within, entry-further, entry-last, entry-later}
use Rattle.uhura_shows.proofs.walk.prefix_behind.Goals.{then-index-count, else-index-count}
use Rattle.uhura_shows.proofs.walk.prefix_behind.Goals as goal

pub overflow_add-index : goal.overflow_add-index
overflow_add-index c =
    let at = at-entry c.args.plan.now.choices c.args.prefix.now c.entries-pick-items.result.now c.loop-pick.pick-index c.loop-pick.front c.child_index-index.result c.requires
    c.entries-pick-items.ensures.entries c.loop-pick-test.true c.loop-pick.invariant.so_far c.child_index-index.ensures in
    omega (
      arith,
      entry-within c.args.plan.now.choices c.args.prefix.now c.loop-pick.pick-index c.loop-pick.front c.child_index-index.result at,
      c.children-count.ensures,
      c.children-count.type_inv,
    )

pub child-front-requires : goal.child-front-requires
child-front-requires c =
    let at = at-entry c.args.plan.now.choices c.args.prefix.now c.entries-pick-items.result.now c.loop-pick.pick-index c.loop-pick.front c.child_index-index.result c.requires
    c.entries-pick-items.ensures.entries c.loop-pick-test.true c.loop-pick.invariant.so_far c.child_index-index.ensures in
    entry-within c.args.plan.now.choices c.args.prefix.now c.loop-pick.pick-index c.loop-pick.front c.child_index-index.result at

pub loop-pick-preserved : goal.loop-pick-preserved
loop-pick-preserved c =
    let choices = c.args.plan.now.choices in
    let picks = c.args.prefix.now in
    let place = c.loop-pick.pick-index in
    let front = c.loop-pick.front in
    let index = c.child_index-index.result in
    let at = at-entry choices picks c.entries-pick-items.result.now place front index c.requires c.entries-pick-items.ensures.entries c.loop-pick-test.true
    c.loop-pick.invariant.so_far c.child_index-index.ensures in
    let so_far : c.child-front.result ≡ take (place + 1) picks = entry-further choices picks place front c.child-front.result index at c.child-front.ensures in
    record {
      so_far = so_far;
      leads = elim c.if-index-count.branch [
        | then-index-count w ↦
            subst (λ later. LeadsBehind choices c.child-front.result later) (sym w.later-is)
            (entry-later choices picks place front c.child-front.result w.child.result index (sound-have_alternatives c.args.plan.now c.choices.ensures.sound) at so_far w.child.ensures)
        | else-index-count w ↦
            subst (λ later. LeadsBehind choices c.child-front.result later) (sym w.later-is)
            (entry-last choices picks place front c.child-front.result index c.loop-pick.later at so_far (omega (arith, c.children-count.ensures, w.if-index-count.false)) c.loop-pick.invariant.leads)
      ];
    }
