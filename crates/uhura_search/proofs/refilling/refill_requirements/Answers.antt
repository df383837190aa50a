use Rattle.std.proofs.Common.{Bool, None, length, sym, ap, subst, ◌∙◌, arith}
use Rattle.std.specs.Prelude.{if◌then◌else◌, option_copied}
use Rattle.uhura_plan.specs.declared.key.Item.TheVariants as item
use Rattle.uhura_worst.specs.Edges.{requirement_edge}
use Rattle.uhura_worst.specs.Filled.{PutsItem}
use Rattle.uhura_search.specs.Refilled.{tables_without}
use Rattle.uhura_search.proofs.Refills.{refilled-none, refilled-requirement, refilled-most, lists-none, lists-both}
use Rattle.uhura_search.proofs.refilling.refill_requirements.Goals as goal

pub loop-position-init : goal.loop-position-init
loop-position-init c = record {
  filled = refilled-none (tables_without c.args.marks.now c.args.vetoes.now) c.args.plan.now c.args.table.now c.requires.gone;
  changed = lists-none c.args.table.now c.args.changed.now;
}

pub loop-position-preserved : goal.loop-position-preserved
loop-position-preserved c =
    let r = c.unwrap-requirement.result.now in
    let old = c.loop-position.table in
    let new = c.refill_requirement.new.table in
    let puts = subst (λ (b : Bool). PutsItem (item.Requirement r.slot) (λ key. if b then None else requirement_edge c.args.vetoes.now r key) old new) c.is_marked-marked.ensures c.refill_requirement.ensures.item in
    record {
      filled = refilled-requirement (tables_without c.args.marks.now c.args.vetoes.now) c.args.plan.now c.loop-position.position r old new c.requirements-position-end.ensures.sound.distinct.slots
          (sym c.requirement.ensures ∙ ap option_copied c.unwrap-requirement.ensures) c.loop-position.invariant.filled puts;
      changed = lists-both c.args.table.now old new c.args.changed.now c.loop-position.changed c.refill_requirement.new.changed c.loop-position.invariant.changed c.refill_requirement.ensures.changed;
    }

pub returns : goal.returns
returns c = record {
  filled = refilled-most (tables_without c.args.marks.now c.args.vetoes.now) c.args.plan.now c.loop-position.position (length c.args.plan.now.requirements) c.loop-position.table
      (omega (arith, c.requirements-position-end.ensures.count, c.loop-position-test.false)) c.loop-position.invariant.filled;
  changed = c.loop-position.invariant.changed;
}
