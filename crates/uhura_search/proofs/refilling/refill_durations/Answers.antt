use Rattle.std.proofs.Common.{length, sym, ap, ◌∙◌, arith}
use Rattle.std.specs.Prelude.{option_copied}
use Rattle.uhura_search.specs.Refilled.{tables_without}
use Rattle.uhura_search.proofs.Refills.{refilled-duration, refilled-all, lists-none, lists-both}
use Rattle.uhura_search.proofs.refilling.refill_durations.Goals as goal

pub loop-duration-init : goal.loop-duration-init
loop-duration-init c = record { filled = c.requires; changed = lists-none c.args.table.now c.args.changed.now }

pub loop-duration-preserved : goal.loop-duration-preserved
loop-duration-preserved c =
    let old = c.loop-duration.table in
    let new = c.refill_duration.new.table in
    record {
      filled = refilled-duration (tables_without c.args.marks.now c.args.vetoes.now) c.args.plan.now (length c.args.plan.now.requirements) c.loop-duration.duration c.unwrap-uncertain.result.now old new
          (sym c.uncertain.ensures ∙ ap option_copied c.unwrap-uncertain.ensures) c.loop-duration.invariant.filled c.refill_duration.ensures.item;
      changed = lists-both c.args.table.now old new c.args.changed.now c.loop-duration.changed c.refill_duration.new.changed c.loop-duration.invariant.changed c.refill_duration.ensures.changed;
    }

pub returns : goal.returns
returns c = record {
  filled = refilled-all (tables_without c.args.marks.now c.args.vetoes.now) c.args.plan.now (length c.args.plan.now.requirements) c.loop-duration.duration c.loop-duration.table (omega arith)
      (omega (arith, c.uncertains-duration-end.ensures.count, c.loop-duration-test.false)) c.loop-duration.invariant.filled;
  changed = c.loop-duration.invariant.changed;
}
