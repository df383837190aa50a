use Rattle.std.proofs.Common.{◌≡◌, ◌+◌, ◌*◌, Some, None, sym, subst, ap, ◌∙◌, arith}
use Rattle.std.specs.Prelude.{option_copied}
use Rattle.slab.specs.Slab.{get}
use Rattle.uhura_conflict.specs.declared.summaries.TheConstants.{BLOCK}
use Rattle.uhura_conflict.specs.Entries.{NoneBetween}
use Rattle.uhura_conflict.proofs.Reaching.{none-next}
use Rattle.uhura_conflict.proofs.Greatest.{true_false}
use Rattle.uhura_conflict.proofs.finding.finds_in_block.Goals as goal
use Rattle.uhura_conflict.proofs.finding.finds_in_block.Goals.{in-Some+else-is_sought, else-is_sought-via-then-is_sought+else-applies, else-is_sought-via-else-is_sought, in_default}

pub loop-place-init : goal.loop-place-init
loop-place-init c = λ key least less. absurd (omega (arith, least, less))

pub loop-place-preserved : goal.loop-place-preserved
loop-place-preserved c =
    let entries = c.args.entries.now in
    let picks = c.args.picks.now in
    let sought = c.args.sought in
    let from = c.args.block * BLOCK in
    let n = c.args.block * BLOCK + c.loop-place.place in
    let so_far = c.loop-place.invariant in
    let next : n + 1 ≡ c.args.block * BLOCK + (c.loop-place.place + 1) = omega arith in
    subst (λ to. NoneBetween entries picks sought from to) next
    (elim c.match-get.branch [
      | in-Some+else-is_sought w ↦ elim w.else-is_sought.branch [
        | else-is_sought-via-then-is_sought+else-applies v ↦
            none-next entries picks sought from n (Some w.in-Some.entry.now) (sym w.in-Some.ensures) (λ it. absurd (true_false (v.applies.ensures.1 it) v.if-applies.false)) so_far
        | else-is_sought-via-else-is_sought v ↦ none-next entries picks sought from n (Some w.in-Some.entry.now) (sym w.in-Some.ensures) (λ it. sym w.is_sought.ensures ∙ v.if-is_sought.false) so_far
      ]
      | in_default w ↦
          let none : get entries n ≡ None = sym c.get.ensures ∙ ap option_copied w.in_default.is in
          none-next entries picks sought from n None none tt so_far
    ])

pub returns-then-applies : goal.returns-then-applies
returns-then-applies c = record {
  key = c.args.block * BLOCK + c.loop-place.place;
  entry = c.in-Some.entry.now;
  there = sym c.in-Some.ensures;
  applies = c.applies.ensures.0 c.if-applies.true;
  is_sought = sym c.is_sought.ensures ∙ c.if-is_sought.true;
}

pub returns : goal.returns
returns c =
    let last : c.args.block * BLOCK + c.loop-place.place ≡ c.args.block * BLOCK + BLOCK = omega (arith, c.loop-place-test.false, c.loop-place.auto.place-end) in
    subst (λ to. NoneBetween c.args.entries.now c.args.picks.now c.args.sought (c.args.block * BLOCK) to) last c.loop-place.invariant
