use Rattle.std.proofs.Common.{◌≡◌, ◌+◌, ◌*◌, true, false, None, sym, subst, ap, ◌∙◌, arith}
use Rattle.std.specs.Prelude.{option_copied}
use Rattle.slab.specs.Slab.{get}
use Rattle.uhura_conflict.specs.declared.bound.Bound.{Bound}
use Rattle.uhura_conflict.specs.declared.sought.Sought.{Sought}
use Rattle.uhura_conflict.specs.declared.summaries.TheConstants.{BLOCK}
use Rattle.uhura_conflict.specs.Entries.{is_sought, IsBestBelow}
use Rattle.uhura_conflict.proofs.Greatest.{true_false, best-exceeded, best-unexceeded, best-at_none}
use Rattle.uhura_conflict.proofs.looking.best_in_block.Goals as goal
use Rattle.uhura_conflict.proofs.looking.best_in_block.Goals.{in-Some+then-is_sought+then-applies, in-Some+else-is_sought, else-is_sought-via-then-is_sought+else-applies, else-is_sought-via-else-is_sought, in_default}

pub loop-place-init : goal.loop-place-init
loop-place-init c =
    let start : c.args.block * BLOCK ≡ c.args.block * BLOCK + 0 = omega arith in
    subst (λ n. IsBestBelow n c.args.entries.now c.args.picks.now c.args.known) start c.requires.known

pub loop-place-preserved : goal.loop-place-preserved
loop-place-preserved c =
    let entries = c.args.entries.now in
    let picks = c.args.picks.now in
    let n = c.args.block * BLOCK + c.loop-place.place in
    let best = c.loop-place.best in
    let so_far = c.loop-place.invariant in
    let Is : Bound → Type 0 = λ b. IsBestBelow (n + 1) entries picks b in
    let next : n + 1 ≡ c.args.block * BLOCK + (c.loop-place.place + 1) = omega arith in
    subst (λ k. IsBestBelow k entries picks c.match-get.best) next
    (elim c.match-get.branch [
      | in-Some+then-is_sought+then-applies w ↦
          subst Is (sym w.best-is) (subst Is (sym w.bound_of-best.ensures) (λ order table worth.
          best-exceeded entries order table picks n w.in-Some.entry.now best (sym w.in-Some.ensures) (w.applies.ensures.0 w.if-applies.true)
          (subst (λ (s : Sought). is_sought s w.in-Some.entry.now ≡ true) w.beyond.ensures (sym w.is_sought.ensures ∙ w.if-is_sought.true)) worth (so_far order table worth)))
      | in-Some+else-is_sought w ↦ subst Is (sym w.best-is) (elim w.else-is_sought.branch [
        | else-is_sought-via-then-is_sought+else-applies v ↦ λ order table worth.
            best-unexceeded entries order table picks n w.in-Some.entry.now best (sym w.in-Some.ensures) (λ it. absurd (true_false (v.applies.ensures.1 it) v.if-applies.false)) worth
            (so_far order table worth)
        | else-is_sought-via-else-is_sought v ↦ λ order table worth.
            best-unexceeded entries order table picks n w.in-Some.entry.now best (sym w.in-Some.ensures) (λ it. subst (λ (s : Sought). is_sought s w.in-Some.entry.now ≡ false) w.beyond.ensures (sym w.is_sought.ensures ∙ v.if-is_sought.false)) worth (so_far order table worth)
      ])
      | in_default w ↦
          let none : get entries n ≡ None = sym c.get.ensures ∙ ap option_copied w.in_default.is in
          subst Is (sym w.best-is) (λ order table worth. best-at_none entries order table picks n best none (so_far order table worth))
    ])

pub returns : goal.returns
returns c =
    let last : c.args.block * BLOCK + c.loop-place.place ≡ c.args.block * BLOCK + BLOCK = omega (arith, c.loop-place-test.false, c.loop-place.auto.place-end) in
    subst (λ n. IsBestBelow n c.args.entries.now c.args.picks.now c.loop-place.best) last c.loop-place.invariant
