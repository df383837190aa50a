-- The first slot without a mark is the least that is free.
use Rattle.std.proofs.Common.{IsSome, sym, subst, ◌∙◌}
use Rattle.uhura_plan.proofs.Slots.{unmarked, IsLeastFree-first}
use Rattle.uhura_plan.proofs.plan.slot.least_free_slot.Goals as goal

pub unwrap-requires : goal.unwrap-requires
unwrap-requires c = subst (λ o. IsSome o) (sym c.first_unused.ensures) (unmarked c.args.requirements.now c.mark_slots.new.used c.mark_slots.ensures c.requires.few)

pub returns-clause-least : goal.returns-clause-least
returns-clause-least c =
    IsLeastFree-first c.args.requirements.now c.mark_slots.new.used c.unwrap.result c.mark_slots.ensures (sym c.first_unused.ensures ∙ c.unwrap.ensures)
