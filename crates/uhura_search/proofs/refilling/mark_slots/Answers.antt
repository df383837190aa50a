use Rattle.std.proofs.Common.{Bool, true, false, List, length, set, refl, sym, ap, ◌∙◌, length-set}
use Rattle.std.specs.Prelude.{option_copied}
use Rattle.std.proofs.lemmas.List.{length-replicate}
use Rattle.uhura_plan.specs.declared.limits.TheConstants.{REQUIREMENTS}
use Rattle.uhura_search.proofs.Refills.{slots-none, slots-more}
use Rattle.uhura_search.proofs.refilling.mark_slots.Goals as goal

pub loop-position-init : goal.loop-position-init
loop-position-init c = record {
  slots = slots-none c.args.plan.now c.args.slots.now c.requires;
  many = ap (λ (xs : List Bool). length xs) c.requires ∙ length-replicate REQUIREMENTS false;
}

pub loop-position-preserved : goal.loop-position-preserved
loop-position-preserved c =
    let r = c.unwrap.result.now in
    let old = c.loop-position.slots in
    record {
      slots = slots-more c.args.plan.now c.loop-position.position r old (set old r.slot true) c.requirements-position-end.ensures.sound.distinct.slots (sym c.requirement.ensures ∙ ap option_copied c.unwrap.ensures) refl
          c.loop-position.invariant.slots;
      many = length-set old r.slot true ∙ c.loop-position.invariant.many;
    }

pub returns : goal.returns
returns c = c.loop-position.invariant.slots
