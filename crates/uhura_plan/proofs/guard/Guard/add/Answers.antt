-- The room that callers see is room in the array.
use Rattle.std.proofs.Common.{◌≡◌, length, arith, ap, sym, ◌∙◌}
use Rattle.uhura_plan.specs.Padded.{length-guard}
use Rattle.uhura_plan.proofs.Guards.{holds_added}
use Rattle.uhura_plan.proofs.guard.Guard.add.Goals as goal

pub invariant_of-self : goal.invariant_of-self
invariant_of-self c =
    let counted : length c.args.self.now ≡ c.self.inside.len =
    ap length (sym c.self.view_is) ∙ length-guard c.self.inside.literals c.self.inside.len c.self.invariant in
    holds_added _ _ c.args.literal c.self.invariant (omega (arith, counted, c.requires.room))
