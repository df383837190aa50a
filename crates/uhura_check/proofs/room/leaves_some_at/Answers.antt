use Rattle.std.proofs.Common.{ap, sym, ◌∙◌}
use Rattle.uhura_worst.specs.Units.{side_units}
use Rattle.uhura_check.proofs.Rooms.{leaves-decided}
use Rattle.uhura_check.proofs.room.leaves_some_at.Goals as goal

pub returns-in-Some : goal.returns-in-Some
returns-in-Some c = λ branch times.
    leaves-decided c.args.plan.now c.uncertains.ensures.sound c.args.loosening.now branch times c.in-Upper-Uncertain.duration c.args.key.side c.args.key.item c.in-Some.uncertain.now
    c.leaves_some.result c.units.result c.units-in-Some.result c.in-Upper-Uncertain.is-0 c.in-Upper-Uncertain.is-1 (sym c.in-Some.ensures)
    (c.units.ensures.units ∙ ap (side_units c.args.loosening.now) c.duration_side-low.ensures)
    (c.units-in-Some.ensures.units ∙ ap (side_units c.args.loosening.now) c.duration_side-high.ensures) c.leaves_some.ensures
