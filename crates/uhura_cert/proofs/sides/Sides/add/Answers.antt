use Rattle.std.proofs.Common.{◌≤◌, sym, subst}
use Rattle.std.specs.Prelude.{is_ok}
use Rattle.uhura_cert.specs.Order.{side_place}
use Rattle.uhura_cert.specs.Machine.{in_place, end_of}
use Rattle.uhura_cert.proofs.RisingSides.{no_units_yet, rises_either}
use Rattle.uhura_cert.proofs.sides.Sides.add.Goals as goal

pub add-requires-clause-fresh : goal.add-requires-clause-fresh
add-requires-clause-fresh c =
    no_units_yet c.self.inside.loosening c.args.key c.self.invariant
    (subst (λ sides. end_of (λ side. side_place in_place side.0) 0 sides ≤ side_place in_place c.args.key) (sym c.self.view_is) c.requires.later)

pub invariant_of-self : goal.invariant_of-self
invariant_of-self c =
    rises_either (is_ok c.add.result) c.self.inside.loosening c.add.new.self c.args.key c.args.units c.self.invariant
    (subst (λ sides. end_of (λ side. side_place in_place side.0) 0 sides ≤ side_place in_place c.args.key) (sym c.self.view_is) c.requires.later)
    c.add.ensures
