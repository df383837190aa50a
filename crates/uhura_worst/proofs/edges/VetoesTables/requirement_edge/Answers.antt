use Rattle.std.proofs.Common.{ap, ◌∙◌}
use Rattle.uhura_net.specs.Place.{place_number, is_loose_key}
use Rattle.uhura_net.proofs.Rows.{is_loose-place_number}
use Rattle.uhura_worst.proofs.edges.VetoesTables.requirement_edge.Goals as goal

pub returns-in-Some-clause-fits : goal.returns-in-Some-clause-fits
returns-in-Some-clause-fits c = λ placed.
    c.loose.ensures.fits (place_number c.args.key) (is_loose-place_number c.args.key placed ∙ ap is_loose_key c.in-Loose.is)

pub returns-in-Some-of_requirement-clause-fits : goal.returns-in-Some-of_requirement-clause-fits
returns-in-Some-of_requirement-clause-fits c = λ placed.
    c.firm.ensures.fits (place_number c.args.key) (is_loose-place_number c.args.key placed ∙ ap is_loose_key c.in-Firm.is)

pub returns-in-Some-of_requirement-2-clause-fits : goal.returns-in-Some-of_requirement-2-clause-fits
returns-in-Some-of_requirement-2-clause-fits c = λ placed.
    c.steep.ensures.fits (place_number c.args.key) (is_loose-place_number c.args.key placed ∙ ap is_loose_key c.in-Steep.is)
