use Rattle.std.proofs.Common.{ap, ◌∙◌}
use Rattle.uhura_net.specs.Place.{place_number, is_loose_key}
use Rattle.uhura_net.proofs.Rows.{is_loose-place_number}
use Rattle.uhura_worst.proofs.edges.VetoesTables.duration_edge.Goals as goal

pub returns-in-Loose-clause-fits : goal.returns-in-Loose-clause-fits
returns-in-Loose-clause-fits c = λ placed.
    c.loose.ensures.fits (place_number c.args.key) (is_loose-place_number c.args.key placed ∙ ap is_loose_key c.in-Loose.is)

pub returns-in-Firm-clause-fits : goal.returns-in-Firm-clause-fits
returns-in-Firm-clause-fits c = λ placed.
    c.firm.ensures.fits (place_number c.args.key) (is_loose-place_number c.args.key placed ∙ ap is_loose_key c.in-Firm.is)

pub returns-in-Steep-clause-fits : goal.returns-in-Steep-clause-fits
returns-in-Steep-clause-fits c = λ placed.
    c.steep.ensures.fits (place_number c.args.key) (is_loose-place_number c.args.key placed ∙ ap is_loose_key c.in-Steep.is)

pub returns-in-Order-clause-fits : goal.returns-in-Order-clause-fits
returns-in-Order-clause-fits c = λ placed.
    c.firm-in-Order.ensures.fits (place_number c.args.key) (is_loose-place_number c.args.key placed ∙ ap is_loose_key c.in-Order.is)
