use Rattle.std.proofs.Common.{ℕ, ◌<◌, set, ap, subst, ◌∙◌}
use Rattle.uhura_net.specs.declared.place.TheConstants.{PLACES}
use Rattle.uhura_worst.proofs.Puts.{Puts-set}
use Rattle.uhura_worst.proofs.filling.put.Goals as goal

pub returns : goal.returns
returns c =
    Puts-set c.args.key c.args.edge c.args.table.now c.put.new.self c.put.ensures.places
    (subst (λ (n : ℕ). n < PLACES) c.place_of.ensures.place c.place_of.ensures.below) c.requires.placed
    (c.put.ensures.edges ∙ ap (λ (n : ℕ). set c.args.table.now n c.args.edge) c.place_of.ensures.place)
