-- The first pair of a name is the first name of a pair.
use Rattle.std.proofs.Common.{position, bytes_eq, sym, ap, ◌∙◌}
use Rattle.uhura_plan.proofs.Positions.{position_map}
use Rattle.uhura_plan.proofs.choice.Alternatives.find.Goals as goal

pub returns : goal.returns
returns c =
    c.pair_named.ensures
    ∙ (ap (position (λ a. bytes_eq c.args.name a.0)) (c.as_slice.ensures.value ∙ c.self.view_is)
    ∙ sym (position_map (bytes_eq c.args.name) (λ a. a.0) c.args.self.now))
