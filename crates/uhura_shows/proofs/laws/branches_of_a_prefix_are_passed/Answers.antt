use Rattle.uhura_shows.proofs.Going.{before-behind}
use Rattle.uhura_shows.proofs.laws.branches_of_a_prefix_are_passed.Goals as goal

pub returns : goal.returns
returns c = λ choices prefix branch later other is_branch begins behind is_other before. before-behind choices prefix branch later other is_branch begins behind is_other before
