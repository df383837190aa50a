use Rattle.uhura_choice.proofs.Prefixes.{sound-have_alternatives}
use Rattle.uhura_choice.proofs.Walks.{walk-lists_branches}
use Rattle.uhura_choice.proofs.Enumerations.{walk-of_branches}
use Rattle.uhura_choice.proofs.laws.branches_are_walked.Goals as goal

pub returns : goal.returns
returns c = λ plan sound.
    let walk = walk-of_branches plan.choices (sound-have_alternatives plan sound) in
    record {
      walk = walk.0;
      is_walk = walk.1;
      listed = λ other walked. walk-lists_branches plan.choices other walked;
    }
