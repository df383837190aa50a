use Rattle.uhura_choice.proofs.Prefixes.{sound-have_alternatives}
use Rattle.uhura_choice.proofs.Extensions.{one-child}
use Rattle.uhura_choice.proofs.laws.one_child_begins_a_branch.Goals as goal

pub returns : goal.returns
returns c = λ plan picks branch sound is_branch begins longer. one-child plan.choices picks branch (sound-have_alternatives plan sound) is_branch begins longer
