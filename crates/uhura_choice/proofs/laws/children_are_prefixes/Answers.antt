use Rattle.uhura_choice.proofs.Prefixes.{sound-have_alternatives}
use Rattle.uhura_choice.proofs.Extensions.{are-children}
use Rattle.uhura_choice.proofs.laws.children_are_prefixes.Goals as goal

pub returns : goal.returns
returns c = λ plan picks sound prefix. are-children plan.choices picks (sound-have_alternatives plan sound) prefix
