use Rattle.std.proofs.Common.{◌≡◌, ◌++◌, drop}
use Rattle.uhura_answer.specs.Literals.{literals_from, literals_of}
use Rattle.uhura_answer.proofs.literals.literals_of.Given as goal

abbrev pub invariant-loop-choice : goal.invariant-loop-choice
invariant-loop-choice l = l.literals.items ++ literals_from l.choice (drop l.choice l.picks) ≡ literals_of l.picks
