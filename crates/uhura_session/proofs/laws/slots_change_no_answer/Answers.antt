use Rattle.std.proofs.Common.{ap, ◌++◌}
use Rattle.std.specs.Prelude.{codes}
use Rattle.uhura_command.proofs.Slotless.{script_slotless}
use Rattle.uhura_proof.proofs.SameVetoes.{asked_alike}
use Rattle.uhura_session.proofs.laws.slots_change_no_answer.Goals as goal

pub returns-clause-shown : goal.returns-clause-shown
returns-clause-shown c = λ a b same. ap (λ xs. xs ++ codes "# end\n") (script_slotless a b same)

pub returns-clause-asked : goal.returns-clause-asked
returns-clause-asked c = λ a b sound_a sound_b same. asked_alike a b sound_a.plan sound_b.plan sound_a.vetoes sound_b.vetoes same
