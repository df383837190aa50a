use Rattle.uhura.proofs.Pieces.{Runs-no_memory}
use Rattle.uhura.proofs.run.run_script.Goals as goal

pub returns-in-Err-clause-outcome : goal.returns-in-Err-clause-outcome
returns-in-Err-clause-outcome g c = Runs-no_memory _

pub returns-in-Err-new-clause-outcome : goal.returns-in-Err-new-clause-outcome
returns-in-Err-new-clause-outcome g c = Runs-no_memory _
