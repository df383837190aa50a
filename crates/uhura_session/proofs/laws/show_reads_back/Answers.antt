use Rattle.uhura_session.proofs.ShowReplays.{shown_reads_back}
use Rattle.uhura_session.proofs.laws.show_reads_back.Goals as goal

pub returns : goal.returns
returns c = shown_reads_back
