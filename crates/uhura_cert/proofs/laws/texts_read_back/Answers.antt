use Rattle.uhura_cert.proofs.ReadBack.{all_read_back}
use Rattle.uhura_cert.proofs.laws.texts_read_back.Goals as goal

pub returns : goal.returns
returns c = all_read_back
