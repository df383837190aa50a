use Rattle.uhura_shows.proofs.Leaves.{leaves-none}
use Rattle.uhura_shows.proofs.laws.leaves_show_that_nothing_is_allowed.Goals as goal

pub returns : goal.returns
returns c = λ state k q leaves sound shows allowed. leaves-none state leaves k q sound shows allowed
