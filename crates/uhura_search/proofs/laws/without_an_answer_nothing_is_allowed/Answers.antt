use Rattle.uhura_shows.proofs.Leaves.{leaves-none}
use Rattle.uhura_search.specs.Answer.{shown_leaves}
use Rattle.uhura_search.proofs.laws.without_an_answer_nothing_is_allowed.Goals as goal

pub returns : goal.returns
returns c = λ state k q leaves sound shows allowed. leaves-none state (shown_leaves state leaves) k q sound shows allowed
