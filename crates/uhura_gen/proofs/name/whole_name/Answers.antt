-- The word is a name.
use Rattle.std.proofs.Common.{ap, ◌∙◌}
use Rattle.uhura_plan.specs.Name.{is_name}
use Rattle.uhura_gen.proofs.Spelling.{is_name-all, read_name}
use Rattle.uhura_gen.proofs.name.whole_name.Goals as goal

pub unwrap-requires : goal.unwrap-requires
unwrap-requires c = read_name c.read.result _ c.read.ensures.not_name.0 (ap is_name c.as_slice.ensures ∙ is_name-all)
