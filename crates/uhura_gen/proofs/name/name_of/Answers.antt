-- The word is the letter with the digits, which is a name.
use Rattle.std.proofs.Common.{decimal, ap, ◌∙◌}
use Rattle.uhura_plan.specs.Name.{is_name}
use Rattle.uhura_gen.proofs.Spelling.{is_name-named, spelled_word, read_name}
use Rattle.uhura_gen.proofs.name.name_of.Goals as goal

pub unwrap-requires : goal.unwrap-requires
unwrap-requires c =
    read_name c.read.result _ c.read.ensures.not_name.0
    (ap is_name
    (spelled_word c.args.letter c.as_bytes-digits.result.now c.copy_from_slice.new.self _ (decimal c.args.number)
    c.copy_from_slice.ensures.after (c.as_bytes-digits.ensures.value ∙ c.format.ensures.text))
    ∙ is_name-named c.args.letter c.args.number c.requires.least c.requires.most c.requires.small)
