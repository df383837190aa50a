-- Alternatives with their costs as far as they are read.
use Rattle.std.specs.Prelude.{◌≡◌, true, false, List, Some}
use Rattle.uhura_line.specs.declared.part.costed.Costed.{Costed}
use Rattle.uhura_line.specs.declared.part.costed.Costed.TheVariants as code
use Rattle.uhura_line.specs.Form.{Word}
use Rattle.uhura_line.specs.Reads.{alternative_pairs, are_costs, begin_with_names}
use Rattle.uhura_line.specs.Reader.{alternatives_of}

-- what was read are these pairs, or memory ran out, or a word is no number, or else no name
abbrev pub HoldsCosted : Costed → List (Word × Word) → Type 0
HoldsCosted (code.Read list) pairs =
    (alternative_pairs list.items ≡ pairs)
    × (are_costs pairs ≡ true) × (begin_with_names pairs ≡ true)
HoldsCosted (code.Memory error) pairs = (are_costs pairs ≡ true) × (begin_with_names pairs ≡ true)
HoldsCosted code.NotNames pairs = (are_costs pairs ≡ true) × (begin_with_names pairs ≡ false)
HoldsCosted code.NotNumbers pairs = are_costs pairs ≡ false

-- the words up to those that are left are alternatives, and they were read
pub record ReadsCosted (words left : List Word) (read : Costed) : Type 0 where
  pub pairs : List (Word × Word)
  pub reads : alternatives_of words ≡ Some (pairs, left)
  pub holds : HoldsCosted read pairs
