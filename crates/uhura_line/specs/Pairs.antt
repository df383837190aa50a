-- Pairs of names as far as they are read.
use Rattle.std.specs.Prelude.{◌≡◌, true, false, List, Option, Some}
use Rattle.uhura_line.specs.declared.part.pairs.Pairs.{Pairs}
use Rattle.uhura_line.specs.declared.part.pairs.Pairs.TheVariants as code
use Rattle.uhura_line.specs.Form.{Word, Priced}
use Rattle.uhura_line.specs.Reads.{are_names}
use Rattle.uhura_line.specs.Reader.{pairs_of, guard_of, terms_in}

-- what was read are these pairs, or memory ran out, or a word is no name
abbrev pub HoldsPairs : Pairs → List (Word × Word) → Type 0
HoldsPairs (code.Read list) pairs = (list.items ≡ pairs) × (are_names pairs ≡ true)
HoldsPairs (code.Memory error) pairs = are_names pairs ≡ true
HoldsPairs code.NotNames pairs = are_names pairs ≡ false

-- the words are pairs, and they were read
pub record ReadsPairs (words : List Word) (read : Pairs) : Type 0 where
  pub pairs : List (Word × Word)
  pub reads : pairs_of words ≡ Some pairs
  pub holds : HoldsPairs read pairs

-- the words are a guard, and its pairs were read
pub record ReadsGuard (words : List Word) (read : Pairs) : Type 0 where
  pub pairs : List (Word × Word)
  pub reads : guard_of words ≡ Some pairs
  pub holds : HoldsPairs read pairs

-- the words are the prices of both sides and a guard, whose pairs were read
pub record ReadsTerms (all : List Word) (lower upper : Option Priced) (read : Pairs) : Type 0 where
  pub pairs : List (Word × Word)
  pub reads : terms_in all ≡ Some (lower, upper, pairs)
  pub holds : HoldsPairs read pairs
