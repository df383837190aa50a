-- How pairs are read, one behind the other.
use Rattle.std.proofs.Common.{◌≡◌, List, [], ◌∷◌, ◌++◌, Option, Some, None, option_map, refl, ap, sym, ◌∙◌, append_assoc, append-nil}
use Rattle.uhura_line.specs.declared.part.pairs.Pairs.{Pairs}
use Rattle.uhura_line.specs.Form.{Word, pair_words}
use Rattle.uhura_line.specs.Reader.{pairs_of}
use Rattle.uhura_line.specs.Pairs.{HoldsPairs, ReadsPairs}

-- what was read of all words is these pairs, and the others are still to come
pub record IsReadTo (all left : List Word) (read : Pairs) : Type 0 where
  pub before : List (Word × Word)
  pub reads : pairs_of all ≡ option_map (λ rest. before ++ rest) (pairs_of left)
  pub holds : HoldsPairs read before

pub same_none : (pairs : Option (List (Word × Word))) → option_map (λ rest. [] ++ rest) pairs ≡ pairs
same_none None = refl
same_none (Some pairs) = refl

-- one more pair is read
one_more : (before : List (Word × Word)) (a b : Word) (pairs : Option (List (Word × Word)))
    → option_map (λ rest. before ++ rest) (option_map (λ rest. (a, b) ∷ rest) pairs) ≡ option_map (λ rest. (before ++ (a, b) ∷ []) ++ rest) pairs
one_more before a b None = refl
one_more before a b (Some pairs) = ap (λ p. Some p) (sym (append_assoc before ((a, b) ∷ []) pairs))

pub read_more : (all left more : List Word) (a b : Word) (read next : Pairs) (h : IsReadTo all left read)
    → left ≡ a ∷ b ∷ more
    → ((before : List (Word × Word)) → HoldsPairs read before → HoldsPairs next (before ++ (a, b) ∷ []))
    → IsReadTo all more next
read_more all left more a b read next h e step = record {
  before = h.before ++ (a, b) ∷ [];
  reads = h.reads ∙ ap (λ l. option_map (λ rest. h.before ++ rest) (pairs_of l)) e ∙ one_more h.before a b (pairs_of more);
  holds = step h.before h.holds;
}

-- at the end all are read
pub read_all : (all left : List Word) (read : Pairs) → IsReadTo all left read → left ≡ [] → ReadsPairs all read
read_all all left read h e = record {
  pairs = h.before ++ [];
  reads = h.reads ∙ ap (λ l. option_map (λ rest. h.before ++ rest) (pairs_of l)) e;
  holds = rw (append-nil h.before) h.holds;
}

-- a word that is left over is no pair
pub read_none : (all left : List Word) (a : Word) (read : Pairs) → IsReadTo all left read → left ≡ a ∷ []
    → pairs_of all ≡ None
read_none all left a read h e = h.reads ∙ ap (λ l. option_map (λ rest. h.before ++ rest) (pairs_of l)) e

-- pairs are found wherever they are written
pub pairs_found : (pairs : List (Word × Word)) → pairs_of (pair_words pairs) ≡ Some pairs
pairs_found [] = refl
pairs_found (pair ∷ pairs) = ap (option_map (λ rest. (pair.0, pair.1) ∷ rest)) (pairs_found pairs)

-- and what is found is written
pairs_step : (a b : Word) (more : List Word) (found : Option (List (Word × Word))) (pairs : List (Word × Word))
    → ((rest : List (Word × Word)) → found ≡ Some rest → more ≡ pair_words rest)
    → option_map (λ rest. (a, b) ∷ rest) found ≡ Some pairs → a ∷ b ∷ more ≡ pair_words pairs
pairs_step a b more None pairs rest_are h = cc
pairs_step a b more (Some rest) pairs rest_are h =
    let same : (a, b) ∷ rest ≡ pairs = cc in
    ap (λ l. a ∷ b ∷ l) (rest_are rest refl) ∙ ap pair_words same

pub pairs_are : (words : List Word) (pairs : List (Word × Word)) → pairs_of words ≡ Some pairs
    → words ≡ pair_words pairs
pairs_are [] pairs h = let same : [] ≡ pairs = cc in ap pair_words same
pairs_are (a ∷ []) pairs h = cc
pairs_are (a ∷ b ∷ more) pairs h = pairs_step a b more (pairs_of more) pairs (λ rest e. pairs_are more rest e) h
