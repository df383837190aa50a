-- How spaced and joined words are put together.
use Rattle.std.proofs.Common.{◌≡◌, ℕ, ◌+◌, ◌<◌, List, [], ◌∷◌, ◌++◌, length, take, get_or, refl, ap, sym, ◌∙◌, append_assoc}
use Rattle.std.specs.Prelude.{codes}
use Rattle.std.proofs.lemmas.List.{take_more, map-append}
use Rattle.std.proofs.lemmas.Grind.{flat_map-append}
use Rattle.uhura_line.specs.Form.{Word, pair_words}
use Rattle.uhura_line.specs.Reads.{count_word, alternative_pairs}
use Rattle.uhura_line.specs.Written.{line_of, spaced, joined}

-- words behind words
pub spaced-append : (xs ys : List Word) → spaced (xs ++ ys) ≡ spaced xs ++ spaced ys
spaced-append [] ys = refl
spaced-append (x ∷ xs) ys =
    ap (λ more. (codes " " ++ x) ++ more) (spaced-append xs ys) ∙ sym (append_assoc (codes " " ++ x) (spaced xs) (spaced ys))

-- words behind joined words
pub joined-append : (w : Word) (ws vs : List Word) → joined ((w ∷ ws) ++ vs) ≡ joined (w ∷ ws) ++ spaced vs
joined-append w ws vs = ap (λ more. w ++ more) (spaced-append ws vs) ∙ sym (append_assoc w (spaced ws) (spaced vs))

-- a line is its joined words with a newline behind them
pub line_of-joined : (ws : List Word) → line_of ws ≡ joined ws ++ codes "\n"
line_of-joined [] = refl
line_of-joined (w ∷ []) = search (append_assoc)
line_of-joined (w ∷ next ∷ more) = rw (line_of-joined (next ∷ more)) (simp (append_assoc) refl)

-- what is behind a line stays behind a longer one
pub extended : (old line new front more all : List ℕ) → new ≡ line ++ more → line ≡ old ++ front → all ≡ front ++ more
    → new ≡ old ++ all
extended old line new front more all written before whole =
    written ∙ ap (λ xs. xs ++ more) before ∙ append_assoc old front more ∙ ap (λ xs. old ++ xs) (sym whole)

pair_behind : (pairs : List (Word × Word)) (pair : Word × Word)
    → pair_words (pairs ++ pair ∷ []) ≡ pair_words pairs ++ pair.0 ∷ pair.1 ∷ []
pair_behind pairs pair = flat_map-append (λ p. p.0 ∷ p.1 ∷ []) pairs (pair ∷ [])

-- one pair more
pub pairs_more : (pairs : List (Word × Word)) (i : ℕ) (pair : Word × Word) → i < length pairs
    → pair ≡ get_or pairs i pair
    → spaced (pair_words (take (i + 1) pairs)) ≡ spaced (pair_words (take i pairs)) ++ spaced (pair.0 ∷ pair.1 ∷ [])
pairs_more pairs i pair within is =
    let front = take i pairs in
    let taken : take (i + 1) pairs ≡ front ++ pair ∷ [] = take_more pairs i pair within ∙ ap (λ p. front ++ p ∷ []) (sym is) in
    ap (λ ps. spaced (pair_words ps)) taken ∙ ap spaced (pair_behind front pair) ∙ spaced-append (pair_words front) (pair.0 ∷ pair.1 ∷ [])

-- one alternative more
pub alternatives_more : (alternatives : List (List ℕ × ℕ)) (i : ℕ) (a : List ℕ × ℕ) → i < length alternatives
    → a ≡ get_or alternatives i a
    → spaced (pair_words (alternative_pairs (take (i + 1) alternatives))) ≡ spaced (pair_words (alternative_pairs (take i alternatives))) ++ spaced (a.0 ∷ count_word a.1 ∷ [])
alternatives_more alternatives i a within is =
    let front = take i alternatives in
    let last : Word × Word = (a.0, count_word a.1) in
    let taken : take (i + 1) alternatives ≡ front ++ a ∷ [] = take_more alternatives i a within ∙ ap (λ p. front ++ p ∷ []) (sym is) in
    let pairs : alternative_pairs (front ++ a ∷ []) ≡ alternative_pairs front ++ last ∷ [] = map-append (λ p. (p.0, count_word p.1)) front (a ∷ []) in
    ap (λ ps. spaced (pair_words (alternative_pairs ps))) taken ∙ ap (λ ps. spaced (pair_words ps)) pairs ∙ ap spaced (pair_behind (alternative_pairs front) last) ∙ spaced-append (pair_words (alternative_pairs front)) (last.0 ∷ last.1 ∷ [])

-- for the functions that write several words
pub ruleset spacing = (spaced-append)

-- for the function that writes the whole line
pub ruleset lines = (line_of-joined)
