-- How long a line of few words is.
use Rattle.std.proofs.Common.{◌≡◌, ◌+◌, ◌*◌, ◌≤◌, List, [], ◌∷◌, length, Option, Some, None, refl, arith, length-append}
use Rattle.std.specs.List.{AllByRecursion}
use Rattle.uhura_plan.specs.declared.key.Side.{Side}
use Rattle.uhura_line.specs.Form.{Word, Past, Rated, Priced, pair_words, guard_words, past_words, rated_words, rate_words, price_words, optional}
use Rattle.uhura_line.specs.Written.{spaced, joined}
use Rattle.uhura_line.proofs.ReadsBack.{IsWord, AreWords}

-- a word has at most 32 bytes, and a space in front of it
spaced-length : (ws : List Word) → AllByRecursion IsWord ws → length (spaced ws) ≤ 33 * length ws
spaced-length [] are = omega arith
spaced-length (w ∷ ws) are = omega (arith, are.0.short, spaced-length ws are.1, length-append w (spaced ws))

-- a line of at most 124 words isn't long
pub short_line : (ws : List Word) → AreWords ws → length ws ≤ 124 → length (joined ws) ≤ 4096
short_line [] are few = omega arith
short_line (w ∷ ws) are few = omega (arith, are.0.short, spaced-length ws are.1, length-append w (spaced ws))

-- ---- how many words the parts of a form have

pub length-pair_words : (pairs : List (Word × Word)) → length (pair_words pairs) ≡ 2 * length pairs
length-pair_words [] = refl
length-pair_words (pair ∷ pairs) = omega (arith, length-pair_words pairs)

pub length-guard_words : (guard : List (Word × Word)) → length (guard_words guard) ≤ 1 + 2 * length guard
length-guard_words [] = omega arith
length-guard_words (pair ∷ guard) = omega (arith, length-pair_words guard)

length-past_words : (second : Option Past) → length (past_words second) ≤ 3
length-past_words None = omega arith
length-past_words (Some second) = omega arith

length-optional : (word : Option Word) → length (optional word) ≤ 1
length-optional None = omega arith
length-optional (Some word) = omega arith

pub length-rate_words : (side : Side) (rate : Option Rated) → length (rate_words side rate) ≤ 5
length-rate_words side None = omega arith
length-rate_words side (Some r) = omega (arith, length-past_words r.second)

pub length-price_words : (side : Side) (price : Option Priced) → length (price_words side price) ≤ 6
length-price_words side None = omega arith
length-price_words side (Some p) =
    omega (arith, length-past_words p.rate.second, length-optional p.most, length-append (rated_words p.rate) (optional p.most))
