-- The words of a form whose names and numbers are such are words that a line may hold.
use Rattle.std.proofs.Common.{◌≡◌, ℕ, ◌+◌, ◌<◌, ◌≤◌, ℤ, pos, negsuc, Bool, true, false, cond, not, ◌||◌, ◌&&◌, List, [], ◌∷◌, ◌++◌, length, drop, eqb, leb, leb-true, get_or, Option, Some, None, bytes_eq, refl, sym, subst, arith, le-leb, ltb, ltb-true, true≢false}
use Rattle.std.specs.Prelude.{codes, int_le}
use Rattle.std.specs.List.{AllByRecursion, list_all}
use Rattle.std.specs.Option.{option_map_or}
use Rattle.std.specs.Char.{is_ascii_digit}
use Rattle.std.proofs.lemmas.Bool.{and_parts}
use Rattle.std.proofs.lemmas.Bool.Decides.{Decides-eqb}
use Rattle.std.proofs.lemmas.Option.{none-some}
use Rattle.std.proofs.lemmas.Grind.{common_steps}
use Rattle.std.proofs.lemmas.Slice.Eq.{bytes_eq-Decides}
use Rattle.uhura_text.specs.Number.{is_magnitude, number_of}
use Rattle.uhura_text.proofs.NumberLemmas.{from_is_magnitude}
use Rattle.uhura_text.specs.Words.{is_graphic}
use Rattle.uhura_plan.specs.Name.{is_name, is_letter, is_name_byte, is_fixed_word}
use Rattle.uhura_plan.specs.declared.key.Side.{Side}
use Rattle.uhura_plan.specs.declared.key.Side.TheVariants.{Lower, Upper}
use Rattle.uhura_plan.proofs.Names.{least_name, most_name}
use Rattle.uhura_line.specs.Form.{Word, Past, Rated, Priced, Kind, Form, pair_words, guard_words, words_of, side_word, kind_word, requirement, duration, past_words, rated_words, priced_words, rate_words, price_words, set_words, optional}
use Rattle.uhura_line.specs.Form as forms
use Rattle.uhura_line.specs.Written.{line_of, joined, IsLineOf}
use Rattle.uhura_line.specs.declared.command.Command.{Command}
use Rattle.uhura_line.proofs.Spacing.{line_of-joined}
use Rattle.uhura_line.specs.Reads.{form_of, IsCommand, magnitude_of, is_number, is_bound, is_first, is_units, is_above, is_past, is_amount, is_rated, is_priced, if_there, are_names, has_names, has_numbers}
use Rattle.uhura_line.proofs.ReadsBack.{IsWord, AreWords, reads_back}

-- all words of both lists
both : (xs ys : List Word) → AllByRecursion IsWord xs → AllByRecursion IsWord ys → AllByRecursion IsWord (xs ++ ys)
both [] ys first more = more
both (x ∷ xs) ys first more = (first.0, both xs ys first.1 more)

-- a test that implies another does so of all bytes
all_weaker : (p q : ℕ → Bool) → ((b : ℕ) → p b ≡ true → q b ≡ true) → (bs : List ℕ) → list_all p bs ≡ true
    → list_all q bs ≡ true
all_weaker p q weaker [] h = refl
all_weaker p q weaker (b ∷ bs) h =
    let parts = and_parts (p b) (list_all p bs) h in
    rw (weaker b parts.0) (all_weaker p q weaker bs parts.1)

to_graphic : (b : ℕ) → 33 ≤ b → b ≤ 126 → is_graphic b ≡ true
to_graphic b low high = rw (le-leb 33 b low, le-leb b 126 high) refl

-- bytes of a name are graphic
graphic_name_byte : (b : ℕ) → is_name_byte b ≡ true → is_graphic b ≡ true
unfolding is_name_byte is_letter
graphic_name_byte b h = grind (arith, common_steps)

-- a name is a word
pub name_word : (word : Word) → is_name word ≡ true → IsWord word
unfolding is_name
name_word word named =
    let behind = and_parts (leb 1 (length word) && leb (length word) 32) (is_letter (get_or word 0 0) && (list_all is_name_byte word && not (is_fixed_word word))) named in
    let bytes = and_parts (is_letter (get_or word 0 0)) (list_all is_name_byte word && not (is_fixed_word word)) behind.1 in
    let graphic = and_parts (list_all is_name_byte word) (not (is_fixed_word word)) bytes.1 in
    record { some = omega (arith, least_name word named); short = most_name word named; graphic = all_weaker is_name_byte is_graphic graphic_name_byte word graphic.0 }

-- a digit is graphic
graphic_digit : (b : ℕ) → is_ascii_digit b ≡ true → is_graphic b ≡ true
graphic_digit b h = grind (arith, common_steps)

longer : (ds : Word) → 48 < get_or ds 0 0 → 0 < length ds
longer [] above = absurd (omega arith)
longer (d ∷ ds) above = omega arith

-- digits of a number are a word
magnitude_word : (ds : Word) → is_magnitude ds ≡ true → IsWord ds
magnitude_word ds h =
    let m = from_is_magnitude ds h in
    record { some = longer ds m.first; short = omega (arith, m.short); graphic = all_weaker is_ascii_digit is_graphic graphic_digit ds m.digits }

-- with `-` in front they are a word too
minus_word : (word : Word) → eqb (get_or word 0 0) 45 ≡ true → is_magnitude (drop 1 word) ≡ true → IsWord word
minus_word [] sign h = absurd (true≢false (sym sign))
minus_word (b ∷ bs) sign h =
    let minus : b ≡ 45 = (Decides-eqb b 45).0 sign in
    let digits = magnitude_word bs h in
    record { some = omega arith; short = omega (arith, (from_is_magnitude bs h).short); graphic = rw (to_graphic b (omega (arith, minus)) (omega (arith, minus))) digits.graphic }

zero_word : (word : Word) → bytes_eq word (codes "0") ≡ true → IsWord word
zero_word word h =
    subst IsWord (sym ((bytes_eq-Decides word (codes "0")).0 h)) (record { some = omega arith; short = omega arith; graphic = refl })

-- by what kind of number it is
number_by : (word : Word) (is_zero positive negative : Bool) (a b c z : ℤ)
    → bytes_eq word (codes "0") ≡ is_zero
    → is_magnitude word ≡ positive
    → (eqb (get_or word 0 0) 45 && is_magnitude (drop 1 word)) ≡ negative
    → cond {A = Option ℤ} is_zero (Some a) (cond {A = Option ℤ} positive (Some b) (cond {A = Option ℤ} negative (Some c) None)) ≡ Some z
    → IsWord word
number_by word true positive negative a b c z first second third h = zero_word word first
number_by word false true negative a b c z first second third h = magnitude_word word second
number_by word false false true a b c z first second third h =
    let parts = and_parts (eqb (get_or word 0 0) 45) (is_magnitude (drop 1 word)) third in
    minus_word word parts.0 parts.1
number_by word false false false a b c z first second third h = absurd (none-some z h)

-- what is read as a number is a word
pub number_word : (word : Word) (z : ℤ) → number_of word ≡ Some z → IsWord word
unfolding number_of
number_word word z h =
    number_by word (bytes_eq word (codes "0")) (is_magnitude word) (eqb (get_or word 0 0) 45 && is_magnitude (drop 1 word)) _ _ _ z refl refl refl h

within_by : (low high : ℤ) (word : Word) (o : Option ℤ) → number_of word ≡ o
    → option_map_or (λ z. int_le low z && int_le z high) o false ≡ true → IsWord word
within_by low high word None e h = absurd (true≢false (sym h))
within_by low high word (Some z) e h = number_word word z e

-- a number within limits is a word
within_word : (low high : ℤ) (word : Word) → is_number low high word ≡ true → IsWord word
within_word low high word h = within_by low high word (number_of word) refl h

-- so is a bound
bound_by : (word : Word) (none : Bool) → bytes_eq word (codes "-") ≡ none
    → (none || is_number (negsuc 999999999) (pos 1000000000) word) ≡ true → IsWord word
bound_by word true e h =
    subst IsWord (sym ((bytes_eq-Decides word (codes "-")).0 e)) (record { some = omega arith; short = omega arith; graphic = refl })
bound_by word false e h = within_word (negsuc 999999999) (pos 1000000000) word h

bound_is_word : (word : Word) → is_bound word ≡ true → IsWord word
bound_is_word word h = bound_by word (bytes_eq word (codes "-")) refl h

amount_is_word : (word : Word) → is_amount word ≡ true → IsWord word
amount_is_word word h = within_word (pos 0) (pos 1000000000) word h

-- what passes three tests passes each
three : (a b c : Bool) → (a && b && c) ≡ true → (a ≡ true) × (b ≡ true) × (c ≡ true)
three a b c h =
    let outer = and_parts (a && b) c h in
    let inner = and_parts a b outer.0 in
    (inner.0, inner.1, outer.1)

-- a word that is given by its letters
pub letters : (word : Word) → (ltb 0 (length word) && leb (length word) 32 && list_all is_graphic word) ≡ true
    → IsWord word
letters word h =
    let parts = three (ltb 0 (length word)) (leb (length word) 32) (list_all is_graphic word) h in
    record { some = ltb-true _ _ parts.0; short = leb-true _ _ parts.1; graphic = parts.2 }

-- ---- the words of parts of a form

side_is_word : (side : Side) → IsWord (side_word side)
side_is_word Lower = letters (codes "lower") refl
side_is_word Upper = letters (codes "upper") refl

kind_is_word : (kind : Kind) → IsWord (kind_word kind)
kind_is_word requirement = letters (codes "require") refl
kind_is_word duration = letters (codes "uncertain") refl

optional_are : (word : Option Word) → if_there is_amount word ≡ true → AllByRecursion IsWord (optional word)
optional_are None h = tt
optional_are (Some word) h = (amount_is_word word h, tt)

past_are : (first : Word) (second : Option Past) → if_there (is_past first) second ≡ true
    → AllByRecursion IsWord (past_words second)
past_are first None h = tt
past_are first (Some p) h =
    let parts = and_parts (is_units p.units) (is_above (magnitude_of first) p.price) h in
    (letters (codes "past") refl, (within_word (pos 1) (pos 1000000000) p.units parts.0, (within_word (pos (magnitude_of first + 1)) (pos 1000000) p.price parts.1, tt)))

rated_are : (r : Rated) → is_rated r ≡ true → AllByRecursion IsWord (rated_words r)
rated_are r h =
    let parts = and_parts (is_first r.first) (if_there (is_past r.first) r.second) h in
    (within_word (pos 1) (pos 1000000) r.first parts.0, past_are r.first r.second parts.1)

priced_are : (p : Priced) → is_priced p ≡ true → AllByRecursion IsWord (priced_words p)
priced_are p h =
    let parts = and_parts (is_rated p.rate) (if_there is_amount p.most) h in
    both (rated_words p.rate) (optional p.most) (rated_are p.rate parts.0) (optional_are p.most parts.1)

rates_are : (side : Side) (rate : Option Rated) → if_there is_rated rate ≡ true
    → AllByRecursion IsWord (rate_words side rate)
rates_are side None h = tt
rates_are side (Some r) h = (side_is_word side, rated_are r h)

prices_are : (side : Side) (price : Option Priced) → if_there is_priced price ≡ true
    → AllByRecursion IsWord (price_words side price)
prices_are side None h = tt
prices_are side (Some p) h = (side_is_word side, priced_are p h)

set_prices_are : (price : Option Priced) → if_there is_priced price ≡ true
    → AllByRecursion IsWord (set_words priced_words price)
set_prices_are None h = (letters (codes "-") refl, tt)
set_prices_are (Some p) h = priced_are p h

set_rates_are : (rate : Option Rated) → if_there is_rated rate ≡ true
    → AllByRecursion IsWord (set_words rated_words rate)
set_rates_are None h = (letters (codes "-") refl, tt)
set_rates_are (Some r) h = rated_are r h

pairs_are : (pairs : List (Word × Word)) → are_names pairs ≡ true → AllByRecursion IsWord (pair_words pairs)
pairs_are [] h = tt
pairs_are (pair ∷ pairs) h =
    let parts = and_parts (is_name pair.0 && is_name pair.1) (are_names pairs) h in
    let names = and_parts (is_name pair.0) (is_name pair.1) parts.0 in
    (name_word pair.0 names.0, (name_word pair.1 names.1, pairs_are pairs parts.1))

guard_are : (pairs : List (Word × Word)) → are_names pairs ≡ true → AllByRecursion IsWord (guard_words pairs)
guard_are [] h = tt
guard_are (pair ∷ pairs) h = (letters (codes "when") refl, pairs_are (pair ∷ pairs) h)

alternatives_are : (pairs : List (Word × Word)) → list_all (λ a. is_name a.0) pairs ≡ true
    → list_all (λ a. is_amount a.1) pairs ≡ true → AllByRecursion IsWord (pair_words pairs)
alternatives_are [] names numbers = tt
alternatives_are (pair ∷ pairs) names numbers =
    let named = and_parts (is_name pair.0) (list_all (λ a. is_name a.0) pairs) names in
    let numbered = and_parts (is_amount pair.1) (list_all (λ a. is_amount a.1) pairs) numbers in
    (name_word pair.0 named.0, (amount_is_word pair.1 numbered.0, alternatives_are pairs named.1 numbered.1))

-- ---- the words of a form

four : (a b c d : Bool) → (a && b && c && d) ≡ true → (a ≡ true) × (b ≡ true) × (c ≡ true) × (d ≡ true)
four a b c d h =
    let outer = and_parts (a && b && c) d h in
    let inner = three a b c outer.0 in
    (inner.0, inner.1, inner.2, outer.1)

-- a verb, and the words behind it
verb_and : (w : Word) (ws : List Word) → IsWord w → AllByRecursion IsWord ws → eqb (get_or w 0 0) 35 ≡ false
    → AreWords (w ∷ ws)
verb_and w ws first more sign = (first, more, sign)

-- what stands at the places of a form are words
pub form_words : (form : Form) → has_names form ≡ true → has_numbers form ≡ true → AreWords (words_of form)
form_words (forms.event n) names numbers =
    verb_and (codes "event") (n ∷ []) (letters (codes "event") refl) (name_word n names, tt) refl
form_words (forms.uncertain n start end lo hi lower upper) names numbers =
    let named = three (is_name n) (is_name start) (is_name end) names in
    let numbered = four (is_amount lo) (is_amount hi) (if_there is_rated lower) (if_there is_rated upper) numbers in
    let rates = both (rate_words Lower lower) (rate_words Upper upper) (rates_are Lower lower numbered.2) (rates_are Upper upper numbered.3) in
    verb_and (codes "uncertain") (n ∷ start ∷ end ∷ lo ∷ hi ∷ rate_words Lower lower ++ rate_words Upper upper) (letters (codes "uncertain") refl)
    (name_word n named.0, (name_word start named.1, (name_word end named.2, (amount_is_word lo numbered.0, (amount_is_word hi numbered.1, rates))))) refl
form_words (forms.choice n alternatives guard) names numbers =
    let named = three (is_name n) (list_all (λ a. is_name a.0) alternatives) (are_names guard) names in
    verb_and (codes "choice") (n ∷ pair_words alternatives ++ guard_words guard) (letters (codes "choice") refl)
    (name_word n named.0, both (pair_words alternatives) (guard_words guard) (alternatives_are alternatives named.1 numbers) (guard_are guard named.2)) refl
form_words (forms.require n from to lo hi lower upper guard) names numbers =
    let named = four (is_name n) (is_name from) (is_name to) (are_names guard) names in
    let numbered = four (is_bound lo) (is_bound hi) (if_there is_priced lower) (if_there is_priced upper) numbers in
    let prices = both (price_words Lower lower) (price_words Upper upper) (prices_are Lower lower numbered.2) (prices_are Upper upper numbered.3) in
    let terms = both (price_words Lower lower ++ price_words Upper upper) (guard_words guard) prices (guard_are guard named.3) in
    verb_and (codes "require") (n ∷ from ∷ to ∷ lo ∷ hi ∷ price_words Lower lower ++ price_words Upper upper ++ guard_words guard) (letters (codes "require") refl)
    (name_word n named.0, (name_word from named.1, (name_word to named.2, (bound_is_word lo numbered.0, (bound_is_word hi numbered.1, terms))))) refl
form_words (forms.drop n) names numbers =
    verb_and (codes "drop") (n ∷ []) (letters (codes "drop") refl) (name_word n names, tt) refl
form_words (forms.bound n side b) names numbers =
    verb_and (codes "bound") (n ∷ side_word side ∷ b ∷ []) (letters (codes "bound") refl) (name_word n names, (side_is_word side, (bound_is_word b numbers, tt))) refl
form_words (forms.price n side p) names numbers =
    verb_and (codes "price") (codes "require" ∷ n ∷ side_word side ∷ set_words priced_words p) (letters (codes "price") refl)
    (letters (codes "require") refl, (name_word n names, (side_is_word side, set_prices_are p numbers))) refl
form_words (forms.rate n side r) names numbers =
    verb_and (codes "price") (codes "uncertain" ∷ n ∷ side_word side ∷ set_words rated_words r) (letters (codes "price") refl)
    (letters (codes "uncertain") refl, (name_word n names, (side_is_word side, set_rates_are r numbers))) refl
form_words (forms.range n lo hi) names numbers =
    let numbered = and_parts (is_amount lo) (is_amount hi) numbers in
    verb_and (codes "range") (n ∷ lo ∷ hi ∷ []) (letters (codes "range") refl) (name_word n names, (amount_is_word lo numbered.0, (amount_is_word hi numbered.1, tt))) refl
form_words (forms.prefer c a cost) names numbers =
    let named = and_parts (is_name c) (is_name a) names in
    verb_and (codes "prefer") (c ∷ a ∷ cost ∷ []) (letters (codes "prefer") refl) (name_word c named.0, (name_word a named.1, (amount_is_word cost numbers, tt))) refl
form_words (forms.deny v literals) names numbers =
    let named = and_parts (is_name v) (are_names literals) names in
    verb_and (codes "deny") (v ∷ pair_words literals) (letters (codes "deny") refl) (name_word v named.0, pairs_are literals named.1) refl
form_words (forms.cap v kind n side units) names numbers =
    let named = and_parts (is_name v) (is_name n) names in
    verb_and (codes "cap") (v ∷ kind_word kind ∷ n ∷ side_word side ∷ units ∷ []) (letters (codes "cap") refl)
    (name_word v named.0, (kind_is_word kind, (name_word n named.1, (side_is_word side, (amount_is_word units numbers, tt))))) refl
form_words (forms.withdraw v) names numbers =
    verb_and (codes "withdraw") (v ∷ []) (letters (codes "withdraw") refl) (name_word v names, tt) refl
form_words forms.show names numbers = verb_and (codes "show") [] (letters (codes "show") refl) tt refl
form_words forms.propose names numbers = verb_and (codes "propose") [] (letters (codes "propose") refl) tt refl
form_words forms.prove names numbers = verb_and (codes "prove") [] (letters (codes "prove") refl) tt refl

-- the line of a command is read as the words of its form
pub command_read_back : (c : Command) → IsCommand c → IsLineOf (line_of (words_of (form_of c))) (words_of (form_of c))
command_read_back c is_command =
    let words : List Word = words_of (form_of c) in
    record { line = joined words; is_line = line_of-joined words; reads = reads_back words (form_words (form_of c) is_command.names is_command.numbers) }
