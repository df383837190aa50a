-- No form is of two commands: a command is read back from its form, and each form whose numbers and names are such is of one.
use Rattle.std.proofs.Common.{◌≡◌, ℕ, ◌+◌, cond, Bool, true, false, ◌&&◌, ◌||◌, List, [], ◌∷◌, map, ℤ, pos, negsuc, int_le, Option, Some, None, option_map, codes, bytes_eq, refl, ap, sym, subst, ◌∙◌}
use Rattle.std.specs.Option.{option_map_or}
use Rattle.std.specs.List.{list_all}
use Rattle.std.proofs.lemmas.Bool.{and_parts}
use Rattle.std.proofs.lemmas.Slice.Eq.{bytes_eq-Decides}
use Rattle.uhura_text.specs.Number.{number_of, spelling}
use Rattle.uhura_text.proofs.SpellingLemmas.{spelling-number_of}
use Rattle.uhura_plan.specs.declared.price.Second.{Second}
use Rattle.uhura_plan.specs.declared.price.Rate.{Rate}
use Rattle.uhura_plan.specs.declared.price.Price.{Price}
use Rattle.uhura_plan.specs.Sides.{rate_in}
use Rattle.uhura_plan.specs.declared.requirement.Bounded.{Bounded}
use Rattle.uhura_line.specs.declared.command.Command.{Command}
use Rattle.uhura_line.specs.declared.command.Command.TheVariants as command
use Rattle.uhura_line.specs.declared.command.ItemName.{ItemName}
use Rattle.uhura_line.specs.declared.command.ItemName.TheVariants as item
use Rattle.uhura_line.specs.Form.{Word, Past, Rated, Priced, Kind, requirement, duration, Form, event, uncertain, choice, require, bound, price, rate, range, prefer, deny, cap, withdraw, show, propose, prove, IsTaken, IsForm}
use Rattle.uhura_line.specs.Form as form
use Rattle.uhura_line.specs.Reads.{count_word, magnitude_of, bound_word, past_of, rated_of, priced_of, alternative_pairs, kind_of, name_of, form_of, is_number, is_bound, is_first, is_units, is_above, is_past, is_amount, if_there, is_rated, is_priced, has_numbers, has_names, IsCommand}
use Rattle.uhura_line.proofs.OneForm.{one_form}
use Rattle.uhura_line.proofs.OneSpelling.{AreLimits, is_spelled, bound_limits, amount_limits, units_limits, first_limits, above_limits, other_word, not_dash}

-- ---- numbers

number_in : Option ℤ → ℤ
number_in None = pos 0
number_in (Some z) = z

count_in : ℤ → ℕ
count_in (pos n) = n
count_in (negsuc n) = 0

-- the number that a word is read as
number_at : Word → ℤ
number_at word = number_in (number_of word)

count_at : Word → ℕ
count_at word = count_in (number_at word)

bound_at : Word → Option ℤ
bound_at word = cond (bytes_eq word (codes "-")) None (Some (number_at word))

number_at-spelling : (low high z : ℤ) → AreLimits low high → is_number low high (spelling z) ≡ true
    → number_at (spelling z) ≡ z
unfolding number_at number_in
number_at-spelling low high z limits is = rw (is_spelled low high z limits is) refl

count_at-word : (low high : ℤ) (n : ℕ) → AreLimits low high → is_number low high (count_word n) ≡ true
    → count_at (count_word n) ≡ n
unfolding count_at count_in
count_at-word low high n limits is = ap count_in (number_at-spelling low high (pos n) limits is)

bound_at-word : (b : Option ℤ) → is_bound (bound_word b) ≡ true → bound_at (bound_word b) ≡ b
unfolding bound_at
bound_at-word None is = refl
bound_at-word (Some z) is =
    let other = other_word (spelling z) (codes "-") (not_dash z) in
    let number : is_number (negsuc 999999999) (pos 1000000000) (spelling z) ≡ true = rw other at is in
    rw (other, number_at-spelling (negsuc 999999999) (pos 1000000000) z bound_limits number) refl

spelling-number_at : (low high : ℤ) (word : Word) → is_number low high word ≡ true → spelling (number_at word) ≡ word
unfolding number_at number_in
spelling-number_at low high word is = by_read (number_of word) refl is
  where
    by_read : (read : Option ℤ) → number_of word ≡ read
        → option_map_or (λ y. int_le low y && int_le y high) read false ≡ true
        → spelling (number_in (number_of word)) ≡ word
    by_read None none within = cc
    by_read (Some y) some within = rw some (sym (spelling-number_of word y some))

word-count_at : (low : ℕ) (high : ℤ) (word : Word) → is_number (pos low) high word ≡ true
    → count_word (count_at word) ≡ word
unfolding count_at count_in number_at number_in
word-count_at low high word is = by_read (number_of word) refl is
  where
    by_read : (read : Option ℤ) → number_of word ≡ read
        → option_map_or (λ y. int_le (pos low) y && int_le y high) read false ≡ true
        → count_word (count_in (number_in (number_of word))) ≡ word
    by_read None none within = cc
    by_read (Some (pos n)) some within = rw some (sym (spelling-number_of word (pos n) some))
    by_read (Some (negsuc n)) some within = cc

word-bound_at : (word : Word) → is_bound word ≡ true → bound_word (bound_at word) ≡ word
unfolding bound_at
word-bound_at word is = by_dash (bytes_eq word (codes "-")) refl is
  where
    by_dash : (dash : Bool) → bytes_eq word (codes "-") ≡ dash
        → (dash || is_number (negsuc 999999999) (pos 1000000000) word) ≡ true
        → bound_word (cond (bytes_eq word (codes "-")) None (Some (number_at word))) ≡ word
    by_dash true none is = rw none (sym ((bytes_eq-Decides word (codes "-")).0 none))
    by_dash false some is = rw some (spelling-number_at (negsuc 999999999) (pos 1000000000) word is)

-- ---- parts of a form that may be missing

amounts_at-words : (most : Option ℕ) → if_there is_amount (option_map count_word most) ≡ true
    → option_map count_at (option_map count_word most) ≡ most
amounts_at-words None is = refl
amounts_at-words (Some n) is = ap Some (count_at-word (pos 0) (pos 1000000000) n amount_limits is)

words-amounts_at : (words : Option Word) → if_there is_amount words ≡ true
    → option_map count_word (option_map count_at words) ≡ words
words-amounts_at None is = refl
words-amounts_at (Some word) is = ap Some (word-count_at 0 (pos 1000000000) word is)

-- a second price
second_at : Past → Second
second_at p = record { after = count_at p.units; rate = count_at p.price }

seconds_at-words : (first : ℕ) (second : Option Second) → is_first (count_word first) ≡ true
    → if_there (is_past (count_word first)) (option_map past_of second) ≡ true
    → option_map second_at (option_map past_of second) ≡ second
unfolding second_at
seconds_at-words first None is_first is = refl
seconds_at-words first (Some s) is_first is =
    let parts = and_parts (is_units (count_word s.after)) (is_above (magnitude_of (count_word first)) (count_word s.rate)) is in
    rw (count_at-word (pos 1) (pos 1000000000) s.after units_limits parts.0, count_at-word (pos (magnitude_of (count_word first) + 1)) (pos 1000000) s.rate (above_limits (magnitude_of (count_word first))) parts.1) refl

words-seconds_at : (first : Word) (second : Option Past) → if_there (is_past first) second ≡ true
    → option_map past_of (option_map second_at second) ≡ second
unfolding second_at
words-seconds_at first None is = refl
words-seconds_at first (Some p) is =
    let parts = and_parts (is_units p.units) (is_above (magnitude_of first) p.price) is in
    rw (word-count_at 1 (pos 1000000000) p.units parts.0, word-count_at (magnitude_of first + 1) (pos 1000000) p.price parts.1) refl

-- a rate
rate_at : Rated → Rate
rate_at r = record { first = count_at r.first; second = option_map second_at r.second }

rate_at-words : (r : Rate) → is_rated (rated_of r) ≡ true → rate_at (rated_of r) ≡ r
unfolding rate_at
rate_at-words r is =
    let parts = and_parts (is_first (count_word r.first)) (if_there (is_past (count_word r.first)) (option_map past_of r.second)) is in
    rw (count_at-word (pos 1) (pos 1000000) r.first first_limits parts.0, seconds_at-words r.first r.second parts.0 parts.1) refl

words-rate_at : (r : Rated) → is_rated r ≡ true → rated_of (rate_at r) ≡ r
unfolding rate_at
words-rate_at r is =
    let parts = and_parts (is_first r.first) (if_there (is_past r.first) r.second) is in
    rw (word-count_at 1 (pos 1000000) r.first parts.0, words-seconds_at r.first r.second parts.1) refl

rates_at-words : (rate : Option Rate) → if_there is_rated (option_map rated_of rate) ≡ true
    → option_map rate_at (option_map rated_of rate) ≡ rate
rates_at-words None is = refl
rates_at-words (Some r) is = ap Some (rate_at-words r is)

words-rates_at : (words : Option Rated) → if_there is_rated words ≡ true
    → option_map rated_of (option_map rate_at words) ≡ words
words-rates_at None is = refl
words-rates_at (Some r) is = ap Some (words-rate_at r is)

-- a price
price_of : Rate → Option ℕ → Price
price_of r most = record { rate = r.first; second = r.second; most = most }

price_at : Priced → Price
price_at p = price_of (rate_at p.rate) (option_map count_at p.most)

prices_at-words : (p : Option Price) → if_there is_priced (option_map priced_of p) ≡ true
    → option_map price_at (option_map priced_of p) ≡ p
unfolding price_at price_of
prices_at-words None is = refl
prices_at-words (Some p) is =
    let parts = and_parts (is_rated (rated_of (rate_in p))) (if_there is_amount (option_map count_word p.most)) is in
    rw (rate_at-words (rate_in p) parts.0, amounts_at-words p.most parts.1) refl

words-prices_at : (p : Option Priced) → if_there is_priced p ≡ true → option_map priced_of (option_map price_at p) ≡ p
unfolding price_at price_of
words-prices_at None is = refl
words-prices_at (Some p) is =
    let parts = and_parts (is_rated p.rate) (if_there is_amount p.most) is in
    rw (words-rate_at p.rate parts.0, words-amounts_at p.most parts.1) refl

-- ---- alternatives

alternatives_at : List (Word × Word) → List (List ℕ × ℕ)
alternatives_at pairs = map (λ pair. (pair.0, count_at pair.1)) pairs

alternatives_at-pairs : (alternatives : List (List ℕ × ℕ))
    → list_all (λ a. is_amount a.1) (alternative_pairs alternatives) ≡ true
    → alternatives_at (alternative_pairs alternatives) ≡ alternatives
unfolding alternatives_at
alternatives_at-pairs [] is = refl
alternatives_at-pairs (a ∷ alternatives) is =
    let parts = and_parts (is_amount (count_word a.1)) (list_all (λ a. is_amount a.1) (alternative_pairs alternatives)) is in
    rw (count_at-word (pos 0) (pos 1000000000) a.1 amount_limits parts.0, alternatives_at-pairs alternatives parts.1) refl

pairs-alternatives_at : (pairs : List (Word × Word)) → list_all (λ a. is_amount a.1) pairs ≡ true
    → alternative_pairs (alternatives_at pairs) ≡ pairs
unfolding alternatives_at
pairs-alternatives_at [] is = refl
pairs-alternatives_at (pair ∷ pairs) is =
    let parts = and_parts (is_amount pair.1) (list_all (λ a. is_amount a.1) pairs) is in
    rw (word-count_at 0 (pos 1000000000) pair.1 parts.0, pairs-alternatives_at pairs parts.1) refl

-- ---- commands

item_at : Kind → Word → ItemName
item_at requirement n = item.Require n
item_at duration n = item.Uncertain n

item_at-of : (i : ItemName) → item_at (kind_of i) (name_of i) ≡ i
unfolding item_at
item_at-of (item.Require n) = refl
item_at-of (item.Uncertain n) = refl

kind_of-at : (kind : Kind) (n : Word) → kind_of (item_at kind n) ≡ kind
unfolding item_at
kind_of-at requirement n = refl
kind_of-at duration n = refl

name_of-at : (kind : Kind) (n : Word) → name_of (item_at kind n) ≡ n
unfolding item_at
name_of-at requirement n = refl
name_of-at duration n = refl

side_at : Word → Option Priced → Bounded
side_at b p = record { bound = bound_at b; price = option_map price_at p }

side_at-words : (side : Bounded) → is_bound (bound_word side.bound) ≡ true
    → if_there is_priced (option_map priced_of side.price) ≡ true
    → side_at (bound_word side.bound) (option_map priced_of side.price) ≡ side
unfolding side_at
side_at-words side of_bound of_price =
    rw (bound_at-word side.bound of_bound, prices_at-words side.price of_price) refl

-- the command of a form
command_of : Form → Command
command_of (event n) = command.Event n
command_of (uncertain n start end lo hi lower upper) =
    command.Uncertain n start end (number_at lo) (number_at hi) (option_map rate_at lower) (option_map rate_at upper)
command_of (choice n alternatives guard) = command.Choice n (alternatives_at alternatives) guard
command_of (require n from to lo hi lower upper guard) =
    command.Require n from to (side_at lo lower) (side_at hi upper) guard
command_of (form.drop n) = command.Drop n
command_of (bound n side b) = command.Bound n side (bound_at b)
command_of (price n side p) = command.Price n side (option_map price_at p)
command_of (rate n side r) = command.Rate n side (option_map rate_at r)
command_of (range n lo hi) = command.Range n (number_at lo) (number_at hi)
command_of (prefer c a cost) = command.Prefer c a (count_at cost)
command_of (deny v literals) = command.Deny v literals
command_of (cap v kind n side units) = command.Cap v (item_at kind n) side (count_at units)
command_of (withdraw v) = command.Withdraw v
command_of show = command.Show
command_of propose = command.Propose
command_of prove = command.Prove

-- a command is read back from its form
command_of-form_of : (c : Command) → has_numbers (form_of c) ≡ true → command_of (form_of c) ≡ c
unfolding command_of
command_of-form_of (command.Event n) is = refl
command_of-form_of (command.Uncertain n start end lo hi lower upper) is =
    let (three, last) = and_parts (is_amount (spelling lo) && is_amount (spelling hi) && if_there is_rated (option_map rated_of lower)) (if_there is_rated (option_map rated_of upper)) is in
    let (two, third) = and_parts (is_amount (spelling lo) && is_amount (spelling hi)) (if_there is_rated (option_map rated_of lower)) three in
    let (first, second) = and_parts (is_amount (spelling lo)) (is_amount (spelling hi)) two in
    rw (number_at-spelling (pos 0) (pos 1000000000) lo amount_limits first, number_at-spelling (pos 0) (pos 1000000000) hi amount_limits second, rates_at-words lower third, rates_at-words upper last) refl
command_of-form_of (command.Choice n alternatives guard) is = rw (alternatives_at-pairs alternatives is) refl
command_of-form_of (command.Require n from to lower upper guard) is =
    let (three, last) = and_parts (is_bound (bound_word lower.bound) && is_bound (bound_word upper.bound) && if_there is_priced (option_map priced_of lower.price)) (if_there is_priced (option_map priced_of upper.price)) is in
    let (two, third) = and_parts (is_bound (bound_word lower.bound) && is_bound (bound_word upper.bound)) (if_there is_priced (option_map priced_of lower.price)) three in
    let (first, second) = and_parts (is_bound (bound_word lower.bound)) (is_bound (bound_word upper.bound)) two in
    rw (side_at-words lower first third, side_at-words upper second last) refl
command_of-form_of (command.Drop n) is = refl
command_of-form_of (command.Bound n side b) is = rw (bound_at-word b is) refl
command_of-form_of (command.Price n side p) is = rw (prices_at-words p is) refl
command_of-form_of (command.Rate n side r) is = rw (rates_at-words r is) refl
command_of-form_of (command.Range n lo hi) is =
    let (first, second) = and_parts (is_amount (spelling lo)) (is_amount (spelling hi)) is in
    rw (number_at-spelling (pos 0) (pos 1000000000) lo amount_limits first, number_at-spelling (pos 0) (pos 1000000000) hi amount_limits second) refl
command_of-form_of (command.Prefer c a cost) is =
    rw (count_at-word (pos 0) (pos 1000000000) cost amount_limits is) refl
command_of-form_of (command.Deny v literals) is = refl
command_of-form_of (command.Cap v i side units) is =
    rw (item_at-of i, count_at-word (pos 0) (pos 1000000000) units amount_limits is) refl
command_of-form_of (command.Withdraw v) is = refl
command_of-form_of command.Show is = refl
command_of-form_of command.Propose is = refl
command_of-form_of command.Prove is = refl

-- a form is read back from its command
form_of-command_of : (f : Form) → has_numbers f ≡ true → form_of (command_of f) ≡ f
unfolding command_of side_at
form_of-command_of (event n) is = refl
form_of-command_of (uncertain n start end lo hi lower upper) is =
    let (three, last) = and_parts (is_amount lo && is_amount hi && if_there is_rated lower) (if_there is_rated upper) is in
    let (two, third) = and_parts (is_amount lo && is_amount hi) (if_there is_rated lower) three in
    let (first, second) = and_parts (is_amount lo) (is_amount hi) two in
    rw (spelling-number_at (pos 0) (pos 1000000000) lo first, spelling-number_at (pos 0) (pos 1000000000) hi second, words-rates_at lower third, words-rates_at upper last) refl
form_of-command_of (choice n alternatives guard) is = rw (pairs-alternatives_at alternatives is) refl
form_of-command_of (require n from to lo hi lower upper guard) is =
    let (three, last) = and_parts (is_bound lo && is_bound hi && if_there is_priced lower) (if_there is_priced upper) is in
    let (two, third) = and_parts (is_bound lo && is_bound hi) (if_there is_priced lower) three in
    let (first, second) = and_parts (is_bound lo) (is_bound hi) two in
    rw (word-bound_at lo first, word-bound_at hi second, words-prices_at lower third, words-prices_at upper last) refl
form_of-command_of (form.drop n) is = refl
form_of-command_of (bound n side b) is = rw (word-bound_at b is) refl
form_of-command_of (price n side p) is = rw (words-prices_at p is) refl
form_of-command_of (rate n side r) is = rw (words-rates_at r is) refl
form_of-command_of (range n lo hi) is =
    let (first, second) = and_parts (is_amount lo) (is_amount hi) is in
    rw (spelling-number_at (pos 0) (pos 1000000000) lo first, spelling-number_at (pos 0) (pos 1000000000) hi second) refl
form_of-command_of (prefer c a cost) is = rw (word-count_at 0 (pos 1000000000) cost is) refl
form_of-command_of (deny v literals) is = refl
form_of-command_of (cap v kind n side units) is =
    rw (kind_of-at kind n, name_of-at kind n, word-count_at 0 (pos 1000000000) units is) refl
form_of-command_of (withdraw v) is = refl
form_of-command_of show is = refl
form_of-command_of propose is = refl
form_of-command_of prove is = refl

-- no form is of two commands
pub one_command : (c d : Command) → form_of c ≡ form_of d → IsCommand c → IsCommand d → c ≡ d
one_command c d same is_c is_d =
    sym (command_of-form_of c is_c.numbers) ∙ ap command_of same ∙ command_of-form_of d is_d.numbers

-- so no line has two
pub one_command_of_line : (words : List Word) (c d : Command) → IsForm words (form_of c) → IsForm words (form_of d)
    → IsCommand c → IsCommand d → c ≡ d
one_command_of_line words c d of_c of_d is_c is_d =
    one_command c d (one_form words (form_of c) (form_of d) of_c of_d) is_c is_d

-- a form whose numbers and names are such is the form of a command
pub some_command : (f : Form) → IsTaken f → has_numbers f ≡ true → has_names f ≡ true
    → (c : Command) × (form_of c ≡ f) × IsCommand c
some_command f taken numbers names =
    let same : form_of (command_of f) ≡ f = form_of-command_of f numbers in (
      command_of f,
      same,
      record {
        taken = subst IsTaken (sym same) taken;
        names = subst (λ (g : Form). has_names g ≡ true) (sym same) names;
        numbers = subst (λ (g : Form). has_numbers g ≡ true) (sym same) numbers;
      },
    )

-- so words of such a form give a command
pub some_command_of_line : (words : List Word) (f : Form) → IsForm words f → has_numbers f ≡ true → has_names f ≡ true
    → (c : Command) × IsForm words (form_of c) × IsCommand c
some_command_of_line words f of_f numbers names =
    let (c, same, is) = some_command f of_f.taken numbers names in
    (c, subst (λ (g : Form). IsForm words g) (sym same) of_f, is)
