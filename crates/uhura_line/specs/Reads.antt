-- The form of a command, and the limits that its numbers keep.
use Rattle.std.specs.Prelude.{◌≡◌, ℕ, ◌+◌, ℤ, pos, negsuc, int_le, unsigned_abs, Bool, true, false, ◌&&◌, ◌||◌, IsTrue, List, map, None, Some, Option, option_map, bytes_eq, codes}
use Rattle.std.specs.List.{list_all}
use Rattle.std.specs.Option.{option_map_or}
use Rattle.uhura_text.specs.Number.{number_of, spelling}
use Rattle.uhura_plan.specs.Name.{is_name}
use Rattle.uhura_plan.specs.declared.price.Second.{Second}
use Rattle.uhura_plan.specs.declared.price.Rate.{Rate}
use Rattle.uhura_plan.specs.declared.price.Price.{Price}
use Rattle.uhura_plan.specs.Sides.{rate_in}
use Rattle.uhura_line.specs.declared.command.Command.{Command}
use Rattle.uhura_line.specs.declared.command.Command.TheVariants as command
use Rattle.uhura_line.specs.declared.command.ItemName.{ItemName}
use Rattle.uhura_line.specs.declared.command.ItemName.TheVariants as item
use Rattle.uhura_line.specs.Form.{Word, Past, Rated, Priced, Kind, requirement, duration, Form, event, uncertain, choice, require, drop, bound, price, rate, range, prefer, deny, cap, withdraw, show, propose, prove, IsTaken}

-- a number that isn't below 0, as it is written
abbrev pub count_word : ℕ → Word
count_word n = spelling (pos n)

-- a bound as it is written: `-` for none
abbrev pub bound_word : Option ℤ → Word
bound_word None = codes "-"
bound_word (Some z) = spelling z

-- a second price, a rate and a price as they are written
abbrev pub past_of : Second → Past
past_of second = record { units = count_word second.after; price = count_word second.rate }

abbrev pub rated_of : Rate → Rated
rated_of r = record { first = count_word r.first; second = option_map past_of r.second }

abbrev pub priced_of : Price → Priced
priced_of p = record { rate = rated_of (rate_in p); most = option_map count_word p.most }

-- alternatives with their costs as they are written
abbrev pub alternative_pairs : List (List ℕ × ℕ) → List (Word × Word)
alternative_pairs alternatives = map (λ a. (a.0, count_word a.1)) alternatives

abbrev pub kind_of : ItemName → Kind
kind_of (item.Require n) = requirement
kind_of (item.Uncertain n) = duration

abbrev pub name_of : ItemName → Word
name_of (item.Require n) = n
name_of (item.Uncertain n) = n

-- the form of a command: its names stand for themselves, and each number has one spelling
abbrev pub form_of : Command → Form
form_of (command.Event n) = event n
form_of (command.Uncertain n start end lo hi lower upper) =
    uncertain n start end (spelling lo) (spelling hi)
    (option_map rated_of lower) (option_map rated_of upper)
form_of (command.Choice n alternatives guard) = choice n (alternative_pairs alternatives) guard
form_of (command.Require n from to lower upper guard) =
    require n from to (bound_word lower.bound) (bound_word upper.bound)
    (option_map priced_of lower.price) (option_map priced_of upper.price) guard
form_of (command.Drop n) = drop n
form_of (command.Bound n side b) = bound n side (bound_word b)
form_of (command.Price n side p) = price n side (option_map priced_of p)
form_of (command.Rate n side r) = rate n side (option_map rated_of r)
form_of (command.Range n lo hi) = range n (spelling lo) (spelling hi)
form_of (command.Prefer c a cost) = prefer c a (count_word cost)
form_of (command.Deny v literals) = deny v literals
form_of (command.Cap v i side units) = cap v (kind_of i) (name_of i) side (count_word units)
form_of (command.Withdraw v) = withdraw v
form_of command.Show = show
form_of command.Propose = propose
form_of command.Prove = prove

-- ---- the words at the places of numbers and of names

-- a number from low to high
abbrev pub is_number : ℤ → ℤ → Word → Bool
is_number low high word = option_map_or (λ z. int_le low z && int_le z high) (number_of word) false

-- a bound of a requirement, from -1,000,000,000 to 1,000,000,000, or `-`
abbrev pub is_bound : Word → Bool
is_bound word = bytes_eq word (codes "-") || is_number (negsuc 999999999) (pos 1000000000) word

-- a first price for one unit, from 1 to 1,000,000
abbrev pub is_first : Word → Bool
is_first word = is_number (pos 1) (pos 1000000) word

-- UNITS that a first price covers, from 1 to 1,000,000,000
abbrev pub is_units : Word → Bool
is_units word = is_number (pos 1) (pos 1000000000) word

-- a second price, from the first plus 1 to 1,000,000
abbrev pub is_above : ℕ → Word → Bool
is_above first word = is_number (pos (first + 1)) (pos 1000000) word

-- the number that a word writes, without its sign
abbrev pub magnitude_of : Word → ℕ
magnitude_of word = option_map_or unsigned_abs (number_of word) 0

-- the words of a second price behind a first one
abbrev pub is_past : Word → Past → Bool
is_past first second = is_units second.units && is_above (magnitude_of first) second.price

-- an end of a range, a cost or units, from 0 to 1,000,000,000
abbrev pub is_amount : Word → Bool
is_amount word = is_number (pos 0) (pos 1000000000) word

-- a test that holds of what is there
abbrev pub if_there : {A : Type 0} → (A → Bool) → Option A → Bool
if_there test part = option_map_or test part true

abbrev pub is_rated : Rated → Bool
is_rated r = is_first r.first && if_there (is_past r.first) r.second

abbrev pub is_priced : Priced → Bool
is_priced p = is_rated p.rate && if_there is_amount p.most

-- the second word of each pair is a cost, and the first a name
abbrev pub are_costs : List (Word × Word) → Bool
are_costs pairs = list_all (λ a. is_amount a.1) pairs

abbrev pub begin_with_names : List (Word × Word) → Bool
begin_with_names pairs = list_all (λ a. is_name a.0) pairs

-- what words are read as: the value that is written so, where they pass the test of their place
abbrev pub StandsFor : {W V : Type 0} → (W → Bool) → (V → W) → W → Option V → Type 0
StandsFor test written words None = test words ≡ false
StandsFor test written words (Some value) = (words ≡ written value) × (test words ≡ true)

-- each word at a number's place is a number within the limits of that place
abbrev pub has_numbers : Form → Bool
has_numbers (uncertain n start end lo hi lower upper) =
    is_amount lo && is_amount hi && if_there is_rated lower && if_there is_rated upper
has_numbers (choice n alternatives guard) = are_costs alternatives
has_numbers (require n from to lo hi lower upper guard) =
    is_bound lo && is_bound hi && if_there is_priced lower && if_there is_priced upper
has_numbers (bound n side b) = is_bound b
has_numbers (price n side p) = if_there is_priced p
has_numbers (rate n side r) = if_there is_rated r
has_numbers (range n lo hi) = is_amount lo && is_amount hi
has_numbers (prefer c a cost) = is_amount cost
has_numbers (cap v kind n side units) = is_amount units
has_numbers form = true

-- each word of the pairs is a name
abbrev pub are_names : List (Word × Word) → Bool
are_names pairs = list_all (λ pair. is_name pair.0 && is_name pair.1) pairs

-- each word at a name's place is a name
abbrev pub has_names : Form → Bool
has_names (event n) = is_name n
has_names (uncertain n start end lo hi lower upper) = is_name n && is_name start && is_name end
has_names (choice n alternatives guard) =
    is_name n && begin_with_names alternatives && are_names guard
has_names (require n from to lo hi lower upper guard) =
    is_name n && is_name from && is_name to && are_names guard
has_names (drop n) = is_name n
has_names (bound n side b) = is_name n
has_names (price n side p) = is_name n
has_names (rate n side r) = is_name n
has_names (range n lo hi) = is_name n
has_names (prefer c a cost) = is_name c && is_name a
has_names (deny v literals) = is_name v && are_names literals
has_names (cap v kind n side units) = is_name v && is_name n
has_names (withdraw v) = is_name v
has_names form = true

-- a command that a line can give: a choice has an alternative, a denial a literal, and names and numbers are such
pub record IsCommand (c : Command) : Type 0 where
  pub taken : IsTaken (form_of c)
  pub names : IsTrue (has_names (form_of c))
  pub numbers : IsTrue (has_numbers (form_of c))
