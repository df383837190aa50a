-- The form that words have, as it is read from them. `law` says that it is the form of the grammar.
use Rattle.std.specs.Prelude.{Bool, true, false, if◌then◌else◌, List, [], ◌∷◌, Option, Some, None, option_map, bytes_eq, codes}
use Rattle.std.specs.List.{list_any}
use Rattle.std.specs.Option.{option_and_then}
use Rattle.uhura_plan.specs.declared.key.Side.{Side}
use Rattle.uhura_plan.specs.declared.key.Side.TheVariants.{Lower, Upper}
use Rattle.uhura_line.specs.Form.{Word, Past, Rated, Priced, Kind, requirement, duration, Form, uncertain, choice, require, bound, price, rate, range, prefer, deny, cap, side_word, followers, is_dash_rate, is_dash_price}

-- the next step, where there is a first
infixl 10 ◌>>=◌
abbrev pub ◌>>=◌ : {A B : Type 0} → Option A → (A → Option B) → Option B
part >>= next = option_and_then next part

-- the next word is this one
abbrev pub begins_with : Word → List Word → Bool
begins_with fixed [] = false
begins_with fixed (word ∷ more) = bytes_eq word fixed

-- the words behind the next one
abbrev pub behind : List Word → List Word
behind [] = []
behind (word ∷ more) = more

-- what is read and the words that are left, where it is read
abbrev pub found : {A : Type 0} → Option A → List Word → Option (A × List Word)
found None left = None
found (Some x) left = Some (x, left)

-- what was read, where no word is left
abbrev pub ended : {A : Type 0} → A → List Word → Option A
ended found [] = Some found
ended found (word ∷ more) = None

-- ---- the parts of a line: what is read, and the words behind it

-- UNITS and PRICE
abbrev pub units_and_price : List Word → Option (Option Past × List Word)
units_and_price (units ∷ next ∷ more) = Some (Some record { units = units; price = next }, more)
units_and_price words = None

-- the second price, where the words begin with `past`
abbrev pub past_part : List Word → Option (Option Past × List Word)
past_part words =
    if begins_with (codes "past") words then units_and_price (behind words) else Some (None, words)

-- RATE
abbrev pub rated_part : List Word → Option (Rated × List Word)
rated_part [] = None
rated_part (first ∷ more) = past_part more >>= λ second.
    Some (record { first = first; second = second.0 }, second.1)

-- the next word is one of these
abbrev pub begins_with_one : List Word → List Word → Bool
begins_with_one others words = list_any (λ other. begins_with other words) others

-- the next word, where there is one
abbrev pub next_part : List Word → Option Word × List Word
next_part [] = (None, [])
next_part (word ∷ more) = (Some word, more)

-- MAX, unless the next word is one of these
abbrev pub most_part : List Word → List Word → Option Word × List Word
most_part others words = if begins_with_one others words then (None, words) else next_part words

-- RATE and MAX
abbrev pub priced_part : List Word → List Word → Option (Priced × List Word)
priced_part others words = rated_part words >>= λ r.
    Some (record { rate = r.0; most = (most_part others r.1).0 }, (most_part others r.1).1)

-- what a side has, where the words begin with it
abbrev pub side_part : {A : Type 0} → (List Word → Option (A × List Word)) → Side → List Word
    → Option (Option A × List Word)
side_part part side words =
    if begins_with (side_word side) words then
    (part (behind words) >>= λ found. Some (Some found.0, found.1))
    else Some (None, words)

abbrev pub rate_part : Side → List Word → Option (Option Rated × List Word)
rate_part side words = side_part rated_part side words

abbrev pub price_part : Side → List Word → Option (Option Priced × List Word)
price_part side words = side_part (priced_part (followers side)) side words

-- both RATEs of a duration, and nothing behind them
abbrev pub rates_in : List Word → Option (Option Rated × Option Rated)
rates_in words = rate_part Lower words >>= λ lower. rate_part Upper lower.1 >>= λ upper.
    ended (lower.0, upper.0) upper.1

-- what is set, and nothing behind it, or none where that is `-`
abbrev pub set_in : {A : Type 0} → (A → Bool) → (List Word → Option (A × List Word)) → List Word
    → Option (Option A)
set_in is_dash part words = part words >>= λ found.
    ended (if is_dash found.0 then None else Some found.0) found.1

-- the pairs that words are, one behind the other, where none is left over
abbrev pub pairs_of : List Word → Option (List (Word × Word))
pairs_of [] = Some []
pairs_of (a ∷ []) = None
pairs_of (a ∷ b ∷ more) = option_map (λ pairs. (a, b) ∷ pairs) (pairs_of more)

-- the pairs of a guard: `when` and at least one pair, or nothing
abbrev pub guard_of : List Word → Option (List (Word × Word))
guard_of [] = Some []
guard_of (word ∷ []) = None
guard_of (word ∷ a ∷ more) = if bytes_eq word (codes "when") then pairs_of (a ∷ more) else None

-- the pairs of alternative and cost up to the first `when`, and the words from there on
abbrev pub alternatives_of : List Word → Option (List (Word × Word) × List Word)
alternatives_of [] = Some ([], [])
alternatives_of (a ∷ []) = if bytes_eq a (codes "when") then Some ([], a ∷ []) else None
alternatives_of (a ∷ b ∷ more) =
    if bytes_eq a (codes "when") then Some ([], a ∷ b ∷ more)
    else if bytes_eq b (codes "when") then None
    else option_map (λ found. ((a, b) ∷ found.0, found.1)) (alternatives_of more)

-- ---- words at fixed places

abbrev pub side_in : Word → Option Side
side_in word =
    if bytes_eq word (codes "lower") then Some Lower
    else if bytes_eq word (codes "upper") then Some Upper else None

abbrev pub kind_in : Word → Option Kind
kind_in word =
    if bytes_eq word (codes "require") then Some requirement
    else if bytes_eq word (codes "uncertain") then Some duration else None

-- the next three words, and the words behind them
abbrev pub next_three : List Word → Option (Word × Word × Word × List Word)
next_three (a ∷ b ∷ c ∷ more) = Some (a, b, c, more)
next_three words = None

-- the next five words, and the words behind them
abbrev pub next_five : List Word → Option (Word × Word × Word × Word × Word × List Word)
next_five (a ∷ b ∷ c ∷ d ∷ e ∷ more) = Some (a, b, c, d, e, more)
next_five words = None

-- ---- the form of the words behind each verb

-- no word
abbrev pub bare_in : Form → List Word → Option Form
bare_in form words = ended form words

-- a name alone
abbrev pub named_in : (Word → Form) → List Word → Option Form
named_in form [] = None
named_in form (name ∷ more) = ended (form name) more

abbrev pub uncertain_in : List Word → Option Form
uncertain_in words = next_five words >>= λ w. rates_in w.5 >>= λ r.
    Some (uncertain w.0 w.1 w.2 w.3 w.4 r.0 r.1)

-- no alternative begins here
abbrev pub is_no_alternative : List Word → Bool
is_no_alternative [] = true
is_no_alternative (word ∷ more) = bytes_eq word (codes "when")

abbrev pub choice_in : List Word → Option Form
choice_in [] = None
choice_in (name ∷ more) =
    if is_no_alternative more then None
    else (alternatives_of more >>= λ a. guard_of a.1 >>= λ guard. Some (choice name a.0 guard))

-- the prices of both sides of a requirement and its guard
abbrev pub terms_in : List Word → Option (Option Priced × Option Priced × List (Word × Word))
terms_in words =
    price_part Lower words >>= λ lower. price_part Upper lower.1 >>= λ upper.
    guard_of upper.1 >>= λ guard. Some (lower.0, upper.0, guard)

abbrev pub require_in : List Word → Option Form
require_in words = next_five words >>= λ w. terms_in w.5 >>= λ t.
    Some (require w.0 w.1 w.2 w.3 w.4 t.0 t.1 t.2)

abbrev pub bound_in : List Word → Option Form
bound_in words = next_three words >>= λ w. side_in w.1 >>= λ side. ended (bound w.0 side w.2) w.3

-- the price that is set on a side of a requirement, or of a duration
abbrev pub set_of_kind : Kind → Word → Side → List Word → Option Form
set_of_kind requirement name side words = set_in is_dash_price (priced_part []) words >>= λ p.
    Some (price name side p)
set_of_kind duration name side words = set_in is_dash_rate rated_part words >>= λ r.
    Some (rate name side r)

abbrev pub price_in : List Word → Option Form
price_in words = next_three words >>= λ w. kind_in w.0 >>= λ kind. side_in w.2 >>= λ side.
    set_of_kind kind w.1 side w.3

abbrev pub range_in : List Word → Option Form
range_in words = next_three words >>= λ w. ended (range w.0 w.1 w.2) w.3

abbrev pub prefer_in : List Word → Option Form
prefer_in words = next_three words >>= λ w. ended (prefer w.0 w.1 w.2) w.3

abbrev pub deny_in : List Word → Option Form
deny_in (name ∷ word ∷ more) = pairs_of (word ∷ more) >>= λ literals. Some (deny name literals)
deny_in words = None

abbrev pub cap_in : List Word → Option Form
cap_in words = next_five words >>= λ w. kind_in w.1 >>= λ kind. side_in w.3 >>= λ side.
    ended (cap w.0 kind w.2 side w.4) w.5
