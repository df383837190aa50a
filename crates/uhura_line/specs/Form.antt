-- The forms of a line: for each, the words that stand at its places.
use Rattle.std.specs.Prelude.{◌≡◌, ◌≢◌, ℕ, Bool, false, ◌&&◌, List, [], ◌∷◌, ◌++◌, flat_map, None, Some, Option, IfSome, bytes_eq, codes}
use Rattle.std.specs.List.{AllByRecursion, list_any}
use Rattle.std.specs.Option.{is_none}
use Rattle.uhura_plan.specs.declared.key.Side.{Side}
use Rattle.uhura_plan.specs.declared.key.Side.TheVariants.{Lower, Upper}

abbrev pub Word : Type 0
Word = List ℕ

-- the words UNITS and PRICE of a second price
pub record Past : Type 0 where
  pub units : Word
  pub price : Word

-- the words of a RATE: PRICE, and maybe a second price
pub record Rated : Type 0 where
  pub first : Word
  pub second : Option Past

-- the words RATE and MAX of a side
pub record Priced : Type 0 where
  pub rate : Rated
  pub most : Option Word

-- the words `require` and `uncertain` that say what kind of thing a name is of
pub data Kind : Type 0 where
  requirement : Kind
  duration : Kind

-- a form with the words at its places
pub data Form : Type 0 where
  event : Word → Form
  uncertain : Word → Word → Word → Word → Word → Option Rated → Option Rated → Form
  choice : Word → List (Word × Word) → List (Word × Word) → Form
  require : Word → Word → Word → Word → Word → Option Priced → Option Priced → List (Word × Word)
      → Form
  drop : Word → Form
  bound : Word → Side → Word → Form
  price : Word → Side → Option Priced → Form
  rate : Word → Side → Option Rated → Form
  range : Word → Word → Word → Form
  prefer : Word → Word → Word → Form
  deny : Word → List (Word × Word) → Form
  cap : Word → Kind → Word → Side → Word → Form
  withdraw : Word → Form
  show : Form
  propose : Form
  prove : Form

abbrev pub side_word : Side → Word
side_word Lower = codes "lower"
side_word Upper = codes "upper"

abbrev pub kind_word : Kind → Word
kind_word requirement = codes "require"
kind_word duration = codes "uncertain"

-- words that are there, or none
abbrev pub optional : Option Word → List Word
optional None = []
optional (Some word) = word ∷ []

-- `past`, UNITS and PRICE, or nothing
abbrev pub past_words : Option Past → List Word
past_words None = []
past_words (Some second) = codes "past" ∷ second.units ∷ second.price ∷ []

-- PRICE and, where it is there, the second price
abbrev pub rated_words : Rated → List Word
rated_words r = r.first ∷ past_words r.second

-- RATE and, where it is there, MAX
abbrev pub priced_words : Priced → List Word
priced_words p = rated_words p.rate ++ optional p.most

-- a side with the words of what it has, or nothing
abbrev pub side_words : {A : Type 0} → (A → List Word) → Side → Option A → List Word
side_words words side None = []
side_words words side (Some x) = side_word side ∷ words x

-- a side with its RATE, or nothing
abbrev pub rate_words : Side → Option Rated → List Word
rate_words side r = side_words rated_words side r

-- a side with its RATE and MAX, or nothing
abbrev pub price_words : Side → Option Priced → List Word
price_words side p = side_words priced_words side p

-- the words of what is set, or `-` for what is taken away
abbrev pub set_words : {A : Type 0} → (A → List Word) → Option A → List Word
set_words words None = codes "-" ∷ []
set_words words (Some x) = words x

-- pairs, one behind the other
abbrev pub pair_words : List (Word × Word) → List Word
pair_words pairs = flat_map (λ pair. pair.0 ∷ pair.1 ∷ []) pairs

-- `when` and at least one pair, or nothing
abbrev pub guard_words : List (Word × Word) → List Word
guard_words [] = []
guard_words (pair ∷ pairs) = codes "when" ∷ pair_words (pair ∷ pairs)

-- the table of forms
abbrev pub words_of : Form → List Word
words_of (event n) = codes "event" ∷ n ∷ []
words_of (uncertain n start end lo hi lower upper) =
    codes "uncertain" ∷ n ∷ start ∷ end ∷ lo ∷ hi ∷ rate_words Lower lower ++ rate_words Upper upper
words_of (choice n alternatives guard) =
    codes "choice" ∷ n ∷ pair_words alternatives ++ guard_words guard
words_of (require n from to lo hi lower upper guard) =
    codes "require" ∷ n ∷ from ∷ to ∷ lo ∷ hi
    ∷ price_words Lower lower ++ price_words Upper upper ++ guard_words guard
words_of (drop n) = codes "drop" ∷ n ∷ []
words_of (bound n side b) = codes "bound" ∷ n ∷ side_word side ∷ b ∷ []
words_of (price n side p) =
    codes "price" ∷ codes "require" ∷ n ∷ side_word side ∷ set_words priced_words p
words_of (rate n side r) =
    codes "price" ∷ codes "uncertain" ∷ n ∷ side_word side ∷ set_words rated_words r
words_of (range n lo hi) = codes "range" ∷ n ∷ lo ∷ hi ∷ []
words_of (prefer c a cost) = codes "prefer" ∷ c ∷ a ∷ cost ∷ []
words_of (deny v literals) = codes "deny" ∷ v ∷ pair_words literals
words_of (cap v kind n side units) =
    codes "cap" ∷ v ∷ kind_word kind ∷ n ∷ side_word side ∷ units ∷ []
words_of (withdraw v) = codes "withdraw" ∷ v ∷ []
words_of show = codes "show" ∷ []
words_of propose = codes "propose" ∷ []
words_of prove = codes "prove" ∷ []

-- ---- where a word could stand at two places of a form, the one that the language takes

-- a word is one of these
abbrev pub is_among : List Word → Word → Bool
is_among words word = list_any (bytes_eq word) words

-- the words that begin what may follow the price of a side of a requirement
abbrev pub followers : Side → List Word
followers Lower = codes "upper" ∷ codes "when" ∷ []
followers Upper = codes "when" ∷ []

-- the words that aren't MAX behind a RATE: `past`, where it has no second price, and those that begin what may
-- follow
abbrev pub not_max : Option Past → List Word → List Word
not_max None others = codes "past" ∷ others
not_max (Some second) others = others

abbrev pub HasMax : List Word → Priced → Type 0
HasMax others p = IfSome p.most (λ word. is_among (not_max p.rate.second others) word ≡ false)

-- the words of a rate, or of a price, are `-` alone
abbrev pub is_dash_rate : Rated → Bool
is_dash_rate r = is_none r.second && bytes_eq r.first (codes "-")

abbrev pub is_dash_price : Priced → Bool
is_dash_price p = is_none p.most && is_dash_rate p.rate

-- a price that is set: nothing follows its MAX, and it isn't `-`
pub record IsSetPrice (p : Priced) : Type 0 where
  pub max : HasMax [] p
  pub some : is_dash_price p ≡ false

-- alternatives end at the first `when`, MAX is what doesn't begin the next part, and `-` alone takes a price away
abbrev pub IsTaken : Form → Type 0
IsTaken (choice n alternatives guard) =
    (alternatives ≢ []) × AllByRecursion (λ word. word ≢ codes "when") (pair_words alternatives)
IsTaken (require n from to lo hi lower upper guard) =
    IfSome lower (HasMax (followers Lower)) × IfSome upper (HasMax (followers Upper))
IsTaken (price n side p) = IfSome p IsSetPrice
IsTaken (rate n side r) = IfSome r (λ r. is_dash_rate r ≡ false)
IsTaken (deny v literals) = literals ≢ []
IsTaken form = Unit {0}

-- the words are of this form
pub record IsForm (words : List Word) (form : Form) : Type 0 where
  pub words_are : words ≡ words_of form
  pub taken : IsTaken form
