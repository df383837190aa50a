-- How the parts of a line are read: what is written is found, and what is found is written.
use Rattle.std.proofs.Common.{◌≡◌, Bool, true, false, ◌||◌, cond, List, [], ◌∷◌, ◌++◌, Option, Some, None, IfSome, bytes_eq, codes, refl, ap, sym, subst, ◌∙◌, append_assoc, append-nil}
use Rattle.std.proofs.lemmas.Option.{option_and_then_some}
use Rattle.std.proofs.lemmas.Slice.Eq.{bytes_eq-Decides}
use Rattle.uhura_plan.specs.declared.key.Side.{Side}
use Rattle.uhura_plan.specs.declared.key.Side.TheVariants.{Lower, Upper}
use Rattle.uhura_line.specs.Form.{Word, Past, Rated, Priced, Kind, requirement, duration, side_word, kind_word, optional, past_words, rated_words, priced_words, side_words, rate_words, price_words, set_words, is_among, followers, not_max, HasMax, IsSetPrice, is_dash_rate, is_dash_price}
use Rattle.uhura_line.specs.Reader.{◌>>=◌, begins_with, behind, ended, units_and_price, past_part, rated_part, begins_with_one, next_part, most_part, priced_part, side_part, rate_part, price_part, rates_in, set_in, side_in, kind_in}

-- words that begin with this one
pub begun : (fixed : Word) (words : List Word) → begins_with fixed words ≡ true → words ≡ fixed ∷ behind words
begun fixed [] h = cc
begun fixed (word ∷ more) h = ap (λ w. w ∷ more) ((bytes_eq-Decides word fixed).0 h)

-- what holds of what is found
pub some_is : {A : Type 0} (x y : A) (P : A → Type 0) → ◌≡◌ {A = Option A} (Some x) (Some y) → P x → P y
some_is x y P h px =
    let e : x ≡ y = cc in
    subst P e px

pub ended_is : {A : Type 0} (x : A) (left : List Word) (y : A) → ended x left ≡ Some y → (left ≡ []) × (x ≡ y)
ended_is x [] y h =
    let e : x ≡ y = cc in
    (refl, e)
ended_is x (word ∷ more) y h = cc

neither : (a b : Bool) → (a || b) ≡ false → (a ≡ false) × (b ≡ false)
neither true b h = cc
neither false b h = (refl, h)

-- ---- a second price

-- `past` doesn't follow a price without a second one
abbrev pub NoPast : Option Past → List Word → Type 0
NoPast None rest = begins_with (codes "past") rest ≡ false
NoPast (Some second) rest = Unit {0}

no_past : (second : Option Past) (rest : List Word) → begins_with (codes "past") rest ≡ false → NoPast second rest
no_past None rest h = h
no_past (Some second) rest h = tt

past_found : (second : Option Past) (rest : List Word) → NoPast second rest
    → past_part (past_words second ++ rest) ≡ Some (second, rest)
past_found None rest h = rw h refl
past_found (Some second) rest h = refl

abbrev IsPast : List Word → Option Past × List Word → Type 0
IsPast words p = (words ≡ past_words p.0 ++ p.1) × NoPast p.0 p.1

units_are : (more words : List Word) (p : Option Past × List Word) → words ≡ codes "past" ∷ more
    → units_and_price more ≡ Some p → IsPast words p
units_are [] words p e h = cc
units_are (units ∷ []) words p e h = cc
units_are (units ∷ next ∷ more) words p e h =
    some_is (Some record { units = units; price = next }, more) p (IsPast words) h (e, tt)

past_are : (words : List Word) (p : Option Past × List Word) → past_part words ≡ Some p → IsPast words p
past_are words p h = by_test (begins_with (codes "past") words) refl h
  where
    by_test : (t : Bool) → begins_with (codes "past") words ≡ t
        → cond {A = Option (Option Past × List Word)} t (units_and_price (behind words)) (Some (None, words)) ≡ Some p
        → IsPast words p
    by_test true e h = units_are (behind words) words p (begun (codes "past") words e) h
    by_test false e h = some_is (None, words) p (IsPast words) h (refl, e)

-- ---- RATE

rated_found : (r : Rated) (rest : List Word) → NoPast r.second rest
    → rated_part (rated_words r ++ rest) ≡ Some (r, rest)
rated_found r rest h = rw (past_found r.second rest h) refl

abbrev IsRated : List Word → Rated × List Word → Type 0
IsRated words p = (words ≡ rated_words p.0 ++ p.1) × NoPast p.0.second p.1

rated_are : (words : List Word) (p : Rated × List Word) → rated_part words ≡ Some p → IsRated words p
rated_are [] p h = cc
rated_are (first ∷ more) p h = option_and_then_some _ (past_part more) p h (λ second e found.
    let are = past_are more second e in
    some_is (record { first = first; second = second.0 }, second.1) p (IsRated (first ∷ more)) found (ap (λ l. first ∷ l) are.0, are.1))

-- ---- MAX

-- what may follow: nothing, or a word that MAX isn't
abbrev pub EndsPart : List Word → List Word → Type 0
EndsPart others [] = Unit {0}
EndsPart others (word ∷ more) = is_among others word ≡ true

either_way : {A : Type 0} (t : Bool) (x : A) → cond t x x ≡ x
either_way true x = refl
either_way false x = refl

most_found : (others rest : List Word) (most : Option Word) → IfSome most (λ word. is_among others word ≡ false)
    → EndsPart others rest → most_part others (optional most ++ rest) ≡ (most, rest)
most_found others [] None max ends = either_way (begins_with_one others []) (None, [])
most_found others (word ∷ more) None max ends = rw ends refl
most_found others rest (Some word) max ends = rw max refl

abbrev IsMost : List Word → List Word → Option Word × List Word → Type 0
IsMost others words p = (words ≡ optional p.0 ++ p.1) × IfSome p.0 (λ word. is_among others word ≡ false)

next_are : (others words : List Word) → begins_with_one others words ≡ false → IsMost others words (next_part words)
next_are others [] h = (refl, tt)
next_are others (word ∷ more) h = (refl, h)

most_are : (others words : List Word) → IsMost others words (most_part others words)
most_are others words = by_test (begins_with_one others words) refl
  where
    by_test : (t : Bool) → begins_with_one others words ≡ t
        → IsMost others words (cond {A = Option Word × List Word} t (None, words) (next_part words))
    by_test true e = (refl, tt)
    by_test false e = next_are others words e

-- ---- RATE and MAX

-- MAX is neither `past` behind a first price alone, nor another word that begins what may follow
max_apart : (second : Option Past) (others rest : List Word) (word : Word)
    → is_among (not_max second others) word ≡ false → (is_among others word ≡ false) × NoPast second (word ∷ rest)
max_apart None others rest word h =
    let apart = neither (bytes_eq word (codes "past")) (is_among others word) h in
    (apart.1, apart.0)
max_apart (Some second) others rest word h = (h, tt)

max_of : (second : Option Past) (others : List Word) (most : Option Word)
    → IfSome most (λ word. is_among (not_max second others) word ≡ false)
    → IfSome most (λ word. is_among others word ≡ false)
max_of second others None max = tt
max_of second others (Some word) max = (max_apart second others [] word max).0

past_apart : (second : Option Past) (others rest : List Word) (most : Option Word)
    → IfSome most (λ word. is_among (not_max second others) word ≡ false) → begins_with (codes "past") rest ≡ false
    → NoPast second (optional most ++ rest)
past_apart second others rest None max h = no_past second rest h
past_apart second others rest (Some word) max h = (max_apart second others rest word max).1

priced_by : (others words : List Word) (r : Rated × List Word) → rated_part words ≡ Some r
    → priced_part others words ≡ Some (record { rate = r.0; most = (most_part others r.1).0 }, (most_part others r.1).1)
priced_by others words r h = rw h refl

priced_found : (others rest : List Word) (p : Priced) → HasMax others p → EndsPart others rest
    → begins_with (codes "past") rest ≡ false → priced_part others (priced_words p ++ rest) ≡ Some (p, rest)
priced_found others rest p max ends other =
    let left : List Word = optional p.most ++ rest in
    let rated : rated_part (rated_words p.rate ++ left) ≡ Some (p.rate, left) = rated_found p.rate left (past_apart p.rate.second others rest p.most max other) in
    let most : most_part others left ≡ (p.most, rest) = most_found others rest p.most (max_of p.rate.second others p.most max) ends in
    ap (priced_part others) (append_assoc (rated_words p.rate) (optional p.most) rest) ∙ priced_by others (rated_words p.rate ++ left) (p.rate, left) rated
    ∙ ap (λ (m : Option Word × List Word). Some (record { rate = p.rate; most = m.0 }, m.1)) most

max_is : (second : Option Past) (others words left : List Word) (most : Option Word) → NoPast second words
    → words ≡ optional most ++ left → IfSome most (λ word. is_among others word ≡ false)
    → IfSome most (λ word. is_among (not_max second others) word ≡ false)
max_is second others words left None past e max = tt
max_is None others words left (Some word) past e max =
    let other : bytes_eq word (codes "past") ≡ false = ap (begins_with (codes "past")) (sym e) ∙ past in
    rw other max
max_is (Some second) others words left (Some word) past e max = max

abbrev pub IsPriced : List Word → List Word → Priced × List Word → Type 0
IsPriced others words p = (words ≡ priced_words p.0 ++ p.1) × HasMax others p.0

priced_are : (others words : List Word) (p : Priced × List Word) → priced_part others words ≡ Some p
    → IsPriced others words p
priced_are others words p h = option_and_then_some _ (rated_part words) p h (λ rate e found.
    let rated = rated_are words rate e in
    let most = most_are others rate.1 in
    let m = most_part others rate.1 in
    some_is (record { rate = rate.0; most = m.0 }, m.1) p (IsPriced others words) found (
      rated.0 ∙ ap (λ l. rated_words rate.0 ++ l) most.0 ∙ sym (append_assoc (rated_words rate.0) (optional m.0) m.1),
      max_is rate.0.second others rate.1 m.1 m.0 rated.1 most.0 most.1,
    ))

-- ---- a side

pub same_side : (side : Side) → bytes_eq (side_word side) (side_word side) ≡ true
same_side Lower = refl
same_side Upper = refl

pub rate_found : (side : Side) (rate : Option Rated) (rest : List Word) → begins_with (side_word side) rest ≡ false
    → begins_with (codes "past") rest ≡ false → rate_part side (rate_words side rate ++ rest) ≡ Some (rate, rest)
rate_found side None rest other past = rw other refl
rate_found side (Some r) rest other past = rw (same_side side, rated_found r rest (no_past r.second rest past)) refl

pub price_found : (side : Side) (price : Option Priced) (rest : List Word) → IfSome price (HasMax (followers side))
    → EndsPart (followers side) rest → begins_with (side_word side) rest ≡ false
    → begins_with (codes "past") rest ≡ false
    → price_part side (price_words side price ++ rest) ≡ Some (price, rest)
price_found side None rest max ends other past = rw other refl
price_found side (Some p) rest max ends other past =
    rw (same_side side, priced_found (followers side) rest p max ends past) refl

-- what a side has, from what its part is
side_are : {A : Type 0} (part : List Word → Option (A × List Word)) (written : A → List Word) (Good : A → Type 0)
    → ((words : List Word) (p : A × List Word) → part words ≡ Some p → (words ≡ written p.0 ++ p.1) × Good p.0)
    → (side : Side) (words : List Word) (p : Option A × List Word) → side_part part side words ≡ Some p
    → (words ≡ side_words written side p.0 ++ p.1) × IfSome p.0 Good
side_are {A} part written Good part_are side words p h = by_test (begins_with (side_word side) words) refl h
  where
    IsSide : Option A × List Word → Type 0
    IsSide p = (words ≡ side_words written side p.0 ++ p.1) × IfSome p.0 Good

    by_test : (t : Bool) → begins_with (side_word side) words ≡ t
        → cond {A = Option (Option A × List Word)} t (◌>>=◌ (part (behind words)) (λ found. Some (Some found.0, found.1))) (Some (None, words)) ≡ Some p
        → IsSide p
    by_test true e h = option_and_then_some _ (part (behind words)) p h (λ q e2 found.
        let are = part_are (behind words) q e2 in
        some_is (Some q.0, q.1) p IsSide found (begun (side_word side) words e ∙ ap (λ l. side_word side ∷ l) are.0, are.1))
    by_test false e h = some_is (None, words) p IsSide h (refl, tt)

pub rate_are : (side : Side) (words : List Word) (p : Option Rated × List Word) → rate_part side words ≡ Some p
    → words ≡ rate_words side p.0 ++ p.1
rate_are side words p h =
    (side_are rated_part rated_words (λ r. Unit {0}) (λ ws q e. ((rated_are ws q e).0, tt)) side words p h).0

pub price_are : (side : Side) (words : List Word) (p : Option Priced × List Word) → price_part side words ≡ Some p
    → (words ≡ price_words side p.0 ++ p.1) × IfSome p.0 (HasMax (followers side))
price_are side words p h =
    side_are (priced_part (followers side)) priced_words (HasMax (followers side)) (priced_are (followers side)) side words p h

-- ---- both RATEs of a duration

not_lower_rate : (upper : Option Rated) → begins_with (codes "lower") (rate_words Upper upper) ≡ false
not_lower_rate None = refl
not_lower_rate (Some r) = refl

not_past_rate : (upper : Option Rated) → begins_with (codes "past") (rate_words Upper upper) ≡ false
not_past_rate None = refl
not_past_rate (Some r) = refl

pub rates_found : (lower upper : Option Rated)
    → rates_in (rate_words Lower lower ++ rate_words Upper upper) ≡ Some (lower, upper)
rates_found lower upper =
    let last : rate_part Upper (rate_words Upper upper) ≡ Some (upper, []) = ap (rate_part Upper) (sym (append-nil (rate_words Upper upper))) ∙ rate_found Upper upper [] refl refl in
    rw (rate_found Lower lower (rate_words Upper upper) (not_lower_rate upper) (not_past_rate upper), last) refl

pub rates_are : (words : List Word) (r : Option Rated × Option Rated) → rates_in words ≡ Some r
    → words ≡ rate_words Lower r.0 ++ rate_words Upper r.1
rates_are words r h =
    option_and_then_some _ (rate_part Lower words) r h (λ lower e f. option_and_then_some _ (rate_part Upper lower.1) r f (λ upper g last.
    let end = ended_is (lower.0, upper.0) upper.1 r last in
    let rest : lower.1 ≡ rate_words Upper upper.0 = rate_are Upper lower.1 upper g ∙ ap (λ l. rate_words Upper upper.0 ++ l) end.0 ∙ append-nil (rate_words Upper upper.0) in
    rate_are Lower words lower e ∙ ap (λ l. rate_words Lower lower.0 ++ l) rest ∙ ap (λ (x : Option Rated × Option Rated). rate_words Lower x.0 ++ rate_words Upper x.1) end.1))

-- ---- what is set

dash_rate : (r : Rated) → is_dash_rate r ≡ true → rated_words r ≡ codes "-" ∷ []
dash_rate r h = by_second r.second refl h
  where
    by_second : (second : Option Past) → r.second ≡ second → is_dash_rate r ≡ true → rated_words r ≡ codes "-" ∷ []
    by_second None e h = rw e (ap (λ w. w ∷ []) ((bytes_eq-Decides r.first (codes "-")).0 (rw e at h)))
    by_second (Some s) e h = let no : false ≡ true = rw e at h in cc

dash_price : (p : Priced) → is_dash_price p ≡ true → priced_words p ≡ codes "-" ∷ []
dash_price p h = by_most p.most refl h
  where
    by_most : (most : Option Word) → p.most ≡ most → is_dash_price p ≡ true → priced_words p ≡ codes "-" ∷ []
    by_most None e h = rw e (append-nil (rated_words p.rate) ∙ dash_rate p.rate (rw e at h))
    by_most (Some word) e h = let no : false ≡ true = rw e at h in cc

set_are : {A : Type 0} (is_dash : A → Bool) (part : List Word → Option (A × List Word)) (written : A → List Word) (Good : A → Type 0)
    → ((x : A) → is_dash x ≡ true → written x ≡ codes "-" ∷ [])
    → ((words : List Word) (p : A × List Word) → part words ≡ Some p → (words ≡ written p.0 ++ p.1) × Good p.0)
    → (words : List Word) (x : Option A) → set_in is_dash part words ≡ Some x
    → (words ≡ set_words written x) × IfSome x (λ y. Good y × (is_dash y ≡ false))
set_are {A} is_dash part written Good dash part_are words x h = option_and_then_some _ (part words) x h (λ p e f. by_test p e (is_dash p.0) refl f)
  where
    IsSet : Option A → Type 0
    IsSet x = (words ≡ set_words written x) × IfSome x (λ y. Good y × (is_dash y ≡ false))

    by_test : (p : A × List Word) → part words ≡ Some p → (t : Bool) → is_dash p.0 ≡ t
        → ended (cond {A = Option A} t None (Some p.0)) p.1 ≡ Some x → IsSet x
    by_test p e t is f =
        let are = part_are words p e in
        let end = ended_is (cond {A = Option A} t None (Some p.0)) p.1 x f in
        let words_are : words ≡ written p.0 = are.0 ∙ ap (λ l. written p.0 ++ l) end.0 ∙ append-nil (written p.0) in
        subst IsSet end.1 (by_dash t is words_are are.1)
      where
        by_dash : (t : Bool) → is_dash p.0 ≡ t → words ≡ written p.0 → Good p.0
            → IsSet (cond {A = Option A} t None (Some p.0))
        by_dash true is e good = (e ∙ dash p.0 is, tt)
        by_dash false is e good = (e, (good, is))

pub set_price_found : (p : Option Priced) → IfSome p IsSetPrice
    → set_in is_dash_price (priced_part []) (set_words priced_words p) ≡ Some p
set_price_found None taken = refl
set_price_found (Some p) taken =
    let whole : priced_part [] (priced_words p) ≡ Some (p, []) = ap (priced_part []) (sym (append-nil (priced_words p))) ∙ priced_found [] [] p taken.max tt refl in
    rw (whole, taken.some) refl

pub set_price_are : (words : List Word) (p : Option Priced) → set_in is_dash_price (priced_part []) words ≡ Some p
    → (words ≡ set_words priced_words p) × IfSome p IsSetPrice
set_price_are words p h =
    let are = set_are is_dash_price (priced_part []) priced_words (HasMax []) dash_price (priced_are []) words p h in
    (are.0, named p are.1)
  where
    named : (p : Option Priced) → IfSome p (λ y. HasMax [] y × (is_dash_price y ≡ false)) → IfSome p IsSetPrice
    named None h = tt
    named (Some p) h = record { max = h.0; some = h.1 }

pub set_rate_found : (r : Option Rated) → IfSome r (λ r. is_dash_rate r ≡ false)
    → set_in is_dash_rate rated_part (set_words rated_words r) ≡ Some r
set_rate_found None taken = refl
set_rate_found (Some r) taken =
    let whole : rated_part (rated_words r) ≡ Some (r, []) = ap rated_part (sym (append-nil (rated_words r))) ∙ rated_found r [] (no_past r.second [] refl) in
    rw (whole, taken) refl

pub set_rate_are : (words : List Word) (r : Option Rated) → set_in is_dash_rate rated_part words ≡ Some r
    → (words ≡ set_words rated_words r) × IfSome r (λ r. is_dash_rate r ≡ false)
set_rate_are words r h =
    let are = set_are is_dash_rate rated_part rated_words (λ r. Unit {0}) dash_rate (λ ws q e. ((rated_are ws q e).0, tt)) words r h in
    (are.0, last r are.1)
  where
    last : (r : Option Rated) → IfSome r (λ y. Unit {0} × (is_dash_rate y ≡ false))
        → IfSome r (λ y. is_dash_rate y ≡ false)
    last None h = tt
    last (Some r) h = h.1

-- ---- words at fixed places

pub side_is : (word : Word) (side : Side) → side_in word ≡ Some side → word ≡ side_word side
side_is word side h = by_lower (bytes_eq word (codes "lower")) (bytes_eq word (codes "upper")) refl refl h
  where
    by_lower : (l u : Bool) → bytes_eq word (codes "lower") ≡ l → bytes_eq word (codes "upper") ≡ u
        → cond {A = Option Side} l (Some Lower) (cond {A = Option Side} u (Some Upper) None) ≡ Some side
        → word ≡ side_word side
    by_lower true u e f h =
        some_is Lower side (λ s. word ≡ side_word s) h ((bytes_eq-Decides word (codes "lower")).0 e)
    by_lower false true e f h =
        some_is Upper side (λ s. word ≡ side_word s) h ((bytes_eq-Decides word (codes "upper")).0 f)
    by_lower false false e f h = cc

pub kind_is : (word : Word) (kind : Kind) → kind_in word ≡ Some kind → word ≡ kind_word kind
kind_is word kind h = by_kind (bytes_eq word (codes "require")) (bytes_eq word (codes "uncertain")) refl refl h
  where
    by_kind : (r u : Bool) → bytes_eq word (codes "require") ≡ r → bytes_eq word (codes "uncertain") ≡ u
        → cond {A = Option Kind} r (Some requirement) (cond {A = Option Kind} u (Some duration) None) ≡ Some kind
        → word ≡ kind_word kind
    by_kind true u e f h =
        some_is requirement kind (λ k. word ≡ kind_word k) h ((bytes_eq-Decides word (codes "require")).0 e)
    by_kind false true e f h =
        some_is duration kind (λ k. word ≡ kind_word k) h ((bytes_eq-Decides word (codes "uncertain")).0 f)
    by_kind false false e f h = cc

pub side_found : (side : Side) → side_in (side_word side) ≡ Some side
side_found Lower = refl
side_found Upper = refl

pub kind_found : (kind : Kind) → kind_in (kind_word kind) ≡ Some kind
kind_found requirement = refl
kind_found duration = refl
