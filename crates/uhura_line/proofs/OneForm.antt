-- The form that is read from words is the form that they have by the grammar, and no other.
use Rattle.std.proofs.Common.{◌≡◌, ◌≢◌, Bool, true, false, cond, List, [], ◌∷◌, ◌++◌, Option, Some, None, IfSome, bytes_eq, codes, refl, ap, sym, subst, ◌∙◌, append_assoc}
use Rattle.std.proofs.lemmas.Option.{option_and_then_some}
use Rattle.std.proofs.lemmas.Slice.Eq.{bytes_eq-Decides}
use Rattle.uhura_plan.specs.declared.key.Side.{Side}
use Rattle.uhura_plan.specs.declared.key.Side.TheVariants.{Lower, Upper}
use Rattle.uhura_line.specs.declared.verb.Verb.{Verb}
use Rattle.uhura_line.specs.declared.verb.Verb.TheVariants as code
use Rattle.uhura_line.specs.Form.{Word, Rated, Priced, Kind, requirement, duration, Form, event, uncertain, choice, require, bound, price, rate, range, prefer, deny, cap, withdraw, show, propose, prove, side_word, kind_word, rate_words, price_words, pair_words, guard_words, words_of, followers, HasMax, IsTaken, IsForm}
use Rattle.uhura_line.specs.Form as form
use Rattle.uhura_line.specs.Reader.{◌>>=◌, begins_with, ended, bare_in, named_in, next_three, next_five, side_in, kind_in, price_part, guard_of, pairs_of, alternatives_of, is_no_alternative, terms_in, rates_in, uncertain_in, choice_in, require_in, bound_in, set_of_kind, price_in, range_in, prefer_in, deny_in, cap_in}
use Rattle.uhura_line.specs.Verbs.{verb_word, verb_in, form_behind, form_in}
use Rattle.uhura_line.proofs.OneSpelling.{other_word}
use Rattle.uhura_line.proofs.Pairing.{pairs_found, pairs_are}
use Rattle.uhura_line.proofs.GuardLemmas.{guard_found, guard_are}
use Rattle.uhura_line.proofs.Alternatives.{alternatives_found, alternatives_are, some_found}
use Rattle.uhura_line.proofs.Parts.{some_is, ended_is, EndsPart, rates_found, rates_are, price_found, price_are, set_price_found, set_price_are, set_rate_found, set_rate_are, side_is, side_found, kind_is, kind_found}

-- ---- words at fixed places

next_three_is : (words : List Word) (w : Word × Word × Word × List Word) → next_three words ≡ Some w
    → words ≡ w.0 ∷ w.1 ∷ w.2 ∷ w.3
next_three_is [] w h = cc
next_three_is (a ∷ []) w h = cc
next_three_is (a ∷ b ∷ []) w h = cc
next_three_is (a ∷ b ∷ c ∷ more) w h =
    some_is (a, b, c, more) w (λ x. a ∷ b ∷ c ∷ more ≡ x.0 ∷ x.1 ∷ x.2 ∷ x.3) h refl

next_five_is : (words : List Word) (w : Word × Word × Word × Word × Word × List Word) → next_five words ≡ Some w
    → words ≡ w.0 ∷ w.1 ∷ w.2 ∷ w.3 ∷ w.4 ∷ w.5
next_five_is [] w h = cc
next_five_is (a ∷ []) w h = cc
next_five_is (a ∷ b ∷ []) w h = cc
next_five_is (a ∷ b ∷ c ∷ []) w h = cc
next_five_is (a ∷ b ∷ c ∷ d ∷ []) w h = cc
next_five_is (a ∷ b ∷ c ∷ d ∷ e ∷ more) w h =
    some_is (a, b, c, d, e, more) w (λ x. a ∷ b ∷ c ∷ d ∷ e ∷ more ≡ x.0 ∷ x.1 ∷ x.2 ∷ x.3 ∷ x.4 ∷ x.5) h refl

-- words of a form that is found
is_form : (words : List Word) (f g : Form) → words ≡ words_of f → IsTaken f → f ≡ g → IsForm words g
is_form words f g e taken same = subst (λ (x : Form). IsForm words x) same record { words_are = e; taken = taken }

some_form : (words : List Word) (f g : Form) → words ≡ words_of f → IsTaken f
    → ◌≡◌ {A = Option Form} (Some f) (Some g) → IsForm words g
some_form words f g e taken h = some_is f g (λ x. IsForm words x) h record { words_are = e; taken = taken }

-- a form whose last word is the last of the line
last_form : (words left : List Word) (f g : Form) → (left ≡ [] → words ≡ words_of f) → IsTaken f
    → ended f left ≡ Some g → IsForm words g
last_form words left f g words_are taken h =
    let end = ended_is f left g h in
    is_form words f g (words_are end.0) taken end.1

-- ---- `uncertain`

uncertain_found : (n start end lo hi : Word) (lower upper : Option Rated)
    → uncertain_in (n ∷ start ∷ end ∷ lo ∷ hi ∷ rate_words Lower lower ++ rate_words Upper upper) ≡ Some (uncertain n start end lo hi lower upper)
uncertain_found n start end lo hi lower upper = rw (rates_found lower upper) refl

uncertain_are : (words : List Word) (f : Form) → uncertain_in words ≡ Some f → IsForm (codes "uncertain" ∷ words) f
uncertain_are words f h =
    option_and_then_some _ (next_five words) f h (λ w e g. option_and_then_some _ (rates_in w.5) f g (λ r i found.
    some_form (codes "uncertain" ∷ words) (uncertain w.0 w.1 w.2 w.3 w.4 r.0 r.1) f
    (ap (λ l. codes "uncertain" ∷ l) (next_five_is words w e) ∙ ap (λ l. codes "uncertain" ∷ w.0 ∷ w.1 ∷ w.2 ∷ w.3 ∷ w.4 ∷ l) (rates_are w.5 r i)) tt found))

-- ---- `choice`

choice_by : (n : Word) (more : List Word) (a : List (Word × Word) × List Word) (guard : List (Word × Word))
    → is_no_alternative more ≡ false → alternatives_of more ≡ Some a → guard_of a.1 ≡ Some guard
    → choice_in (n ∷ more) ≡ Some (choice n a.0 guard)
choice_by n more a guard some found guarded = rw (some, found, guarded) refl

choice_found : (n : Word) (alternatives guard : List (Word × Word)) → IsTaken (choice n alternatives guard)
    → choice_in (n ∷ pair_words alternatives ++ guard_words guard) ≡ Some (choice n alternatives guard)
choice_found n [] guard taken = absurd (taken.0 refl)
choice_found n (pair ∷ alternatives) guard taken =
    let all : List (Word × Word) = pair ∷ alternatives in
    choice_by n (pair_words all ++ guard_words guard) (all, guard_words guard) guard (other_word pair.0 (codes "when") taken.1.0) (alternatives_found all guard taken.1) (guard_found guard)

choice_are : (words : List Word) (f : Form) → choice_in words ≡ Some f → IsForm (codes "choice" ∷ words) f
choice_are [] f h = cc
choice_are (n ∷ more) f h = by_test (is_no_alternative more) refl h
  where
    by_test : (t : Bool) → is_no_alternative more ≡ t
        → cond {A = Option Form} t None (◌>>=◌ (alternatives_of more) (λ a. ◌>>=◌ (guard_of a.1) (λ guard. Some (choice n a.0 guard)))) ≡ Some f
        → IsForm (codes "choice" ∷ n ∷ more) f
    by_test true e h = cc
    by_test false e h =
        option_and_then_some _ (alternatives_of more) f h (λ a i g. option_and_then_some _ (guard_of a.1) f g (λ guard j found.
        let written = alternatives_are more a i in
        some_form (codes "choice" ∷ n ∷ more) (choice n a.0 guard) f
        (ap (λ l. codes "choice" ∷ n ∷ l) (written.words_are ∙ ap (λ l. pair_words a.0 ++ l) (guard_are a.1 guard j)))
        (some_found more a e i, written.whenless) found))

-- ---- `require`

-- what follows the lower price, and what follows the upper one
guard_ends : (guard : List (Word × Word)) → EndsPart (followers Upper) (guard_words guard)
guard_ends [] = tt
guard_ends (pair ∷ pairs) = refl

upper_ends : (upper : Option Priced) (guard : List (Word × Word))
    → EndsPart (followers Lower) (price_words Upper upper ++ guard_words guard)
upper_ends None [] = tt
upper_ends None (pair ∷ pairs) = refl
upper_ends (Some p) guard = refl

guard_is_no : (word : Word) (guard : List (Word × Word)) → bytes_eq (codes "when") word ≡ false
    → begins_with word (guard_words guard) ≡ false
guard_is_no word [] h = refl
guard_is_no word (pair ∷ pairs) h = h

upper_is_no : (word : Word) (upper : Option Priced) (guard : List (Word × Word))
    → bytes_eq (codes "upper") word ≡ false → bytes_eq (codes "when") word ≡ false
    → begins_with word (price_words Upper upper ++ guard_words guard) ≡ false
upper_is_no word None guard h i = guard_is_no word guard i
upper_is_no word (Some p) guard h i = h

abbrev IsTerms : List Word → Option Priced × Option Priced × List (Word × Word) → Type 0
IsTerms words t =
    (words ≡ price_words Lower t.0 ++ price_words Upper t.1 ++ guard_words t.2) × IfSome t.0 (HasMax (followers Lower)) × IfSome t.1 (HasMax (followers Upper))

terms_found : (lower upper : Option Priced) (guard : List (Word × Word)) → IfSome lower (HasMax (followers Lower))
    → IfSome upper (HasMax (followers Upper))
    → terms_in (price_words Lower lower ++ price_words Upper upper ++ guard_words guard) ≡ Some (lower, upper, guard)
terms_found lower upper guard low high =
    let rest : List Word = price_words Upper upper ++ guard_words guard in
    rw (
      append_assoc (price_words Lower lower) (price_words Upper upper) (guard_words guard),
      price_found Lower lower rest low (upper_ends upper guard) (upper_is_no (codes "lower") upper guard refl refl) (upper_is_no (codes "past") upper guard refl refl),
      price_found Upper upper (guard_words guard) high (guard_ends guard) (guard_is_no (codes "upper") guard refl) (guard_is_no (codes "past") guard refl),
      guard_found guard,
    ) refl

terms_are : (words : List Word) (t : Option Priced × Option Priced × List (Word × Word)) → terms_in words ≡ Some t
    → IsTerms words t
terms_are words t h =
    option_and_then_some _ (price_part Lower words) t h (λ lower e f. option_and_then_some _ (price_part Upper lower.1) t f (λ upper g i. option_and_then_some _ (guard_of upper.1) t i (λ guard j found.
    let low = price_are Lower words lower e in
    let high = price_are Upper lower.1 upper g in
    let rest : lower.1 ≡ price_words Upper upper.0 ++ guard_words guard = high.0 ∙ ap (λ l. price_words Upper upper.0 ++ l) (guard_are upper.1 guard j) in
    some_is (lower.0, upper.0, guard) t (IsTerms words) found (
      low.0 ∙ ap (λ l. price_words Lower lower.0 ++ l) rest ∙ sym (append_assoc (price_words Lower lower.0) (price_words Upper upper.0) (guard_words guard)),
      low.1,
      high.1,
    ))))

require_found : (n from to lo hi : Word) (lower upper : Option Priced) (guard : List (Word × Word))
    → IsTaken (require n from to lo hi lower upper guard)
    → require_in (n ∷ from ∷ to ∷ lo ∷ hi ∷ price_words Lower lower ++ price_words Upper upper ++ guard_words guard) ≡ Some (require n from to lo hi lower upper guard)
require_found n from to lo hi lower upper guard taken = rw (terms_found lower upper guard taken.0 taken.1) refl

require_are : (words : List Word) (f : Form) → require_in words ≡ Some f → IsForm (codes "require" ∷ words) f
require_are words f h =
    option_and_then_some _ (next_five words) f h (λ w e g. option_and_then_some _ (terms_in w.5) f g (λ t i found.
    let are = terms_are w.5 t i in
    some_form (codes "require" ∷ words) (require w.0 w.1 w.2 w.3 w.4 t.0 t.1 t.2) f
    (ap (λ l. codes "require" ∷ l) (next_five_is words w e) ∙ ap (λ l. codes "require" ∷ w.0 ∷ w.1 ∷ w.2 ∷ w.3 ∷ w.4 ∷ l) are.0) (are.1, are.2) found))

-- ---- `bound` and `cap`

bound_are : (words : List Word) (f : Form) → bound_in words ≡ Some f → IsForm (codes "bound" ∷ words) f
bound_are words f h =
    option_and_then_some _ (next_three words) f h (λ w e g. option_and_then_some _ (side_in w.1) f g (λ side i found.
    let words_are : words ≡ w.0 ∷ side_word side ∷ w.2 ∷ w.3 = next_three_is words w e ∙ ap (λ s. w.0 ∷ s ∷ w.2 ∷ w.3) (side_is w.1 side i) in
    last_form (codes "bound" ∷ words) w.3 (bound w.0 side w.2) f (λ end. ap (λ l. codes "bound" ∷ l) words_are ∙ ap (λ l. codes "bound" ∷ w.0 ∷ side_word side ∷ w.2 ∷ l) end) tt found))

cap_are : (words : List Word) (f : Form) → cap_in words ≡ Some f → IsForm (codes "cap" ∷ words) f
cap_are words f h =
    option_and_then_some _ (next_five words) f h (λ w e g. option_and_then_some _ (kind_in w.1) f g (λ kind i j. option_and_then_some _ (side_in w.3) f j (λ side k found.
    let words_are : words ≡ w.0 ∷ kind_word kind ∷ w.2 ∷ side_word side ∷ w.4 ∷ w.5 =
    next_five_is words w e ∙ ap (λ s. w.0 ∷ s ∷ w.2 ∷ w.3 ∷ w.4 ∷ w.5) (kind_is w.1 kind i) ∙ ap (λ s. w.0 ∷ kind_word kind ∷ w.2 ∷ s ∷ w.4 ∷ w.5) (side_is w.3 side k) in
    last_form (codes "cap" ∷ words) w.5 (cap w.0 kind w.2 side w.4) f (λ end. ap (λ l. codes "cap" ∷ l) words_are ∙ ap (λ l. codes "cap" ∷ w.0 ∷ kind_word kind ∷ w.2 ∷ side_word side ∷ w.4 ∷ l) end) tt found)))

-- ---- `price`

set_are : (kind : Kind) (n : Word) (side : Side) (words : List Word) (f : Form)
    → set_of_kind kind n side words ≡ Some f → IsForm (codes "price" ∷ kind_word kind ∷ n ∷ side_word side ∷ words) f
set_are requirement n side words f h = option_and_then_some _ _ f h (λ p e found.
    let are = set_price_are words p e in
    some_form (codes "price" ∷ codes "require" ∷ n ∷ side_word side ∷ words) (price n side p) f (ap (λ l. codes "price" ∷ codes "require" ∷ n ∷ side_word side ∷ l) are.0) are.1 found)
set_are duration n side words f h = option_and_then_some _ _ f h (λ r e found.
    let are = set_rate_are words r e in
    some_form (codes "price" ∷ codes "uncertain" ∷ n ∷ side_word side ∷ words) (rate n side r) f (ap (λ l. codes "price" ∷ codes "uncertain" ∷ n ∷ side_word side ∷ l) are.0) are.1 found)

price_form_are : (words : List Word) (f : Form) → price_in words ≡ Some f → IsForm (codes "price" ∷ words) f
price_form_are words f h =
    option_and_then_some _ (next_three words) f h (λ w e g. option_and_then_some _ (kind_in w.0) f g (λ kind i j. option_and_then_some _ (side_in w.2) f j (λ side k found.
    let words_are : words ≡ kind_word kind ∷ w.1 ∷ side_word side ∷ w.3 =
    next_three_is words w e ∙ ap (λ s. s ∷ w.1 ∷ w.2 ∷ w.3) (kind_is w.0 kind i) ∙ ap (λ s. kind_word kind ∷ w.1 ∷ s ∷ w.3) (side_is w.2 side k) in
    subst (λ (l : List Word). IsForm (codes "price" ∷ l) f) (sym words_are) (set_are kind w.1 side w.3 f found))))

-- ---- the other verbs

bare_are : (verb : Word) (form : Form) → words_of form ≡ verb ∷ [] → IsTaken form → (words : List Word) (f : Form)
    → bare_in form words ≡ Some f → IsForm (verb ∷ words) f
bare_are verb form e taken words f h =
    last_form (verb ∷ words) words form f (λ end. ap (λ l. verb ∷ l) end ∙ sym e) taken h

named_are : (verb : Word) (form : Word → Form) → ((n : Word) → words_of (form n) ≡ verb ∷ n ∷ [])
    → ((n : Word) → IsTaken (form n)) → (words : List Word) (f : Form) → named_in form words ≡ Some f
    → IsForm (verb ∷ words) f
named_are verb form e taken [] f h = cc
named_are verb form e taken (n ∷ more) f h =
    last_form (verb ∷ n ∷ more) more (form n) f (λ end. ap (λ l. verb ∷ n ∷ l) end ∙ sym (e n)) (taken n) h

range_are : (words : List Word) (f : Form) → range_in words ≡ Some f → IsForm (codes "range" ∷ words) f
range_are words f h = option_and_then_some _ (next_three words) f h (λ w e found.
    last_form (codes "range" ∷ words) w.3 (range w.0 w.1 w.2) f (λ end. ap (λ l. codes "range" ∷ l) (next_three_is words w e) ∙ ap (λ l. codes "range" ∷ w.0 ∷ w.1 ∷ w.2 ∷ l) end) tt found)

prefer_are : (words : List Word) (f : Form) → prefer_in words ≡ Some f → IsForm (codes "prefer" ∷ words) f
prefer_are words f h = option_and_then_some _ (next_three words) f h (λ w e found.
    last_form (codes "prefer" ∷ words) w.3 (prefer w.0 w.1 w.2) f (λ end. ap (λ l. codes "prefer" ∷ l) (next_three_is words w e) ∙ ap (λ l. codes "prefer" ∷ w.0 ∷ w.1 ∷ w.2 ∷ l) end) tt found)

deny_found : (v : Word) (literals : List (Word × Word)) → literals ≢ []
    → deny_in (v ∷ pair_words literals) ≡ Some (deny v literals)
deny_found v [] some = absurd (some refl)
deny_found v (pair ∷ pairs) some = rw (pairs_found (pair ∷ pairs)) refl

deny_are : (words : List Word) (f : Form) → deny_in words ≡ Some f → IsForm (codes "deny" ∷ words) f
deny_are [] f h = cc
deny_are (v ∷ []) f h = cc
deny_are (v ∷ word ∷ more) f h = option_and_then_some _ (pairs_of (word ∷ more)) f h (λ literals e found.
    let are = pairs_are (word ∷ more) literals e in
    some_form (codes "deny" ∷ v ∷ word ∷ more) (deny v literals) f (ap (λ l. codes "deny" ∷ v ∷ l) are) (some literals are) found)
  where
    some : (literals : List (Word × Word)) → word ∷ more ≡ pair_words literals → literals ≢ []
    some literals e none = let empty : word ∷ more ≡ [] = e ∙ ap pair_words none in cc

-- ---- the forms

-- the form of words that are written is found
pub form_found : (f : Form) → IsTaken f → form_in (words_of f) ≡ Some f
form_found (event n) taken = refl
form_found (uncertain n start end lo hi lower upper) taken = uncertain_found n start end lo hi lower upper
form_found (choice n alternatives guard) taken = choice_found n alternatives guard taken
form_found (require n from to lo hi lower upper guard) taken = require_found n from to lo hi lower upper guard taken
form_found (form.drop n) taken = refl
form_found (bound n side b) taken = rw (side_found side) refl
form_found (price n side p) taken = rw (side_found side, set_price_found p taken) refl
form_found (rate n side r) taken = rw (side_found side, set_rate_found r taken) refl
form_found (range n lo hi) taken = refl
form_found (prefer c a cost) taken = refl
form_found (deny v literals) taken = deny_found v literals taken
form_found (cap v kind n side units) taken = rw (kind_found kind, side_found side) refl
form_found (withdraw v) taken = refl
form_found show taken = refl
form_found propose taken = refl
form_found prove taken = refl

pub found_in_line : (words : List Word) (f : Form) → IsForm words f → form_in words ≡ Some f
found_in_line words f is = ap form_in is.words_are ∙ form_found f is.taken

-- and what is found is the form of the words
behind_are : (verb : Verb) (words : List Word) (f : Form) → form_behind verb words ≡ Some f
    → IsForm (verb_word verb ∷ words) f
behind_are code.Event words f h = named_are (codes "event") event (λ n. refl) (λ n. tt) words f h
behind_are code.Uncertain words f h = uncertain_are words f h
behind_are code.Choice words f h = choice_are words f h
behind_are code.Require words f h = require_are words f h
behind_are code.Drop words f h = named_are (codes "drop") form.drop (λ n. refl) (λ n. tt) words f h
behind_are code.Bound words f h = bound_are words f h
behind_are code.Price words f h = price_form_are words f h
behind_are code.Range words f h = range_are words f h
behind_are code.Prefer words f h = prefer_are words f h
behind_are code.Deny words f h = deny_are words f h
behind_are code.Cap words f h = cap_are words f h
behind_are code.Withdraw words f h = named_are (codes "withdraw") withdraw (λ n. refl) (λ n. tt) words f h
behind_are code.Show words f h = bare_are (codes "show") show refl tt words f h
behind_are code.Propose words f h = bare_are (codes "propose") propose refl tt words f h
behind_are code.Prove words f h = bare_are (codes "prove") prove refl tt words f h

-- a verb that a word is told to be
told : (word : Word) (first : Verb) (others : Option Verb) (verb : Verb)
    → (others ≡ Some verb → word ≡ verb_word verb)
    → cond {A = Option Verb} (bytes_eq word (verb_word first)) (Some first) others ≡ Some verb → word ≡ verb_word verb
told word first others verb more h = by_test (bytes_eq word (verb_word first)) refl h
  where
    by_test : (t : Bool) → bytes_eq word (verb_word first) ≡ t
        → cond {A = Option Verb} t (Some first) others ≡ Some verb → word ≡ verb_word verb
    by_test true e h = some_is first verb (λ v. word ≡ verb_word v) h ((bytes_eq-Decides word (verb_word first)).0 e)
    by_test false e h = more h

verb_is : (word : Word) (verb : Verb) → verb_in word ≡ Some verb → word ≡ verb_word verb
verb_is word verb =
    told word code.Event _ verb (told word code.Uncertain _ verb (told word code.Choice _ verb (told word code.Require _ verb
    (told word code.Drop _ verb (told word code.Bound _ verb (told word code.Price _ verb (told word code.Range _ verb
    (told word code.Prefer _ verb (told word code.Deny _ verb (told word code.Cap _ verb (told word code.Withdraw _ verb
    (told word code.Show _ verb (told word code.Propose _ verb (told word code.Prove None verb (λ h. cc)))))))))))))))

pub form_are : (words : List Word) (f : Form) → form_in words ≡ Some f → IsForm words f
form_are [] f h = cc
form_are (word ∷ words) f h = option_and_then_some _ (verb_in word) f h (λ verb e found.
    subst (λ (w : Word). IsForm (w ∷ words) f) (sym (verb_is word verb e)) (behind_are verb words f found))

-- no words are of two forms
pub one_form : (words : List Word) (f g : Form) → IsForm words f → IsForm words g → f ≡ g
one_form words f g is_f is_g =
    let first = found_in_line words f is_f in
    let second = found_in_line words g is_g in
    cc
