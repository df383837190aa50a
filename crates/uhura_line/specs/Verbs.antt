-- The verbs: their words, and the form of the words behind each.
use Rattle.std.specs.Prelude.{if◌then◌else◌, List, [], ◌∷◌, Option, Some, None, bytes_eq, codes}
use Rattle.uhura_line.specs.declared.verb.Verb.{Verb}
use Rattle.uhura_line.specs.declared.verb.Verb.TheVariants as code
use Rattle.uhura_line.specs.Form.{Word, Form, event, drop, withdraw, show, propose, prove}
use Rattle.uhura_line.specs.Reader.{◌>>=◌, bare_in, named_in, uncertain_in, choice_in, require_in, bound_in, price_in, range_in, prefer_in, deny_in, cap_in}

-- the word of a verb
abbrev pub verb_word : Verb → Word
verb_word code.Event = codes "event"
verb_word code.Uncertain = codes "uncertain"
verb_word code.Choice = codes "choice"
verb_word code.Require = codes "require"
verb_word code.Drop = codes "drop"
verb_word code.Bound = codes "bound"
verb_word code.Price = codes "price"
verb_word code.Range = codes "range"
verb_word code.Prefer = codes "prefer"
verb_word code.Deny = codes "deny"
verb_word code.Cap = codes "cap"
verb_word code.Withdraw = codes "withdraw"
verb_word code.Show = codes "show"
verb_word code.Propose = codes "propose"
verb_word code.Prove = codes "prove"

-- the form of a line with this verb and these words behind it
abbrev pub form_behind : Verb → List Word → Option Form
form_behind code.Event words = named_in event words
form_behind code.Uncertain words = uncertain_in words
form_behind code.Choice words = choice_in words
form_behind code.Require words = require_in words
form_behind code.Drop words = named_in drop words
form_behind code.Bound words = bound_in words
form_behind code.Price words = price_in words
form_behind code.Range words = range_in words
form_behind code.Prefer words = prefer_in words
form_behind code.Deny words = deny_in words
form_behind code.Cap words = cap_in words
form_behind code.Withdraw words = named_in withdraw words
form_behind code.Show words = bare_in show words
form_behind code.Propose words = bare_in propose words
form_behind code.Prove words = bare_in prove words

-- the verb that a word is
abbrev pub verb_in : Word → Option Verb
verb_in word =
    if bytes_eq word (codes "event") then Some code.Event
    else if bytes_eq word (codes "uncertain") then Some code.Uncertain
    else if bytes_eq word (codes "choice") then Some code.Choice
    else if bytes_eq word (codes "require") then Some code.Require
    else if bytes_eq word (codes "drop") then Some code.Drop
    else if bytes_eq word (codes "bound") then Some code.Bound
    else if bytes_eq word (codes "price") then Some code.Price
    else if bytes_eq word (codes "range") then Some code.Range
    else if bytes_eq word (codes "prefer") then Some code.Prefer
    else if bytes_eq word (codes "deny") then Some code.Deny
    else if bytes_eq word (codes "cap") then Some code.Cap
    else if bytes_eq word (codes "withdraw") then Some code.Withdraw
    else if bytes_eq word (codes "show") then Some code.Show
    else if bytes_eq word (codes "propose") then Some code.Propose
    else if bytes_eq word (codes "prove") then Some code.Prove
    else None

-- the form that the words of a line have
abbrev pub form_in : List Word → Option Form
form_in [] = None
form_in (word ∷ words) = verb_in word >>= λ verb. form_behind verb words
