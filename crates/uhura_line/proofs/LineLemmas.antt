-- What a whole line is parsed to.
use Rattle.std.proofs.Common.{◌≡◌, ℕ, true, List, [], ◌∷◌, Option, None, Some, is_some, Result, Ok, Err, refl, ap, sym, subst, ◌∙◌}
use Rattle.uhura_text.specs.Words.{words}
use Rattle.uhura_line.specs.declared.command.Command.{Command}
use Rattle.uhura_line.specs.declared.verb.Verb as verbs
use Rattle.uhura_line.specs.declared.refusal.LineRefusal.{LineRefusal}
use Rattle.uhura_line.specs.declared.refusal.LineRefusal.TheVariants.{Long, Byte, Verb, Form, Number, Name, Memory}
use Rattle.uhura_line.specs.Form as grammar
use Rattle.uhura_line.specs.Form.{Word, IsTaken, IsForm}
use Rattle.uhura_line.specs.Reads.{has_numbers, has_names}
use Rattle.uhura_line.specs.Verbs.{verb_in, form_behind, form_in}
use Rattle.uhura_line.specs.Parses.{begins_with_verb, ParsesForm, ParsesAs, ParsesWords, IsWorded, Parses}
use Rattle.uhura_line.proofs.OneForm.{found_in_line, form_are}

-- words of a form
of_form : (line : List Word) (f : grammar.Form) (result : Result Command LineRefusal) → IsForm line f
    → ParsesForm f result → ParsesWords line result
of_form line f (Ok c) is h = (
  subst (λ (x : grammar.Form). IsForm line x) (sym h.0) is,
  record { taken = subst IsTaken (sym h.0) is.taken; names = ap has_names h.0 ∙ h.2; numbers = ap has_numbers h.0 ∙ h.1 },
)
of_form line f (Err Long) is h = absurd h
of_form line f (Err (Byte at)) is h = absurd h
of_form line f (Err Verb) is h = absurd h
of_form line f (Err Form) is h = absurd h
of_form line f (Err Number) is h =
    (has_names f, record { form = f; is_form = is; has_numbers = h; has_names = λ _. refl })
of_form line f (Err Name) is h = record { form = f; is_form = is; has_numbers = h.0; has_names = λ _. h.1 }
of_form line f (Err (Memory error)) is h = record { form = f; is_form = is; has_numbers = h.0; has_names = λ _. h.1 }

-- what words are parsed to, from the form that is read from them
pub parses : (line : List Word) (result : Result Command LineRefusal) → begins_with_verb line ≡ true
    → ParsesAs (form_in line) result → ParsesWords line result
parses line result verb h = by_form (form_in line) refl h
  where
    no_form : form_in line ≡ None → (f : grammar.Form) → IsForm line f → ⊥
    no_form none f is = let found = found_in_line line f is in cc

    by_form : (found : Option grammar.Form) → form_in line ≡ found → ParsesAs found result → ParsesWords line result
    by_form None e h = subst (λ (r : Result Command LineRefusal). ParsesWords line r) (sym h) (verb, no_form e)
    by_form (Some f) e h = of_form line f result (form_are line f e) h

-- a line whose first word is a verb is parsed as that verb with the words behind it
pub line-verb : (line rest : List Word) (word : Word) (verb : verbs.Verb) (result : Result Command LineRefusal)
    → line ≡ word ∷ rest → Some verb ≡ verb_in word → ParsesAs (form_behind verb rest) result
    → ParsesWords line result
line-verb line rest word verb result e told h =
    let begins : begins_with_verb (word ∷ rest) ≡ true = ap is_some (sym told) in
    let form : form_in (word ∷ rest) ≡ form_behind verb rest = rw (← told) refl in
    subst (λ (l : List Word). ParsesWords l result) (sym e) (parses (word ∷ rest) result begins (subst (λ (o : Option grammar.Form). ParsesAs o result) (sym form) h))

pub line-no_word : (line : List Word) → line ≡ [] → ParsesWords line (Err Verb)
line-no_word line e = ap begins_with_verb e

pub line-no_verb : (line rest : List Word) (word : Word) → line ≡ word ∷ rest → None ≡ verb_in word
    → ParsesWords line (Err Verb)
line-no_verb line rest word e none = ap begins_with_verb e ∙ ap is_some (sym none)

pub ruleset begun = (line-verb, line-no_word, line-no_verb)

-- ---- the bytes of a line

pub line-command : (line : List ℕ) (c : Command) → IsWorded line → ParsesWords (words line) (Ok c)
    → Parses line (Ok (Some c))
line-command line c worded h = (worded, h)

pub line-refused : (line : List ℕ) (r : LineRefusal) → IsWorded line → ParsesWords (words line) (Err r)
    → Parses line (Err r)
line-refused line Long worded h = absurd h
line-refused line (Byte at) worded h = absurd h
line-refused line Verb worded h = (worded, h)
line-refused line Form worded h = (worded, h)
line-refused line Number worded h = (worded, h)
line-refused line Name worded h = (worded, h)
line-refused line (Memory error) worded h = (worded, h)

pub ruleset lines = (line-command, line-refused)
