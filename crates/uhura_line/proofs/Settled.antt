-- What a line is parsed to is settled.
use Rattle.std.proofs.Common.{◌≡◌, true, List, [], ◌∷◌, Option, Some, None, Ok, Err, is_some, refl, sym, ◌∙◌}
use Rattle.std.specs.Prelude.{if◌then◌else◌}
use Rattle.std.specs.Option.{option_map_or, option_and_then}
use Rattle.std.specs.declared.alloc.AllocError.{AllocError}
use Rattle.uhura_line.specs.declared.command.Command.{Command}
use Rattle.uhura_line.specs.declared.verb.Verb.{Verb}
use Rattle.uhura_line.specs.declared.refusal.LineRefusal.{LineRefusal}
use Rattle.uhura_line.specs.declared.refusal.LineRefusal.TheVariants as refusal
use Rattle.uhura_line.specs.Form.{Word, Form, IsForm}
use Rattle.uhura_line.specs.Reads.{form_of, has_numbers, has_names}
use Rattle.uhura_line.specs.Verbs.{verb_in, form_behind, form_in}
use Rattle.uhura_line.specs.Parses.{begins_with_verb, ParsesWords}
use Rattle.uhura_line.proofs.OneForm.{found_in_line, form_are}

-- why words of a form, or words, give no command, want of memory aside
form_cause : Form → Option LineRefusal
form_cause f = if has_numbers f then (if has_names f then None else Some refusal.Name) else Some refusal.Number

cause : List Word → Option LineRefusal
cause line =
    if begins_with_verb line then option_map_or form_cause (form_in line) (Some refusal.Form) else Some refusal.Verb

-- the cause that a refusal tells
cause_told : LineRefusal → Option LineRefusal
cause_told (refusal.Memory error) = None
cause_told r = Some r

-- words of a form begin with a verb
verb_found : (line : List Word) (f : Form) → form_in line ≡ Some f → begins_with_verb line ≡ true
verb_found [] f h = cc
verb_found (word ∷ words) f h = by_verb (verb_in word) h
  where
    by_verb : (verb : Option Verb) → option_and_then (λ v. form_behind v words) verb ≡ Some f → is_some verb ≡ true
    by_verb None h = cc
    by_verb (Some verb) h = refl

-- words whose form has these numbers and names
has_form : (line : List Word) (f : Form) → IsForm line f → cause line ≡ form_cause f
unfolding cause
has_form line f is =
    let found = found_in_line line f is in
    rw (verb_found line f found, found) refl

-- a refusal tells the cause
cause_is : (line : List Word) (r : LineRefusal) → ParsesWords line (Err r) → cause line ≡ cause_told r
unfolding cause form_cause cause_told
cause_is line refusal.Long h = absurd h
cause_is line (refusal.Byte at) h = absurd h
cause_is line refusal.Verb h = rw h refl
cause_is line refusal.Form h = by_form (form_in line) refl
  where
    by_form : (found : Option Form) → form_in line ≡ found → cause line ≡ Some refusal.Form
    by_form None e = rw (h.0, e) refl
    by_form (Some f) e = absurd (h.1 f (form_are line f e))
cause_is line refusal.Number h = has_form line h.1.form h.1.is_form ∙ rw h.1.has_numbers refl
cause_is line refusal.Name h = has_form line h.form h.is_form ∙ rw (h.has_numbers, h.has_names refl) refl
cause_is line (refusal.Memory error) h = has_form line h.form h.is_form ∙ rw (h.has_numbers, h.has_names refl) refl

memory_alone : (r : LineRefusal) → cause_told r ≡ None → (error : AllocError) × (r ≡ refusal.Memory error)
unfolding cause_told
memory_alone (refusal.Memory error) h = (error, refl)
memory_alone refusal.Long h = cc
memory_alone (refusal.Byte at) h = cc
memory_alone refusal.Verb h = cc
memory_alone refusal.Form h = cc
memory_alone refusal.Number h = cc
memory_alone refusal.Name h = cc

is_told : (r s : LineRefusal) → ◌≡◌ {A = Option LineRefusal} (Some r) (cause_told s) → r ≡ s
unfolding cause_told
is_told r refusal.Long h = cc
is_told r (refusal.Byte at) h = cc
is_told r refusal.Verb h = cc
is_told r refusal.Form h = cc
is_told r refusal.Number h = cc
is_told r refusal.Name h = cc
is_told r (refusal.Memory error) h = cc

same_cause : (r s : LineRefusal) → cause_told r ≡ cause_told s → r ≡ s
unfolding cause_told
same_cause (refusal.Memory error) s h = sym (memory_alone s (sym h)).1
same_cause refusal.Long s h = is_told refusal.Long s h
same_cause (refusal.Byte at) s h = is_told (refusal.Byte at) s h
same_cause refusal.Verb s h = is_told refusal.Verb s h
same_cause refusal.Form s h = is_told refusal.Form s h
same_cause refusal.Number s h = is_told refusal.Number s h
same_cause refusal.Name s h = is_told refusal.Name s h

-- a refused line has one cause
pub one_cause : (line : List Word) (r s : LineRefusal) → ParsesWords line (Err r) → ParsesWords line (Err s) → r ≡ s
one_cause line r s is_r is_s = same_cause r s (sym (cause_is line r is_r) ∙ cause_is line s is_s)

-- a line with a command is refused for want of memory alone
pub accepted : (line : List Word) (c : Command) (r : LineRefusal) → ParsesWords line (Ok c) → ParsesWords line (Err r)
    → (error : AllocError) × (r ≡ refusal.Memory error)
unfolding form_cause
accepted line c r ok err = memory_alone r (sym (cause_is line r err) ∙ has_form line (form_of c) ok.0 ∙ none)
  where
    none : form_cause (form_of c) ≡ None
    none = rw (ok.1.numbers, ok.1.names) refl
