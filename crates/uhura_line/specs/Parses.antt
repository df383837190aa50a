-- What a line is parsed to.
use Rattle.std.specs.Prelude.{◌≡◌, ℕ, ◌-◌, ◌^◌, ◌<◌, ◌≤◌, min, Bool, true, false, List, [], ◌∷◌, length, None, Some, Option, option_map, is_some, Result, Ok, Err}
use Rattle.uhura_line.specs.Verbs.{verb_in}
use Rattle.uhura_text.specs.Words.{words, first_bad, is_quiet}
use Rattle.uhura_line.specs.declared.command.Command.{Command}
use Rattle.uhura_line.specs.declared.parsing.TheConstants.{LINE_BYTES}
use Rattle.uhura_line.specs.declared.refusal.LineRefusal.{LineRefusal}
use Rattle.uhura_line.specs.declared.refusal.LineRefusal.TheVariants.{Long, Byte, Verb, Form, Number, Name, Memory}
use Rattle.uhura_line.specs.Form as grammar
use Rattle.uhura_line.specs.Reads.{form_of, has_numbers, has_names, IsCommand}

abbrev pub begins_with_verb : List grammar.Word → Bool
begins_with_verb [] = false
begins_with_verb (word ∷ more) = is_some (verb_in word)

-- a form of the words whose names and numbers are such, as far as said
pub record HasForm (line : List grammar.Word) (numbers names : Bool) : Type 0 where
  pub form : grammar.Form
  pub is_form : grammar.IsForm line form
  pub has_numbers : has_numbers form ≡ numbers
  pub has_names : numbers ≡ true → has_names form ≡ names

-- what words of a form are parsed to: the command that is written so, or why its words give none
abbrev pub ParsesForm : grammar.Form → Result Command LineRefusal → Type 0
ParsesForm form (Ok c) = (form_of c ≡ form) × (has_numbers form ≡ true) × (has_names form ≡ true)
ParsesForm form (Err Number) = has_numbers form ≡ false
ParsesForm form (Err Name) = (has_numbers form ≡ true) × (has_names form ≡ false)
ParsesForm form (Err (Memory error)) = (has_numbers form ≡ true) × (has_names form ≡ true)
ParsesForm form (Err r) = ⊥

-- what words are parsed to, from the form that is read from them
abbrev pub ParsesAs : Option grammar.Form → Result Command LineRefusal → Type 0
ParsesAs None result = result ≡ Err Form
ParsesAs (Some form) result = ParsesForm form result

-- the words of a line with no bad byte are a command, or are refused for the first cause; want of memory is last
abbrev pub ParsesWords : List grammar.Word → Result Command LineRefusal → Type 0
ParsesWords line (Ok c) = grammar.IsForm line (form_of c) × IsCommand c
ParsesWords line (Err Long) = ⊥
ParsesWords line (Err (Byte at)) = ⊥
ParsesWords line (Err Verb) = begins_with_verb line ≡ false
ParsesWords line (Err Form) =
    (begins_with_verb line ≡ true) × ((form : grammar.Form) → grammar.IsForm line form → ⊥)
ParsesWords line (Err Number) = (names : Bool) × HasForm line false names
ParsesWords line (Err Name) = HasForm line true false
ParsesWords line (Err (Memory error)) = HasForm line true true

-- the line is read by its words: it isn't long, it asks for something, and each byte may stand there
pub record IsWorded (line : List ℕ) : Type 0 where
  pub short : length line ≤ LINE_BYTES
  pub asks : is_quiet line ≡ false
  pub good : first_bad line ≡ None

-- what a line is parsed to: long, quiet, with a bad byte, or what its words are
abbrev pub Parses : List ℕ → Result (Option Command) LineRefusal → Type 0
Parses line (Err Long) = LINE_BYTES < length line
Parses line (Ok None) = (length line ≤ LINE_BYTES) × (is_quiet line ≡ true)
Parses line (Err (Byte at)) =
    (length line ≤ LINE_BYTES) × (is_quiet line ≡ false)
    × (option_map (min (2 ^ 32 - 1)) (first_bad line) ≡ Some at)
Parses line (Ok (Some c)) = IsWorded line × ParsesWords (words line) (Ok c)
Parses line (Err r) = IsWorded line × ParsesWords (words line) (Err r)
