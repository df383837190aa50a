-- The lines of commands, one behind the other, are each read as its command.
use Rattle.std.proofs.Common.{◌≡◌, ℕ, ◌≤◌, List, [], ◌∷◌, ◌++◌, length, map, Ok, Some, refl, sym, ap, ◌∙◌, append_assoc, append-nil}
use Rattle.std.specs.Prelude.{codes, flat_map}
use Rattle.std.specs.List.{AllByRecursion}
use Rattle.uhura_text.specs.Lines.{lines}
use Rattle.uhura_text.proofs.Growing.{lines-nil}
use Rattle.uhura_line.specs.declared.command.Command.{Command}
use Rattle.uhura_line.specs.Form.{words_of}
use Rattle.uhura_line.specs.Reads.{form_of, IsCommand}
use Rattle.uhura_line.specs.Parses.{Parses}
use Rattle.uhura_line.specs.Written.{joined}
use Rattle.uhura_command.specs.Script.{command_line}
use Rattle.uhura_line.proofs.Spacing.{line_of-joined}
use Rattle.uhura_line.proofs.ReadsBack.{AreWords, good_bytes, reads_back}
use Rattle.uhura_line.proofs.FormWords.{form_words}
use Rattle.uhura_line.proofs.LineLengths.{short_line}
use Rattle.uhura_line.proofs.LinesApart.{lines-cons}

-- the line of a command, without its newline
abbrev pub command_text : Command → List ℕ
command_text c = joined (words_of (form_of c))

-- a command that fits on a line
pub record FitsLine (c : Command) : Type 0 where
  pub command : IsCommand c
  pub short : length (command_text c) ≤ 4096

command_words : (c : Command) → IsCommand c → AreWords (words_of (form_of c))
command_words c is_command = form_words (form_of c) is_command.names is_command.numbers

-- a command of at most 124 words fits
pub few_words : (c : Command) → IsCommand c → length (words_of (form_of c)) ≤ 124 → FitsLine c
few_words c is_command few = record { command = is_command; short = short_line (words_of (form_of c)) (command_words c is_command) few }

-- its line is read as the command
pub command_parses : (c : Command) → FitsLine c → Parses (command_text c) (Ok (Some c))
command_parses c fits =
    let read = reads_back (words_of (form_of c)) (command_words c fits.command) in
    (record { short = fits.short; asks = read.asks; good = read.no_bad_byte }, (record { words_are = read.words_are; taken = fits.command.taken }, fits.command))

-- so are the lines of all commands
pub commands_parse : (cs : List Command) → AllByRecursion FitsLine cs → AllByRecursion (λ c. Parses (command_text c) (Ok (Some c))) cs
commands_parse [] fit = tt
commands_parse (c ∷ cs) fit = (command_parses c fit.0, commands_parse cs fit.1)

-- they are the first lines, and what is behind them has the others
pub lines-commands_append : (cs : List Command) (rest : List ℕ) → AllByRecursion FitsLine cs → lines (flat_map command_line cs ++ rest) ≡ map command_text cs ++ lines rest
lines-commands_append [] rest fit = refl
lines-commands_append (c ∷ cs) rest fit =
    let text : List ℕ = command_text c in
    let more : List ℕ = flat_map command_line cs in
    let good = good_bytes (words_of (form_of c)) (command_words c fit.0.command) in
    ap (λ line. lines ((line ++ more) ++ rest)) (line_of-joined (words_of (form_of c)))
    ∙ (ap lines (append_assoc (text ++ codes "\n") more rest ∙ append_assoc text (codes "\n") (more ++ rest))
    ∙ (lines-cons text (more ++ rest) good fit.0.short
    ∙ ap (λ (ls : List (List ℕ)). text ∷ ls) (lines-commands_append cs rest fit.1)))

-- where nothing is behind them there are no others
pub lines-commands : (cs : List Command) → AllByRecursion FitsLine cs → lines (flat_map command_line cs) ≡ map command_text cs
lines-commands cs fit =
    ap lines (sym (append-nil (flat_map command_line cs)))
    ∙ (lines-commands_append cs [] fit
    ∙ (ap (λ ls. map command_text cs ++ ls) lines-nil ∙ append-nil (map command_text cs)))
