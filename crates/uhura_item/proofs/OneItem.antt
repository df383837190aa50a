-- No line is of two items.
use Rattle.std.proofs.Common.{◌≡◌, Some, None, refl, ap, sym, ◌∙◌}
use Rattle.uhura_text.specs.Words.{words}
use Rattle.uhura_line.specs.declared.command.Command.{Command}
use Rattle.uhura_line.specs.Form.{words_of}
use Rattle.uhura_line.specs.Reads.{form_of}
use Rattle.uhura_line.proofs.ReadsBack.{reads_back}
use Rattle.uhura_line.proofs.OneCommand.{one_command_of_line}
use Rattle.uhura_item.specs.declared.item.Item.{Item}
use Rattle.uhura_item.specs.declared.item.Item.TheVariants as item
use Rattle.uhura_item.specs.Item.{item_words, spell, IsLineCommand, IsItem}
use Rattle.uhura_item.specs.Reader.{item_in}
use Rattle.uhura_item.proofs.ItemWords.{item_are}
use Rattle.uhura_item.proofs.ItemFound.{IsOther, found, verb_first}

-- the words of a spelled item are its words
pub words-spell : (i : Item) → IsItem i → words (spell i) ≡ item_words i
words-spell i is = (reads_back (item_words i) (item_are i is)).words_are

-- an item is a command or another line
pub data Which : Item → Type 0 where
  command : (c : Command) → Which (item.Command c)
  other : {i : Item} → IsOther i → Which i

pub which : (i : Item) → Which i
which (item.Command c) = command c
which i = other tt

one_command : (c d : Command) → IsLineCommand c → IsLineCommand d → words_of (form_of c) ≡ words_of (form_of d) → item.Command c ≡ item.Command d
one_command c d is_c is_d same =
    ap item.Command (one_command_of_line (words_of (form_of c)) c d (record { words_are = refl; taken = is_c.command.taken }) (record { words_are = same; taken = is_d.command.taken }) is_c.command is_d.command)

one_by : (i j : Item) → Which i → Which j → IsItem i → IsItem j → item_words i ≡ item_words j → i ≡ j
one_by i j (command c) (command d) is_i is_j same = one_command c d is_i is_j same
one_by i j (command c) (other o) is_i is_j same =
    let none : item_in (item_words j) ≡ None = ap item_in (sym same) ∙ verb_first (form_of c) in
    let some : item_in (item_words j) ≡ Some j = found j is_j o in
    let no : ⊥ = cc in absurd no
one_by i j (other o) (command d) is_i is_j same =
    let none : item_in (item_words i) ≡ None = ap item_in same ∙ verb_first (form_of d) in
    let some : item_in (item_words i) ≡ Some i = found i is_i o in
    let no : ⊥ = cc in absurd no
one_by i j (other o) (other p) is_i is_j same =
    let first : item_in (item_words i) ≡ Some i = found i is_i o in
    let second : item_in (item_words j) ≡ Some j = found j is_j p in
    let read : item_in (item_words i) ≡ item_in (item_words j) = ap item_in same in
    cc

pub one_item : (i j : Item) → IsItem i → IsItem j → spell i ≡ spell j → i ≡ j
one_item i j is_i is_j same =
    one_by i j (which i) (which j) is_i is_j (sym (words-spell i is_i) ∙ ap words same ∙ words-spell j is_j)
