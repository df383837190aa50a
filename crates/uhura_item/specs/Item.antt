-- The lines of a document: how each is spelled, and what it may hold.
use Rattle.std.specs.Prelude.{ℕ, ◌≤◌, List, [], ◌∷◌, ◌++◌, length, map, Option, None, Some, IfSome, codes}
use Rattle.std.specs.List.{AllByRecursion}
use Rattle.uhura_plan.specs.declared.limits.TheConstants.{CHOICES}
use Rattle.uhura_plan.specs.Sound.{IsName}
use Rattle.uhura_line.specs.declared.command.Command.{Command}
use Rattle.uhura_line.specs.declared.parsing.TheConstants.{LINE_BYTES}
use Rattle.uhura_line.specs.Form.{Word, Kind, requirement, duration, words_of, kind_word, side_word}
use Rattle.uhura_line.specs.Reads.{count_word, form_of, kind_of, name_of, IsCommand}
use Rattle.uhura_line.specs.Written.{joined}
use Rattle.uhura_item.specs.declared.limits.TheConstants.{GREATEST_COST, LATEST, SIDE_UNITS, EDGE_UNITS, ENTRY}
use Rattle.uhura_item.specs.declared.item.EdgeKind.{EdgeKind}
use Rattle.uhura_item.specs.declared.item.EdgeKind.TheVariants as edge
use Rattle.uhura_item.specs.declared.item.EdgeName.{EdgeName}
use Rattle.uhura_item.specs.declared.item.EdgeName.TheVariants.{Side, Order}
use Rattle.uhura_item.specs.declared.item.Item.{Item}
use Rattle.uhura_item.specs.declared.item.Item.TheVariants as item

-- ---- how a line is spelled

-- the word for which of a side's edges
abbrev pub edge_kind_word : EdgeKind → Word
edge_kind_word edge.Loose = codes "loose"
edge_kind_word edge.Steep = codes "steep"
edge_kind_word edge.Firm = codes "firm"

-- the words of an edge
abbrev pub edge_words : EdgeName → List Word
edge_words (Side i side kind) =
    kind_word (kind_of i) ∷ name_of i ∷ side_word side ∷ edge_kind_word kind ∷ []
edge_words (Order name) = codes "uncertain" ∷ name ∷ codes "order" ∷ []

-- a requirement is loosened, and a duration narrowed
abbrev pub relax_word : Kind → Word
relax_word requirement = codes "loosen"
relax_word duration = codes "narrow"

-- the word for what is picked: an alternative's name, or `-` for a choice that isn't active
abbrev pub pick_word : Option (List ℕ) → Word
pick_word None = codes "-"
pick_word (Some name) = name

-- the words of a line
abbrev pub item_words : Item → List Word
item_words (item.Version version) = codes "document" ∷ count_word version ∷ []
item_words (item.Command c) = words_of (form_of c)
item_words item.Answer = codes "answer" ∷ []
item_words item.Nothing = codes "none" ∷ []
item_words (item.Proposal cost) = codes "proposal" ∷ count_word cost ∷ []
item_words (item.Pick choice alternative) = codes "pick" ∷ choice ∷ alternative ∷ []
item_words (item.Relax i side units) =
    relax_word (kind_of i) ∷ name_of i ∷ side_word side ∷ count_word units ∷ []
item_words (item.At event time) = codes "at" ∷ event ∷ count_word time ∷ []
item_words item.End = codes "end" ∷ []
item_words item.SharedFlow = codes "shared" ∷ codes "flow" ∷ []
item_words item.SharedStuck = codes "shared" ∷ codes "stuck" ∷ []
item_words (item.Leaf picks) = codes "leaf" ∷ map pick_word picks
item_words (item.Denied veto) = codes "denied" ∷ veto ∷ []
item_words item.Flow = codes "flow" ∷ []
item_words item.Stuck = codes "stuck" ∷ []
item_words (item.Units edge units) = codes "units" ∷ edge_words edge ++ count_word units ∷ []
item_words (item.Edge edge) = codes "edge" ∷ edge_words edge
item_words (item.Use entry) = codes "use" ∷ count_word entry ∷ []

-- a line is its words, separated by one space
abbrev pub spell : Item → List ℕ
spell i = joined (item_words i)

-- the same with its newline
abbrev pub item_line : Item → List ℕ
item_line i = spell i ++ codes "\n"

-- ---- what a line may hold

-- a number from the least to the greatest
pub record IsBetween (least greatest n : ℕ) : Type 0 where
  pub low : least ≤ n
  pub high : n ≤ greatest

-- a command whose line isn't long
pub record IsLineCommand (c : Command) : Type 0 where
  pub command : IsCommand c
  pub short : length (joined (words_of (form_of c))) ≤ LINE_BYTES

-- the edge is named by a name
abbrev pub IsEdgeName : EdgeName → Type 0
IsEdgeName (Side i side kind) = IsName (name_of i)
IsEdgeName (Order name) = IsName name

-- its names are names, and its numbers are within the limits of their places
abbrev pub IsItem : Item → Type 0
IsItem (item.Version version) = IsBetween 1 2 version
IsItem (item.Command c) = IsLineCommand c
IsItem (item.Proposal cost) = cost ≤ GREATEST_COST
IsItem (item.Pick choice alternative) = IsName choice × IsName alternative
IsItem (item.Relax i side units) = IsName (name_of i) × IsBetween 1 SIDE_UNITS units
IsItem (item.At event time) = IsName event × (time ≤ LATEST)
IsItem (item.Leaf picks) = AllByRecursion (λ p. IfSome p IsName) picks × (length picks ≤ CHOICES)
IsItem (item.Denied veto) = IsName veto
IsItem (item.Units edge units) = IsEdgeName edge × IsBetween 1 EDGE_UNITS units
IsItem (item.Edge edge) = IsEdgeName edge
IsItem (item.Use entry) = entry ≤ ENTRY
IsItem i = Unit {0}
