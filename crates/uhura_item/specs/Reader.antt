-- The item that the words of a line are, as it is read from them. The laws of the crate say that it is the one whose
-- words these are.
use Rattle.std.specs.Prelude.{ℕ, ℤ, pos, negsuc, ◌&&◌, nat_le, if◌then◌else◌, List, [], ◌∷◌, length, Option, Some, None, option_map, bytes_eq, codes}
use Rattle.uhura_plan.specs.declared.limits.TheConstants.{CHOICES}
use Rattle.uhura_plan.specs.Name.{is_name}
use Rattle.uhura_text.specs.Number.{number_of}
use Rattle.uhura_line.specs.declared.command.ItemName.{ItemName}
use Rattle.uhura_line.specs.declared.command.ItemName.TheVariants as named
use Rattle.uhura_line.specs.Form.{Word, Kind, requirement, duration}
use Rattle.uhura_line.specs.Reader.{◌>>=◌, ended, next_three, side_in, kind_in}
use Rattle.uhura_item.specs.declared.limits.TheConstants.{GREATEST_COST, LATEST, SIDE_UNITS, EDGE_UNITS, ENTRY}
use Rattle.uhura_item.specs.declared.item.EdgeKind.{EdgeKind}
use Rattle.uhura_item.specs.declared.item.EdgeKind.TheVariants as edge
use Rattle.uhura_item.specs.declared.item.EdgeName.{EdgeName}
use Rattle.uhura_item.specs.declared.item.EdgeName.TheVariants.{Side, Order}
use Rattle.uhura_item.specs.declared.item.Item.{Item}
use Rattle.uhura_item.specs.declared.item.Item.TheVariants as item
use Rattle.uhura_item.specs.declared.head.Head.{Head}
use Rattle.uhura_item.specs.declared.head.Head.TheVariants as head

-- ---- single words

-- the name that a word is
abbrev pub name_in : Word → Option (List ℕ)
name_in word = if is_name word then Some word else None

-- a number that isn't below 0, from the least to the greatest
abbrev pub within : ℕ → ℕ → ℤ → Option ℕ
within least greatest (pos n) = if nat_le least n && nat_le n greatest then Some n else None
within least greatest (negsuc n) = None

-- the number from the least to the greatest that a word writes
abbrev pub count_in : ℕ → ℕ → Word → Option ℕ
count_in least greatest word = number_of word >>= λ z. within least greatest z

-- which of a side's edges a word says
abbrev pub edge_kind_in : Word → Option EdgeKind
edge_kind_in word =
    if bytes_eq word (codes "loose") then Some edge.Loose
    else if bytes_eq word (codes "steep") then Some edge.Steep
    else if bytes_eq word (codes "firm") then Some edge.Firm else None

-- what a word of a leaf picks
abbrev pub picked_in : Word → Option (Option (List ℕ))
picked_in word =
    if bytes_eq word (codes "-") then Some None else option_map (λ name. Some name) (name_in word)

-- the thing of this kind that has the name
abbrev pub named_as : Kind → List ℕ → ItemName
named_as requirement name = named.Require name
named_as duration name = named.Uncertain name

-- ---- words that stand alone

abbrev pub only_one : List Word → Option Word
only_one (word ∷ []) = Some word
only_one words = None

abbrev pub only_two : List Word → Option (Word × Word)
only_two (a ∷ b ∷ []) = Some (a, b)
only_two words = None

abbrev pub only_three : List Word → Option (Word × Word × Word)
only_three (a ∷ b ∷ c ∷ []) = Some (a, b, c)
only_three words = None

-- ---- the words behind the first

abbrev pub version_in : List Word → Option Item
version_in words = only_one words >>= λ w. count_in 1 2 w >>= λ n. Some (item.Version n)

abbrev pub proposal_in : List Word → Option Item
proposal_in words =
    only_one words >>= λ w. count_in 0 GREATEST_COST w >>= λ n. Some (item.Proposal n)

abbrev pub pick_in : List Word → Option Item
pick_in words =
    only_two words >>= λ w. name_in w.0 >>= λ c. name_in w.1 >>= λ a. Some (item.Pick c a)

abbrev pub relax_in : Kind → List Word → Option Item
relax_in kind words =
    only_three words >>= λ w. name_in w.0 >>= λ name. side_in w.1 >>= λ side.
    count_in 1 SIDE_UNITS w.2 >>= λ units. Some (item.Relax (named_as kind name) side units)

abbrev pub at_in : List Word → Option Item
at_in words =
    only_two words >>= λ w. name_in w.0 >>= λ event. count_in 0 LATEST w.1 >>= λ time.
    Some (item.At event time)

abbrev pub shared_in : List Word → Option Item
shared_in words = only_one words >>= λ w.
    if bytes_eq w (codes "flow") then Some item.SharedFlow
    else if bytes_eq w (codes "stuck") then Some item.SharedStuck else None

-- what each word picks
abbrev pub picks_in : List Word → Option (List (Option (List ℕ)))
picks_in [] = Some []
picks_in (word ∷ words) =
    picked_in word >>= λ pick. option_map (λ picks. pick ∷ picks) (picks_in words)

-- a leaf has at most one word for each choice
abbrev pub leaf_in : List Word → Option Item
leaf_in words = picks_in words >>= λ picks.
    if nat_le (length picks) CHOICES then Some (item.Leaf picks) else None

abbrev pub denied_in : List Word → Option Item
denied_in words = only_one words >>= λ w. name_in w >>= λ veto. Some (item.Denied veto)

-- the edge of a side, and the words behind it
abbrev pub side_edge : Kind → List ℕ → Word → List Word → Option (EdgeName × List Word)
side_edge kind name word [] = None
side_edge kind name word (next ∷ more) =
    side_in word >>= λ side. edge_kind_in next >>= λ which.
    Some (Side (named_as kind name) side which, more)

-- the edge of a thing of this kind and name
abbrev pub edge_of : Kind → List ℕ → Word → List Word → Option (EdgeName × List Word)
edge_of requirement name word more = side_edge requirement name word more
edge_of duration name word more =
    if bytes_eq word (codes "order") then Some (Order name, more)
    else side_edge duration name word more

-- the edge that the words begin with, and the words behind it
abbrev pub edge_part : List Word → Option (EdgeName × List Word)
edge_part words =
    next_three words >>= λ w. kind_in w.0 >>= λ kind. name_in w.1 >>= λ name.
    edge_of kind name w.2 w.3

abbrev pub units_in : List Word → Option Item
units_in words =
    edge_part words >>= λ e. only_one e.1 >>= λ w. count_in 1 EDGE_UNITS w >>= λ units.
    Some (item.Units e.0 units)

abbrev pub edge_in : List Word → Option Item
edge_in words = edge_part words >>= λ e. ended (item.Edge e.0) e.1

abbrev pub use_in : List Word → Option Item
use_in words = only_one words >>= λ w. count_in 0 ENTRY w >>= λ n. Some (item.Use n)

-- ---- the whole line

-- what the first word of a line says, where it is no verb
abbrev pub head_in : Word → Option Head
head_in word =
    if bytes_eq word (codes "document") then Some head.Document
    else if bytes_eq word (codes "answer") then Some head.Answer
    else if bytes_eq word (codes "none") then Some head.Nothing
    else if bytes_eq word (codes "proposal") then Some head.Proposal
    else if bytes_eq word (codes "pick") then Some head.Pick
    else if bytes_eq word (codes "loosen") then Some head.Loosen
    else if bytes_eq word (codes "narrow") then Some head.Narrow
    else if bytes_eq word (codes "at") then Some head.At
    else if bytes_eq word (codes "end") then Some head.End
    else if bytes_eq word (codes "shared") then Some head.Shared
    else if bytes_eq word (codes "leaf") then Some head.Leaf
    else if bytes_eq word (codes "denied") then Some head.Denied
    else if bytes_eq word (codes "flow") then Some head.Flow
    else if bytes_eq word (codes "stuck") then Some head.Stuck
    else if bytes_eq word (codes "units") then Some head.Units
    else if bytes_eq word (codes "edge") then Some head.Edge
    else if bytes_eq word (codes "use") then Some head.Use
    else None

-- the item of a first word and the words behind it
abbrev pub item_behind : Head → List Word → Option Item
item_behind head.Document words = version_in words
item_behind head.Answer words = ended item.Answer words
item_behind head.Nothing words = ended item.Nothing words
item_behind head.Proposal words = proposal_in words
item_behind head.Pick words = pick_in words
item_behind head.Loosen words = relax_in requirement words
item_behind head.Narrow words = relax_in duration words
item_behind head.At words = at_in words
item_behind head.End words = ended item.End words
item_behind head.Shared words = shared_in words
item_behind head.Leaf words = leaf_in words
item_behind head.Denied words = denied_in words
item_behind head.Flow words = ended item.Flow words
item_behind head.Stuck words = ended item.Stuck words
item_behind head.Units words = units_in words
item_behind head.Edge words = edge_in words
item_behind head.Use words = use_in words

-- the item of words that begin with no verb
abbrev pub item_in : List Word → Option Item
item_in [] = None
item_in (word ∷ words) = head_in word >>= λ h. item_behind h words
