-- The item whose words are read is found, and no words are of two items.
use Rattle.std.proofs.Common.{◌≡◌, ℕ, ◌^◌, ◌<◌, ◌≤◌, pos, false, true≢false, List, [], ◌∷◌, ◌++◌, length, map, Option, Some, None, IfSome, codes, bytes_eq, refl, ap, sym, ◌∙◌, arith, le-leb, append-nil}
use Rattle.std.specs.List.{AllByRecursion}
use Rattle.uhura_plan.specs.Name.{is_name, is_letter}
use Rattle.uhura_plan.specs.declared.key.Side.{Side}
use Rattle.uhura_plan.specs.declared.key.Side.TheVariants.{Lower, Upper}
use Rattle.uhura_plan.specs.Sound.{IsName}
use Rattle.uhura_text.specs.Number.{number_of}
use Rattle.uhura_text.proofs.SpellingLemmas.{number_of-spelling}
use Rattle.uhura_line.specs.declared.command.ItemName.{ItemName}
use Rattle.uhura_line.specs.declared.command.ItemName.TheVariants as named
use Rattle.uhura_line.specs.Form.{Word, Form, words_of, side_word, event, uncertain, choice, require, bound, price, rate, range, prefer, deny, cap, withdraw, show, propose, prove}
use Rattle.uhura_line.specs.Form as form
use Rattle.uhura_line.specs.Reads.{count_word, kind_of, name_of}
use Rattle.uhura_line.specs.Reader.{◌>>=◌, ended}
use Rattle.uhura_line.proofs.Parts.{side_found}
use Rattle.uhura_line.proofs.OneSpelling.{other_word}
use Rattle.uhura_item.specs.declared.item.EdgeKind.{EdgeKind}
use Rattle.uhura_item.specs.declared.item.EdgeKind.TheVariants as edge
use Rattle.uhura_item.specs.declared.item.EdgeName.{EdgeName}
use Rattle.uhura_item.specs.declared.item.EdgeName.TheVariants.{Side as OfSide, Order}
use Rattle.uhura_item.specs.declared.item.Item.{Item}
use Rattle.uhura_item.specs.declared.item.Item.TheVariants as item
use Rattle.uhura_item.specs.Item.{edge_kind_word, edge_words, pick_word, item_words, IsEdgeName, IsItem}
use Rattle.uhura_item.specs.Reader.{name_in, within, count_in, edge_kind_in, picked_in, picks_in, named_as, edge_part, item_in}

-- ---- single words

name_found : (name : Word) → IsName name → name_in name ≡ Some name
name_found name is = rw is refl

-- a number within the limits is found from what is written of it
count_found : (least greatest n : ℕ) → least ≤ n → n ≤ greatest → greatest < 10 ^ 30 → count_in least greatest (count_word n) ≡ Some n
count_found least greatest n low high small =
    let read : number_of (count_word n) ≡ Some (pos n) = number_of-spelling (pos n) (omega arith) in
    ap (λ z. z >>= λ z. within least greatest z) read ∙ rw (le-leb least n low, le-leb n greatest high) refl

edge_kind_found : (kind : EdgeKind) → edge_kind_in (edge_kind_word kind) ≡ Some kind
edge_kind_found edge.Loose = refl
edge_kind_found edge.Steep = refl
edge_kind_found edge.Firm = refl

-- `-` isn't the name of an alternative
dash_is_none : is_name (codes "-") ≡ false
unfolding is_name is_letter
dash_is_none = refl

dash_no_name : (name : Word) → IsName name → bytes_eq name (codes "-") ≡ false
dash_no_name name is =
    other_word name (codes "-") (λ same. let dash : is_name name ≡ false = ap is_name same ∙ dash_is_none in true≢false (sym is ∙ dash))

picked_found : (p : Option (List ℕ)) → IfSome p IsName → picked_in (pick_word p) ≡ Some p
picked_found None is = refl
picked_found (Some name) is = rw (dash_no_name name is, name_found name is) refl

picks_found : (picks : List (Option (List ℕ))) → AllByRecursion (λ p. IfSome p IsName) picks → picks_in (map pick_word picks) ≡ Some picks
picks_found [] are = refl
picks_found (p ∷ picks) are = rw (picked_found p are.0, picks_found picks are.1) refl

-- an item is named by its kind and its name
named_found : (i : ItemName) → named_as (kind_of i) (name_of i) ≡ i
named_found (named.Require name) = refl
named_found (named.Uncertain name) = refl

-- a side is no `order`
no_order : (side : Side) → bytes_eq (side_word side) (codes "order") ≡ false
no_order Lower = refl
no_order Upper = refl

edge_found : (e : EdgeName) (rest : List Word) → IsEdgeName e → edge_part (edge_words e ++ rest) ≡ Some (e, rest)
edge_found (OfSide (named.Require name) side kind) rest is =
    rw (name_found name is, side_found side, edge_kind_found kind) refl
edge_found (OfSide (named.Uncertain name) side kind) rest is =
    rw (name_found name is, no_order side, side_found side, edge_kind_found kind) refl
edge_found (Order name) rest is = rw (name_found name is) refl

-- ---- whole lines

-- the words of a line that is no command begin with no verb
abbrev pub IsOther : Item → Type 0
IsOther (item.Command c) = ⊥
IsOther i = Unit {0}

-- the item of such words is found
pub found : (i : Item) → IsItem i → IsOther i → item_in (item_words i) ≡ Some i
found (item.Command c) is other = absurd other
found (item.Version version) is other = rw (count_found 1 2 version is.low is.high (omega arith)) refl
found item.Answer is other = refl
found item.Nothing is other = refl
found (item.Proposal cost) is other =
    rw (count_found 0 1000000000000000000000000 cost (omega arith) is (omega arith)) refl
found (item.Pick picked alternative) is other = rw (name_found picked is.0, name_found alternative is.1) refl
found (item.Relax (named.Require name) side units) is other =
    rw (name_found name is.0, side_found side, count_found 1 10000000000000 units is.1.low is.1.high (omega arith)) refl
found (item.Relax (named.Uncertain name) side units) is other =
    rw (name_found name is.0, side_found side, count_found 1 10000000000000 units is.1.low is.1.high (omega arith)) refl
found (item.At at time) is other =
    rw (name_found at is.0, count_found 0 10000000000000 time (omega arith) is.1 (omega arith)) refl
found item.End is other = refl
found item.SharedFlow is other = refl
found item.SharedStuck is other = refl
found (item.Leaf picks) is other = rw (picks_found picks is.0, le-leb (length picks) 16 is.1) refl
found (item.Denied veto) is other = rw (name_found veto is) refl
found item.Flow is other = refl
found item.Stuck is other = refl
found (item.Units e units) is other =
    rw (edge_found e (count_word units ∷ []) is.0, count_found 1 10000000000 units is.1.low is.1.high (omega arith)) refl
found (item.Edge e) is other = ap (λ part. part >>= λ e. ended (item.Edge e.0) e.1) (ap edge_part (sym (append-nil (edge_words e))) ∙ edge_found e [] is)
found (item.Use entry) is other = rw (count_found 0 4294967295 entry (omega arith) is (omega arith)) refl

-- the words of a command begin with a verb
pub verb_first : (f : Form) → item_in (words_of f) ≡ None
verb_first (event n) = refl
verb_first (uncertain n start end lo hi lower upper) = refl
verb_first (choice n alternatives guard) = refl
verb_first (require n from to lo hi lower upper guard) = refl
verb_first (form.drop n) = refl
verb_first (bound n side b) = refl
verb_first (price n side p) = refl
verb_first (rate n side r) = refl
verb_first (range n lo hi) = refl
verb_first (prefer c a cost) = refl
verb_first (deny v literals) = refl
verb_first (cap v kind n side units) = refl
verb_first (withdraw v) = refl
verb_first show = refl
verb_first propose = refl
verb_first prove = refl
