-- The words of an item are words that a line may hold, and few enough for a line.
use Rattle.std.proofs.Common.{ℕ, ◌^◌, ◌<◌, ◌≤◌, pos, List, [], ◌∷◌, ◌++◌, length, map, Option, Some, None, IfSome, codes, refl, arith, length-append}
use Rattle.std.specs.List.{AllByRecursion}
use Rattle.std.proofs.lemmas.List.{length-map}
use Rattle.uhura_plan.specs.declared.key.Side.{Side}
use Rattle.uhura_plan.specs.declared.key.Side.TheVariants.{Lower, Upper}
use Rattle.uhura_plan.specs.Sound.{IsName}
use Rattle.uhura_text.proofs.SpellingLemmas.{number_of-spelling}
use Rattle.uhura_line.specs.Form.{Word, Kind, requirement, duration, kind_word, side_word}
use Rattle.uhura_line.specs.Reads.{count_word, form_of, kind_of, name_of}
use Rattle.uhura_line.proofs.ReadsBack.{IsWord, AreWords}
use Rattle.uhura_line.proofs.FormWords.{form_words, name_word, number_word, letters}
use Rattle.uhura_line.proofs.LineLengths.{short_line}
use Rattle.uhura_item.specs.declared.item.EdgeKind.{EdgeKind}
use Rattle.uhura_item.specs.declared.item.EdgeKind.TheVariants as edge
use Rattle.uhura_item.specs.declared.item.EdgeName.{EdgeName}
use Rattle.uhura_item.specs.declared.item.EdgeName.TheVariants.{Side as OfSide, Order}
use Rattle.uhura_item.specs.declared.item.Item.{Item}
use Rattle.uhura_item.specs.declared.item.Item.TheVariants as item
use Rattle.uhura_item.specs.Item.{edge_kind_word, edge_words, relax_word, pick_word, item_words, spell, IsEdgeName, IsItem}

-- what is written of a number is a word
count_is_word : (n : ℕ) → n < 10 ^ 30 → IsWord (count_word n)
count_is_word n small = number_word (count_word n) (pos n) (number_of-spelling (pos n) small)

-- ---- the fixed words

side_is_word : (side : Side) → IsWord (side_word side)
side_is_word Lower = letters (codes "lower") refl
side_is_word Upper = letters (codes "upper") refl

kind_is_word : (kind : Kind) → IsWord (kind_word kind)
kind_is_word requirement = letters (codes "require") refl
kind_is_word duration = letters (codes "uncertain") refl

edge_kind_is_word : (kind : EdgeKind) → IsWord (edge_kind_word kind)
edge_kind_is_word edge.Loose = letters (codes "loose") refl
edge_kind_is_word edge.Steep = letters (codes "steep") refl
edge_kind_is_word edge.Firm = letters (codes "firm") refl

-- ---- parts

-- all words of both lists
both : (xs ys : List Word) → AllByRecursion IsWord xs → AllByRecursion IsWord ys → AllByRecursion IsWord (xs ++ ys)
both [] ys first more = more
both (x ∷ xs) ys first more = (first.0, both xs ys first.1 more)

edge_is : (e : EdgeName) → IsEdgeName e → AllByRecursion IsWord (edge_words e)
edge_is (OfSide i side kind) named =
    (kind_is_word (kind_of i), (name_word (name_of i) named, (side_is_word side, (edge_kind_is_word kind, tt))))
edge_is (Order name) named = (letters (codes "uncertain") refl, (name_word name named, (letters (codes "order") refl, tt)))

picks_are : (picks : List (Option (List ℕ))) → AllByRecursion (λ p. IfSome p IsName) picks → AllByRecursion IsWord (map pick_word picks)
picks_are [] named = tt
picks_are (None ∷ picks) named = (letters (codes "-") refl, picks_are picks named.1)
picks_are (Some name ∷ picks) named = (name_word name named.0, picks_are picks named.1)

length-edge_words : (e : EdgeName) → length (edge_words e) ≤ 4
length-edge_words (OfSide i side kind) = omega arith
length-edge_words (Order name) = omega arith

-- ---- whole lines

-- the words of an item are words
pub item_are : (i : Item) → IsItem i → AreWords (item_words i)
item_are (item.Version version) is =
    (letters (codes "document") refl, (count_is_word version (omega (arith, is.high)), tt), refl)
item_are (item.Command c) is = form_words (form_of c) is.command.names is.command.numbers
item_are item.Answer is = (letters (codes "answer") refl, tt, refl)
item_are item.Nothing is = (letters (codes "none") refl, tt, refl)
item_are (item.Proposal cost) is = (letters (codes "proposal") refl, (count_is_word cost (omega (arith, is)), tt), refl)
item_are (item.Pick choice alternative) is =
    (letters (codes "pick") refl, (name_word choice is.0, (name_word alternative is.1, tt)), refl)
item_are (item.Relax i side units) is =
    relax_are (kind_of i) (name_word (name_of i) is.0, (side_is_word side, (count_is_word units (omega (arith, is.1.high)), tt)))
  where
    relax_are : (kind : Kind) → AllByRecursion IsWord (name_of i ∷ side_word side ∷ count_word units ∷ [])
        → AreWords (relax_word kind ∷ name_of i ∷ side_word side ∷ count_word units ∷ [])
    relax_are requirement more = (letters (codes "loosen") refl, more, refl)
    relax_are duration more = (letters (codes "narrow") refl, more, refl)
item_are (item.At event time) is =
    (letters (codes "at") refl, (name_word event is.0, (count_is_word time (omega (arith, is.1)), tt)), refl)
item_are item.End is = (letters (codes "end") refl, tt, refl)
item_are item.SharedFlow is = (letters (codes "shared") refl, (letters (codes "flow") refl, tt), refl)
item_are item.SharedStuck is = (letters (codes "shared") refl, (letters (codes "stuck") refl, tt), refl)
item_are (item.Leaf picks) is = (letters (codes "leaf") refl, picks_are picks is.0, refl)
item_are (item.Denied veto) is = (letters (codes "denied") refl, (name_word veto is, tt), refl)
item_are item.Flow is = (letters (codes "flow") refl, tt, refl)
item_are item.Stuck is = (letters (codes "stuck") refl, tt, refl)
item_are (item.Units e units) is =
    (letters (codes "units") refl, both (edge_words e) (count_word units ∷ []) (edge_is e is.0) (count_is_word units (omega (arith, is.1.high)), tt), refl)
item_are (item.Edge e) is = (letters (codes "edge") refl, edge_is e is, refl)
item_are (item.Use entry) is = (letters (codes "use") refl, (count_is_word entry (omega (arith, is)), tt), refl)

-- few words are a short line
short_by : (i : Item) → IsItem i → length (item_words i) ≤ 124 → length (spell i) ≤ 4096
short_by i is few = short_line (item_words i) (item_are i is) few

-- so is the line of each item
pub item_short : (i : Item) → IsItem i → length (spell i) ≤ 4096
item_short (item.Command c) is = is.short
item_short (item.Leaf picks) is =
    short_by (item.Leaf picks) is (omega (arith, length-map picks pick_word, is.1))
item_short (item.Units e units) is =
    short_by (item.Units e units) is (omega (arith, length-edge_words e, length-append (edge_words e) (count_word units ∷ [])))
item_short (item.Edge e) is = short_by (item.Edge e) is (omega (arith, length-edge_words e))
item_short (item.Version version) is = short_by (item.Version version) is (omega arith)
item_short item.Answer is = short_by item.Answer is (omega arith)
item_short item.Nothing is = short_by item.Nothing is (omega arith)
item_short (item.Proposal cost) is = short_by (item.Proposal cost) is (omega arith)
item_short (item.Pick choice alternative) is = short_by (item.Pick choice alternative) is (omega arith)
item_short (item.Relax i side units) is = short_by (item.Relax i side units) is (omega arith)
item_short (item.At event time) is = short_by (item.At event time) is (omega arith)
item_short item.End is = short_by item.End is (omega arith)
item_short item.SharedFlow is = short_by item.SharedFlow is (omega arith)
item_short item.SharedStuck is = short_by item.SharedStuck is (omega arith)
item_short (item.Denied veto) is = short_by (item.Denied veto) is (omega arith)
item_short item.Flow is = short_by item.Flow is (omega arith)
item_short item.Stuck is = short_by item.Stuck is (omega arith)
item_short (item.Use entry) is = short_by (item.Use entry) is (omega arith)
