-- The lines of items, one behind the other, are each a line.
use Rattle.std.proofs.Common.{◌≡◌, ℕ, List, [], ◌∷◌, ◌++◌, map, flat_map, refl, sym, ap, ◌∙◌, append_assoc, append-nil}
use Rattle.std.specs.Prelude.{codes}
use Rattle.std.specs.List.{AllByRecursion}
use Rattle.uhura_text.specs.Lines.{lines}
use Rattle.uhura_text.proofs.Growing.{lines-nil}
use Rattle.uhura_line.proofs.LinesApart.{lines-cons}
use Rattle.uhura_line.proofs.ReadsBack.{good_bytes}
use Rattle.uhura_item.specs.declared.item.Item.{Item}
use Rattle.uhura_item.specs.Item.{item_words, spell, item_line, IsItem}
use Rattle.uhura_item.proofs.ItemWords.{item_are, item_short}

-- each is a line of its own, whatever is behind them
pub lines-items_append : (is : List Item) (rest : List ℕ) → AllByRecursion IsItem is → lines (flat_map item_line is ++ rest) ≡ map spell is ++ lines rest
lines-items_append [] rest are = refl
lines-items_append (i ∷ is) rest are =
    let more : List ℕ = flat_map item_line is in
    ap lines (append_assoc (spell i ++ codes "\n") more rest ∙ append_assoc (spell i) (codes "\n") (more ++ rest))
    ∙ (lines-cons (spell i) (more ++ rest) (good_bytes (item_words i) (item_are i are.0)) (item_short i are.0)
    ∙ ap (λ (ls : List (List ℕ)). spell i ∷ ls) (lines-items_append is rest are.1))

pub lines-items : (is : List Item) → AllByRecursion IsItem is → lines (flat_map item_line is) ≡ map spell is
lines-items is are =
    ap lines (sym (append-nil (flat_map item_line is)))
    ∙ (lines-items_append is [] are
    ∙ (ap (λ ls. map spell is ++ ls) lines-nil ∙ append-nil (map spell is)))
