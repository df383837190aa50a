-- What a line is read to.
use Rattle.std.specs.Prelude.{◌≡◌, ℕ, List, Option, Some, None, IfSome}
use Rattle.uhura_line.specs.declared.command.Command.{Command}
use Rattle.uhura_item.specs.declared.item.Item.{Item}
use Rattle.uhura_item.specs.declared.item.Item.TheVariants as item
use Rattle.uhura_item.specs.Item.{spell, IsLineCommand, IsItem}

-- a line is read as the item that is spelled so; where none is read, none is spelled so
abbrev pub ReadsItem : List ℕ → Option Item → Type 0
ReadsItem line None = (i : Item) → IsItem i → spell i ≡ line → ⊥
ReadsItem line (Some i) = IsItem i × (spell i ≡ line)

-- an item that the line is, if it is one
pub record MayBe (line : List ℕ) (read : Option Item) : Type 0 where
  pub found : (i : Item) → IsItem i → spell i ≡ line → read ≡ Some i
  pub sound : IfSome read IsItem

-- a command that the line is, if it is one
pub record MayBeCommand (line : List ℕ) (read : Option Item) : Type 0 where
  pub found : (c : Command) → IsLineCommand c → spell (item.Command c) ≡ line → read ≡ Some (item.Command c)
  pub sound : IfSome read IsItem
