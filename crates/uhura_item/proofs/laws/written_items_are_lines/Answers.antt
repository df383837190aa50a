use Rattle.uhura_item.proofs.ItemLines.{lines-items}
use Rattle.uhura_item.proofs.laws.written_items_are_lines.Goals as goal

pub returns : goal.returns
returns c = lines-items
