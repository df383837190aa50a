use Rattle.uhura_item.proofs.OneItem.{one_item}
use Rattle.uhura_item.proofs.ItemWords.{item_short}
use Rattle.uhura_item.proofs.laws.a_line_has_one_item.Goals as goal

pub returns : goal.returns
returns c = record { one = one_item; short = item_short }
