use Rattle.uhura_net.proofs.Empty.{IsTable-empty}
use Rattle.uhura_net.proofs.table.EdgeTable.new.Goals as goal

pub invariant_of-result : goal.invariant_of-result
invariant_of-result c = IsTable-empty c.in_ok-new.field-0 c.in_ok-new.ensures
