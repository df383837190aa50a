use Rattle.std.proofs.Common.{[], true≢false, lit<}
use Rattle.uhura_plan.specs.declared.key.Side.TheVariants.{Upper}
use Rattle.uhura_plan.specs.declared.key.EdgeKey.TheVariants.{Loose}
use Rattle.uhura_worst.specs.Examples.{requirement_side}
use Rattle.uhura_shows.specs.Examples.{flow, left}
use Rattle.uhura_shows.proofs.examples.loose_edges_show_no_clash.Goals as goal

pub returns : goal.returns
returns c = λ shows. true≢false ((shows.reasons 1 (flow left []) (lit< tt)).walk.each 0 (Loose (requirement_side 0 Upper)) (lit< tt)).firm
