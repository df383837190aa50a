-- What lists are read with past their ends.
use Rattle.std.proofs.Common.{ℕ, pos, None, false}
use Rattle.uhura_plan.specs.declared.key.Side.TheVariants.{Lower}
use Rattle.uhura_plan.specs.declared.key.Item.TheVariants.{Requirement}
use Rattle.uhura_plan.specs.declared.key.EdgeKey.{EdgeKey}
use Rattle.uhura_plan.specs.declared.key.EdgeKey.TheVariants.{Loose}
use Rattle.uhura_check.specs.declared.entries.Worked.TheVariants.{Flow}
use Rattle.uhura_check.specs.declared.entries.Entry.{Entry}

abbrev pub some_key : EdgeKey
some_key = Loose (record { item = Requirement 0; side = Lower })

abbrev pub some_pair : EdgeKey × ℕ
some_pair = (some_key, 0)

abbrev pub some_entry : Entry
some_entry = record { line = 0; worked = Flow (record { uncarried = None; balanced = false; value = pos 0 }) }
