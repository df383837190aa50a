-- What is kept to learn from when another table is taken over.
use Rattle.std.specs.Prelude.{◌≡◌}
use Rattle.uhura_plan.specs.Lists.{Lists}
use Rattle.uhura_net.specs.Circulation.{edges_of}
use Rattle.uhura_flow.specs.Flow.{flow_edges}
use Rattle.uhura_worst.specs.Edges.{Tables}
use Rattle.uhura_worst.specs.Filled.{IsFilledBy}
use Rattle.uhura_conflict.specs.Store.{IsStore, Revises}
use Rattle.uhura_search.specs.declared.learning.Learning.{Learning}
use Rattle.uhura_search.specs.Moving.{AreAmong, AreListed, IsUnsettled}

-- the store is over the table, the flow has no edge but those of it, and the places that have one are listed
pub record IsOverTable (learning : Learning) : Type 0 where
  pub table : learning.store.table ≡ learning.table
  pub present : AreAmong (flow_edges learning.flow) (edges_of learning.table)
  pub listed : AreListed learning.places learning.table

-- all is over a table that is filled by these tables, and what doesn't outlast the change is given up
pub record TakesTable (tables : Tables) (plan : Lists) (old new : Learning) : Type 0 where
  pub filled : IsFilledBy tables plan new.table
  pub over : IsOverTable new
  pub revised : Revises old.store new.store new.table
  pub sound : IsStore new.store
  pub flow : IsUnsettled old.flow new.flow
  pub added : new.added ≡ old.added
