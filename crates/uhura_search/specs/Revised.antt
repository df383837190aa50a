-- What a revision gives up.
use Rattle.std.specs.Prelude.{◌≡◌, ◌≤◌, IsTrue, IsFalse, List, Option}
use Rattle.std.specs.Bool.{MatchBool}
use Rattle.uhura_plan.specs.declared.guard.Literal.{Literal}
use Rattle.uhura_net.specs.declared.edge.Edge.{Edge}
use Rattle.uhura_conflict.specs.Store.{Stored, Revises}
use Rattle.uhura_search.specs.Guards.{IsWithoutReguarded}
use Rattle.uhura_search.specs.Searcher.{Searched}

-- The conflicts are given up that lose an edge, can't carry their units any more, or are firm cycles whose bounds no
-- longer sum below 0: first over the table without the edges of slots that have another guard, then over the whole.
pub record IsRevisedStore (old new : Stored) (old_guards new_guards : List (List Literal))
    : Type 0 where
  pub without : List (Option Edge)
  pub is_without : IsWithoutReguarded old_guards new_guards new.table without
  pub between : Stored
  pub first : Revises old between without
  pub second : Revises between new new.table

-- the counts stay, though edges may be taken out of the flow, and the last answer stands no longer
pub record HasRevised (old new : Searched) : Type 0 where
  pub store : IsRevisedStore old.store new.store old.guards new.guards
  pub settles : new.settles ≡ old.settles
  pub added : new.added ≡ old.added
  pub pushes : old.net.pushes ≤ new.net.pushes
  pub filled : IsTrue new.filled
  pub stands : IsFalse new.stands

-- before the first question nothing is there to be revised
abbrev pub IsRevised : Searched → Searched → Type 0
IsRevised old new = MatchBool old.filled (HasRevised old new) (new ≡ old)
