-- What the parts of a searcher show.
use Rattle.std.specs.Prelude.{◌≡◌, ◌≤◌, IsTrue, IsFalse, Bool, List, Option, option_map}
use Rattle.uhura_plan.specs.declared.guard.Literal.{Literal}
use Rattle.uhura_search.specs.declared.learning.Learning.{Learning}
use Rattle.uhura_search.specs.declared.outcome.Outcome.{Outcome}
use Rattle.uhura_search.specs.Moving.{AreListed}
use Rattle.uhura_search.specs.Searcher.{Searched, said, IsSearcher, KeepsNothing}

abbrev pub shown_as :
    Learning → List (List Literal) → Option Outcome → Bool → Bool → Searched
shown_as learning guards answer stands filled = record {
  net = learning.flow.net;
  settles = learning.flow.settles;
  added = learning.added;
  store = learning.store;
  guards = guards;
  answer = option_map said answer;
  stands = stands;
  filled = filled;
}

-- a searcher is sound, its store is over its table, and the places that have an edge there are listed
pub record IsHeldSearcher (learning : Learning) (guards : List (List Literal))
    (answer : Option Outcome) (stands filled : Bool) : Type 0 where
  pub sound : IsSearcher (shown_as learning guards answer stands filled)
  pub table : learning.store.table ≡ learning.table
  pub listed : AreListed learning.places learning.table

-- the table is filled for a first question, before which nothing was kept
pub record HasBegun (old new : Searched) : Type 0 where
  pub store : KeepsNothing new.store
  pub settles : new.settles ≡ old.settles
  pub added : new.added ≡ old.added
  pub pushes : old.net.pushes ≤ new.net.pushes
  pub filled : IsTrue new.filled
  pub stands : IsFalse new.stands
