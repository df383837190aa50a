use Rattle.std.proofs.Common.{Some}
use Rattle.std.specs.Prelude.{IfSome}
use Rattle.uhura_choice.specs.Branch.{IsBranch}
use Rattle.uhura_shows.specs.Behind.{HaveBefore}
use Rattle.uhura_search.specs.Shut.{IsShut}
use Rattle.uhura_search.specs.Closed.{HasFront, NoneBelow}
use Rattle.uhura_search.specs.Asked.{LearnsSome}
use Rattle.uhura_search.specs.Learning.{IsReady, IsReachedAt}
use Rattle.uhura_search.proofs.Ranks.{rank}
use Rattle.uhura_search.proofs.closing.close_all.Given as goal

-- the branches before this one are closed, none of its prefixes with fewer picks is shut, and what was learned on the
-- way was counted
abbrev pub invariant-walk : goal.invariant-walk
invariant-walk l = record {
  is_branch : IsBranch l.plan.choices l.branch;
  before : HaveBefore l.plan.choices (HasFront (IsShut (record { plan = l.plan; vetoes = l.vetoes }) l.learning.store l.best)) (Some l.branch);
  none : NoneBelow (IsShut (record { plan = l.plan; vetoes = l.vetoes }) l.learning.store l.best) l.branch l.least;
  reached : IfSome l.best (IsReachedAt (record { plan = l.plan; vetoes = l.vetoes }));
  learns : LearnsSome l.plan.choices l.fn.learning l.learning;
  ready : IsReady (record { plan = l.plan; vetoes = l.vetoes }) l.learning;
}

abbrev pub decreases-walk : goal.decreases-walk
decreases-walk l = rank l.plan.choices l.branch
