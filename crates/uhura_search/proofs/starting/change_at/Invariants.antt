use Rattle.std.specs.Prelude.{IfSome}
use Rattle.uhura_search.specs.Asked.{LearnsSome}
use Rattle.uhura_search.specs.Learning.{IsReady, IsReachedAt}
use Rattle.uhura_search.proofs.starting.change_at.Given as goal

-- what was learned so far was counted, and the best so far is reached
abbrev pub invariant-loop-index : goal.invariant-loop-index
invariant-loop-index l = record {
  learns : LearnsSome l.plan.choices l.fn.learning l.learning;
  reached : IfSome l.best (IsReachedAt (record { plan = l.plan; vetoes = l.vetoes }));
  ready : IsReady (record { plan = l.plan; vetoes = l.vetoes }) l.learning;
}
