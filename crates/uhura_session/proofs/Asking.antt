-- A question asks the searcher once.
use Rattle.std.proofs.Common.{◌≡◌, Result, Ok, Err, inr, subst}
use Rattle.std.specs.Prelude.{OnErr}
use Rattle.std.specs.declared.alloc.AllocError.{AllocError}
use Rattle.uhura_plan.specs.Lists.{Lists}
use Rattle.uhura_line.specs.declared.command.Command.TheVariants as command
use Rattle.uhura_search.specs.declared.outcome.Outcome.{Outcome}
use Rattle.uhura_search.specs.Searcher.{Searched, IsAskedOnce}
use Rattle.uhura_session.specs.Session.{Dialogue}
use Rattle.uhura_session.specs.Searching.{IsAsked, IsAnswered, IsAskedAtMost, SearchesCommand}

-- what holds holds where there is an error
on_err : {T E P : Type 0} (r : Result T E) → P → OnErr r P
on_err (Ok value) p = tt
on_err (Err error) p = p

module _ (old new : Searched) (plan now : Lists) (same : plan ≡ now) where
  pub asked_once : (result : Result Outcome AllocError) → IsAskedOnce old new plan result → IsAsked old new now
  asked_once result asked = (result, subst (λ (p : Lists). IsAskedOnce old new p result) same asked)

  pub answered_once : (given : Outcome) → IsAskedOnce old new plan (Ok given) → IsAnswered old new now
  answered_once given asked = (given, subst (λ (p : Lists). IsAskedOnce old new p (Ok given)) same asked)

module _ (before now : Dialogue) (new : Searched) (same : before ≡ now) where
  -- a question that finds no memory
  pub stopped : {T E : Type 0} (r : Result T E) → IsAsked before.searcher new before.state.plan → OnErr r (IsAskedAtMost now.searcher new now.state.plan)
  stopped r asked = on_err r (subst (λ (d : Dialogue). IsAskedAtMost d.searcher new d.state.plan) same (inr asked))

  -- a line that finds none
  pub stopped_line : {T E : Type 0} (r : Result T E) → OnErr r (IsAskedAtMost before.searcher new before.state.plan) → OnErr r (IsAskedAtMost now.searcher new now.state.plan)
  stopped_line r asked = subst (λ (d : Dialogue). OnErr r (IsAskedAtMost d.searcher new d.state.plan)) same asked

  -- and one that is answered
  pub proposed : IsAnswered before.searcher new before.state.plan → SearchesCommand command.Propose now.state now.searcher new
  unfolding SearchesCommand
  proposed answered = subst (λ (d : Dialogue). IsAnswered d.searcher new d.state.plan) same answered

  pub proved : IsAnswered before.searcher new before.state.plan → SearchesCommand command.Prove now.state now.searcher new
  unfolding SearchesCommand
  proved answered = subst (λ (d : Dialogue). IsAnswered d.searcher new d.state.plan) same answered
