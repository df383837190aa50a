use Rattle.std.proofs.Common.{◌≡◌, ◌∙◌, true, Some, refl, sym, ap, subst}
use Rattle.std.specs.Prelude.{IsTrue}
use Rattle.uhura_veto.specs.State.{State}
use Rattle.uhura_search.specs.Guards.{HaveGuardsOf}
use Rattle.uhura_search.specs.Searcher.{Searched, said}
use Rattle.uhura_search.proofs.Holding.{filled-held, trimmed-for, trimmed-learning, said-alike}
use Rattle.uhura_search.proofs.searcher.Searcher.ask_anew.Goals as goal

pub invariant_of-self : goal.invariant_of-self
invariant_of-self c =
    let state : State = record { plan = c.args.plan.now; vetoes = c.args.vetoes.now } in
    let inside = c.self.inside in
    let filled : IsTrue inside.filled = ap (λ (s : Searched). s.filled) c.self.view_is ∙ c.requires.filled in
    let have : HaveGuardsOf inside.guards.items state.plan.requirements = subst (λ (s : Searched). HaveGuardsOf s.guards state.plan.requirements) (sym c.self.view_is) c.requires.known.guards in
    filled-held state c.ask.new.learning inside.guards.items inside.answer inside.stands inside.filled filled c.self.invariant.sound.slots have c.ask.ensures.kept c.ask.ensures.listed c.self.invariant.sound.kept

pub invariant_of-self-in_err-share : goal.invariant_of-self-in_err-share
invariant_of-self-in_err-share c =
    let state : State = record { plan = c.args.plan.now; vetoes = c.args.vetoes.now } in
    let inside = c.self.inside in
    let filled : IsTrue inside.filled = ap (λ (s : Searched). s.filled) c.self.view_is ∙ c.requires.filled in
    let have : HaveGuardsOf inside.guards.items state.plan.requirements = subst (λ (s : Searched). HaveGuardsOf s.guards state.plan.requirements) (sym c.self.view_is) c.requires.known.guards in
    filled-held state c.ask.new.learning inside.guards.items inside.answer inside.stands inside.filled filled c.self.invariant.sound.slots have c.ask.ensures.kept c.ask.ensures.listed c.self.invariant.sound.kept

pub invariant_of-self-2 : goal.invariant_of-self-2
invariant_of-self-2 c =
    let state : State = record { plan = c.args.plan.now; vetoes = c.args.vetoes.now } in
    let inside = c.self.inside in
    let learning = c.ask.new.learning in
    let store = c.trim.new.self in
    let filled : IsTrue inside.filled = ap (λ (s : Searched). s.filled) c.self.view_is ∙ c.requires.filled in
    let have : HaveGuardsOf inside.guards.items state.plan.requirements = subst (λ (s : Searched). HaveGuardsOf s.guards state.plan.requirements) (sym c.self.view_is) c.requires.known.guards in
    filled-held state (record learning { store = store }) inside.guards.items (Some c.in_ok-share.field-0) true inside.filled filled
    c.self.invariant.sound.slots have (trimmed-learning state learning store 8388608 c.trim.ensures.trimmed.0 c.trim.ensures.trimmed.1 c.trim.ensures.sound c.ask.ensures.kept) c.ask.ensures.listed (λ stands. refl)

pub returns-clause-stands_for : goal.returns-clause-stands_for
returns-clause-stands_for c =
    let state : State = record { plan = c.args.plan.now; vetoes = c.args.vetoes.now } in
    let inside = c.self.inside in
    let learning = c.ask.new.learning in
    let have : HaveGuardsOf inside.guards.items state.plan.requirements = subst (λ (s : Searched). HaveGuardsOf s.guards state.plan.requirements) (sym c.self.view_is) c.requires.known.guards in
    record {
      filled = λ filled. record {
        store = trimmed-for state learning.store c.trim.new.self 8388608 c.trim.ensures.trimmed.0 c.trim.ensures.trimmed.1 c.trim.ensures.sound c.ask.ensures.kept.store;
        guards = have;
      };
      answer = λ stands given is.
          said-alike learning.flow.net state c.in_ok-outcome.outcome given (sym c.in_ok-share.ensures ∙ (let same : said c.in_ok-share.field-0 ≡ said given = cc in same))
          (record { answer = c.in_ok-outcome.ensures.answer; solved = c.in_ok-outcome.ensures.solved });
    }
