use Rattle.std.proofs.Common.{◌∙◌, sym, ap, subst}
use Rattle.std.specs.Prelude.{IsTrue}
use Rattle.uhura_veto.specs.State.{State}
use Rattle.uhura_search.specs.Searcher.{Searched, IsSearcher}
use Rattle.uhura_search.proofs.Bounding.{is-dual, all-bound}
use Rattle.uhura_search.proofs.Holding.{stands-filled}
use Rattle.uhura_search.proofs.searcher.Searcher.best.Goals as goal

pub returns-then-self-clause-duality : goal.returns-then-self-clause-duality
returns-then-self-clause-duality c = is-dual (record { plan = c.args.plan.now; vetoes = c.args.vetoes.now }) c.choices.ensures.sound

pub returns-then-self-clause-bounds : goal.returns-then-self-clause-bounds
returns-then-self-clause-bounds c =
    let state : State = record { plan = c.args.plan.now; vetoes = c.args.vetoes.now } in
    let sound : IsSearcher c.args.self.now = subst IsSearcher c.self.view_is c.self.invariant.sound in
    let stands : IsTrue c.args.self.now.stands = ap (λ (s : Searched). s.stands) (sym c.self.view_is) ∙ c.if-self.true in
    all-bound state c.args.self.now.store c.choices.ensures.sound (c.requires.filled (stands-filled c.args.self.now sound stands)).store

pub returns-clause-duality : goal.returns-clause-duality
returns-clause-duality c = is-dual (record { plan = c.args.plan.now; vetoes = c.args.vetoes.now }) c.choices.ensures.sound

pub returns-clause-bounds : goal.returns-clause-bounds
returns-clause-bounds c =
    let state : State = record { plan = c.args.plan.now; vetoes = c.args.vetoes.now } in
    all-bound state c.ask_anew.new.self.store c.choices.ensures.sound (c.ask_anew.ensures.stands_for.filled c.ask_anew.ensures.asked.filled).store
