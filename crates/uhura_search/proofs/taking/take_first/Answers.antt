use Rattle.std.proofs.Common.{◌≡◌, ℕ, List, Option, replicate, None, sym, ap, subst, ◌∙◌}
use Rattle.uhura_net.specs.declared.edge.Edge.{Edge}
use Rattle.uhura_net.specs.declared.place.TheConstants.{PLACES}
use Rattle.uhura_flow.specs.Flow.{flow_edges}
use Rattle.uhura_veto.specs.State.{State}
use Rattle.uhura_worst.specs.Filled.{IsTableOf}
use Rattle.uhura_conflict.specs.Store.{Stored}
use Rattle.uhura_search.specs.Moving.{AreListed}
use Rattle.uhura_search.proofs.Beginning.{differ-listed, none-among, nothing-kept, nothing-for}
use Rattle.uhura_search.proofs.taking.take_first.Goals as goal

pub revise_at-requires-clause-differ : goal.revise_at-requires-clause-differ
revise_at-requires-clause-differ c =
    let listed = subst (λ (ps : List ℕ). AreListed ps c.fill.new.table) (sym c.as_slice.ensures.listed) c.list.ensures in
    differ-listed c.args.learning.now.store.table c.fill.new.table c.as_slice.result.now (ap (λ (s : Stored). s.table) c.requires.empty) listed

pub returns-clause-kept : goal.returns-clause-kept
returns-clause-kept c =
    let state : State = record { plan = c.args.plan.now; vetoes = c.args.vetoes.now } in
    let learning = c.args.learning.now in
    let store = c.revise_at.new.self in
    let revised = c.revise_at.ensures.revised in
    let empty : learning.table ≡ replicate PLACES None = sym c.requires.over.table ∙ ap (λ (s : Stored). s.table) c.requires.empty in
    record {
      store = nothing-for state store (subst (λ (table : List (Option Edge)). IsTableOf state table) (sym revised.table) c.fill.ensures) c.revise_at.ensures.sound
          (nothing-kept learning.store store c.fill.new.table c.requires.empty revised);
      table = revised.table;
      present = none-among (flow_edges learning.flow) learning.table c.fill.new.table empty c.requires.over.present;
    }
