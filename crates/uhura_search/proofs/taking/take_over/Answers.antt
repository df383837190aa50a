use Rattle.std.proofs.Common.{List, Option, sym, subst}
use Rattle.uhura_net.specs.declared.edge.Edge.{Edge}
use Rattle.uhura_veto.specs.State.{State}
use Rattle.uhura_worst.specs.Filled.{IsTableOf}
use Rattle.uhura_conflict.specs.Store.{Revises}
use Rattle.uhura_search.specs.Guards.{IsWithoutReguarded}
use Rattle.uhura_search.proofs.Guarded.{all-still-ask, store-for}
use Rattle.uhura_search.proofs.Reguarding.{without-reguarded}
use Rattle.uhura_search.proofs.taking.take_over.Goals as goal

pub returns-clause-literals : goal.returns-clause-literals
returns-clause-literals c =
    let without = c.take_table.new.learning in
    let whole = c.put_back.new.learning in
    all-still-ask c.args.guards.now c.reguard-any.new.guards whole.table without.table c.args.learning.now.store without.store whole.store whole.table
    (without-reguarded c.reguard-any.new.marks c.args.vetoes.now c.args.plan.now c.args.guards.now c.reguard-any.new.guards without.table whole.table c.reguard-any.ensures.marks c.take_table.ensures.filled c.put_back.ensures.filled)
    c.requires.literals c.take_table.ensures.revised c.take_table.ensures.sound c.put_back.ensures.revised

pub returns-clause-store : goal.returns-clause-store
returns-clause-store c =
    let without = c.take_table.new.learning in
    let whole = c.put_back.new.learning in
    let old = c.args.guards.now in
    let new = c.reguard-any.new.guards in
    record {
      without = without.table;
      is_without = subst (λ (table : List (Option Edge)). IsWithoutReguarded old new table without.table) (sym c.put_back.ensures.over.table)
          (without-reguarded c.reguard-any.new.marks c.args.vetoes.now c.args.plan.now old new without.table whole.table c.reguard-any.ensures.marks c.take_table.ensures.filled c.put_back.ensures.filled);
      between = without.store;
      first = c.take_table.ensures.revised;
      second = subst (λ (table : List (Option Edge)). Revises without.store whole.store table) (sym c.put_back.ensures.over.table) c.put_back.ensures.revised;
    }

pub returns-clause-kept : goal.returns-clause-kept
returns-clause-kept c =
    let state : State = record { plan = c.args.plan.now; vetoes = c.args.vetoes.now } in
    let whole = c.put_back.new.learning in
    let is_table = subst (λ (table : List (Option Edge)). IsTableOf state table) (sym c.put_back.ensures.over.table) c.put_back.ensures.filled in
    record {
      store = store-for state whole.store c.reguard-any.new.guards is_table c.reguard-any.ensures.guards c.put_back.ensures.sound (returns-clause-literals c);
      table = c.put_back.ensures.over.table;
      present = c.put_back.ensures.over.present;
    }
