-- A store without a conflict, over whatever table.
use Rattle.std.proofs.Common.{◌≡◌, ℕ, List, get_or, replicate, Option, Some, None, refl, sym, ap, subst, ◌∙◌}
use Rattle.std.specs.Prelude.{IfSome, is_some, option_and_then, filter}
use Rattle.uhura_net.specs.declared.edge.Edge.{Edge}
use Rattle.uhura_net.specs.declared.place.TheConstants.{PLACES}
use Rattle.uhura_net.specs.Circulation.{edges_of}
use Rattle.uhura_net.specs.Edges.{Edges}
use Rattle.uhura_veto.specs.State.{State}
use Rattle.uhura_worst.specs.Filled.{IsTableOf}
use Rattle.uhura_conflict.specs.Learned.{Learned, places_in}
use Rattle.uhura_conflict.specs.Literals.{AreLiteralsOf}
use Rattle.uhura_conflict.specs.Marked.{DifferAmong}
use Rattle.uhura_conflict.specs.Store.{Stored, conflict_at, IsStore, empty_store, Revises, if_it_outlasts}
use Rattle.uhura_search.specs.Known.{IsStoreFor}
use Rattle.uhura_search.specs.Moving.{AreAmong, AreListed}
use Rattle.uhura_search.specs.Searcher.{KeepsNothing}
use Rattle.uhura_search.proofs.Holding.{nothing-at, no-edge}

-- where no place has an edge yet, only those that are listed change
pub differ-listed : (old new : List (Option Edge)) (places : List ℕ) → old ≡ replicate PLACES None → AreListed places new → DifferAmong old new places
differ-listed old new places empty listed place inside apart = by (edges_of new place) refl
  where
    before : edges_of old place ≡ None
    before = ap (λ (t : List (Option Edge)). get_or t place None) empty ∙ nothing-at PLACES place

    by : (edge : Option Edge) → edges_of new place ≡ edge → edges_of new place ≡ edges_of old place
    by None none = none ∙ sym before
    by (Some edge) some = absurd (apart (listed.each place (ap is_some some)))

-- a flow that has no edge but those of a table without one has none but those of any other
pub none-among : (flow : Edges) (old new : List (Option Edge)) → old ≡ replicate PLACES None → AreAmong flow (edges_of old) → AreAmong flow (edges_of new)
none-among flow old new empty among place edge is = absurd (no-edge old place edge empty (among place edge is))

-- a revision adds nothing
module _ (old new : Stored) (table : List (Option Edge)) (empty : old ≡ empty_store) (revises : Revises old new table) where
  none-at : (key : ℕ) → conflict_at new key ≡ None
  none-at key = revises.conflicts key ∙ ap (λ (s : Stored). option_and_then (if_it_outlasts s.table table) (conflict_at s key)) empty

  pub nothing-kept : KeepsNothing new
  nothing-kept = record {
    none = none-at;
    order = revises.order ∙ ap (λ (s : Stored). filter (λ (key : ℕ). is_some (conflict_at new key)) s.order) empty;
  }

-- so the store is one for any state of its table
pub nothing-for : (state : State) (store : Stored) → IsTableOf state store.table → IsStore store → KeepsNothing store → IsStoreFor state store
nothing-for state store is_table sound nothing = record {
  table = is_table;
  sound = sound;
  literals = λ key. subst (λ (o : Option Learned). IfSome o (λ (c : Learned). AreLiteralsOf state.plan (places_in c.pairs) c.literals)) (sym (nothing.none key)) tt;
}
