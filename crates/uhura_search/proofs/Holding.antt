-- What a searcher keeps true.
use Rattle.std.proofs.Common.{◌≡◌, ℕ, ◌<◌, Bool, true, false, true≢false, List, [], length, get_or, replicate, Option, Some, None, inl, inr, ap, sym, subst, refl, ◌∙◌, arith}
use Rattle.std.specs.Prelude.{ℤ, IsTrue, IsSome, is_some, option_map}
use Rattle.std.proofs.Math.ListN.{get_or-eq_default}
use Rattle.std.proofs.lemmas.Bool.{cases_lt}
use Rattle.std.proofs.lemmas.List.{length-replicate, get_or-replicate}
use Rattle.std.proofs.lemmas.List.Elements.{All-nil}
use Rattle.uhura_plan.specs.declared.guard.Literal.{Literal}
use Rattle.uhura_plan.specs.declared.limits.TheConstants.{REQUIREMENTS}
use Rattle.uhura_choice.specs.declared.prefix.Pick.{Pick}
use Rattle.uhura_net.specs.declared.edge.Edge.{Edge}
use Rattle.uhura_net.specs.declared.place.TheConstants.{PLACES}
use Rattle.uhura_net.specs.Circulation.{edges_of}
use Rattle.uhura_net.specs.Net.{NetState}
use Rattle.uhura_flow.specs.Flow.{FlowState, flow_edges, empty_flow}
use Rattle.uhura_veto.specs.State.{State}
use Rattle.uhura_worst.specs.Filled.{IsTableOf}
use Rattle.uhura_conflict.specs.Learned.{Learned, places_in}
use Rattle.uhura_conflict.specs.Literals.{AreLiteralsOf}
use Rattle.uhura_conflict.specs.Store.{Stored, conflict_at, IsStore, empty_store, Trims}
use Rattle.uhura_shows.specs.Shows.{Shows}
use Rattle.uhura_search.specs.declared.learning.Learning.{Learning}
use Rattle.uhura_search.specs.declared.leaf.LeafNote.{LeafNote}
use Rattle.uhura_search.specs.declared.outcome.Outcome.{Outcome}
use Rattle.uhura_search.specs.declared.outcome.Outcome.TheVariants as outcome
use Rattle.uhura_search.specs.Answer.{IsFoundFor, shown_leaves}
use Rattle.uhura_search.specs.Asked.{IsSolvedAt}
use Rattle.uhura_search.specs.Guards.{HaveGuardsOf}
use Rattle.uhura_search.specs.Held.{shown_as, IsHeldSearcher}
use Rattle.uhura_search.specs.Known.{IsStoreFor}
use Rattle.uhura_search.specs.Learning.{IsLearningFor}
use Rattle.uhura_search.specs.Moving.{AreAmong, AreListed}
use Rattle.uhura_search.specs.Taken.{IsOverTable}
use Rattle.uhura_search.specs.Searcher.{Said, said, Searched, empty_searcher, IsSearcher, IsAsked}
use Rattle.uhura_search.proofs.Guarded.{if-some, if-some-at, all-ask}

-- a searcher that was asked nothing
abbrev made : FlowState → Stored → ℕ → List (List Literal) → Searched
made f s n g = record { net = f.net; settles = f.settles; added = n; store = s; guards = g; answer = None; stands = false; filled = false }

-- nothing is in it
pub nothing-at : (places place : ℕ) → get_or (replicate {A = Option Edge} places None) place None ≡ None
nothing-at places place =
    elim (cases_lt place places) [
      | inl inside ↦ get_or-replicate places place None None inside
      | inr past ↦ get_or-eq_default (replicate {A = Option Edge} places None) None (omega (arith, past, length-replicate {A = Option Edge} places None))
    ]

pub no-edge : (table : List (Option Edge)) (place : ℕ) (edge : Edge) → table ≡ replicate PLACES None → edges_of table place ≡ Some edge → ⊥
no-edge table place edge empty is =
    let nothing : edges_of table place ≡ None = ap (λ (t : List (Option Edge)). get_or t place None) empty ∙ nothing-at PLACES place in
    let never : Some edge ≡ None = sym is ∙ nothing in
    cc

empty-sound : IsStore empty_store
empty-sound = record {
  learned = λ key. tt;
  valid = λ key. tt;
  listed = λ key. (λ (k, below, is). absurd (omega (arith, below)), λ there. absurd (let never : ⊥ = cc in never));
  once = λ i j d before below. absurd (omega (arith, below));
}

empty-searcher : IsSearcher empty_searcher
empty-searcher = record {
  store = empty-sound;
  slots = length-replicate {A = List Literal} REQUIREMENTS [];
  present = λ place edge is. absurd (no-edge (replicate PLACES None) place edge refl is);
  literals = λ key. tt;
  kept = λ stands. absurd (let never : ⊥ = cc in never);
  blank = λ filled. refl;
}

none-listed : AreListed [] (replicate PLACES None)
none-listed = record {
  inside = All-nil (λ (place : ℕ). place < PLACES);
  rising = λ i j d before inside. absurd (omega arith);
  each = λ place some.
      let none : edges_of (replicate PLACES None) place ≡ None = nothing-at PLACES place in
      absurd (true≢false (sym some ∙ ap is_some none));
}

-- a searcher that was made without an edge, a conflict or a guard
module _ (learning : Learning) (guards : List (List Literal)) (flow : learning.flow ≡ empty_flow) (store : learning.store ≡ empty_store) (table : learning.table ≡ replicate PLACES None)
    (places : learning.places ≡ []) (added : learning.added ≡ 0) (none : guards ≡ replicate REQUIREMENTS []) where
  pub shown-empty : shown_as learning guards None false false ≡ empty_searcher
  shown-empty =
      ap (λ (f : FlowState). made f learning.store learning.added guards) flow
      ∙ ap (λ (s : Stored). made empty_flow s learning.added guards) store
      ∙ ap (λ (n : ℕ). made empty_flow empty_store n guards) added
      ∙ ap (made empty_flow empty_store 0) none

  pub empty-held : IsHeldSearcher learning guards None false false
  empty-held = record {
    sound = subst IsSearcher (sym shown-empty) empty-searcher;
    table = ap (λ (s : Stored). s.table) store ∙ sym table;
    listed = subst (λ (ps : List ℕ). AreListed ps learning.table) (sym places) (subst (AreListed []) (sym table) none-listed);
  }

-- a searcher that is filled for a state
pub filled-held : (state : State) (learning : Learning) (guards : List (List Literal)) (answer : Option Outcome) (stands filled : Bool) → IsTrue filled → length guards ≡ REQUIREMENTS → HaveGuardsOf guards state.plan.requirements →
    IsLearningFor state learning → AreListed learning.places learning.table → (IsTrue stands → IsSome (option_map said answer)) → IsHeldSearcher learning guards answer stands filled
filled-held state learning guards answer stands filled is_filled slots have kept listed given = record {
  sound = record {
    store = kept.store.sound;
    slots = slots;
    present = subst (λ (table : List (Option Edge)). AreAmong (flow_edges learning.flow) (edges_of table)) (sym kept.table) kept.present;
    literals = all-ask state learning.store guards have kept.store;
    kept = given;
    blank = λ not_filled. absurd (true≢false (sym is_filled ∙ not_filled));
  };
  table = kept.table;
  listed = listed;
}

-- all that is kept is over the table
pub over-table : (learning : Learning) (guards : List (List Literal)) (answer : Option Outcome) (stands filled : Bool) → IsHeldSearcher learning guards answer stands filled → IsOverTable learning
over-table learning guards answer stands filled held = record {
  table = held.table;
  present = subst (λ (table : List (Option Edge)). AreAmong (flow_edges learning.flow) (edges_of table)) held.table held.sound.present;
  listed = held.listed;
}

-- what a trim leaves was there
trimmed-there : (old new : Stored) (most count key : ℕ) (conflict : Learned) → Trims old new most count → conflict_at new key ≡ Some conflict → conflict_at old key ≡ Some conflict
trimmed-there old new most count key conflict trims is =
    sym (trims.others key
    (λ gone.
    let none : conflict_at new key ≡ None = trims.given_up key gone in
    let never : Some conflict ≡ None = sym is ∙ none in
    cc))
    ∙ is

-- so the store stays one for the state
pub trimmed-for : (state : State) (old new : Stored) (most count : ℕ) → Trims old new most count → IsStore new → IsStoreFor state old → IsStoreFor state new
trimmed-for state old new most count trims sound known =
    let literals : Learned → Type 0 = λ c. AreLiteralsOf state.plan (places_in c.pairs) c.literals in
    record {
      table = subst (λ (table : List (Option Edge)). IsTableOf state table) (sym trims.table) known.table;
      sound = sound;
      literals = λ key. if-some literals (conflict_at new key) (λ conflict is. if-some-at literals (conflict_at old key) conflict (known.literals key) (trimmed-there old new most count key conflict trims is));
    }

pub trimmed-learning : (state : State) (learning : Learning) (store : Stored) (most count : ℕ) → Trims learning.store store most count → IsStore store → IsLearningFor state learning →
    IsLearningFor state (record learning { store = store })
trimmed-learning state learning store most count trims sound kept = record {
  store = trimmed-for state learning.store store most count trims sound kept.store;
  table = trims.table ∙ kept.table;
  present = kept.present;
}

-- what an outcome says is all that counts
IsSaidFor : NetState → State → List LeafNote → Option (List Pick × ℕ × List ℤ) → Type 0
IsSaidFor net state leaves None = Shows state None (shown_leaves state leaves)
IsSaidFor net state leaves (Some found) = IsFoundFor state found.0 found.1 found.2 leaves × IsSolvedAt net state found.0 found.2

to-said : (net : NetState) (state : State) (given : Outcome) → IsAsked net state given → IsSaidFor net state (said given).leaves (said given).found
unfolding IsSaidFor
to-said net state (outcome.Found branch all potentials leaves) asked = (asked.answer, asked.solved)
to-said net state (outcome.None leaves) asked = asked.answer

from-said : (net : NetState) (state : State) (given : Outcome) → IsSaidFor net state (said given).leaves (said given).found → IsAsked net state given
unfolding IsSaidFor
from-said net state (outcome.Found branch all potentials leaves) (answer, solved) = record { answer = answer; solved = solved }
from-said net state (outcome.None leaves) answer = record { answer = answer; solved = tt }

pub said-alike : (net : NetState) (state : State) (one other : Outcome) → said one ≡ said other → IsAsked net state one → IsAsked net state other
said-alike net state one other same asked =
    from-said net state other (subst (λ (s : Said). IsSaidFor net state s.leaves s.found) same (to-said net state one asked))

-- an answer stands only after a first question
pub stands-filled : (searcher : Searched) → IsSearcher searcher → IsTrue searcher.stands → IsTrue searcher.filled
stands-filled searcher sound stands = by searcher.filled refl
  where
    by : (b : Bool) → searcher.filled ≡ b → b ≡ true
    by true filled = refl
    by false blank = absurd (true≢false (sym stands ∙ ap (λ (s : Searched). s.stands) (sound.blank blank)))
