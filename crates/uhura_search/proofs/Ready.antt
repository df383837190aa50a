-- What is kept to learn from stays ready.
use Rattle.std.proofs.Common.{◌≡◌, ℕ, ◌<◌, List, Option, Result, Ok, Err, inl, inr, sym, ap, subst, ◌∙◌}
use Rattle.std.specs.Prelude.{◌^◌, IfSome, OnOk, OnErr}
use Rattle.std.proofs.lemmas.Bool.{cases_eq}
use Rattle.uhura_choice.specs.declared.prefix.Pick.{Pick}
use Rattle.uhura_net.specs.declared.edge.Edge.{Edge}
use Rattle.uhura_net.specs.Circulation.{edges_of}
use Rattle.uhura_flow.specs.Flow.{FlowState, flow_edges}
use Rattle.uhura_veto.specs.State.{State}
use Rattle.uhura_worst.specs.Filled.{IsTableOf}
use Rattle.uhura_conflict.specs.Learned.{Learned, places_in}
use Rattle.uhura_conflict.specs.Literals.{AreLiteralsOf}
use Rattle.uhura_conflict.specs.Store.{Stored, conflict_at}
use Rattle.uhura_search.specs.declared.learning.Learning.{Learning}
use Rattle.uhura_search.specs.Known.{IsStoreFor}
use Rattle.uhura_search.specs.Moving.{AreAmong, AreListed, HasFlowBounds}
use Rattle.uhura_search.specs.Learning.{IsLearningFor, IsReady, KeepsLearned, HasAddedAt}
use Rattle.uhura_search.proofs.Learns.{raised-small}

-- what holds at either answer
pub either : {T E P R Q : Type 0} (r : Result T E) → OnOk r P → OnErr r R → (P → Q) → (R → Q) → Q
either (Ok x) ok err f g = f ok
either (Err e) ok err f g = g err

-- the flow alone changes
pub learning-kept : (state : State) (a b : Learning) → IsLearningFor state a → KeepsLearned a b → AreAmong (flow_edges b.flow) (edges_of a.table) → IsLearningFor state b
learning-kept state a b is keeps present = record {
  store = subst (λ (s : Stored). IsStoreFor state s) (sym keeps.store) is.store;
  table = ap (λ (s : Stored). s.table) keeps.store ∙ (is.table ∙ sym keeps.table);
  present = λ place edge there. ap (λ (t : List (Option Edge)). edges_of t place) keeps.table ∙ present place edge there;
}

pub ready-kept : (state : State) (a b : Learning) → IsReady state a → KeepsLearned a b → b.places ≡ a.places → AreAmong (flow_edges b.flow) (edges_of a.table) → b.flow.settles < 2 ^ 64 → IsReady state b
ready-kept state a b ready keeps places present small = record {
  sound = ready.sound;
  kept = learning-kept state a b ready.kept keeps present;
  listed = subst (λ (t : List (Option Edge)). AreListed b.places t) (sym keeps.table) (subst (λ (ps : List ℕ). AreListed ps a.table) (sym places) ready.listed);
  bounds = subst HasFlowBounds (sym keeps.table) ready.bounds;
  counts = record { added = subst (λ (n : ℕ). n < 2 ^ 64) (sym keeps.added) ready.counts.added; settles = small };
}

-- a conflict is added
store-added : (state : State) (b c : Learning) (branch : List Pick) (conflict : Learned) → IsStoreFor state b.store → HasAddedAt state.plan b c branch conflict → IsStoreFor state c.store
store-added state b c branch conflict is has = record {
  table = subst (λ (t : List (Option Edge)). IsTableOf state t) (sym has.adds.table) is.table;
  sound = has.sound;
  literals = λ key. elim (cases_eq key has.key) [
    | inl same ↦ subst (λ (k : ℕ). Has (conflict_at c.store k)) (sym same) (subst Has (sym has.adds.there) has.literals)
    | inr differs ↦ subst Has (sym (has.adds.others key differs)) (is.literals key)
  ];
}
  where
    Has : Option Learned → Type 0
    Has o = IfSome o (λ (l : Learned). AreLiteralsOf state.plan (places_in l.pairs) l.literals)

pub learning-added : (state : State) (b c : Learning) (branch : List Pick) (conflict : Learned) → IsLearningFor state b → HasAddedAt state.plan b c branch conflict → IsLearningFor state c
learning-added state b c branch conflict is has = record {
  store = store-added state b c branch conflict is.store has;
  table = has.adds.table ∙ (is.table ∙ sym has.table);
  present = λ place edge there.
      ap (λ (t : List (Option Edge)). edges_of t place) has.table ∙ is.present place edge (ap (λ (f : FlowState). flow_edges f place) (sym has.flow) ∙ there);
}

pub ready-added : (state : State) (b c : Learning) (branch : List Pick) (conflict : Learned) → IsReady state b → HasAddedAt state.plan b c branch conflict → IsReady state c
ready-added state b c branch conflict ready has = record {
  sound = ready.sound;
  kept = learning-added state b c branch conflict ready.kept has;
  listed = subst (λ (t : List (Option Edge)). AreListed c.places t) (sym has.table) (subst (λ (ps : List ℕ). AreListed ps b.table) (sym has.places) ready.listed);
  bounds = subst HasFlowBounds (sym has.table) ready.bounds;
  counts = record {
    added = subst (λ (n : ℕ). n < 2 ^ 64) (sym has.added) (raised-small 1 b.added);
    settles = subst (λ (f : FlowState). f.settles < 2 ^ 64) (sym has.flow) ready.counts.settles;
  };
}
