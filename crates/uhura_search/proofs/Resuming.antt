-- What is learned when the flow has moved is learned from where it stood.
use Rattle.std.proofs.Common.{◌≡◌, ◌⊎◌, ℕ, ◌+◌, List, length, Option, inl, inr, Result, Ok, Err, ap, sym, subst, ◌∙◌, arith}
use Rattle.std.specs.Prelude.{ℤ, IsTrue, IfSome, OnOk}
use Rattle.uhura_plan.specs.declared.choice.Choice.{Choice}
use Rattle.uhura_choice.specs.declared.prefix.Pick.{Pick}
use Rattle.uhura_choice.specs.Branch.{IsBranch}
use Rattle.uhura_veto.specs.State.{State}
use Rattle.uhura_conflict.specs.Learned.{Learned}
use Rattle.uhura_conflict.specs.Store.{Stored}
use Rattle.uhura_search.specs.declared.incumbent.Incumbent.{Incumbent}
use Rattle.uhura_search.specs.declared.learning.Learning.{Learning}
use Rattle.uhura_search.specs.Asked.{raised, AddsAll, HasLearned, LearnsSome, LearnsOrStops}
use Rattle.uhura_search.specs.Learning.{AreCounts, KeepsLearned, HasAddedAt, IsReachedAt, IsShutByValue, Closes}
use Rattle.uhura_search.specs.Shut.{IsDear, IsShut}
use Rattle.uhura_search.proofs.Bettering.{shut-all}
use Rattle.uhura_search.proofs.Learns.{learns-one, some-or_stops, stops-settled}
use Rattle.uhura_search.proofs.Still.{shut-more}
use Rattle.uhura_search.proofs.Values.{added-shut}

module _ (choices : List Choice) (a b c : Learning) (keeps : KeepsLearned a b) (still : b.flow.settles ≡ a.flow.settles) where
  has-after : (learned : List Learned) (settled : ℕ) → HasLearned choices b c learned settled → HasLearned choices a c learned settled
  has-after learned settled has = record {
    adds = subst (λ (s : Stored). AddsAll choices s learned c.store) keeps.store has.adds;
    added = has.added ∙ ap (raised (length learned)) keeps.added;
    settles = has.settles ∙ ap (raised settled) still;
    pushes = omega (arith, keeps.pushes, has.pushes);
    table = has.table ∙ keeps.table;
  }

  pub some-after : LearnsSome choices b c → LearnsSome choices a c
  some-after some = record { learned = some.learned; has_learned = has-after some.learned (length some.learned) some.has_learned }

  pub stops-after : LearnsOrStops choices b c → LearnsOrStops choices a c
  stops-after stops = record {
    learned = stops.learned;
    has_learned = elim stops.has_learned [
      | inl has ↦ inl (has-after stops.learned (length stops.learned) has)
      | inr has ↦ inr (has-after stops.learned (length stops.learned + 1) has)
    ];
  }

pub closes-after : (state : State) (a b c : Learning) (before after : Option Incumbent) (prefix : List Pick) → KeepsLearned a b → b.flow.settles ≡ a.flow.settles → Closes state b c before after prefix → Closes state a c before after prefix
closes-after state a b c before after prefix keeps still closes = record {
  learns = some-after state.plan.choices a b c keeps still closes.learns;
  reached = closes.reached;
  shut = closes.shut;
  kept = λ front shut. closes.kept front (subst (λ (s : Stored). IsShut state s before front) (sym keeps.store) shut);
}

-- A flow that is found stuck on the way to a branch closes it, when the walk is added.
module _ (state : State) (old stuck new : Learning) (branch : List Pick) (is_branch : IsBranch state.plan.choices branch) (keeps : KeepsLearned old stuck) (settles : stuck.flow.settles ≡ raised 1 old.flow.settles) where
  pub stuck-closes : (best : Option Incumbent) → IfSome best (IsReachedAt state) → (conflict : Learned) × IsTrue conflict.stuck × HasAddedAt state.plan stuck new branch conflict → Closes state old new best best branch
  stuck-closes best reached has = record {
    learns = learns-one state.plan old stuck new branch has.0 is_branch keeps settles has.2;
    reached = reached;
    shut = added-shut state stuck new branch has.0 best has.1 has.2;
    kept = λ front shut.
        shut-more state stuck.store new.store best front has.2.key has.0 has.2.adds (subst (λ (s : Stored). IsShut state s best front) (sym keeps.store) shut);
  }

  pub stuck-stops : AreCounts old → ((conflict : Learned) × IsTrue conflict.stuck × HasAddedAt state.plan stuck new branch conflict) ⊎ (new ≡ stuck) → LearnsOrStops state.plan.choices old new
  stuck-stops counts (inl has) = some-or_stops state.plan.choices old new (learns-one state.plan old stuck new branch has.0 is_branch keeps settles has.2)
  stuck-stops counts (inr same) = subst (λ (l : Learning). LearnsOrStops state.plan.choices old l) (sym same) (stops-settled state.plan.choices old stuck counts keeps settles)

-- what holds at an answer
pub on_ok_both : {T E : Type 0} (P Q : Type 0) (r : Result T E) → OnOk r P → OnOk r Q → OnOk r (P × Q)
on_ok_both P Q (Ok x) one other = (one, other)
on_ok_both P Q (Err e) one other = one

-- what is worth enough closes a branch, when it is added
pub dear-closes : (state : State) (old new : Learning) (branch : List Pick) (value : ℤ) (best : Option Incumbent) → IfSome best (IsReachedAt state) → IsDear state.plan best branch value → LearnsSome state.plan.choices old new →
    IsShutByValue new.store branch value → Closes state old new best best branch
dear-closes state old new branch value best reached dear learns by_value = record {
  learns = learns;
  reached = reached;
  shut = by_value state best dear;
  kept = λ front shut. shut-all state old.store new.store learns.learned best front learns.has_learned.adds shut;
}
