-- Commands that are accepted one after another.
use Rattle.std.proofs.Common.{◌≡◌, ℕ, zero, suc, List, [], ◌∷◌, ◌++◌, length, map, Some, slice_get, refl, subst}
use Rattle.uhura_plan.specs.declared.uncertain.Uncertain.{Uncertain}
use Rattle.uhura_plan.specs.declared.choice.Choice.{Choice}
use Rattle.uhura_plan.specs.declared.requirement.Requirement.{Requirement}
use Rattle.uhura_veto.specs.State.{State}
use Rattle.uhura_line.specs.declared.command.Command.{Command}
use Rattle.uhura_command.specs.Apply.{Applies}
use Rattle.uhura_command.specs.Replay.{Makes}

-- the state with these lists in its plan, and no veto
abbrev pub state_with : List (List ℕ) → List Uncertain → List Choice → List Requirement → State
state_with events uncertains choices requirements = record {
  plan = record { events = events; uncertains = uncertains; choices = choices; requirements = requirements };
  vetoes = [];
}

-- commands that make a state, and then commands that go on from it
pub Makes-append : (first : State) (cs ds : List Command) (middle last : State) → Makes first cs middle → Makes middle ds last → Makes first (cs ++ ds) last
Makes-append first [] ds middle last makes more = subst (λ state. Makes state ds last) makes more
Makes-append first (c ∷ cs) ds middle last makes more = record { next = makes.next; applies = makes.applies; rest = Makes-append makes.next cs ds middle last makes.rest more }

-- the commands of the items of a list, each of which makes the next of some states
pub makes_each : {X : Type 0} (command : X → Command) (xs : List X) (at : ℕ → State) → ((i : ℕ) (x : X) → slice_get xs i ≡ Some x → Applies (at i) (command x) (at (suc i))) → Makes (at zero) (map command xs) (at (length xs))
makes_each command [] at step = refl
makes_each command (x ∷ xs) at step = record {
  next = at (suc zero);
  applies = step zero x refl;
  rest = makes_each command xs (λ i. at (suc i)) (λ i y there. step (suc i) y there);
}
