-- Raising the potentials of the reached nodes one after another.
use Rattle.std.proofs.Common.{◌≡◌, ◌≢◌, ℕ, ◌+◌, ◌<◌, ◌≤◌, ℤ, pos, ◌+ℤ◌, ◌-ℤ◌, List, length, set, ap, ◌∙◌, inl, inr, arith}
use Rattle.std.proofs.lemmas.Bool.{cases_eq, cases_lt}
use Rattle.std.proofs.lemmas.Int.{ints}
use Rattle.std.proofs.lemmas.List.{get_or-set_same, get_or-set_other}
use Rattle.uhura_net.specs.Edges.{time_at}
use Rattle.uhura_path.specs.declared.found.Found.{Found}
use Rattle.uhura_path.specs.Found.{IsReached, IsLifted}

-- the nodes with the first places are raised, and all others are as they were
pub record IsLiftedSoFar (cost : ℕ) (distance place : ℕ → ℕ) (count : ℕ) (old new : ℕ → ℤ) : Type 0 where
  pub raised : (node : ℕ) → place node < count → new node ≡ old node +ℤ (pos cost -ℤ pos (distance node))
  pub others : (node : ℕ) → count ≤ place node → new node ≡ old node

-- one more is raised
pub IsLiftedSoFar-more : (cost : ℕ) (distance place : ℕ → ℕ) (count at : ℕ) (first potentials : List ℤ) (value : ℤ) → place at ≡ count → at < length potentials →
    ((node : ℕ) → place node ≡ count → node ≡ at) → value ≡ time_at potentials at +ℤ (pos cost -ℤ pos (distance at)) →
    IsLiftedSoFar cost distance place count (time_at first) (time_at potentials) → IsLiftedSoFar cost distance place (count + 1) (time_at first) (time_at (set potentials at value))
IsLiftedSoFar-more cost distance place count at first potentials value here inside alone is so_far = record {
  raised = λ node below.
      elim (cases_eq node at) [
        | inl same ↦
            let written : time_at (set potentials at value) node ≡ value = ap (time_at (set potentials at value)) same ∙ get_or-set_same potentials at value (pos 0) inside in
            let far : distance node ≡ distance at = ap distance same in
            let before : time_at first node ≡ time_at first at = ap (time_at first) same in
            omega (arith, ints, so_far.others at)
        | inr other ↦
            let stays : time_at (set potentials at value) node ≡ time_at potentials node = get_or-set_other potentials at node value (pos 0) other in
            let apart : place node ≢ count = λ same. other (alone node same) in
            stays ∙ so_far.raised node (omega arith)
      ];
  others = λ node behind.
      let apart : node ≢ at = λ same. let there : place node ≡ place at = ap place same in absurd (omega arith) in
      get_or-set_other potentials at node value (pos 0) apart ∙ so_far.others node (omega arith);
}

-- after all, each node is raised by what its distance is below the cost
pub IsLifted-done : (found : Found) (distance : ℕ → ℕ) (reached : IsReached found distance) (count : ℕ) (old new : ℕ → ℤ) → length found.reached.now ≤ count →
    IsLiftedSoFar found.cost distance reached.place count old new → IsLifted found.cost distance old new
IsLifted-done found distance reached count old new all so_far node =
    elim (cases_lt (reached.place node) count) [
      | inl below ↦ so_far.raised node below
      | inr behind ↦ omega (arith, ints, so_far.others node behind, reached.others node (omega arith))
    ]
