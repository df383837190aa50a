-- Leaves: a prefix of branches, and the reason why none of its branches has a better answer.
use Rattle.std.specs.Prelude.{ℕ, List, map}
use Rattle.uhura_plan.specs.declared.key.EdgeKey.{EdgeKey}
use Rattle.uhura_choice.specs.declared.prefix.Pick.{Pick}

-- the place of a denial among the vetoes, units on edges, or the edges of a walk
pub data LeafReason : Type 0 where
  Denied : ℕ → LeafReason
  Flow : List (EdgeKey × ℕ) → LeafReason
  Stuck : List EdgeKey → LeafReason

pub record LeafShown : Type 0 where
  pub prefix : List Pick
  pub reason : LeafReason

-- the prefixes of leaves, in their order
abbrev pub prefixes_of : List LeafShown → List (List Pick)
prefixes_of leaves = map (λ leaf. leaf.prefix) leaves
