-- What the first picks cost, one pick after another.
use Rattle.std.proofs.Common.{◌≡◌, ℕ, ◌+◌, ◌<◌, List, [], ◌∷◌, refl, arith, suc, zero, length, take}
use Rattle.uhura_plan.specs.declared.choice.Choice.{Choice}
use Rattle.uhura_choice.specs.declared.prefix.Pick.{Pick}
use Rattle.uhura_choice.specs.Branch.{cost_at, picked_cost}

-- no picks cost nothing
pub picked-none : (cs : List Choice) → picked_cost cs [] ≡ 0
picked-none [] = refl
picked-none (c ∷ cs) = refl

-- one pick more costs what it costs
picked-suc : (cs : List Choice) (picks : List Pick) (i : ℕ) → i < length picks → picked_cost cs (take (suc i) picks) ≡ picked_cost cs (take i picks) + cost_at cs picks i
picked-suc [] picks i below = omega arith
picked-suc (c ∷ cs) [] i below = absurd (omega arith)
picked-suc (c ∷ cs) (x ∷ picks) zero below = omega (arith, picked-none cs)
picked-suc (c ∷ cs) (x ∷ picks) (suc i) below = omega (arith, picked-suc cs picks i (omega arith))

pub picked-more : (cs : List Choice) (picks : List Pick) (i : ℕ) → i < length picks → picked_cost cs (take (i + 1) picks) ≡ picked_cost cs (take i picks) + cost_at cs picks i
picked-more cs picks i below = let next : i + 1 ≡ suc i = omega arith in rw next (picked-suc cs picks i below)
