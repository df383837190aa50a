-- When what is shown of a prefix is enough.
use Rattle.std.proofs.Common.{ℕ, ℤ, pos, Bool, List, subst, inl, inr}
use Rattle.std.specs.Prelude.{◌⊎◌, ◌≤ℤ◌}
use Rattle.std.specs.Bool.{Decides}
use Rattle.uhura_choice.specs.declared.prefix.Pick.{Pick}
use Rattle.uhura_choice.specs.Branch.{IsEarlier}
use Rattle.uhura_choice.specs.Order.{IsFrontOf}
use Rattle.uhura_choice.proofs.Earlier.{begins-not_earlier, begun-not_earlier}
use Rattle.uhura_check.specs.Reaches.{Reaches}

-- one that isn't earlier
pub reaches-not_earlier : (shown : ℤ) (cost : ℕ) (prefix branch : List Pick) (test : Bool) → (IsEarlier prefix branch → ⊥) → Decides test (pos cost ≤ℤ shown) → Decides test (Reaches shown cost prefix branch)
reaches-not_earlier shown cost prefix branch test never decides = (
  λ so. record { least = decides.0 so; more = λ earlier. absurd (never earlier) },
  λ reaches. decides.1 reaches.least,
)

-- one of which the one begins the other
pub front-not_earlier : (prefix branch : List Pick) → IsFrontOf prefix branch ⊎ IsFrontOf branch prefix → IsEarlier prefix branch → ⊥
front-not_earlier prefix branch (inl (rest, is)) earlier = begins-not_earlier prefix rest (subst (λ b. IsEarlier prefix b) is earlier)
front-not_earlier prefix branch (inr (rest, is)) earlier = begun-not_earlier branch rest (subst (λ p. IsEarlier p branch) is earlier)
