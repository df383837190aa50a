-- What units are worth at the bounds of their edges.
use Rattle.std.specs.Prelude.{ℕ, ◌*◌, ◌≤◌, pos, negsuc, neg_ℤ, ◌≤ℤ◌, ℤ}
use Rattle.uhura_net.specs.declared.edge.TheConstants.{FIRM_CAPACITY}
use Rattle.uhura_net.specs.declared.edge.Edge.{Edge}

-- what units of so many edges may be worth, either way: the firm capacity at 2,000,000,000 on each
abbrev pub IsSmallWorth : ℕ → ℤ → Type 0
IsSmallWorth edges worth =
    (neg_ℤ (pos (edges * (FIRM_CAPACITY * 2000000000))) ≤ℤ worth)
    × (worth ≤ℤ pos (edges * (FIRM_CAPACITY * 2000000000)))

-- a bound and units that keep to that
pub record IsSmall (edge : Edge) (units : ℕ) : Type 0 where
  pub least : negsuc 1999999999 ≤ℤ edge.bound
  pub most : edge.bound ≤ℤ pos 2000000000
  pub few : units ≤ FIRM_CAPACITY
