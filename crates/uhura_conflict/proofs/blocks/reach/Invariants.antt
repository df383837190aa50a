use Rattle.std.proofs.Common.{◌≡◌, ◌≤◌, ℕ, length, get_or, None}
use Rattle.uhura_conflict.proofs.blocks.reach.Given as goal

-- what came to the list has no entry
abbrev pub invariant-loop : goal.invariant-loop
invariant-loop l = (l.counter ≤ length l.blocks.items) × ((block : ℕ) → get_or l.blocks.items block None ≡ get_or l.initial.blocks.items block None)
