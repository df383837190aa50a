use Rattle.std.proofs.Common.{◌≡◌, ◌/◌, ◌<◌, ℕ, length, get_or, None}
use Rattle.std.specs.Prelude.{IfSome}
use Rattle.slab.specs.Slab.{get}
use Rattle.uhura_conflict.specs.Summaries.{IsCoveredBy}
use Rattle.uhura_conflict.proofs.blocks.renew.Given as goal

-- the list is as long, and the entries under the first keys are covered
abbrev pub invariant-loop-key : goal.invariant-loop-key
invariant-loop-key l = (length l.blocks.items ≡ length l.fn.blocks.items) × ((key : ℕ) → key < l.key → IfSome (get l.entries key) (IsCoveredBy (get_or l.blocks.items (key / l.size) None)))
