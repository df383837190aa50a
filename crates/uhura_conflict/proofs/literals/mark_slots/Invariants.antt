use Rattle.std.proofs.Common.{take}
use Rattle.uhura_conflict.specs.Learned.{places_in}
use Rattle.uhura_conflict.specs.Gathered.{AreUsedSlots}
use Rattle.uhura_conflict.proofs.literals.mark_slots.Given as goal

-- the slots of the first places are marked
abbrev pub invariant-loop-place : goal.invariant-loop-place
invariant-loop-place l = AreUsedSlots (take l.place-index (places_in l.pairs)) l.used
