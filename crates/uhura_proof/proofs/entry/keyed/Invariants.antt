use Rattle.std.proofs.Common.{◌≡◌, take}
use Rattle.uhura_proof.specs.Entries.{keyed}
use Rattle.uhura_proof.proofs.entry.keyed.Given as goal

-- the first edges
abbrev pub invariant-loop-place : goal.invariant-loop-place
invariant-loop-place l = l.edges.items ≡ keyed (take l.place-index l.pairs)
