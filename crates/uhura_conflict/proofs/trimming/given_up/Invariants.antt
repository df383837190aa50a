use Rattle.std.proofs.Common.{◌≡◌, ◌+◌, drop}
use Rattle.uhura_conflict.specs.Entries.{pairs_among}
use Rattle.uhura_conflict.proofs.trimming.given_up.Given as goal

-- the pairs behind the place and what is left are what there may be
abbrev pub invariant-loop-place : goal.invariant-loop-place
invariant-loop-place l = pairs_among l.entries (drop l.place l.order) + l.left ≡ l.most
