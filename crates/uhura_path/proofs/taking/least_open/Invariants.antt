use Rattle.std.proofs.Common.{ℕ, ◌<◌, ◌≤◌, slice_index_or}
use Rattle.uhura_path.specs.Found.{label_at}
use Rattle.uhura_path.proofs.taking.least_open.Given as goal

-- the best so far
abbrev pub invariant-loop-at : goal.invariant-loop-at
invariant-loop-at l = record {
  from : l.fn.taken ≤ l.best;
  within : l.best < l.fn.count;
  least : (at : ℕ) → l.fn.taken ≤ at → at < l.at →
      (label_at l.labels (slice_index_or l.order l.best 0)).distance ≤ (label_at l.labels (slice_index_or l.order at 0)).distance;
}
