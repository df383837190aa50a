use Rattle.std.proofs.Common.{ℕ, List}
use Rattle.uhura_path.specs.declared.front.Front.{Front}
use Rattle.uhura_path.specs.Quest.{aim_of}
use Rattle.uhura_path.specs.Search.{IsClosed}
use Rattle.uhura_path.proofs.Backtrack.{IsTraced}
use Rattle.uhura_path.proofs.tracing.trace.Given as goal

-- the steps so far are written down, and there is a next one
abbrev pub invariant-loop-count : goal.invariant-loop-count
invariant-loop-count l = (taken : ℕ) (order : List ℕ) (front : Front) (closed : IsClosed (aim_of l.quest) taken l.labels order front l.fn.closing) →
    IsTraced (aim_of l.quest) taken (record { labels = l.labels; order = order; front = front }) closed.over.spreads.place l.count l.step l.least l.places l.backward
