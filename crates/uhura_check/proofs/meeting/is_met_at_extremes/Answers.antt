use Rattle.std.proofs.Common.{sym, ◌∙◌, true≢false}
use Rattle.uhura_check.proofs.meeting.is_met_at_extremes.Goals as goal

pub returns-then-is_long_enough : goal.returns-then-is_long_enough
returns-then-is_long_enough c = λ branch. (
  λ so. record { lower = (c.is_long_enough.ensures branch).0 c.if-is_long_enough.true; upper = (c.is_short_enough.ensures branch).0 so },
  λ at. (c.is_short_enough.ensures branch).1 at.upper,
)

pub returns-else-is_long_enough : goal.returns-else-is_long_enough
returns-else-is_long_enough c = λ branch. (
  λ so. absurd (true≢false (sym so ∙ c.if-is_long_enough.false)),
  λ at. (c.is_long_enough.ensures branch).1 at.lower,
)
