use Rattle.std.proofs.Common.{sym, ◌∙◌}
use Rattle.uhura_check.proofs.Leaving.{no-front}
use Rattle.uhura_check.proofs.covering.is_no_proper_front.Goals as goal

pub returns-then-is_ne : goal.returns-then-is_ne
returns-then-is_ne c = (
  λ so begins. absurd (no-front c.compare.result c.args.prefix.now c.args.branch.now c.compare.ensures (sym c.is_ne.ensures ∙ c.if-is_ne.true) begins),
  λ same. c.if-is_ne.true,
)
