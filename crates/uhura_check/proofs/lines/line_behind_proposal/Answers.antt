use Rattle.std.proofs.Common.{length, ap, arith}
use Rattle.uhura_check.proofs.Lengths.{proposal-length}
use Rattle.uhura_check.proofs.lines.line_behind_proposal.Goals as goal

pub returns : goal.returns
returns c = λ plan fits. omega (
  arith,
  proposal-length plan c.args.proposal.now fits,
  c.line_after.ensures,
  c.line_after-picks.ensures,
  c.line_after-sides.ensures,
  c.line_after-times.ensures,
  c.line_after-2.ensures,
  ap length c.as_slice.ensures,
  ap length c.pairs.ensures.pairs,
  ap length c.as_slice-2.ensures,
)
