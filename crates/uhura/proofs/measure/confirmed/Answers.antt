use Rattle.std.proofs.Common.{subst}
use Rattle.uhura_cert.specs.Document.{IsDocument}
use Rattle.uhura.proofs.Measuring.{no_failure}
use Rattle.uhura.proofs.measure.confirmed.Goals as goal

pub unreachable-requires : goal.unreachable-requires
unreachable-requires c =
    no_failure c.args.document _ _ (subst IsDocument c.document.view_is c.document.invariant) c.requires (rw c.in-Err-NotConfirmed.field-0-is at c.in-Err-NotConfirmed.ensures.checks)
