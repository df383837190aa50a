use Rattle.std.proofs.Common.{arith}
use Rattle.std.proofs.KnownBytes.{Consumes-kept}
use Rattle.uhura.proofs.Taking.{consumes_more, passes_limit}
use Rattle.uhura.proofs.bytes.read_all.Goals as goal

pub returns-in-Err-clause-some : goal.returns-in-Err-clause-some
returns-in-Err-clause-some g c =
    (_, Consumes-kept _ _ _ _ c.pieces.invariant.taken.taken c.in-Err.ensures.bytes, c.pieces.invariant.taken.within)

pub returns-then-given-len-clause-some : goal.returns-then-given-len-clause-some
returns-then-given-len-clause-some g c =
    passes_limit c.pieces.invariant.taken _ _ _ c.in-Ok.ensures.bound.0 (omega (arith, c.if-given-len.true, c.len.ensures)) c.in-Ok.ensures.bytes.0

pub returns-in-Err-extend_from_slice-clause-some : goal.returns-in-Err-extend_from_slice-clause-some
returns-in-Err-extend_from_slice-clause-some g c = (_, consumes_more c.pieces.invariant.taken _ _ c.in-Ok.ensures.bytes.0)
