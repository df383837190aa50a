use Rattle.std.proofs.Common.{refl, ◌∙◌}
use Rattle.uhura.proofs.Standing.{bytes-none, piece-more, piece-stopped}
use Rattle.uhura.proofs.script.feed_all.Goals as goal

pub loop-byte-init : goal.loop-byte-init
loop-byte-init g c = record { fed = bytes-none _; faults = refl }

pub returns-in-Err-clause-bytes : goal.returns-in-Err-clause-bytes
returns-in-Err-clause-bytes g c =
    piece-stopped _ _ _ _ _ _ _ c.loop-byte-test.true c.loop-byte.invariant.fed c.in-Err.ensures.bytes

pub loop-byte-preserved : goal.loop-byte-preserved
loop-byte-preserved g c = record {
  fed = piece-more _ _ _ _ _ _ _ c.loop-byte-test.true c.loop-byte.invariant.fed c.in-Ok.ensures.bytes;
  faults = c.in-Ok.ensures.cause ∙ c.loop-byte.invariant.faults;
}
