use Rattle.std.proofs.Common.{refl, arith, ◌∙◌}
use Rattle.uhura.proofs.Pieces.{Going-start, Going-more, Runs-read_fault, Runs-stopped, Runs-too_long, Runs-ended}
use Rattle.uhura.proofs.script.answer_script.Goals as goal

pub pieces-init : goal.pieces-init
pieces-init g c = record {
  going = Going-start _ _ _ c.requires.fresh c.requires.begins;
  none = c.requires.empty;
  source_faults = refl;
  sink_faults = refl;
}

pub returns-in-Err-clause-outcome : goal.returns-in-Err-clause-outcome
returns-in-Err-clause-outcome g c = Runs-read_fault c.pieces.invariant.going c.in-Err.ensures.bytes

pub returns-then-given-eq0-clause-outcome : goal.returns-then-given-eq0-clause-outcome
returns-then-given-eq0-clause-outcome g c =
    let read = rw c.if-given-eq0.true at c.in-Ok.ensures.bytes in
    Runs-ended c.pieces.invariant.going _ read.0 (read.1 refl (omega arith)) c.end_status.ensures.end

pub returns-in-Err-answer_piece-clause-outcome : goal.returns-in-Err-answer_piece-clause-outcome
returns-in-Err-answer_piece-clause-outcome g c =
    rw c.status_of.ensures
    (Runs-stopped c.pieces.invariant.going _ _ _ _ c.in-Ok.ensures.bound.0 (omega arith) c.in-Ok.ensures.bytes.0 c.in-Err-answer_piece.ensures.bytes)

pub returns-then-given-room-clause-outcome : goal.returns-then-given-room-clause-outcome
returns-then-given-room-clause-outcome g c =
    Runs-too_long c.pieces.invariant.going _ _ _ c.in-Ok.ensures.bound.0 c.if-given-room.true (omega arith) c.in-Ok.ensures.bytes.0
    c.in-Ok-answer_piece.ensures.bytes

pub pieces-preserved : goal.pieces-preserved
pieces-preserved g c = record {
  going =
      Going-more c.pieces.invariant.going _ _ _ c.in-Ok.ensures.bound.0 c.if-given-room.false (omega arith) c.in-Ok.ensures.bytes.0
      c.in-Ok.ensures.count c.in-Ok-answer_piece.ensures.bytes;
  none = c.in-Ok-answer_piece.ensures.none;
  source_faults = c.in-Ok.ensures.cause ∙ c.pieces.invariant.source_faults;
  sink_faults = c.in-Ok-answer_piece.ensures.cause ∙ c.pieces.invariant.sink_faults;
}
