use Rattle.std.proofs.Common.{◌≡◌, []}
use Rattle.uhura.proofs.Pieces.{Going}
use Rattle.uhura.proofs.script.answer_script.Given as goal

abbrev pub invariant-pieces : goal.invariant-pieces
invariant-pieces g l = record {
  going : Going (record { left = g.S.Source.left l.initial.source; written = g.K.Sink.written l.initial.sink }) (g.S.Source.left l.source)
      (g.S.Source.given l.initial.source) (g.S.Source.given l.source) l.room l.refused
      (record {
        reading = l.lines;
        state = l.session.state;
        told = record { written = g.K.Sink.written l.sink; waiting = l.outbox };
      });
  none : l.outbox ≡ [];
  source_faults : g.S.Source.faults l.source ≡ g.S.Source.faults l.initial.source;
  sink_faults : g.K.Sink.faults l.sink ≡ g.K.Sink.faults l.initial.sink;
}

-- each piece takes of the room that is left
abbrev pub decreases-pieces : goal.decreases-pieces
decreases-pieces g l = l.room
