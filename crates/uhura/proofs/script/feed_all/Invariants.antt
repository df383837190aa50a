use Rattle.std.proofs.Common.{◌≡◌, take, Ok}
use Rattle.uhura.specs.Script.{FeedsBytes}
use Rattle.uhura.proofs.script.feed_all.Given as goal

-- the bytes before this one are answered, and the sink hasn't failed
abbrev pub invariant-loop-byte : goal.invariant-loop-byte
invariant-loop-byte g l = record {
  fed : FeedsBytes (take l.byte-index l.bytes)
      (record {
        reading = l.initial.lines;
        state = l.initial.session.state;
        told = record { written = g.K.Sink.written l.initial.sink; waiting = l.initial.outbox };
      })
      (record {
        reading = l.lines;
        state = l.session.state;
        told = record { written = g.K.Sink.written l.sink; waiting = l.outbox };
      }) (Ok l.refused);
  faults : g.K.Sink.faults l.sink ≡ g.K.Sink.faults l.initial.sink;
}
