use Rattle.uhura.proofs.Taking.{verdict_leaves}
use Rattle.uhura.proofs.document.check_document.Goals as goal

pub returns-in-Ok-clause-outcome : goal.returns-in-Ok-clause-outcome
returns-in-Ok-clause-outcome g c = let all = c.in-Ok.ensures.all in
    record {
      bytes = c.in-Ok.bytes.items;
      taken = all.taken;
      leaves =
          verdict_leaves c.tell_verdict.result c.in-Ok.bytes.items
          (record { left = g.S.Source.left c.args.source.now; written = g.K.Sink.written c.args.sink.now })
          (record { left = g.S.Source.left c.read_all.new.source; written = g.K.Sink.written c.tell_verdict.new.sink })
          all.end all.within (rw c.deref.ensures.value at c.tell_verdict.ensures.told);
    }
