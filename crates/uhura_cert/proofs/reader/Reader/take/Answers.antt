use Rattle.std.proofs.Common.{subst}
use Rattle.uhura_item.specs.Read.{ReadsItem}
use Rattle.uhura_cert.specs.Reading.{spot_of}
use Rattle.uhura_cert.proofs.ReadLines.{stepped}
use Rattle.uhura_cert.proofs.reader.Reader.take.Goals as goal

pub returns : goal.returns
returns c =
    let read = subst (ReadsItem c.args.line.now) c.in-Some.is c.in_ok-item.ensures in
    stepped c.args.line.now c.in-Some.item (spot_of c.args.self.now) (spot_of c.step.new.self) c.step.result read.0 read.1 c.step.ensures
