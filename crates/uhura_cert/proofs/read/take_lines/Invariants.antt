use Rattle.std.proofs.Common.{take}
use Rattle.uhura_cert.specs.Reading.{Stands}
use Rattle.uhura_cert.proofs.read.take_lines.Given as goal

-- the bytes before this one stand
abbrev pub invariant-loop-byte : goal.invariant-loop-byte
invariant-loop-byte l = Stands (take l.byte-index l.bytes) l.cutter l.progress
