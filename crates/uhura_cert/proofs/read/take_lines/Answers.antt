use Rattle.std.proofs.Common.{[], ◌∷◌, ◌++◌, take, get_or, Result, subst, arith}
use Rattle.std.proofs.lemmas.List.{take_all}
use Rattle.uhura_cert.specs.declared.document.DocumentRefusal.{DocumentRefusal}
use Rattle.uhura_cert.specs.Reading.{Stands, AdvancesOver}
use Rattle.uhura_cert.proofs.LinesTaken.{nothing_stands, byte_refused, end_refused}
use Rattle.uhura_cert.proofs.read.take_lines.Goals as goal

pub loop-byte-init : goal.loop-byte-init
loop-byte-init c = nothing_stands c.args.cutter.now c.args.progress.now c.requires.fresh.0 c.requires.begins

pub returns-in-Err-clause-err : goal.returns-in-Err-clause-err
returns-in-Err-clause-err c =
    let bytes = c.args.bytes.now in
    let i = c.loop-byte.byte-index in
    byte_refused bytes i c.feed.new.cutter c.feed.new.progress c.in-Err.refusal c.loop-byte-test.true
    (subst (λ (r : Result (Unit {0}) DocumentRefusal). AdvancesOver (take i bytes ++ get_or bytes i 0 ∷ []) r c.feed.new.cutter c.feed.new.progress) c.in-Err.is
    (c.feed.ensures (take i bytes) c.loop-byte.invariant))

pub returns-clause-err : goal.returns-clause-err
returns-clause-err c =
    let bytes = c.args.bytes.now in
    let i = c.loop-byte.byte-index in
    end_refused bytes c.finish.new.progress c.finish.result
    (c.finish.ensures bytes (subst (λ l. Stands l c.loop-byte.cutter c.loop-byte.progress) (take_all i bytes (omega (arith, c.loop-byte-test.false))) c.loop-byte.invariant))
