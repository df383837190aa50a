use Rattle.std.proofs.Common.{refl}
use Rattle.uhura.proofs.Sending.{Sent-written, Sent-failed, piece-sent}
use Rattle.uhura.proofs.script.answer_piece.Goals as goal

pub returns-in-Ok-clause-bytes : goal.returns-in-Ok-clause-bytes
returns-in-Ok-clause-bytes g c =
    let fed = c.in-Ok.ensures.bytes in
    piece-sent _ _ _ _ _ _ refl refl fed (Sent-written _ _ _ _ _ _ c.requires (λ e. cc) fed.told c.send.ensures.sent)

pub returns-in-Err-NoMemory-clause-bytes : goal.returns-in-Err-NoMemory-clause-bytes
returns-in-Err-NoMemory-clause-bytes g c =
    let fed = rw c.in-Err-NoMemory.field-0-is at c.in-Err-NoMemory.ensures.bytes in
    piece-sent _ _ _ _ _ _ refl refl fed (Sent-written _ _ _ _ _ _ c.requires (λ e. cc) fed.told c.send-in-Err-NoMemory.ensures.sent)

pub returns-in-Err-WriteFault-clause-bytes : goal.returns-in-Err-WriteFault-clause-bytes
returns-in-Err-WriteFault-clause-bytes g c =
    let fed = rw c.in-Err-WriteFault.field-0-is at c.in-Err-WriteFault.ensures.bytes in
    piece-sent _ _ _ _ _ _ refl refl fed (Sent-failed _ (record { written = _; waiting = c.feed_all.new.outbox }) _ c.requires fed.told)
