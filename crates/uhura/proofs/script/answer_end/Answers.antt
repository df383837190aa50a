use Rattle.uhura.proofs.Sending.{Sent-written, Sent-failed, end-sent}
use Rattle.uhura.proofs.script.answer_end.Goals as goal

pub returns-in-Ok-clause-end : goal.returns-in-Ok-clause-end
returns-in-Ok-clause-end g c =
    let fed = c.in-Ok.ensures.end in
    end-sent _ _ _ _ _ fed (Sent-written _ _ _ _ _ _ c.requires (λ e. cc) fed.told c.send.ensures.sent)

pub returns-in-Err-NoMemory-clause-end : goal.returns-in-Err-NoMemory-clause-end
returns-in-Err-NoMemory-clause-end g c =
    let fed = rw c.in-Err-NoMemory.field-0-is at c.in-Err-NoMemory.ensures.end in
    end-sent _ _ _ _ _ fed (Sent-written _ _ _ _ _ _ c.requires (λ e. cc) fed.told c.send-in-Err-NoMemory.ensures.sent)

pub returns-in-Err-WriteFault-clause-end : goal.returns-in-Err-WriteFault-clause-end
returns-in-Err-WriteFault-clause-end g c =
    let fed = rw c.in-Err-WriteFault.field-0-is at c.in-Err-WriteFault.ensures.end in
    end-sent _ _ _ _ _ fed (Sent-failed _ (record { written = _; waiting = c.finish.new.outbox }) _ c.requires fed.told)
