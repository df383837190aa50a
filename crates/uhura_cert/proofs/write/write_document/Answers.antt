use Rattle.std.proofs.Common.{List, ap, subst, ◌∙◌}
use Rattle.uhura_cert.specs.declared.document.Shared.{Shared}
use Rattle.uhura_cert.specs.declared.document.Leaf.{Leaf}
use Rattle.uhura_cert.specs.Document.{Document, IsDocument}
use Rattle.uhura_cert.specs.Items.{text_of}
use Rattle.uhura_cert.proofs.ReadBack.{text_read_back}
use Rattle.uhura_cert.proofs.write.write_document.Goals as goal

pub returns-clause-reads_back : goal.returns-clause-reads_back
returns-clause-reads_back c =
    let i = c.document.inside in
    let with : List Shared → List Leaf → Document = λ ss ls. record { version = i.version; state = i.state; answer = i.answer; shared = ss; leaves = ls } in
    text_read_back c.args.document.now c.in_ok-text.text.items (subst IsDocument c.document.view_is c.document.invariant)
    (c.in_ok-text.ensures
    ∙ ap (λ (ss : List Shared). text_of (with ss c.as_slice-2.result.now)) c.as_slice.ensures
    ∙ ap (λ (ls : List Leaf). text_of (with i.shared ls)) c.as_slice-2.ensures
    ∙ ap text_of c.document.view_is)
