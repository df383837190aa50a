use Rattle.std.proofs.Common.{◌≡◌, subst}
use Rattle.std.proofs.lemmas.Result.{IfOk-weaker}
use Rattle.uhura_cert.specs.Document.{IsDocument}
use Rattle.uhura_cert.specs.Items.{text_of}
use Rattle.uhura_proof.specs.Proof.{IsProof}
use Rattle.uhura_proof.proofs.proof.proof_of.Goals as goal

pub returns : goal.returns
returns c =
    let made = c.in_ok-document.document in
    IfOk-weaker c.write_document.result (λ text. text.items ≡ text_of made) (λ text. IsProof c.args.state.now c.args.answer text.items)
    (λ text is. record {
      document = made;
      fits = subst IsDocument c.document.view_is c.document.invariant;
      proves = c.in_ok-document.ensures;
      is_text = is;
    }) c.write_document.ensures.text
