-- The canonical text of a document has the document's lines, and is read as the same document.
use Rattle.std.proofs.Common.{◌≡◌, ℕ, List, take, Result, Ok, Err, ap, sym, subst, ◌∙◌}
use Rattle.uhura_text.specs.Lines.{lines}
use Rattle.uhura_item.proofs.ItemLines.{lines-items}
use Rattle.uhura_cert.specs.declared.document.DocumentRefusal.{DocumentRefusal}
use Rattle.uhura_cert.specs.declared.document.DocumentRefusal.TheVariants.{Malformed, Memory}
use Rattle.uhura_cert.specs.Order.{place_in}
use Rattle.uhura_cert.specs.Document.{Document, IsDocument}
use Rattle.uhura_cert.specs.Items.{items_of, text_of}
use Rattle.uhura_cert.specs.Text.{TextOf, Reads}
use Rattle.uhura_cert.specs.ReadsBack.{IsSameUpToSlots, IsReadAs, TextsReadBack}
use Rattle.uhura_cert.proofs.ItemsFit.{items_fit}
use Rattle.uhura_cert.proofs.PlainDocuments.{plain_document, has_plain}

pub text_read_back : (d : Document) (text : List ℕ) → IsDocument d → text ≡ text_of d → TextOf d (lines text)
text_read_back d text fits is = record {
  fits = fits;
  all = ap lines is ∙ lines-items (items_of d) (items_fit (place_in d.state.plan) d fits.state fits.parts);
}

-- a document's text is read as the plain one with the same lines, and never refused as malformed
read_as : (d : Document) (lines : List (List ℕ)) (result : Result Document DocumentRefusal) → TextOf d lines → Reads lines result → IsReadAs d result
read_as d lines (Ok e) text reads =
    let p = has_plain d text.fits in
    let same : p.plain ≡ e = reads.only p.plain (record { fits = plain_document p.plain p.is_plain; all = text.all ∙ sym p.same_lines }) p.is_plain.slots in
    subst (λ e. IsSameUpToSlots e d) same p.same
read_as d lines (Err (Malformed line)) text reads = reads.1.none (record { document = d; fits = text.fits; same = ap (take reads.0) (sym text.all) })
read_as d lines (Err (Memory error)) text reads = tt

pub all_read_back : TextsReadBack
all_read_back = read_as
