-- What the laws of the reader of documents say of all documents, and not of plain ones alone.
use Rattle.std.proofs.Common.{ℕ, ◌+◌, List, [], length, take, get_or, ap, ◌∙◌}
use Rattle.std.proofs.lemmas.List.{get_or_default}
use Rattle.uhura_cert.specs.Items.{lines_of}
use Rattle.uhura_cert.specs.Text.{IsFirstMalformed}
use Rattle.uhura_cert.specs.Machine.{start, done, IsPlain, Good, Takes}
use Rattle.uhura_cert.specs.OneByOne.{RefusedLinesAreMalformed, LinesEndTooEarly, TakenLinesAreRead}
use Rattle.uhura_cert.proofs.RunLaws.{IsFirstBy, refused_there, ends_early, is_fit, is_text, no_other}
use Rattle.uhura_cert.proofs.MachineLaws.{shown_lines, machine_laws}
use Rattle.uhura_cert.proofs.PlainDocuments.{plain_document, document_plain, has_plain}

-- the first line up to which no plain document agrees is that of all documents
first_malformed : (lines : List (List ℕ)) (first : ℕ) → IsFirstBy lines_of IsPlain lines first → IsFirstMalformed lines first
first_malformed lines first is = record {
  none = λ agrees.
      let e = has_plain agrees.document agrees.fits in
      is.none (record { document = e.plain; fits = e.is_plain; same = ap (take first) e.same_lines ∙ agrees.same });
  before = λ count below.
      let agrees = is.before count below in
      record { document = agrees.document; fits = plain_document agrees.document agrees.fits; same = agrees.same };
}

pub refused_lines : RefusedLinesAreMalformed
refused_lines = λ lines count s within run refused.
    first_malformed lines (count + 1)
    (refused_there Takes start Good shown_lines lines_of IsPlain done machine_laws lines count s (get_or lines count []) within (get_or_default lines count [] (get_or lines count []) within) run refused)

pub early_lines : LinesEndTooEarly
early_lines = λ lines s run unfinished.
    first_malformed lines (length lines + 1) (ends_early Takes start Good shown_lines lines_of IsPlain done machine_laws lines s run unfinished)

pub taken_lines : TakenLinesAreRead
taken_lines = λ lines d run.
    let plain : IsPlain d = is_fit Takes start Good shown_lines lines_of IsPlain done machine_laws lines d run in
    record {
      is_text = record { fits = plain_document d plain; all = is_text Takes start Good shown_lines lines_of IsPlain done machine_laws lines d run };
      slots = plain.slots;
      only = λ other text places.
          no_other Takes start Good shown_lines lines_of IsPlain done machine_laws lines d other run (document_plain other text.fits places) text.all;
    }
