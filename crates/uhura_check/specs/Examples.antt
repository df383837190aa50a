-- Worked documents, on which the definitions are tried: two alternatives, one of which is free of a clash.
use Rattle.std.specs.Prelude.{ℕ, List, [], ◌∷◌, map, Some}
use Rattle.uhura_worst.specs.Examples.{two_sides}
use Rattle.uhura_shows.specs.Examples.{left, right, clash_by}
use Rattle.uhura_cert.specs.declared.document.Proposal.{Proposal}
use Rattle.uhura_cert.specs.declared.document.Shared.TheVariants as shared
use Rattle.uhura_cert.specs.declared.document.Reason.{Reason}
use Rattle.uhura_cert.specs.declared.document.Reason.TheVariants.{Flow, Entry}
use Rattle.uhura_cert.specs.Document.{Document}
use Rattle.uhura_check.specs.declared.refusal.Code.{Code}
use Rattle.uhura_check.specs.Conditions.{code_of}
use Rattle.uhura_check.specs.Table.{asks_of}

-- the left one, with both events at 0
abbrev pub left_for : ℕ → Proposal
left_for cost = record {
  cost = cost;
  picks = record { choice = 0; alternative = 0 } ∷ [];
  loosening = [];
  times = 0 ∷ 0 ∷ [];
}

-- a leaf for each of the two, with these reasons, and the left one for this cost as the answer
abbrev pub by_reasons : ℕ → Reason → Reason → Document
by_reasons cost on_left on_right = record {
  version = 1;
  state = two_sides;
  answer = Some (left_for cost);
  shared = [];
  leaves = record { prefix = left; reason = on_left }
      ∷ record { prefix = right; reason = on_right } ∷ [];
}

-- no units on the left, and these on the right: on the bound that may be loosened, and on the one that may not
abbrev pub document_with : ℕ → ℕ → ℕ → Document
document_with cost loosened firm = by_reasons cost (Flow []) (Flow (clash_by loosened firm))

-- the same with the units in shared entries, which the leaves use by these numbers
abbrev pub shared_with : ℕ → ℕ → ℕ → ℕ → Document
shared_with loosened firm one other = record (by_reasons 5 (Entry one) (Entry other)) {
  version = 2;
  shared = shared.Flow [] ∷ shared.Flow (clash_by loosened firm) ∷ [];
}

-- the codes and the lines of all that is asked of a document
abbrev pub codes_and_lines : Document → List (Code × ℕ)
codes_and_lines d = map (λ asked. (code_of asked.condition, asked.line)) (asks_of d)
