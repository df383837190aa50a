use Rattle.std.proofs.Common.{◌∙◌, inl, inr, arith}
use Rattle.std.proofs.Math.Nat.{le_refl}
use Rattle.std.proofs.lemmas.List.{take_all}
use Rattle.uhura_text.proofs.LineLemmas.{shown-long_or_nil, shown-with_cr, shown-without_cr}
use Rattle.uhura_text.proofs.lines.shown_length.Goals as goal
use Rattle.uhura_text.proofs.lines.shown_length.Goals.{then-length-gt-LINE_LIMIT-via-then-length-gt-LINE_LIMIT, then-length-gt-LINE_LIMIT-via-else-length-gt-LINE_LIMIT+then-length-eq0}

pub returns-then-length-gt-LINE_LIMIT-clause-shown :
    goal.returns-then-length-gt-LINE_LIMIT-clause-shown
returns-then-length-gt-LINE_LIMIT-clause-shown c =
    elim c.then-length-gt-LINE_LIMIT.branch [
      | then-length-gt-LINE_LIMIT-via-then-length-gt-LINE_LIMIT w ↦ shown-long_or_nil _ c.requires (inl (omega arith))
      | then-length-gt-LINE_LIMIT-via-else-length-gt-LINE_LIMIT+then-length-eq0 w ↦ shown-long_or_nil _ c.requires (inr (omega arith))
    ]

pub returns-then-line-length-eq13-clause-shown : goal.returns-then-line-length-eq13-clause-shown
returns-then-line-length-eq13-clause-shown c = shown-with_cr _ (omega arith) c.if-line-length-eq13.true

pub returns-else-line-length-eq13-clause-shown : goal.returns-else-line-length-eq13-clause-shown
returns-else-line-length-eq13-clause-shown c =
    take_all _ _ (le_refl _) ∙ shown-without_cr _ (omega arith) c.if-line-length-eq13.false
