-- A guard's array with one more literal.
use Rattle.std.proofs.Common.{ℕ, ◌+◌, ◌-◌, ◌<◌, List, drop, set, replicate, arith, ap, sym, ◌∙◌}
use Rattle.std.proofs.lemmas.List.{drop-drop, drop-set-lt, drop-replicate}
use Rattle.std.proofs.lemmas.Grind.{common_steps}
use Rattle.uhura_plan.specs.declared.limits.TheConstants.{LITERALS}
use Rattle.uhura_plan.specs.declared.guard.Literal.{Literal}
use Rattle.uhura_plan.specs.Guard.{HoldsLiterals, no_literal}

-- a literal written behind the others is held beside them
pub holds_added : (literals : List Literal) (len : ℕ) (literal : Literal) → HoldsLiterals literals len → len < LITERALS → HoldsLiterals (set literals len literal) (len + 1)
holds_added literals len literal held room = record {
  capacity = grind (arith, common_steps);
  fits = omega (arith, room);
  padding =
      drop-set-lt (len + 1) literals len literal (omega arith)
      ∙ (sym (drop-drop 1 len literals)
      ∙ (ap (drop 1) held.padding
      ∙ (drop-replicate 1 (LITERALS - len) no_literal
      ∙ ap (λ n. replicate n no_literal) (omega arith))));
}
