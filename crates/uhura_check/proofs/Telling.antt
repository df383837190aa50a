-- What is told of some conditions is told of more of them.
use Rattle.std.proofs.Common.{◌≡◌, ℕ, ◌+◌, List, [], ◌∷◌, ◌++◌, None, Some, Option, sym, subst}
use Rattle.std.specs.Prelude.{All}
use Rattle.std.proofs.lemmas.List.Elements.{All-append, All-cons, All-nil}
use Rattle.uhura_veto.specs.State.{State}
use Rattle.uhura_shows.specs.Shows.{Answer}
use Rattle.uhura_check.specs.declared.refusal.Code.{Code}
use Rattle.uhura_check.specs.declared.failure.Failure.{Failure}
use Rattle.uhura_check.specs.Conditions.{Condition, Holds, code_of}
use Rattle.uhura_check.specs.Firsts.{IsFirstNot}
use Rattle.uhura_check.specs.Table.{Asked, each_line, IsKept, FailsFirst}
use Rattle.uhura_check.specs.Failure.{told, IsToldFirst, Tells}
use Rattle.uhura_check.proofs.Failing.{fails-left, fails-right, fails-head, each-fails}

module _ (state : State) (answer : Answer) where
  -- what fails first is told with its code and its line
  pub tells-first : (asks : List Asked) (f : Failure) (code : Code) (line : ℕ) → FailsFirst state answer asks code line → f.code ≡ code → f.line ≡ told line → IsToldFirst state answer asks f
  tells-first asks f code line first is_code is_told = record {
    line = line;
    fails = subst (λ (c : Code). FailsFirst state answer asks c line) (sym is_code) first;
    is_told = is_told;
  }

  -- more behind what fails
  pub tells-stays : (xs ys : List Asked) (f : Failure) → IsToldFirst state answer xs f → IsToldFirst state answer (xs ++ ys) f
  tells-stays xs ys f first = record {
    line = first.line;
    fails = fails-left state answer xs ys f.code first.line first.fails;
    is_told = first.is_told;
  }

  -- others that hold before them
  pub tells-behind : (xs ys : List Asked) (found : Option Failure) → All (IsKept state answer) xs → Tells state answer ys found → Tells state answer (xs ++ ys) found
  tells-behind xs ys None kept tells = All-append (IsKept state answer) xs ys kept tells
  tells-behind xs ys (Some f) kept tells = record {
    line = tells.line;
    fails = fails-right state answer xs ys f.code tells.line kept tells.fails;
    is_told = tells.is_told;
  }

  -- one that holds before them
  pub tells-next : (asked : Asked) (rest : List Asked) (found : Option Failure) → IsKept state answer asked → Tells state answer rest found → Tells state answer (asked ∷ rest) found
  tells-next asked rest found kept tells = tells-behind (asked ∷ []) rest found (All-cons (IsKept state answer) asked [] kept (All-nil (IsKept state answer))) tells

  -- the first of them
  pub tells-head : (asked : Asked) (rest : List Asked) (f : Failure) → (IsKept state answer asked → ⊥) → f.code ≡ code_of asked.condition → f.line ≡ told asked.line → IsToldFirst state answer (asked ∷ rest) f
  tells-head asked rest f fails is_code is_told = tells-first (asked ∷ rest) f (code_of asked.condition) asked.line (fails-head state answer asked rest fails) is_code is_told

  -- the first thing that isn't so
  pub tells-each : {A : Type 0} (condition : A → Condition) (code : Code) (line : ℕ) (xs : List A) (i : ℕ) (f : Failure) → ((x : A) → code_of (condition x) ≡ code) → IsFirstNot (λ x. Holds state answer (condition x)) xs i →
      f.code ≡ code → f.line ≡ told (line + i) → IsToldFirst state answer (each_line condition line xs) f
  tells-each condition code line xs i f coded first is_code is_told = tells-first (each_line condition line xs) f code (line + i) (each-fails state answer condition code line xs i coded first) is_code is_told
