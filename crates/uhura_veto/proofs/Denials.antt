-- Whether some denial is the first, and that the literals of a denial aren't none.
use Rattle.std.proofs.Common.{◌≡◌, ℕ, ◌≤◌, Bool, true, false, List, [], ◌∷◌, length, find, Option, Some, is_some, refl, ap, ◌∙◌, arith}
use Rattle.std.specs.List.{list_any}
use Rattle.std.proofs.lemmas.List.{length-map}
use Rattle.uhura_plan.specs.declared.guard.Literal.{Literal}
use Rattle.uhura_plan.specs.Edits.{AreLiteralsOf}
use Rattle.uhura_plan.specs.Find.{literal_named}
use Rattle.uhura_plan.specs.Lists.{Lists}
use Rattle.uhura_choice.specs.declared.prefix.Pick.{Pick}
use Rattle.uhura_veto.specs.declared.veto.Veto.{Veto}
use Rattle.uhura_veto.specs.Denial.{denies, is_denied}

-- a first one that passes is there where one passes
is_some-find : {X : Type 0} (p : X → Bool) (xs : List X) → is_some (find p xs) ≡ list_any p xs
is_some-find p [] = refl
is_some-find p (x ∷ xs) = by (p x) refl (is_some-find p xs)
  where
    by : (b : Bool) → p x ≡ b → is_some (find p xs) ≡ list_any p xs → is_some (find p (x ∷ xs)) ≡ list_any p (x ∷ xs)
    by true passes rest = rw passes refl
    by false fails rest = rw fails rest

pub is_denied-found : (vetoes : List Veto) (picks : List Pick) (first : Option Veto) → first ≡ find (denies picks) vetoes → is_some first ≡ is_denied vetoes picks
is_denied-found vetoes picks first is = ap is_some is ∙ is_some-find (denies picks) vetoes

-- as many literals as names
pub some_literals : (plan : Lists) (names : List (List ℕ × List ℕ)) (literals : List Literal) → AreLiteralsOf plan names literals → 1 ≤ length names → 1 ≤ length literals
some_literals plan names literals are some =
    omega (arith, some, length-map literals (λ l. Some l), ap length are, length-map names (literal_named plan))
