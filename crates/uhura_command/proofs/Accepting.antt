-- Tests that fail refuse nothing.
use Rattle.std.proofs.Common.{◌≡◌, ℤ, Bool, true, false, List, ◌∷◌, Option, None, Some, int_lt, refl, arith}
use Rattle.std.proofs.lemmas.Bool.Decides.{nat_tests}
use Rattle.std.proofs.lemmas.Int.{ints}
use Rattle.uhura_plan.specs.declared.refusal.EditRefusal.{EditRefusal}
use Rattle.uhura_plan.specs.Limits.{AreOrdered}
use Rattle.uhura_plan.specs.Refusals.{refuse_if, first_of, empty_between}

-- a test that fails refuses nothing
pub passed : (test : Bool) (refusal : EditRefusal) → test ≡ false → refuse_if test refusal ≡ None
passed false refusal fails = refl
passed true refusal fails = let no : ⊥ = cc in absurd no

-- where the first refusal isn't there, the others decide
pub none_then : (refusal : Option EditRefusal) (later : List (Option EditRefusal)) → refusal ≡ None → first_of later ≡ None → first_of (refusal ∷ later) ≡ None
none_then None later none rest = rest
none_then (Some refusal) later none rest = let no : ⊥ = cc in absurd no

-- bounds in order aren't refused
pub not_empty : (lower upper : Option ℤ) → AreOrdered lower upper → empty_between lower upper ≡ None
not_empty None upper ordered = refl
not_empty (Some lower) None ordered = refl
not_empty (Some lower) (Some upper) ordered = passed (int_lt upper lower) _ (grind (arith, ints, nat_tests))
