-- What a branch picks, as literals.
use Rattle.std.specs.Prelude.{ℕ, ◌+◌, List, [], ◌∷◌}
use Rattle.uhura_plan.specs.declared.guard.Literal.{Literal}
use Rattle.uhura_choice.specs.declared.prefix.Pick.{Pick}
use Rattle.uhura_choice.specs.declared.prefix.Pick.TheVariants.{Alternative, Inactive}

-- what these entries pick, of which the first is of the choice at this place
abbrev pub literals_from : ℕ → List Pick → List Literal
literals_from place [] = []
literals_from place (Inactive ∷ picks) = literals_from (place + 1) picks
literals_from place (Alternative a ∷ picks) =
    record { choice = place; alternative = a } ∷ literals_from (place + 1) picks

-- what a branch picks, in the order of the choices
abbrev pub literals_of : List Pick → List Literal
literals_of branch = literals_from 0 branch
