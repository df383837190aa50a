-- What is refused of vetoes: the first refusal of a list, in the one order of all edits.
use Rattle.std.specs.Prelude.{ℕ, List, [], ◌∷◌, length, Option, is_some, is_none}
use Rattle.uhura_plan.specs.Lists.{Lists}
use Rattle.uhura_plan.specs.Refusals.{refuse_if, first_of, full, unknown_in, repeated_in}
use Rattle.uhura_plan.specs.declared.refusal.EditRefusal.{EditRefusal}
use Rattle.uhura_plan.specs.declared.refusal.EditRefusal.TheVariants.{Taken, Unknown}
use Rattle.uhura_veto.specs.declared.limits.TheConstants.{VETOES}
use Rattle.uhura_veto.specs.declared.item.ItemKind.{ItemKind}
use Rattle.uhura_veto.specs.declared.veto.Veto.{Veto}
use Rattle.uhura_veto.specs.Find.{veto_named, item_named}

-- the refusal of a name that a veto has
abbrev pub taken : List Veto → List ℕ → Option EditRefusal
taken vetoes name = refuse_if (is_some (veto_named vetoes name)) Taken

-- as many vetoes are there as may be
abbrev pub full_of_vetoes : List Veto → Option EditRefusal
full_of_vetoes vetoes = full VETOES (length vetoes)

-- the first refusal of a denial. The names of the call are counted: its own is 0, those of its literals
-- follow
abbrev pub deny_refusal : Lists → List Veto → List ℕ → List (List ℕ × List ℕ) → Option EditRefusal
deny_refusal plan vetoes name literals = first_of (
    taken vetoes name
    ∷ unknown_in plan 1 literals
    ∷ repeated_in literals
    ∷ full_of_vetoes vetoes
    ∷ [])

-- the first refusal of a cap. The names of the call are counted: its own is 0, that of its item is 1
abbrev pub cap_refusal : Lists → List Veto → List ℕ → ItemKind → List ℕ → Option EditRefusal
cap_refusal plan vetoes name kind item = first_of (
    taken vetoes name
    ∷ refuse_if (is_none (item_named plan kind item)) (Unknown 1)
    ∷ full_of_vetoes vetoes
    ∷ [])

-- the refusal of a withdrawal of a veto that isn't there
abbrev pub withdraw_refusal : List Veto → List ℕ → Option EditRefusal
withdraw_refusal vetoes name = refuse_if (is_none (veto_named vetoes name)) (Unknown 0)
