-- What a list of vetoes always keeps, and what it keeps of a plan.
use Rattle.std.specs.Prelude.{◌≡◌, ℕ, ◌≤◌, ◌<◌, List, length, map, All, IsSome}
use Rattle.std.specs.Map.{keys_of, values_of}
use Rattle.uhura_plan.specs.Find.{requirement_in}
use Rattle.uhura_plan.specs.Limits.{IsAmount}
use Rattle.uhura_plan.specs.Lists.{Lists}
use Rattle.uhura_plan.specs.Sound.{IsName, AreDistinct, IsGuardAmong}
use Rattle.uhura_plan.specs.declared.guard.Literal.{Literal}
use Rattle.uhura_plan.specs.declared.key.Item.{Item}
use Rattle.uhura_plan.specs.declared.key.Item.TheVariants as item
use Rattle.uhura_veto.specs.declared.limits.TheConstants.{VETOES}
use Rattle.uhura_veto.specs.declared.veto.Veto.{Veto}
use Rattle.uhura_veto.specs.declared.veto.Veto.TheVariants.{Deny, Cap}

-- the name of a veto
abbrev pub veto_name : Veto → List ℕ
veto_name (Deny name literals) = name
veto_name (Cap name key units) = name

abbrev pub veto_names : List Veto → List (List ℕ)
veto_names vetoes = map veto_name vetoes

-- a cap has an amount
abbrev pub IsSoundVeto : Veto → Type 0
IsSoundVeto (Deny name literals) = Unit {0}
IsSoundVeto (Cap name key units) = IsAmount units

-- the veto's name is one
abbrev pub HasName : Veto → Type 0
HasName veto = IsName (veto_name veto)

-- at most 256 vetoes, with distinct names and amounts within their limits
pub record AreSoundVetoes (vetoes : List Veto) : Type 0 where
  pub count : length vetoes ≤ VETOES
  pub names : All HasName vetoes
  pub distinct : AreDistinct (veto_names vetoes)
  pub each : All IsSoundVeto vetoes

-- a table's keys are the names of its vetoes, which are sound
pub record HoldsVetoes (vetoes : List (List ℕ × Veto)) : Type 0 where
  pub keys : keys_of vetoes ≡ veto_names (values_of vetoes)
  pub sound : AreSoundVetoes (values_of vetoes)

-- some literals, each about a choice and an alternative that are there, and no two about one choice
pub record IsDenialOf (plan : Lists) (literals : List Literal) : Type 0 where
  pub some : 1 ≤ length literals
  pub guard : IsGuardAmong plan.choices literals

-- a requirement in the slot, or a duration at the place, is there
abbrev pub IsItemOf : Lists → Item → Type 0
IsItemOf plan (item.Requirement slot) = IsSome (requirement_in plan slot)
IsItemOf plan (item.Uncertain duration) = duration < length plan.uncertains

-- what the veto names is in the plan
abbrev pub IsVetoOf : Lists → Veto → Type 0
IsVetoOf plan (Deny name literals) = IsDenialOf plan literals
IsVetoOf plan (Cap name key units) = IsItemOf plan key.item

-- sound vetoes, each of which names what is in the plan
pub record AreVetoesOf (plan : Lists) (vetoes : List Veto) : Type 0 where
  pub sound : AreSoundVetoes vetoes
  pub there : All (IsVetoOf plan) vetoes
