-- Which branches the vetoes deny.
use Rattle.std.specs.Prelude.{ℕ, Bool, false, List, Option, find, option_map}
use Rattle.std.specs.List.{list_any}
use Rattle.uhura_choice.specs.declared.prefix.Pick.{Pick}
use Rattle.uhura_choice.specs.Branch.{holds}
use Rattle.uhura_veto.specs.declared.veto.Veto.{Veto}
use Rattle.uhura_veto.specs.declared.veto.Veto.TheVariants.{Deny, Cap}
use Rattle.uhura_veto.specs.Vetoes.{veto_name}

-- a denial denies the picks that have all its literals, and a cap denies none
abbrev pub denies : List Pick → Veto → Bool
denies picks (Deny name literals) = holds literals picks
denies picks (Cap name key units) = false

-- some denial has all its literals picked
abbrev pub is_denied : List Veto → List Pick → Bool
is_denied vetoes picks = list_any (denies picks) vetoes

-- the name of the first denial that has all its literals picked
abbrev pub denied_by : List Veto → List Pick → Option (List ℕ)
denied_by vetoes picks = option_map veto_name (find (denies picks) vetoes)
