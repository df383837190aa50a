-- Where the veto of a name is, and what a cap names.
use Rattle.std.specs.Prelude.{ℕ, Bool, false, List, Option, option_map}
use Rattle.std.specs.List.{list_any}
use Rattle.uhura_plan.specs.Find.{place_of, requirement_of, uncertain_named}
use Rattle.uhura_plan.specs.Keys.{is_same_item}
use Rattle.uhura_plan.specs.Lists.{Lists}
use Rattle.uhura_plan.specs.declared.key.Item.{Item}
use Rattle.uhura_plan.specs.declared.key.Item.TheVariants as item
use Rattle.uhura_veto.specs.declared.item.ItemKind.{ItemKind}
use Rattle.uhura_veto.specs.declared.item.ItemKind.TheVariants.{Require, Uncertain}
use Rattle.uhura_veto.specs.declared.veto.Veto.{Veto}
use Rattle.uhura_veto.specs.declared.veto.Veto.TheVariants.{Deny, Cap}
use Rattle.uhura_veto.specs.Vetoes.{veto_names}

-- the place of the veto of this name
abbrev pub veto_named : List Veto → List ℕ → Option ℕ
veto_named vetoes name = place_of (veto_names vetoes) name

-- the requirement of this name, by its slot, or the duration of this name, by its place
abbrev pub item_named : Lists → ItemKind → List ℕ → Option Item
item_named plan Require name =
    option_map (λ r. item.Requirement r.slot) (requirement_of plan name)
item_named plan Uncertain name =
    option_map (λ place. item.Uncertain place) (uncertain_named plan name)

-- the veto is a cap on a side of the requirement in this slot
abbrev pub caps_requirement : ℕ → Veto → Bool
caps_requirement slot (Deny name literals) = false
caps_requirement slot (Cap name key units) = is_same_item key.item (item.Requirement slot)

-- some cap is on a side of the requirement in this slot
abbrev pub names_requirement : ℕ → List Veto → Bool
names_requirement slot vetoes = list_any (caps_requirement slot) vetoes
