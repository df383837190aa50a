-- What the calls that make and withdraw vetoes make of their list.
use Rattle.std.specs.Prelude.{◌≡◌, ℕ, not, List, [], ◌∷◌, ◌++◌, filter, Some, bytes_eq}
use Rattle.uhura_plan.specs.Edits.{AreLiteralsOf}
use Rattle.uhura_plan.specs.Lists.{Lists}
use Rattle.uhura_plan.specs.declared.guard.Literal.{Literal}
use Rattle.uhura_plan.specs.declared.key.Item.{Item}
use Rattle.uhura_plan.specs.declared.key.Side.{Side}
use Rattle.uhura_veto.specs.declared.item.ItemKind.{ItemKind}
use Rattle.uhura_veto.specs.declared.veto.Veto.{Veto}
use Rattle.uhura_veto.specs.declared.veto.Veto.TheVariants.{Deny, Cap}
use Rattle.uhura_veto.specs.Find.{item_named}
use Rattle.uhura_veto.specs.Vetoes.{veto_name}

-- the vetoes with this one behind the others
abbrev pub with_veto : List Veto → Veto → List Veto
with_veto vetoes made = vetoes ++ made ∷ []

-- what a call states of a denial: its name, and the names of its literals
pub record StatedDenial : Type 0 where
  pub name : List ℕ
  pub literals : List (List ℕ × List ℕ)

-- the new vetoes are the old ones with the denial that the call states
pub record AddsDenial (plan : Lists) (old new : List Veto) (stated : StatedDenial) : Type 0 where
  pub literals : List Literal
  pub found : AreLiteralsOf plan stated.literals literals
  pub list : new ≡ with_veto old (Deny stated.name literals)

-- what a call states of a cap: its name, the kind and the name of its item, the side, and the units
pub record StatedCap : Type 0 where
  pub name : List ℕ
  pub kind : ItemKind
  pub item : List ℕ
  pub side : Side
  pub units : ℕ

-- the cap that a call states, on this item
abbrev pub cap_on : Item → StatedCap → Veto
cap_on item stated = Cap stated.name (record { item = item; side = stated.side }) stated.units

-- the new vetoes are the old ones with the cap that the call states
pub record AddsCap (plan : Lists) (old new : List Veto) (stated : StatedCap) : Type 0 where
  pub on : Item
  pub found : item_named plan stated.kind stated.item ≡ Some on
  pub list : new ≡ with_veto old (cap_on on stated)

-- the vetoes without that of this name: those behind it close up
abbrev pub without_veto : List ℕ → List Veto → List Veto
without_veto name vetoes = filter (λ v. not (bytes_eq name (veto_name v))) vetoes
