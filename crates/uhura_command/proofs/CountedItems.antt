-- A requirement in a slot stands at a place, which is its slot where slots are counted. Its name is the same there, and
-- finds it there.
use Rattle.std.proofs.Common.{◌≡◌, ℕ, zero, suc, ◌+◌, ◌<◌, Bool, true, false, List, [], ◌∷◌, length, Option, Some, IsSome, option_map, option_and_then, slice_get, refl, sym, ap, subst, ◌∙◌, arith, zero-add}
use Rattle.std.specs.Prelude.{if◌then◌else◌, nat_eq, find}
use Rattle.std.specs.Option.{option_map_or}
use Rattle.std.proofs.lemmas.Bool.Decides.{Decides-eqb, nat_tests}
use Rattle.std.proofs.lemmas.List.{length-map}
use Rattle.std.proofs.lemmas.Option.{slice_get-map, same_Some}
use Rattle.uhura_plan.specs.declared.key.Item.{Item}
use Rattle.uhura_plan.specs.declared.key.Item.TheVariants.{Requirement as InSlot, Uncertain as AtPlace}
use Rattle.uhura_plan.specs.declared.requirement.Requirement.{Requirement}
use Rattle.uhura_plan.specs.Lists.{Lists, requirement_names, uncertain_names}
use Rattle.uhura_plan.specs.Find.{requirement_in, requirement_named}
use Rattle.uhura_plan.specs.Sound.{AreDistinct, HasDistinctNames}
use Rattle.uhura_veto.specs.declared.item.ItemKind.TheVariants.{Require}
use Rattle.uhura_veto.specs.Find.{item_named}
use Rattle.uhura_veto.specs.Vetoes.{IsItemOf}
use Rattle.uhura_line.specs.declared.command.ItemName.TheVariants as named
use Rattle.uhura_line.specs.Reads.{name_of}
use Rattle.uhura_command.specs.Apply.{kind_named}
use Rattle.uhura_command.specs.Replay.{in_slot}
use Rattle.uhura_command.specs.Script.{item_name, name_at}
use Rattle.uhura_command.proofs.Naming.{found_at, name_there}
use Rattle.uhura_command.proofs.Numbering.{numbered, numbered_at, numbered_names}

-- the place of the first requirement in a slot
abbrev pub place_in : ℕ → List Requirement → ℕ
place_in slot [] = zero
place_in slot (r ∷ rs) = if nat_eq r.slot slot then zero else suc (place_in slot rs)

-- the requirement in a slot stands at its place
pub record IsPlaced (rs : List Requirement) (slot : ℕ) : Type 0 where
  pub requirement : Requirement
  pub at : slice_get rs (place_in slot rs) ≡ Some requirement
  pub found : find (λ r. nat_eq r.slot slot) rs ≡ Some requirement

pub placed : (rs : List Requirement) (slot : ℕ) → IsSome (find (λ r. nat_eq r.slot slot) rs) → IsPlaced rs slot
placed [] slot there = let no : ⊥ = cc in absurd no
placed (r ∷ rs) slot there = by (nat_eq r.slot slot) refl (placed rs slot) there
  where
    by : (b : Bool) → nat_eq r.slot slot ≡ b → (IsSome (find (λ r. nat_eq r.slot slot) rs) → IsPlaced rs slot) → IsSome (if b then Some r else find (λ r. nat_eq r.slot slot) rs) → IsPlaced (r ∷ rs) slot
    by true is rest there = record { requirement = r; at = rw is refl; found = rw is refl }
    by false is rest there = let later = rest there in record { requirement = later.requirement; at = rw is later.at; found = rw is later.found }

-- where slots are counted, a requirement is in the slot of its place
found_numbered : (first : ℕ) (rs : List Requirement) (i slot : ℕ) (r : Requirement) → slice_get rs i ≡ Some r → slot ≡ first + i → find (λ q. nat_eq q.slot slot) (numbered first rs) ≡ Some (in_slot slot r)
found_numbered first [] i slot r at is = let no : ⊥ = cc in absurd no
found_numbered first (s ∷ rs) zero slot r at is =
    let here : first ≡ slot = omega arith in
    let test : nat_eq first slot ≡ true = (Decides-eqb first slot).1 here in
    rw test (ap (λ n. Some (in_slot n s)) here ∙ ap (λ q. Some (in_slot slot q)) (same_Some s r at))
found_numbered first (s ∷ rs) (suc i) slot r at is =
    let test : nat_eq first slot ≡ false = grind (arith, nat_tests) in
    rw test (found_numbered (first + 1) rs i slot r at (omega arith))

module _ (plan : Lists) (distinct : HasDistinctNames plan) where
  -- the plan with its requirements in counted slots
  abbrev pub counted : Lists
  counted = record plan { requirements = numbered 0 plan.requirements }

  -- an item of the plan, as the item of that name in the counted plan
  abbrev pub moved : Item → Item
  moved (InSlot slot) = InSlot (place_in slot plan.requirements)
  moved (AtPlace d) = AtPlace d

  -- it has the same name there
  pub item_shown : (item : Item) → IsItemOf plan item → item_name counted (moved item) ≡ item_name plan item
  item_shown (InSlot slot) there =
      let p = placed plan.requirements slot there in
      let place = place_in slot plan.requirements in
      let name = λ (o : Option Requirement). named.Require (option_map_or (λ r. r.name) o []) in
      ap name (found_numbered 0 plan.requirements place place p.requirement p.at (sym (zero-add place))) ∙ sym (ap name p.found)
  item_shown (AtPlace d) there = refl

  -- and is found there by its name
  pub item_found : (item : Item) → IsItemOf plan item → item_named counted (kind_named (item_name plan item)) (name_of (item_name plan item)) ≡ Some (moved item)
  item_found (InSlot slot) there =
      let p = placed plan.requirements slot there in
      let place = place_in slot plan.requirements in
      let name = p.requirement.name in
      let names_distinct : AreDistinct (requirement_names counted.requirements) = subst AreDistinct (sym (numbered_names 0 plan.requirements)) distinct.requirements in
      let at : slice_get counted.requirements place ≡ Some (in_slot place p.requirement) =
      numbered_at 0 plan.requirements place p.requirement p.at ∙ ap (λ n. Some (in_slot n p.requirement)) (zero-add place) in
      let is_there : requirement_named counted name ≡ Some place =
      found_at (requirement_names counted.requirements) names_distinct place name (slice_get-map (λ r. r.name) counted.requirements place ∙ ap (option_map (λ r. r.name)) at) in
      let shown : option_map_or (λ r. r.name) (requirement_in plan slot) [] ≡ name = ap (λ o. option_map_or (λ r. r.name) o []) p.found in
      ap (item_named counted Require) shown
      ∙ (ap (λ o. option_map (λ r. InSlot r.slot) (option_and_then (λ place. slice_get counted.requirements place) o)) is_there
      ∙ ap (option_map (λ r. InSlot r.slot)) at)
  item_found (AtPlace d) there =
      let names = uncertain_names plan.uncertains in
      let within : d < length names = omega (arith, there, length-map plan.uncertains (λ u. u.name)) in
      ap (option_map (λ place. AtPlace place)) (found_at names distinct.uncertains d (name_at names d) (name_there names d within))
