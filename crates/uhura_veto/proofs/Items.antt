-- An item that is found by its name is there.
use Rattle.std.proofs.Common.{◌≡◌, ℕ, zero, suc, ◌<◌, Bool, true, false, List, [], ◌∷◌, length, find, slice_get, Option, None, Some, is_some, option_map, option_and_then, ◌==◌, refl, ap, subst, arith}
use Rattle.std.proofs.lemmas.Bool.Decides.{Decides-eqb}
use Rattle.std.proofs.lemmas.List.{length-map}
use Rattle.uhura_plan.specs.Find.{requirement_named, requirement_of, uncertain_named}
use Rattle.uhura_plan.specs.Lists.{Lists, uncertain_names}
use Rattle.uhura_plan.specs.declared.key.Item.{Item}
use Rattle.uhura_plan.specs.declared.key.Item.TheVariants as item
use Rattle.uhura_plan.specs.declared.requirement.Requirement.{Requirement}
use Rattle.uhura_plan.proofs.Finds.{place_within}
use Rattle.uhura_veto.specs.declared.item.ItemKind.{ItemKind}
use Rattle.uhura_veto.specs.declared.item.ItemKind.TheVariants.{Require, Uncertain}
use Rattle.uhura_veto.specs.Find.{item_named}
use Rattle.uhura_veto.specs.Vetoes.{IsItemOf}

-- some requirement has the slot of one that is there
some_in_slot : (requirements : List Requirement) (place : ℕ) (r : Requirement) → slice_get requirements place ≡ Some r → is_some (find (λ q. q.slot == r.slot) requirements) ≡ true
some_in_slot [] place r at = let no : ⊥ = cc at in absurd no
some_in_slot (first ∷ rest) zero r at =
    let same : first ≡ r = cc at in
    let has : (first.slot == r.slot) ≡ true = (Decides-eqb first.slot r.slot).1 (ap (λ q. q.slot) same) in
    rw has refl
some_in_slot (first ∷ rest) (suc place) r at = by (first.slot == r.slot) refl (some_in_slot rest place r at)
  where
    by : (b : Bool) → (first.slot == r.slot) ≡ b → is_some (find (λ q. q.slot == r.slot) rest) ≡ true → is_some (find (λ q. q.slot == r.slot) (first ∷ rest)) ≡ true
    by true has behind = rw has refl
    by false other behind = rw other behind

requirement_there : (plan : Lists) (found : Option Requirement) (place : Option ℕ) (on : Item) → option_and_then (λ p. slice_get plan.requirements p) place ≡ found
    → option_map (λ r. item.Requirement r.slot) found ≡ Some on → IsItemOf plan on
requirement_there plan None place on at is = let no : ⊥ = cc is in absurd no
requirement_there plan (Some r) None on at is = let no : ⊥ = cc at in absurd no
requirement_there plan (Some r) (Some p) on at is =
    let same : item.Requirement r.slot ≡ on = cc is in
    subst (IsItemOf plan) same (some_in_slot plan.requirements p r at)

duration_there : (plan : Lists) (name : List ℕ) (place : Option ℕ) (on : Item) → uncertain_named plan name ≡ place → option_map (λ p. item.Uncertain p) place ≡ Some on → IsItemOf plan on
duration_there plan name None on found is = let no : ⊥ = cc is in absurd no
duration_there plan name (Some p) on found is =
    let same : item.Uncertain p ≡ on = cc is in
    let within : p < length plan.uncertains = omega (arith, place_within (uncertain_names plan.uncertains) name p found, length-map plan.uncertains (λ u. u.name)) in
    subst (IsItemOf plan) same within

pub IsItemOf-named : (plan : Lists) (kind : ItemKind) (name : List ℕ) (on : Item) → item_named plan kind name ≡ Some on → IsItemOf plan on
IsItemOf-named plan Require name on is = requirement_there plan (requirement_of plan name) (requirement_named plan name) on refl is
IsItemOf-named plan Uncertain name on is = duration_there plan name (uncertain_named plan name) on refl is
