-- What holds where a veto isn't refused.
use Rattle.std.proofs.Common.{◌≡◌, ℕ, ◌<◌, zero, suc, Bool, true, false, List, [], ◌∷◌, length, get_or, Option, None, Some, is_some, is_none, nat_le, refl, arith}
use Rattle.std.proofs.lemmas.Bool.Decides.{nat_tests}
use Rattle.uhura_plan.specs.Lists.{Lists}
use Rattle.uhura_plan.specs.Refusals.{refuse_if, first_of, unknown_in, repeated_in}
use Rattle.uhura_plan.specs.declared.refusal.EditRefusal.{EditRefusal}
use Rattle.uhura_plan.specs.declared.refusal.EditRefusal.TheVariants.{Taken, Unknown, Full}
use Rattle.uhura_veto.specs.declared.limits.TheConstants.{VETOES}
use Rattle.uhura_veto.specs.declared.item.ItemKind.{ItemKind}
use Rattle.uhura_veto.specs.declared.veto.Veto.{Veto}
use Rattle.uhura_veto.specs.Find.{veto_named, item_named}
use Rattle.uhura_veto.specs.Refusals.{taken, full_of_vetoes, deny_refusal, cap_refusal}

-- where none is the first refusal there is none
none_of : (refusals : List (Option EditRefusal)) → first_of refusals ≡ None → (i : ℕ) → get_or refusals i None ≡ None
none_of [] none i = refl
none_of (None ∷ later) none zero = refl
none_of (None ∷ later) none (suc i) = none_of later none i
none_of (Some r ∷ later) none i = let no : ⊥ = cc in absurd no

-- a test without its refusal fails
test_fails : (test : Bool) (refusal : EditRefusal) → refuse_if test refusal ≡ None → test ≡ false
test_fails true refusal none = let no : ⊥ = cc in absurd no
test_fails false refusal none = refl

-- a veto that isn't refused has a name that no other has, and there is room for it
pub record IsNew (vetoes : List Veto) (name : List ℕ) : Type 0 where
  pub free : is_some (veto_named vetoes name) ≡ false
  pub room : length vetoes < VETOES

is_new : (vetoes : List Veto) (name : List ℕ) → taken vetoes name ≡ None → full_of_vetoes vetoes ≡ None → IsNew vetoes name
is_new vetoes name not_taken not_full = record {
  free = test_fails (is_some (veto_named vetoes name)) Taken not_taken;
  room = let reached = test_fails (nat_le VETOES (length vetoes)) (Full VETOES (length vetoes)) not_full in grind (arith, nat_tests);
}

-- what a denial that isn't refused meets
pub record IsUnrefusedDenial (plan : Lists) (vetoes : List Veto) (name : List ℕ) (literals : List (List ℕ × List ℕ)) : Type 0 where
  pub new : IsNew vetoes name
  pub known : unknown_in plan 1 literals ≡ None
  pub once : repeated_in literals ≡ None

pub unrefused_denial : (plan : Lists) (vetoes : List Veto) (name : List ℕ) (literals : List (List ℕ × List ℕ)) → deny_refusal plan vetoes name literals ≡ None → IsUnrefusedDenial plan vetoes name literals
unrefused_denial plan vetoes name literals none =
    let passed = none_of (taken vetoes name ∷ unknown_in plan 1 literals ∷ repeated_in literals ∷ full_of_vetoes vetoes ∷ []) none in
    record { new = is_new vetoes name (passed 0) (passed 3); known = passed 1; once = passed 2 }

-- what a cap that isn't refused meets
pub record IsUnrefusedCap (plan : Lists) (vetoes : List Veto) (name : List ℕ) (kind : ItemKind) (item : List ℕ) : Type 0 where
  pub new : IsNew vetoes name
  pub there : is_none (item_named plan kind item) ≡ false

pub unrefused_cap : (plan : Lists) (vetoes : List Veto) (name : List ℕ) (kind : ItemKind) (item : List ℕ) → cap_refusal plan vetoes name kind item ≡ None → IsUnrefusedCap plan vetoes name kind item
unrefused_cap plan vetoes name kind item none =
    let passed = none_of (taken vetoes name ∷ refuse_if (is_none (item_named plan kind item)) (Unknown 1) ∷ full_of_vetoes vetoes ∷ []) none in
    record { new = is_new vetoes name (passed 0) (passed 2); there = test_fails (is_none (item_named plan kind item)) (Unknown 1) (passed 1) }
