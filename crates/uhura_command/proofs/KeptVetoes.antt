-- An edit of a plan keeps what its vetoes name.
use Rattle.std.proofs.Common.{◌≡◌, ℕ, zero, suc, ◌<◌, ◌≤◌, Bool, true, false, not, List, [], ◌∷◌, ◌++◌, length, get_or, Option, None, Some, Result, Ok, Err, IsSome, IsSomeAnd, option_map, option_and_then, slice_get, bytes_eq, refl, sym, ap, subst, ◌∙◌, arith, length-append}
use Rattle.std.specs.Prelude.{if◌then◌else◌, nat_eq, OnOk, OnErr}
use Rattle.std.proofs.lemmas.Bool.Decides.{Decides-eqb}
use Rattle.std.proofs.lemmas.List.{length-map}
use Rattle.std.proofs.lemmas.List.Folds.{list_any_at}
use Rattle.std.proofs.lemmas.Option.{slice_get-map, slice_get-get_or}
use Rattle.uhura_plan.specs.declared.key.Side.{Side}
use Rattle.uhura_plan.specs.declared.key.Side.TheVariants.{Lower, Upper}
use Rattle.uhura_plan.specs.declared.key.Item.{Item}
use Rattle.uhura_plan.specs.declared.key.Item.TheVariants as item
use Rattle.uhura_plan.specs.declared.uncertain.Uncertain.{Uncertain}
use Rattle.uhura_plan.specs.declared.choice.Choice.{Choice}
use Rattle.uhura_plan.specs.declared.requirement.Bounded.{Bounded}
use Rattle.uhura_plan.specs.declared.requirement.Requirement.{Requirement}
use Rattle.uhura_plan.specs.Lists.{Lists, requirement_names}
use Rattle.uhura_plan.specs.Find.{requirement_in, requirement_named, requirement_of}
use Rattle.uhura_plan.specs.Edits.{with_event, with_uncertain, with_choice, with_requirement}
use Rattle.uhura_plan.specs.Changes.{on_side, with_bound, with_price, with_rate, with_range, with_cost, change_requirement, change_uncertain, change_choice, without_requirement}
use Rattle.uhura_plan.specs.Sound.{AreDistinct}
use Rattle.uhura_plan.proofs.Building.{choice_within}
use Rattle.uhura_plan.proofs.Kept.{IsLiteralAmong-kept}
use Rattle.uhura_plan.proofs.More.{KeepsLiterals, IsGuardAmong-more}
use Rattle.uhura_plan.proofs.Named.{map_kept}
use Rattle.uhura_veto.specs.declared.veto.Veto.{Veto}
use Rattle.uhura_veto.specs.declared.veto.Veto.TheVariants.{Deny, Cap}
use Rattle.uhura_veto.specs.Find.{caps_requirement, names_requirement}
use Rattle.uhura_veto.specs.Vetoes.{IsItemOf, IsVetoOf, AreVetoesOf}
use Rattle.uhura_command.specs.declared.state.refusal.StateRefusal.{StateRefusal}
use Rattle.uhura_command.specs.declared.state.refusal.StateRefusal.TheVariants.{Held}
use Rattle.uhura_line.specs.declared.command.Command.{Command}
use Rattle.uhura_line.specs.declared.command.Command.TheVariants as command
use Rattle.uhura_command.specs.Apply.{is_veto, drop_refusal, refusal_of, Edits, AnswersFirst}
use Rattle.uhura_command.proofs.Finding.{found-append, found-map, found-filter}
use Rattle.uhura_command.proofs.Naming.{differ, found_at}

-- the new plan has the literals and the durations of the old one, and its requirements that a cap names
pub record KeepsNamed (old new : Lists) (vetoes : List Veto) : Type 0 where
  pub literals : KeepsLiterals old.choices new.choices
  pub durations : length old.uncertains ≤ length new.uncertains
  pub requirements : (slot : ℕ) → names_requirement slot vetoes ≡ true → IsSome (requirement_in old slot) → IsSome (requirement_in new slot)

-- so the vetoes are vetoes of it
pub kept_vetoes : (old new : Lists) (vetoes : List Veto) → KeepsNamed old new vetoes → AreVetoesOf old vetoes → AreVetoesOf new vetoes
kept_vetoes old new vetoes keeps are = record { sound = are.sound; there = λ k d within. by (get_or vetoes k d) (λ slot. list_any_at (caps_requirement slot) vetoes k d within) (are.there k d within) }
  where
    of_item : (capped : Item) → ((slot : ℕ) → capped ≡ item.Requirement slot → names_requirement slot vetoes ≡ true) → IsItemOf old capped → IsItemOf new capped
    of_item (item.Requirement slot) named there = keeps.requirements slot (named slot refl) there
    of_item (item.Uncertain d) named there = omega (arith, keeps.durations, there)

    by : (veto : Veto) → ((slot : ℕ) → caps_requirement slot veto ≡ true → names_requirement slot vetoes ≡ true) → IsVetoOf old veto → IsVetoOf new veto
    by (Deny name literals) named there = record { some = there.some; guard = IsGuardAmong-more old.choices new.choices keeps.literals literals there.guard }
    by (Cap name key units) named there =
        of_item key.item (λ slot is. named slot (ap (λ i. caps_requirement slot (Cap name (record { item = i; side = key.side }) units)) is ∙ (Decides-eqb slot slot).1 refl)) there

-- no edit but a drop takes a requirement out
stays_there : (old new : Lists) (vetoes : List Veto) → KeepsLiterals old.choices new.choices → length old.uncertains ≤ length new.uncertains
    → ((slot : ℕ) → IsSome (requirement_in old slot) → IsSome (requirement_in new slot)) → AreVetoesOf old vetoes → AreVetoesOf new vetoes
stays_there old new vetoes literals durations requirements =
    kept_vetoes old new vetoes (record { literals = literals; durations = durations; requirements = λ slot named there. requirements slot there })

-- ---- the edits that add

same_beginning : {X : Type 0} (xs : List X) (y : X) (i : ℕ) → i < length xs → slice_get (xs ++ y ∷ []) i ≡ slice_get xs i
same_beginning [] y i within = absurd (omega (arith, within))
same_beginning (x ∷ xs) y zero within = refl
same_beginning (x ∷ xs) y (suc i) within = same_beginning xs y i (omega (arith, within))

-- a literal about the choices is one about the choices and one more
literals_more : (choices : List Choice) (added : Choice) → KeepsLiterals choices (choices ++ added ∷ [])
literals_more choices added literal among =
    subst (λ c. IsSomeAnd c (λ c. literal.alternative < length c.alternatives)) (sym (same_beginning choices added literal.choice (choice_within choices literal among))) among

module _ (plan : Lists) (vetoes : List Veto) (are : AreVetoesOf plan vetoes) where
  with_event-kept : (name : List ℕ) → AreVetoesOf (with_event plan name) vetoes
  with_event-kept name = stays_there plan (with_event plan name) vetoes (λ _ among. among) (omega arith) (λ _ there. there) are

  with_uncertain-kept : (made : Uncertain) → AreVetoesOf (with_uncertain plan made) vetoes
  with_uncertain-kept made = stays_there plan (with_uncertain plan made) vetoes (λ _ among. among) (omega (arith, length-append plan.uncertains (made ∷ []))) (λ _ there. there) are

  with_choice-kept : (made : Choice) → AreVetoesOf (with_choice plan made) vetoes
  with_choice-kept made = stays_there plan (with_choice plan made) vetoes (literals_more plan.choices made) (omega arith) (λ _ there. there) are

  with_requirement-kept : (made : Requirement) → AreVetoesOf (with_requirement plan made) vetoes
  with_requirement-kept made =
      stays_there plan (with_requirement plan made) vetoes (λ _ among. among) (omega arith)
      (λ slot there. found-append (λ r. nat_eq r.slot slot) plan.requirements (made ∷ []) there) are

  -- ---- the edits that change

  -- a requirement stays in its slot
  change_requirement-kept : (change : Requirement → Requirement) (name : List ℕ) → ((r : Requirement) → (change r).slot ≡ r.slot) → AreVetoesOf (change_requirement change name plan) vetoes
  change_requirement-kept change name same =
      stays_there plan (change_requirement change name plan) vetoes (λ _ among. among) (omega arith)
      (λ slot there. found-map (λ r. nat_eq r.slot slot) (λ r. if bytes_eq name r.name then change r else r)
      (λ r. ap (λ s. nat_eq s slot) (by r (bytes_eq name r.name))) plan.requirements there) are
    where
      by : (r : Requirement) (b : Bool) → (if b then change r else r).slot ≡ r.slot
      by r true = same r
      by r false = refl

  change_uncertain-kept : (change : Uncertain → Uncertain) (name : List ℕ) → AreVetoesOf (change_uncertain change name plan) vetoes
  change_uncertain-kept change name =
      stays_there plan (change_uncertain change name plan) vetoes (λ _ among. among)
      (omega (arith, length-map plan.uncertains (λ u. if bytes_eq name u.name then change u else u))) (λ _ there. there) are

  -- a choice keeps its number of alternatives
  with_cost-kept : (alternative : List ℕ) (cost : ℕ) (name : List ℕ) → AreVetoesOf (change_choice (with_cost alternative cost) name plan) vetoes
  with_cost-kept alternative cost name =
      stays_there plan (change_choice (with_cost alternative cost) name plan) vetoes
      (IsLiteralAmong-kept plan.choices _ (map_kept (λ c. length c.alternatives) (λ c. if bytes_eq name c.name then with_cost alternative cost c else c) (λ c. by c (bytes_eq name c.name)) plan.choices))
      (omega arith) (λ _ there. there) are
    where
      by : (c : Choice) (b : Bool) → length (if b then with_cost alternative cost c else c).alternatives ≡ length c.alternatives
      by c true = length-map c.alternatives (λ a. if bytes_eq alternative a.0 then (a.0, cost) else a)
      by c false = refl

  -- ---- the edit that drops

  -- a requirement that a cap names has another name than that which is dropped
  others_stay : (name : List ℕ) → AreDistinct (requirement_names plan.requirements) → drop_refusal vetoes (requirement_of plan name) ≡ None
      → (i : ℕ) (r : Requirement) → slice_get plan.requirements i ≡ Some r → names_requirement r.slot vetoes ≡ true → bytes_eq name r.name ≡ false
  others_stay name distinct free i r at named = differ name r.name (λ same.
      let place : requirement_named plan r.name ≡ Some i =
      found_at (requirement_names plan.requirements) distinct i r.name (slice_get-map (λ r. r.name) plan.requirements i ∙ ap (option_map (λ r. r.name)) at) in
      let found : requirement_of plan name ≡ Some r =
      ap (requirement_of plan) same ∙ (ap (option_and_then (λ place. slice_get plan.requirements place)) place ∙ at) in
      let held : drop_refusal vetoes (Some r) ≡ Some (Held r.slot) = ap (λ b. if b then Some (Held r.slot) else None) named in
      let no : Some (Held r.slot) ≡ None = sym held ∙ (ap (drop_refusal vetoes) (sym found) ∙ free) in
      cc)

  without_requirement-kept : (name : List ℕ) → AreDistinct (requirement_names plan.requirements) → drop_refusal vetoes (requirement_of plan name) ≡ None
      → AreVetoesOf (without_requirement name plan) vetoes
  without_requirement-kept name distinct free =
      kept_vetoes plan (without_requirement name plan) vetoes (record {
        literals = λ _ among. among;
        durations = omega arith;
        requirements = λ slot named there. found-filter (λ r. nat_eq r.slot slot) (λ r. not (bytes_eq name r.name)) plan.requirements
            (λ i d within is.
            let r = get_or plan.requirements i d in
            let own : r.slot ≡ slot = (Decides-eqb r.slot slot).0 is in
            ap not (others_stay name distinct free i r (slice_get-get_or plan.requirements i d within) (ap (λ s. names_requirement s vetoes) own ∙ named)))
            there;
      }) are

-- a requirement's slot stays where its bound or its price changes
on_side-slot : (side : Side) (change : Bounded → Bounded) (r : Requirement) → (on_side side change r).slot ≡ r.slot
on_side-slot Lower change r = refl
on_side-slot Upper change r = refl

-- an accepted edit of the plan keeps its vetoes
pub edits_keep : (old new : Lists) (vetoes : List Veto) (c : Command) → AreDistinct (requirement_names old.requirements) → is_veto c ≡ false
    → refusal_of (record { plan = old; vetoes = vetoes }) c ≡ None → Edits old c new → AreVetoesOf old vetoes → AreVetoesOf new vetoes
edits_keep old new vetoes (command.Event name) distinct edit none edits are = rw edits (with_event-kept old vetoes are name)
edits_keep old new vetoes (command.Uncertain name start end lower upper lower_rate upper_rate) distinct edit none edits are = rw edits.lists (with_uncertain-kept old vetoes are _)
edits_keep old new vetoes (command.Choice name alternatives guard) distinct edit none edits are = rw edits.lists (with_choice-kept old vetoes are _)
edits_keep old new vetoes (command.Require name from to lower upper guard) distinct edit none edits are = rw edits.lists (with_requirement-kept old vetoes are edits.made)
edits_keep old new vetoes (command.Drop name) distinct edit none edits are = rw edits (without_requirement-kept old vetoes are name distinct none)
edits_keep old new vetoes (command.Bound name side bound) distinct edit none edits are = rw edits (change_requirement-kept old vetoes are (with_bound side bound) name (on_side-slot side _))
edits_keep old new vetoes (command.Price name side price) distinct edit none edits are = rw edits (change_requirement-kept old vetoes are (with_price side price) name (on_side-slot side _))
edits_keep old new vetoes (command.Rate name side rate) distinct edit none edits are = rw edits (change_uncertain-kept old vetoes are (with_rate side rate) name)
edits_keep old new vetoes (command.Range name lower upper) distinct edit none edits are = rw edits (change_uncertain-kept old vetoes are (with_range lower upper) name)
edits_keep old new vetoes (command.Prefer choice alternative cost) distinct edit none edits are = rw edits (with_cost-kept old vetoes are alternative cost choice)
edits_keep old new vetoes (command.Deny name literals) distinct edit none edits are = let no : ⊥ = cc in absurd no
edits_keep old new vetoes (command.Cap name item side units) distinct edit none edits are = let no : ⊥ = cc in absurd no
edits_keep old new vetoes (command.Withdraw name) distinct edit none edits are = let no : ⊥ = cc in absurd no
edits_keep old new vetoes command.Show distinct edit none edits are = rw edits are
edits_keep old new vetoes command.Propose distinct edit none edits are = rw edits are
edits_keep old new vetoes command.Prove distinct edit none edits are = rw edits are

-- so does an edit of the plan that is answered
pub answered_keep : (old new : Lists) (vetoes : List Veto) (c : Command) (result : Result (Unit {0}) StateRefusal) → AreDistinct (requirement_names old.requirements) → is_veto c ≡ false
    → AnswersFirst (refusal_of (record { plan = old; vetoes = vetoes }) c) result → OnOk result (Edits old c new) → OnErr result (new ≡ old) → AreVetoesOf old vetoes → AreVetoesOf new vetoes
answered_keep old new vetoes c (Err refusal) distinct edit answer ok err are = rw err are
answered_keep old new vetoes c (Ok done) distinct edit answer ok err are = edits_keep old new vetoes c distinct edit (by (refusal_of (record { plan = old; vetoes = vetoes }) c) answer) ok are
  where
    by : (first : Option StateRefusal) → AnswersFirst first (Ok done) → first ≡ None
    by None answered = refl
    by (Some refusal) answered = let no : ⊥ = cc in absurd no
