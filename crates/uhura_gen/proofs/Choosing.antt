-- What the call of a choice adds, and that no plan so far refuses it.
use Rattle.std.proofs.Common.{◌≡◌, ℕ, zero, suc, ◌*◌, ◌<◌, ◌≤◌, false, List, [], ◌∷◌, length, get_or, Option, None, is_some, All, bytes_eq, nat_lt, refl, ap, sym, ◌∙◌, arith}
use Rattle.std.proofs.lemmas.Bool.Decides.{nat_tests}
use Rattle.std.proofs.lemmas.List.{length-map}
use Rattle.uhura_plan.specs.declared.choice.Choice.{Choice}
use Rattle.uhura_plan.specs.declared.refusal.EditRefusal.{EditRefusal}
use Rattle.uhura_plan.specs.declared.refusal.EditRefusal.TheVariants.{Taken, Full}
use Rattle.uhura_plan.specs.Lists.{Lists, alternative_names}
use Rattle.uhura_plan.specs.Sound.{alternatives_product}
use Rattle.uhura_plan.specs.Edits.{with_choice, choice_under, StatedChoice, AddsChoice}
use Rattle.uhura_plan.specs.Find.{choice_named}
use Rattle.uhura_plan.specs.Refusals.{refuse_if, first_of, full, repeated_at, product_with, choice_refusal}
use Rattle.uhura_gen.specs.Names.{choice_name, alternative_name, first_names}
use Rattle.uhura_gen.specs.Items.{alternative, choice}
use Rattle.uhura_gen.specs.Numbered.{IsNumbered}
use Rattle.uhura_gen.proofs.Spelling.{unlike}
use Rattle.uhura_gen.proofs.Naming.{alternative_family}
use Rattle.uhura_gen.proofs.Adding.{passes, none_found, has_room}
use Rattle.uhura_gen.proofs.Numbering.{next_choice_unknown}
use Rattle.uhura_gen.proofs.Making.{somes_injective}

-- what holds of three items
pub all_three : {X : Type 0} (P : X → Type 0) (a b c : X) → P a → P b → P c → All P (a ∷ b ∷ c ∷ [])
all_three {X = X} P a b c first second third = by
  where
    by : (k : ℕ) (d : X) → k < 3 → P (get_or (a ∷ b ∷ c ∷ []) k d)
    by zero d within = first
    by (suc zero) d within = second
    by (suc (suc zero)) d within = third
    by (suc (suc (suc k))) d within = absurd (omega (arith, within))

-- two parts make the pair
pub pair_is : (pair : List ℕ × ℕ) (name : List ℕ) (cost : ℕ) → pair.0 ≡ name → pair.1 ≡ cost → pair ≡ (name, cost)
pair_is pair name cost first second = ap (λ n. (n, pair.1)) first ∙ ap (λ k. (name, k)) second

-- three names of which no two are one
once : (a b c : List ℕ) → bytes_eq b a ≡ false → bytes_eq c a ≡ false → bytes_eq c b ≡ false → repeated_at (a ∷ b ∷ c ∷ []) ≡ None
once a b c second third other = rw (second, third, other) refl

-- the names of two places
names_apart : (i j : ℕ) → i < 500 → j < 500 → (i ≡ j → ⊥) → bytes_eq (alternative_name i) (alternative_name j) ≡ false
names_apart i j small few apart = unlike (alternative_name i) (alternative_name j) (λ same. apart (alternative_family.apart i j small few same))

-- at most two choices have at most nine branches
few_branches : (choices : List Choice) → length choices < 3 → All (λ c. alternative_names c ≡ first_names alternative_name 3) choices → alternatives_product choices ≤ 9
few_branches [] few alike = omega arith
few_branches (a ∷ []) few alike =
    let first : length a.alternatives ≡ 3 = sym (length-map a.alternatives (λ p. p.0)) ∙ ap length (alike 0 a (omega arith)) in
    rw first (omega arith)
few_branches (a ∷ b ∷ []) few alike =
    let first : length a.alternatives ≡ 3 = sym (length-map a.alternatives (λ p. p.0)) ∙ ap length (alike 0 a (omega arith)) in
    let second : length b.alternatives ≡ 3 = sym (length-map b.alternatives (λ p. p.0)) ∙ ap length (alike 1 a (omega arith)) in
    rw (first, second) (omega arith)
few_branches (a ∷ b ∷ c ∷ rest) few alike = absurd (omega (arith, few))

-- a limit that isn't passed
not_passed : (limit n : ℕ) → n ≤ limit → nat_lt limit n ≡ false
not_passed limit n within = grind (arith, nat_tests)

-- the call of a choice
pub record IsChoiceCall (name : List ℕ) (first second third : List ℕ × ℕ) (x place : ℕ) : Type 0 where
  pub name_is : name ≡ choice_name place
  pub first_is : first ≡ alternative x 0
  pub second_is : second ≡ alternative x 1
  pub third_is : third ≡ alternative x 2

-- the three alternatives
abbrev three : ℕ → List (List ℕ × ℕ)
three x = alternative x 0 ∷ alternative x 1 ∷ alternative x 2 ∷ []

choice_unrefused : (plan : Lists) (x place : ℕ) → IsNumbered plan → length plan.choices ≡ place → place < 3 → choice_refusal plan (choice_name place) (three x) [] ≡ None
choice_unrefused plan x place numbered next few =
    let branches = few_branches plan.choices (omega (arith, next, few)) numbered.alternatives in
    none_of_four
    (refuse_if (is_some (choice_named plan (choice_name place))) Taken)
    (refuse_if (is_some (repeated_at (alternative_name 0 ∷ alternative_name 1 ∷ alternative_name 2 ∷ []))) Taken)
    (full 16 (length plan.choices))
    (refuse_if (nat_lt 65536 (product_with plan (three x))) (Full 65536 (product_with plan (three x))))
    (passes _ Taken (none_found _ (next_choice_unknown plan place numbered next (omega (arith, few)))))
    (passes _ Taken (none_found _ (once (alternative_name 0) (alternative_name 1) (alternative_name 2)
    (names_apart 1 0 (omega arith) (omega arith) (λ e. omega (arith, e)))
    (names_apart 2 0 (omega arith) (omega arith) (λ e. omega (arith, e)))
    (names_apart 2 1 (omega arith) (omega arith) (λ e. omega (arith, e))))))
    (has_room 16 (length plan.choices) (omega (arith, next, few)))
    (passes _ (Full 65536 (product_with plan (three x))) (not_passed 65536 (alternatives_product plan.choices * 3) (omega (arith, branches))))
  where
    none_of_four : (a b c d : Option EditRefusal) → a ≡ None → b ≡ None → c ≡ None → d ≡ None → first_of (a ∷ b ∷ None ∷ None ∷ c ∷ None ∷ d ∷ []) ≡ None
    none_of_four a b c d e1 e2 e3 e4 = rw (e1, e2, e3, e4) refl

-- it isn't refused
pub choice_answer : (plan : Lists) (name : List ℕ) (first second third : List ℕ × ℕ) (x place : ℕ) → IsChoiceCall name first second third x place → IsNumbered plan → length plan.choices ≡ place → place < 3
    → choice_refusal plan name (first ∷ second ∷ third ∷ []) [] ≡ None
choice_answer plan name first second third x place call numbered next few =
    ap (λ n. choice_refusal plan n (first ∷ second ∷ third ∷ []) []) call.name_is
    ∙ (ap (λ a. choice_refusal plan (choice_name place) (a ∷ second ∷ third ∷ []) []) call.first_is
    ∙ (ap (λ a. choice_refusal plan (choice_name place) (alternative x 0 ∷ a ∷ third ∷ []) []) call.second_is
    ∙ (ap (λ a. choice_refusal plan (choice_name place) (alternative x 0 ∷ alternative x 1 ∷ a ∷ []) []) call.third_is
    ∙ choice_unrefused plan x place numbered next few)))

-- what a call states of a choice
abbrev pub stated_choice : List ℕ → List ℕ × ℕ → List ℕ × ℕ → List ℕ × ℕ → StatedChoice
stated_choice name first second third = record { name = name; alternatives = first ∷ second ∷ third ∷ []; guard = [] }

-- the choice that it adds
pub adds_choice : (plan next : Lists) (name : List ℕ) (first second third : List ℕ × ℕ) (x place : ℕ) → IsChoiceCall name first second third x place
    → AddsChoice plan next (stated_choice name first second third) → next ≡ with_choice plan (choice x place)
adds_choice plan next name first second third x place call adds =
    adds.lists
    ∙ (ap (λ ls. with_choice plan (choice_under ls (stated_choice name first second third))) (somes_injective adds.literals [] adds.found)
    ∙ (ap (λ n. with_choice plan (choice_under [] (stated_choice n first second third))) call.name_is
    ∙ (ap (λ a. with_choice plan (choice_under [] (stated_choice (choice_name place) a second third))) call.first_is
    ∙ (ap (λ a. with_choice plan (choice_under [] (stated_choice (choice_name place) (alternative x 0) a third))) call.second_is
    ∙ ap (λ a. with_choice plan (choice_under [] (stated_choice (choice_name place) (alternative x 0) (alternative x 1) a))) call.third_is))))
