-- What is told of a reason.
use Rattle.std.proofs.Common.{◌≡◌, ℕ, ◌+◌, List, [], ◌∷◌, Option, None, Some, refl}
use Rattle.std.specs.Prelude.{All}
use Rattle.std.proofs.lemmas.List.Elements.{All-nil, All-cons}
use Rattle.uhura_plan.specs.declared.key.EdgeKey.{EdgeKey}
use Rattle.uhura_choice.specs.declared.prefix.Pick.{Pick}
use Rattle.uhura_veto.specs.State.{State}
use Rattle.uhura_shows.specs.Leaf.{Flow}
use Rattle.uhura_shows.specs.Shows.{Answer}
use Rattle.uhura_check.specs.declared.refusal.Code.TheVariants as code
use Rattle.uhura_check.specs.declared.failure.Failure.{Failure}
use Rattle.uhura_check.specs.Conditions.{code_of, MayCarry, Balances, Suffices}
use Rattle.uhura_check.specs.Conditions as ask
use Rattle.uhura_check.specs.Firsts.{IsFirstNot}
use Rattle.uhura_check.specs.Table.{Asked, each_line, reason_asks, IsKept}
use Rattle.uhura_check.specs.Failure.{told, Tells}
use Rattle.uhura_check.proofs.Asks.{each-asked}
use Rattle.uhura_check.proofs.Telling.{tells-stays, tells-behind, tells-next, tells-head, tells-each}

module _ (state : State) (answer : Answer) where
  -- one condition alone
  pub one-holds : (asked : Asked) → IsKept state answer asked → Tells state answer (asked ∷ []) None
  one-holds asked kept = All-cons (IsKept state answer) asked [] kept (All-nil (IsKept state answer))

  pub one-fails : (asked : Asked) (f : Failure) → (IsKept state answer asked → ⊥) → f.code ≡ code_of asked.condition → f.line ≡ told asked.line → Tells state answer (asked ∷ []) (Some f)
  one-fails asked f fails is_code is_told = tells-head state answer asked [] f fails is_code is_told

  -- units on edges
  module _ (prefix : List Pick) (line head : ℕ) (pairs : List (EdgeKey × ℕ)) where
    unfoldable pub units-asked : List Asked
    units-asked = each_line (ask.Carries prefix) (head + 1) pairs

    unfoldable pub balance-asked : Asked
    balance-asked = record { condition = ask.Balanced pairs; line = head }

    unfoldable pub enough-asked : Asked
    enough-asked = record { condition = ask.Enough prefix pairs; line = line }

    pub flow-units : (place : ℕ) (f : Failure) → IsFirstNot (MayCarry state prefix) pairs place → f.code ≡ code.LeafUnits → f.line ≡ told (head + 1 + place) → Tells state answer (reason_asks prefix line head (Flow pairs)) (Some f)
    unfolding units-asked balance-asked enough-asked
    flow-units place f first is_code is_told =
        tells-stays state answer units-asked (balance-asked ∷ enough-asked ∷ []) f (tells-each state answer (ask.Carries prefix) code.LeafUnits (head + 1) pairs place f (λ x. refl) first is_code is_told)

    units-kept : All (MayCarry state prefix) pairs → All (IsKept state answer) units-asked
    unfolding units-asked
    units-kept all = each-asked state answer (ask.Carries prefix) (head + 1) pairs all

    pub flow-balance : (f : Failure) → All (MayCarry state prefix) pairs → (Balances state pairs → ⊥) → f.code ≡ code.LeafBalance → f.line ≡ told head → Tells state answer (reason_asks prefix line head (Flow pairs)) (Some f)
    unfolding units-asked balance-asked enough-asked
    flow-balance f all fails is_code is_told =
        tells-behind state answer units-asked (balance-asked ∷ enough-asked ∷ []) (Some f) (units-kept all) (tells-head state answer balance-asked (enough-asked ∷ []) f fails is_code is_told)

    flow-last : (found : Option Failure) → All (MayCarry state prefix) pairs → Balances state pairs → Tells state answer (enough-asked ∷ []) found → Tells state answer (reason_asks prefix line head (Flow pairs)) found
    unfolding units-asked balance-asked enough-asked
    flow-last found all balances tells =
        tells-behind state answer units-asked (balance-asked ∷ enough-asked ∷ []) found (units-kept all) (tells-next state answer balance-asked (enough-asked ∷ []) found balances tells)

    pub flow-enough : All (MayCarry state prefix) pairs → Balances state pairs → Suffices state answer prefix pairs → Tells state answer (reason_asks prefix line head (Flow pairs)) None
    unfolding enough-asked
    flow-enough all balances enough = flow-last None all balances (one-holds enough-asked enough)

    pub flow-value : (f : Failure) → All (MayCarry state prefix) pairs → Balances state pairs → (Suffices state answer prefix pairs → ⊥) → f.code ≡ code.LeafValue → f.line ≡ told line → Tells state answer (reason_asks prefix line head (Flow pairs)) (Some f)
    unfolding enough-asked
    flow-value f all balances fails is_code is_told = flow-last (Some f) all balances (one-fails enough-asked f fails is_code is_told)
