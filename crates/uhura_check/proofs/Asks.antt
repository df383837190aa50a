-- What is asked line by line, and of a reason.
use Rattle.std.proofs.Common.{ℕ, ◌+◌, ◌≢◌, List, [], ◌∷◌, None, Some}
use Rattle.std.specs.Prelude.{All, AllPairs, IsTrue}
use Rattle.std.proofs.lemmas.List.Elements.{All-nil, All-cons, All-head, All-tail, All-append, All-map, All-weaker}
use Rattle.uhura_plan.specs.declared.key.EdgeKey.{EdgeKey}
use Rattle.uhura_choice.specs.declared.prefix.Pick.{Pick}
use Rattle.uhura_veto.specs.State.{State}
use Rattle.uhura_worst.specs.Edges.{is_active_edge}
use Rattle.uhura_shows.specs.Leaf.{LeafReason, Denied, Flow, Stuck}
use Rattle.uhura_shows.specs.Carried.{IsCarried}
use Rattle.uhura_shows.specs.Shows.{Answer, IsShownBy}
use Rattle.uhura_shows.proofs.Lists.{All-left, All-right, All-from_map}
use Rattle.uhura_check.specs.Conditions.{Condition, Holds, MayCarry}
use Rattle.uhura_check.specs.Conditions as ask
use Rattle.uhura_check.specs.Table.{Asked, each_line, reason_asks, IsKept}

-- what is asked of each thing holds exactly where it holds line by line
pub each-kept : {A : Type 0} (state : State) (answer : Answer) (condition : A → Condition) (line : ℕ) (xs : List A) → All (IsKept state answer) (each_line condition line xs) → All (λ x. Holds state answer (condition x)) xs
each-kept state answer condition line [] all = All-nil (λ x. Holds state answer (condition x))
each-kept state answer condition line (x ∷ xs) all =
    All-cons (λ y. Holds state answer (condition y)) x xs (All-head (IsKept state answer) (record { condition = condition x; line = line }) (each_line condition (line + 1) xs) all)
    (each-kept state answer condition (line + 1) xs (All-tail (IsKept state answer) (record { condition = condition x; line = line }) (each_line condition (line + 1) xs) all))

pub each-asked : {A : Type 0} (state : State) (answer : Answer) (condition : A → Condition) (line : ℕ) (xs : List A) → All (λ x. Holds state answer (condition x)) xs → All (IsKept state answer) (each_line condition line xs)
each-asked state answer condition line [] all = All-nil (IsKept state answer)
each-asked state answer condition line (x ∷ xs) all =
    All-cons (IsKept state answer) (record { condition = condition x; line = line }) (each_line condition (line + 1) xs) (All-head (λ y. Holds state answer (condition y)) x xs all)
    (each-asked state answer condition (line + 1) xs (All-tail (λ y. Holds state answer (condition y)) x xs all))

-- a reason has units on each edge at most once
abbrev pub HasOnce : LeafReason → Type 0
HasOnce (Denied veto) = Unit {0}
HasOnce (Stuck keys) = Unit {0}
HasOnce (Flow pairs) = AllPairs (λ a b. a.0 ≢ b.0) pairs

module _ (state : State) (prefix : List Pick) (own head : ℕ) where
  balance : List (EdgeKey × ℕ) → Asked
  balance pairs = record { condition = ask.Balanced pairs; line = head }

  enough : List (EdgeKey × ℕ) → Asked
  enough pairs = record { condition = ask.Enough prefix pairs; line = own }

  units : List (EdgeKey × ℕ) → List Asked
  units pairs = each_line (ask.Carries prefix) (head + 1) pairs

  rest-kept : (answer : Answer) (pairs : List (EdgeKey × ℕ)) → All (IsKept state answer) (reason_asks prefix own head (Flow pairs)) → All (IsKept state answer) (balance pairs ∷ enough pairs ∷ [])
  unfolding balance enough units
  rest-kept answer pairs all = All-right (IsKept state answer) (units pairs) (balance pairs ∷ enough pairs ∷ []) all

  units-kept : (answer : Answer) (pairs : List (EdgeKey × ℕ)) → All (IsKept state answer) (reason_asks prefix own head (Flow pairs)) → All (MayCarry state prefix) pairs
  unfolding balance enough units
  units-kept answer pairs all = each-kept state answer (ask.Carries prefix) (head + 1) pairs (All-left (IsKept state answer) (units pairs) (balance pairs ∷ enough pairs ∷ []) all)

  -- a reason of which all that is asked holds shows what it is to show
  pub reason-shown : (answer : Answer) (reason : LeafReason) → HasOnce reason → All (IsKept state answer) (reason_asks prefix own head reason) → IsShownBy state answer prefix reason
  unfolding balance enough
  reason-shown answer (Denied veto) once all = All-head (IsKept state answer) (record { condition = ask.Denied prefix veto; line = own }) [] all
  reason-shown answer (Stuck keys) once all = All-head (IsKept state answer) (record { condition = ask.Stuck prefix keys; line = own }) [] all
  reason-shown None (Flow pairs) once all = All-head (IsKept state None) (enough pairs) [] (All-tail (IsKept state None) (balance pairs) (enough pairs ∷ []) (rest-kept None pairs all))
  reason-shown (Some proposal) (Flow pairs) once all =
      let rest : All (IsKept state (Some proposal)) (balance pairs ∷ enough pairs ∷ []) = rest-kept (Some proposal) pairs all in
      let kept : All (MayCarry state prefix) pairs = units-kept (Some proposal) pairs all in
      let shown : ask.IsEnough state proposal.0 proposal.1 prefix pairs = All-head (IsKept state (Some proposal)) (enough pairs) [] (All-tail (IsKept state (Some proposal)) (balance pairs) (enough pairs ∷ []) rest) in
      record {
        circulation = record {
          carried = All-weaker (MayCarry state prefix) (IsCarried state) (λ pair may. may.carried) pairs kept;
          once = once;
          balanced = All-head (IsKept state (Some proposal)) (balance pairs) (enough pairs ∷ []) rest;
        };
        settled =
            All-map (λ key. IsTrue (is_active_edge state.plan prefix key)) (λ (pair : EdgeKey × ℕ). pair.0) pairs
            (All-weaker (MayCarry state prefix) (λ (pair : EdgeKey × ℕ). IsTrue (is_active_edge state.plan prefix pair.0)) (λ pair may. may.settled) pairs kept);
        least = shown.least;
        more = shown.more;
      }

  -- and the other way
  pub shown-asked : (answer : Answer) (reason : LeafReason) → IsShownBy state answer prefix reason → All (IsKept state answer) (reason_asks prefix own head reason)
  unfolding balance enough units
  shown-asked answer (Denied veto) shown = All-cons (IsKept state answer) (record { condition = ask.Denied prefix veto; line = own }) [] shown (All-nil (IsKept state answer))
  shown-asked answer (Stuck keys) shown = All-cons (IsKept state answer) (record { condition = ask.Stuck prefix keys; line = own }) [] shown (All-nil (IsKept state answer))
  shown-asked None (Flow pairs) shown = absurd shown
  shown-asked (Some proposal) (Flow pairs) shown =
      All-append (IsKept state (Some proposal)) (units pairs) (balance pairs ∷ enough pairs ∷ [])
      (each-asked state (Some proposal) (ask.Carries prefix) (head + 1) pairs
      (λ k d below. record {
        settled = All-from_map (λ key. IsTrue (is_active_edge state.plan prefix key)) (λ (pair : EdgeKey × ℕ). pair.0) pairs shown.settled k d below;
        carried = shown.circulation.carried k d below;
      }))
      (All-cons (IsKept state (Some proposal)) (balance pairs) (enough pairs ∷ []) shown.circulation.balanced
      (All-cons (IsKept state (Some proposal)) (enough pairs) [] (record { least = shown.least; more = shown.more }) (All-nil (IsKept state (Some proposal)))))
