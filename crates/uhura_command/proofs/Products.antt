-- How the product of the numbers of alternatives grows with the choices.
use Rattle.std.proofs.Common.{◌≡◌, ℕ, suc, ◌*◌, ◌≤◌, List, [], ◌∷◌, length, take, drop, Some, slice_get, All, sym, ap, ◌∙◌, arith, take-append-drop}
use Rattle.std.specs.List.{fold}
use Rattle.std.proofs.Math.Nat.{mul-le-mul_left}
use Rattle.std.proofs.lemmas.List.Elements.{All-head, All-tail, All-drop}
use Rattle.std.proofs.lemmas.List.Sums.{fold-append, fold_push}
use Rattle.uhura_plan.specs.declared.choice.Choice.{Choice}
use Rattle.uhura_plan.specs.Sound.{alternatives_product}
use Rattle.uhura_command.proofs.Beginnings.{take_next}

-- a product grows with each further choice that has an alternative
product_grows : (choices : List Choice) (so_far : ℕ) → All (λ c. 1 ≤ length c.alternatives) choices → so_far ≤ fold (λ n c. n * length c.alternatives) so_far choices
product_grows [] so_far some = omega arith
product_grows (c ∷ choices) so_far some =
    let here : 1 ≤ length c.alternatives = All-head (λ c. 1 ≤ length c.alternatives) c choices some in
    let grown : so_far ≤ so_far * length c.alternatives = omega (arith, mul-le-mul_left so_far here) in
    omega (arith, grown, product_grows choices (so_far * length c.alternatives) (All-tail (λ c. 1 ≤ length c.alternatives) c choices some))

-- the choices up to a place have no greater product than all
pub product_of_first : (choices : List Choice) (i : ℕ) (c : Choice) → All (λ c. 1 ≤ length c.alternatives) choices → slice_get choices i ≡ Some c → alternatives_product (take i choices) * length c.alternatives ≤ alternatives_product choices
product_of_first choices i c some at =
    let first : alternatives_product (take (suc i) choices) ≡ alternatives_product (take i choices) * length c.alternatives =
    ap alternatives_product (take_next choices i c at) ∙ fold_push (λ n c. n * length c.alternatives) 1 (take i choices) c in
    let all : fold (λ n c. n * length c.alternatives) (alternatives_product (take (suc i) choices)) (drop (suc i) choices) ≡ alternatives_product choices =
    sym (fold-append (λ n c. n * length c.alternatives) 1 (take (suc i) choices) (drop (suc i) choices)) ∙ ap alternatives_product (take-append-drop (suc i) choices) in
    omega (arith, first, all, product_grows (drop (suc i) choices) (alternatives_product (take (suc i) choices)) (All-drop (λ c. 1 ≤ length c.alternatives) (suc i) choices some))
