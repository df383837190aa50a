-- Lists in which each element is changed in turn.
use Rattle.std.proofs.Common.{◌≡◌, ℕ, ◌+◌, ◌<◌, ◌≤◌, ℤ, pos, List, length, set, refl, sym, ◌∙◌, ap, inl, inr, arith}
use Rattle.std.proofs.lemmas.Bool.{cases_lt}
use Rattle.std.proofs.lemmas.List.{get_or-set_same, get_or-set_other, length-set}
use Rattle.uhura_net.specs.Edges.{time_at}

-- the first elements are changed, and the others are as before
pub record IsEachDone (change : ℕ → ℤ → ℤ) (before after : List ℤ) (count : ℕ) : Type 0 where
  pub nodes : length after ≡ length before
  pub done : (at : ℕ) → at < count → time_at after at ≡ change at (time_at before at)
  pub rest : (at : ℕ) → count ≤ at → time_at after at ≡ time_at before at

pub IsEachDone-none : (change : ℕ → ℤ → ℤ) (list : List ℤ) → IsEachDone change list list 0
IsEachDone-none change list = record {
  nodes = refl;
  done = λ at never. absurd (omega arith);
  rest = λ at _. refl;
}

-- one more is written
pub IsEachDone-set : (change : ℕ → ℤ → ℤ) (before after : List ℤ) (count : ℕ) (z : ℤ) → count < length after → z ≡ change count (time_at before count) →
    IsEachDone change before after count → IsEachDone change before (set after count z) (count + 1)
IsEachDone-set change before after count z inside is so_far = record {
  nodes = length-set after count z ∙ so_far.nodes;
  done = λ at below.
      elim (cases_lt at count) [
        | inl earlier ↦ get_or-set_other after count at z (pos 0) (λ same. let no : ⊥ = omega arith in no) ∙ so_far.done at earlier
        | inr later ↦
            let here : at ≡ count = omega arith in
            ap (λ a. time_at (set after count z) a) here ∙ get_or-set_same after count z (pos 0) inside ∙ is ∙ ap (λ a. change a (time_at before a)) (sym here)
      ];
  rest = λ at beyond. get_or-set_other after count at z (pos 0) (λ same. let no : ⊥ = omega arith in no) ∙ so_far.rest at (omega arith);
}
