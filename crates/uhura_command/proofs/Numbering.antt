-- Requirements in slots that are counted: each slot is the least free one.
use Rattle.std.proofs.Common.{◌≡◌, ℕ, zero, suc, ◌+◌, ◌<◌, List, [], ◌∷◌, length, take, map, get_or, Some, slice_get, refl, sym, ap, ◌∙◌, arith, get_or-take, length-take-le, zero-add}
use Rattle.std.specs.List.{range_with_len}
use Rattle.std.proofs.lemmas.List.{take-map, length-map}
use Rattle.std.proofs.lemmas.List.FromFn.{get_or-range_with_len}
use Rattle.std.proofs.lemmas.Option.{same_Some}
use Rattle.uhura_plan.specs.declared.requirement.Requirement.{Requirement}
use Rattle.uhura_plan.specs.Lists.{requirement_names, slots}
use Rattle.uhura_plan.specs.Edits.{IsLeastFree}
use Rattle.uhura_command.specs.Replay.{in_slot}

-- the requirements in slots that are counted from a number
abbrev pub numbered : ℕ → List Requirement → List Requirement
numbered first [] = []
numbered first (r ∷ rs) = in_slot first r ∷ numbered (first + 1) rs

-- a requirement's slot is its place
pub numbered_at : (first : ℕ) (rs : List Requirement) (i : ℕ) (r : Requirement) → slice_get rs i ≡ Some r → slice_get (numbered first rs) i ≡ Some (in_slot (first + i) r)
numbered_at first [] i r at = let no : ⊥ = cc in absurd no
numbered_at first (s ∷ rs) zero r at = ap (λ slot. Some (in_slot slot s)) (omega arith) ∙ ap (λ x. Some (in_slot (first + 0) x)) (same_Some s r at)
numbered_at first (s ∷ rs) (suc i) r at = numbered_at (first + 1) rs i r at ∙ ap (λ slot. Some (in_slot slot r)) (omega arith)

-- the slots are counted
numbered_slots : (first : ℕ) (rs : List Requirement) → slots (numbered first rs) ≡ range_with_len first (length rs)
numbered_slots first [] = refl
numbered_slots first (r ∷ rs) = ap (λ ns. first ∷ ns) (numbered_slots (first + 1) rs)

-- names stay
pub numbered_names : (first : ℕ) (rs : List Requirement) → requirement_names (numbered first rs) ≡ requirement_names rs
numbered_names first [] = refl
numbered_names first (r ∷ rs) = ap (λ names. r.name ∷ names) (numbered_names (first + 1) rs)

-- all but the slots stays
pub same_but_slots : (first : ℕ) (rs : List Requirement) → map (in_slot 0) (numbered first rs) ≡ map (in_slot 0) rs
same_but_slots first [] = refl
same_but_slots first (r ∷ rs) = ap (λ more. in_slot 0 r ∷ more) (same_but_slots (first + 1) rs)

pub length-numbered : (first : ℕ) (rs : List Requirement) → length (numbered first rs) ≡ length rs
length-numbered first [] = refl
length-numbered first (r ∷ rs) = ap suc (length-numbered (first + 1) rs)

module _ (rs : List Requirement) (i : ℕ) (within : i < length rs) where
  -- so many slots are taken before a place
  taken : slots (take i (numbered 0 rs)) ≡ take i (range_with_len 0 (length rs))
  taken = sym (take-map (λ r. r.slot) i (numbered 0 rs)) ∙ ap (take i) (numbered_slots 0 rs)

  slot_at : (k d : ℕ) → k < i → get_or (slots (take i (numbered 0 rs))) k d ≡ k
  slot_at k d below =
      ap (λ ns. get_or ns k d) taken
      ∙ (get_or-take i (range_with_len 0 (length rs)) k d below
      ∙ (get_or-range_with_len 0 (length rs) k d (omega (arith, below, within)) ∙ zero-add k))

  many : length (slots (take i (numbered 0 rs))) ≡ i
  many = length-map (take i (numbered 0 rs)) (λ r. r.slot) ∙ length-take-le i (numbered 0 rs) (omega (arith, within, length-numbered 0 rs))

  -- the place is the least free slot
  pub least_free : IsLeastFree (take i (numbered 0 rs)) i
  least_free = record {
    free = λ there. let below : there.0 < i = omega (arith, many, there.1) in let is : there.0 ≡ i = sym (slot_at there.0 i below) ∙ there.2 in absurd (omega (arith, is, below));
    least = λ lower below. (lower, omega (arith, many, below), slot_at lower lower below);
  }
