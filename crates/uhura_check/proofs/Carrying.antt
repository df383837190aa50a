-- The first thing that isn't so in either of two ways is the earlier of the first in each.
use Rattle.std.proofs.Common.{◌≡◌, ℕ, zero, suc, ◌≤◌, List, [], ◌∷◌, take, refl, ap, subst, inl, inr, arith}
use Rattle.std.specs.Prelude.{All, min}
use Rattle.std.proofs.lemmas.Bool.{cases_lt}
use Rattle.std.proofs.lemmas.List.Elements.{All-take}
use Rattle.uhura_check.specs.Firsts.{IsFirstNot}

-- a shorter front of a list is one of a longer
take-shorter : {X : Type 0} (a b : ℕ) (xs : List X) → a ≤ b → take a (take b xs) ≡ take a xs
take-shorter zero b xs less = refl
take-shorter (suc a) zero xs less = absurd (omega (arith, less))
take-shorter (suc a) (suc b) [] less = refl
take-shorter (suc a) (suc b) (x ∷ xs) less = ap (λ l. x ∷ l) (take-shorter a b xs (omega (arith, less)))

front : {X : Type 0} (P : X → Type 0) (a b : ℕ) (xs : List X) → a ≤ b → All P (take b xs) → All P (take a xs)
front P a b xs less all = subst (λ l. All P l) (take-shorter a b xs less) (All-take P a (take b xs) all)

module _ {X : Type 0} (P Q R : X → Type 0) (both : (x : X) → P x → Q x → R x) (one : (x : X) → R x → P x) (other : (x : X) → R x → Q x) where
  pub all-both : (xs : List X) → All P xs → All Q xs → All R xs
  all-both xs all every = λ k d below. both _ (all k d below) (every k d below)

  pub first-one : (xs : List X) (a : ℕ) → IsFirstNot P xs a → All Q (take a xs) → IsFirstNot R xs a
  first-one xs a first every = record {
    thing = first.thing;
    there = first.there;
    fails = λ so. first.fails (one first.thing so);
    before = all-both (take a xs) first.before every;
  }

  pub first-other : (xs : List X) (b : ℕ) → IsFirstNot Q xs b → All P (take b xs) → IsFirstNot R xs b
  first-other xs b first all = record {
    thing = first.thing;
    there = first.there;
    fails = λ so. first.fails (other first.thing so);
    before = all-both (take b xs) all first.before;
  }

  pub first-both : (xs : List X) (a b least : ℕ) → least ≡ min a b → IsFirstNot P xs a → IsFirstNot Q xs b → IsFirstNot R xs least
  first-both xs a b least is first second =
      elim (cases_lt b a) [
        | inl less ↦
            let same : b ≡ least = omega (arith, less, is) in
            subst (λ (n : ℕ). IsFirstNot R xs n) same (first-other xs b second (front P b a xs (omega (arith, less)) first.before))
        | inr less ↦
            let same : a ≡ least = omega (arith, less, is) in
            subst (λ (n : ℕ). IsFirstNot R xs n) same (first-one xs a first (front Q a b xs less second.before))
      ]
