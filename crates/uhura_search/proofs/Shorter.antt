-- The shortest prefix of a branch that is shut.
use Rattle.std.proofs.Common.{◌≡◌, ℕ, ◌+◌, ◌<◌, ◌≤◌, List, length, take, sym, ap, ◌∙◌, subst, inl, inr, arith, length-append}
use Rattle.std.proofs.lemmas.Bool.{cases_lt}
use Rattle.std.proofs.lemmas.List.{length-take-le, take_all, take-take}
use Rattle.uhura_choice.specs.declared.prefix.Pick.{Pick}
use Rattle.uhura_choice.specs.Order.{IsFrontOf}
use Rattle.uhura_shows.proofs.Behind.{front-take, take-front}
use Rattle.uhura_shows.proofs.Covering.{front-trans}
use Rattle.uhura_search.specs.Closed.{Prefixes, IsShortestFront, NoneBegins, NoneBelow}
use Rattle.uhura_search.proofs.Enough.{front-same}

front-short : (front picks : List Pick) → IsFrontOf front picks → length front ≤ length picks
front-short front picks begins = omega (arith, ap length begins.1, length-append front begins.0)

-- what shuts a prefix shuts each longer one
abbrev pub Last : Prefixes → Type 0
Last Shut = (front picks : List Pick) → IsFrontOf front picks → Shut front → Shut picks

-- then none is shut where the branch isn't
pub open-none : (Shut : Prefixes) (branch : List Pick) → Last Shut → (Shut branch → ⊥) → NoneBegins Shut branch
open-none Shut branch last is_open front begins shut = is_open (last front branch begins shut)

-- and none of no more picks than a prefix that isn't
below-open : (Shut : Prefixes) (branch prefix : List Pick) (len : ℕ) → Last Shut → prefix ≡ take len branch → (Shut prefix → ⊥) → NoneBelow Shut branch (len + 1)
below-open Shut branch prefix len last is is_open front begins short shut =
    is_open (subst Shut (sym is) (last front (take len branch) begun shut))
  where
    begun : IsFrontOf front (take len branch)
    begun = take-front front (take len branch) (take-take (length front) len branch (omega (arith, short)) ∙ front-take front branch begins)

-- the shortest prefix that is shut has no fewer picks than the one number, and no more than the other
pub record IsWithin (Shut : Prefixes) (branch : List Pick) (least most : ℕ) : Type 0 where
  pub order : least ≤ most
  pub inside : most ≤ length branch
  pub none : NoneBelow Shut branch least
  pub shut : Shut (take most branch)

-- where a branch is shut, and its prefix of so many picks isn't, the shortest has more
pub within-more : (Shut : Prefixes) (branch prefix : List Pick) (least most : ℕ) → Last Shut → most ≡ length branch → least ≤ most → prefix ≡ take least branch → (Shut prefix → ⊥) → Shut branch → IsWithin Shut branch (least + 1) most
within-more Shut branch prefix least most last all inside is is_open shut = record {
  order = elim (cases_lt least most) [
    | inl less ↦ omega (arith, less)
    | inr more ↦ absurd (is_open (subst Shut (sym (is ∙ take_all least branch (omega (arith, more, all)))) shut))
  ];
  inside = omega (arith, all);
  none = below-open Shut branch prefix least last is is_open;
  shut = subst Shut (sym (take_all most branch (omega (arith, all)))) shut;
}

-- a prefix between that is shut is the most
pub within-shut : (Shut : Prefixes) (branch prefix : List Pick) (least most middle : ℕ) → least ≤ middle → middle ≤ most → prefix ≡ take middle branch → Shut prefix → IsWithin Shut branch least most →
    IsWithin Shut branch least middle
within-shut Shut branch prefix least most middle above below is shut within = record {
  order = above;
  inside = omega (arith, below, within.inside);
  none = within.none;
  shut = subst Shut is shut;
}

-- and behind one that isn't is the least
pub within-open : (Shut : Prefixes) (branch prefix : List Pick) (least most middle : ℕ) → Last Shut → middle < most → prefix ≡ take middle branch → (Shut prefix → ⊥) → IsWithin Shut branch least most →
    IsWithin Shut branch (middle + 1) most
within-open Shut branch prefix least most middle last below is is_open within = record {
  order = omega (arith, below);
  inside = within.inside;
  none = below-open Shut branch prefix middle last is is_open;
  shut = within.shut;
}

-- where the two are one number, the prefix is the shortest
pub within-shortest : (Shut : Prefixes) (branch prefix : List Pick) (least most : ℕ) → most ≤ least → prefix ≡ take most branch → IsWithin Shut branch least most → IsShortestFront Shut branch prefix
within-shortest Shut branch prefix least most met is within = record {
  begins = begins;
  shut = subst Shut (sym is) within.shut;
  above = by_length;
}
  where
    long : length prefix ≡ most
    long = ap length is ∙ length-take-le most branch within.inside

    begins : IsFrontOf prefix branch
    begins = take-front prefix branch (ap (λ (n : ℕ). take n branch) long ∙ sym is)

    by_length : (front : List Pick) → IsFrontOf front prefix → Shut front → front ≡ prefix
    by_length front begun is_shut =
        elim (cases_lt (length front) most) [
          | inl less ↦ absurd (within.none front (front-trans front prefix branch begun begins) (omega (arith, less, met)) is_shut)
          | inr more ↦ front-same front prefix begun (omega (arith, more, long, front-short front prefix begun))
        ]

-- and where that prefix is shut and no shorter one is, it is the shortest
pub first-shortest : (Shut : Prefixes) (branch prefix : List Pick) (least : ℕ) → least ≤ length branch → prefix ≡ take least branch → Shut prefix → NoneBelow Shut branch least → IsShortestFront Shut branch prefix
first-shortest Shut branch prefix least inside is shut none =
    within-shortest Shut branch prefix least least (omega arith) is (record { order = omega arith; inside = inside; none = none; shut = subst Shut is shut })

-- a prefix of the first picks that another branch shares with a prefix is one of that prefix
pub begins-shared : (prefix next front : List Pick) (len : ℕ) → take len prefix ≡ take len next → IsFrontOf front next → length front ≤ len → IsFrontOf front prefix
begins-shared prefix next front len same begins within =
    let both : take (length front) prefix ≡ take (length front) next =
    sym (take-take (length front) len prefix within) ∙ (ap (take (length front)) same ∙ take-take (length front) len next within) in
    take-front front prefix (both ∙ front-take front next begins)

-- none of the empty number
pub below-none : (Shut : Prefixes) (branch : List Pick) → NoneBelow Shut branch 0
below-none Shut branch front begins short shut = omega (arith, short)

-- nor of a smaller one
pub below-fewer : (Shut : Prefixes) (branch : List Pick) (least fewer : ℕ) → fewer ≤ least → NoneBelow Shut branch least → NoneBelow Shut branch fewer
below-fewer Shut branch least fewer few none front begins short shut = none front begins (omega (arith, short, few)) shut

-- none is shorter than the shortest
pub below-shortest : (Shut : Prefixes) (branch prefix : List Pick) → IsShortestFront Shut branch prefix → NoneBelow Shut prefix (length prefix)
below-shortest Shut branch prefix is front begins short shut = omega (arith, short, ap length (is.above front begins shut))
