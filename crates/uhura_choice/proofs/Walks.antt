-- A list from a first branch on by next branches to the last has each branch once, in order.
use Rattle.std.proofs.Common.{◌≡◌, ◌≢◌, List, [], ◌∷◌, inl, inr, sym, subst, refl, arith, suc, get_or}
use Rattle.std.proofs.lemmas.List.Elements.{All-nil, All-cons}
use Rattle.std.proofs.lemmas.List.Kept.{AllPairs-cons}
use Rattle.std.specs.Prelude.{◌⊎◌, All, AllPairs, Contains}
use Rattle.uhura_plan.specs.declared.choice.Choice.{Choice}
use Rattle.uhura_choice.specs.declared.prefix.Pick.{Pick}
use Rattle.uhura_choice.specs.Branch.{IsEarlier, IsBranch}
use Rattle.uhura_choice.specs.Walk.{IsFirstBranch, GoesOn, IsWalk, ListsBranches}
use Rattle.uhura_choice.proofs.Earlier.{Compare, compare, earlier-trans, earlier-irreflexive}

-- each branch further on is later
further-later : (cs : List Choice) (branch : List Pick) (later : List (List Pick)) → GoesOn cs branch later → All (IsEarlier branch) later
further-later cs branch [] goes = All-nil (IsEarlier branch)
further-later cs branch (next ∷ later) goes =
    All-cons (IsEarlier branch) next later goes.0.later
    (λ k d below. earlier-trans branch next (get_or later k d) goes.0.later (further-later cs next later goes.1 k d below))

in-order : (cs : List Choice) (branch : List Pick) (later : List (List Pick)) → GoesOn cs branch later → AllPairs IsEarlier (branch ∷ later)
in-order cs branch [] goes = AllPairs-cons IsEarlier branch [] (All-nil (IsEarlier branch)) (λ i j d lower below. absurd (omega arith))
in-order cs branch (next ∷ later) goes =
    AllPairs-cons IsEarlier branch (next ∷ later) (further-later cs branch (next ∷ later) goes) (in-order cs next later goes.1)

only-branches : (cs : List Choice) (branch : List Pick) (later : List (List Pick)) → IsBranch cs branch → GoesOn cs branch later → All (IsBranch cs) (branch ∷ later)
only-branches cs branch [] is goes = All-cons (IsBranch cs) branch [] is (All-nil (IsBranch cs))
only-branches cs branch (next ∷ later) is goes =
    All-cons (IsBranch cs) branch (next ∷ later) is (only-branches cs next later goes.0.is_branch goes.1)

contains-head : (x : List Pick) (xs : List (List Pick)) → Contains (x ∷ xs) x
contains-head x xs = (0, omega arith, refl)

contains-further : (x y : List Pick) (xs : List (List Pick)) → Contains xs x → Contains (y ∷ xs) x
contains-further x y xs (k, below, is) = (suc k, omega arith, is)

-- a later branch comes further on
comes : (cs : List Choice) (branch : List Pick) (later : List (List Pick)) → GoesOn cs branch later →
    (other : List Pick) → IsBranch cs other → IsEarlier branch other → Contains later other
comes cs branch [] goes other is after = absurd (goes other is after)
comes cs branch (next ∷ later) goes other is after =
    further (goes.0.nothing_between other is after) (λ behind. comes cs next later goes.1 other is behind)
  where
    further : (other ≡ next) ⊎ IsEarlier next other → (IsEarlier next other → Contains later other) → Contains (next ∷ later) other
    further (inl same) comes_later = subst (λ b. Contains (next ∷ later) b) (sym same) (contains-head next later)
    further (inr behind) comes_later = contains-further other next later (comes_later behind)

every : (cs : List Choice) (first : List Pick) (later : List (List Pick)) → IsFirstBranch cs first → GoesOn cs first later →
    (other : List Pick) → IsBranch cs other → Contains (first ∷ later) other
every cs first later begins goes other is = found (compare cs other first is begins.is_branch)
  where
    found : Compare other first → Contains (first ∷ later) other
    found (inl same) = subst (λ b. Contains (first ∷ later) b) (sym same) (contains-head first later)
    found (inr (inl before)) = absurd (begins.none_earlier other is before)
    found (inr (inr after)) = contains-further other first later (comes cs first later goes other is after)

differ : (x y : List Pick) → IsEarlier x y → x ≢ y
differ x y before same = earlier-irreflexive y (subst (λ z. IsEarlier z y) same before)

pub walk-lists_branches : (cs : List Choice) (walk : List (List Pick)) → IsWalk cs walk → ListsBranches cs walk
walk-lists_branches cs [] walked = absurd walked
walk-lists_branches cs (first ∷ later) walked = record {
  only = only-branches cs first later walked.0.is_branch walked.1;
  order = in-order cs first later walked.1;
  once = λ i j d lower below. differ (get_or (first ∷ later) i d) (get_or (first ∷ later) j d) (in-order cs first later walked.1 i j d lower below);
  every = every cs first later walked.0 walked.1;
}
