-- A walk over prefixes in the order of their branches: each step begins with the first branch that isn't covered.
use Rattle.std.proofs.Common.{◌≡◌, List, [], ◌∷◌, ◌++◌, get_or, None, Some, Option, refl, sym, ap, ◌∙◌, subst, inl, inr, arith, Contains, append_assoc}
use Rattle.std.specs.Prelude.{◌⊎◌, All, IfSome}
use Rattle.std.proofs.lemmas.List.Elements.{All-nil, All-push, All-contains, Contains-append_right}
use Rattle.std.proofs.lemmas.List.Quantifiers.{all_pairs_push}
use Rattle.uhura_plan.specs.declared.choice.Choice.{Choice}
use Rattle.uhura_choice.specs.declared.prefix.Pick.{Pick}
use Rattle.uhura_choice.specs.declared.prefix.Pick.TheVariants.{Alternative, Inactive}
use Rattle.uhura_choice.specs.Branch.{IsBranch, IsPrefix, IsEarlier}
use Rattle.uhura_choice.specs.Order.{IsFrontOf}
use Rattle.uhura_choice.specs.Walk.{IsFirstBranch, IsFirstFrom}
use Rattle.uhura_choice.proofs.Earlier.{Compare, compare, earlier-trans, earlier-irreflexive, begins-not_earlier}
use Rattle.uhura_choice.proofs.Prefixes.{branch-prefix, prefix-front}
use Rattle.uhura_shows.specs.Cover.{IsCover, IsBegunIn}
use Rattle.uhura_shows.specs.Behind.{IsNextBehind, IsBehind, ComesBefore, CoversUpTo}
use Rattle.uhura_shows.proofs.Behind.{earlier-begun, earlier-more, begun-earlier}
use Rattle.uhura_shows.proofs.Covering.{apart, begun-cases, begun-left, begun-right, begun-one, begun-one_place, one-begun}
use Rattle.uhura_shows.proofs.Lists.{pairs-right, pairs-across, contains-first}

-- what is earlier than something that a prefix begins is earlier than the prefix, or begun by it
pub earlier-front : (picks prefix rest : List Pick) → IsEarlier picks (prefix ++ rest) → IsFrontOf prefix picks ⊎ IsEarlier picks prefix
earlier-front picks [] rest before = inl (picks, refl)
earlier-front [] (x ∷ prefix) rest before = absurd before
earlier-front (Inactive ∷ picks) (Inactive ∷ prefix) rest before = by (earlier-front picks prefix rest before)
  where
    by : IsFrontOf prefix picks ⊎ IsEarlier picks prefix → IsFrontOf (Inactive ∷ prefix) (Inactive ∷ picks) ⊎ IsEarlier (Inactive ∷ picks) (Inactive ∷ prefix)
    by (inl front) = inl (front.0, ap (λ l. Inactive ∷ l) front.1)
    by (inr earlier) = inr earlier
earlier-front (Inactive ∷ picks) (Alternative b ∷ prefix) rest before = absurd before
earlier-front (Alternative a ∷ picks) (Inactive ∷ prefix) rest before = absurd before
earlier-front (Alternative a ∷ picks) (Alternative b ∷ prefix) rest (inl less) = inr (inl less)
earlier-front (Alternative a ∷ picks) (Alternative b ∷ prefix) rest (inr same) = by (earlier-front picks prefix rest same.1)
  where
    by : IsFrontOf prefix picks ⊎ IsEarlier picks prefix → IsFrontOf (Alternative b ∷ prefix) (Alternative a ∷ picks) ⊎ IsEarlier (Alternative a ∷ picks) (Alternative b ∷ prefix)
    by (inl (more, is)) = let equal : a ≡ b = same.0 in inl (more, cc)
    by (inr earlier) = inr (inr (same.0, earlier))

-- what is behind a prefix is later than all that it begins
pub behind-later : (cs : List Choice) (prefix branch next : List Pick) → IsFrontOf prefix branch → IsNextBehind cs prefix next → IsEarlier branch next
behind-later cs prefix branch next begins behind = subst (λ b. IsEarlier b next) (sym begins.1) (begun-earlier prefix begins.0 next behind.behind)

-- what begins a branch isn't earlier than it
pub front-not_earlier : (prefix branch : List Pick) → IsFrontOf prefix branch → IsEarlier prefix branch → ⊥
front-not_earlier prefix branch begins before = begins-not_earlier prefix begins.0 (subst (λ b. IsEarlier prefix b) begins.1 before)

-- a branch before the one behind a prefix is before a branch that the prefix begins, or begun by the prefix
pub before-behind : (cs : List Choice) (prefix next : List Pick) (later : Option (List Pick)) (branch : List Pick) → IsBranch cs next → IsFrontOf prefix next → IsBehind cs prefix later → IsBranch cs branch →
    ComesBefore branch later → IsEarlier branch next ⊎ IsFrontOf prefix branch
before-behind cs prefix next later branch is_next begins behind is_branch before = by (compare cs branch next is_branch is_next)
  where
    not-behind : (later : Option (List Pick)) → IsBehind cs prefix later → ComesBefore branch later → IsEarlier prefix branch → ⊥
    not-behind None none before after = none branch is_branch after
    not-behind (Some other) next before after =
        elim (next.first branch is_branch after) [
          | inl same ↦ earlier-irreflexive other (subst (λ b. IsEarlier b other) same before)
          | inr more ↦ earlier-irreflexive other (earlier-trans other branch other more before)
        ]

    by : Compare branch next → IsEarlier branch next ⊎ IsFrontOf prefix branch
    by (inl same) = inr (subst (λ b. IsFrontOf prefix b) (sym same) begins)
    by (inr (inl earlier)) = inl earlier
    by (inr (inr after)) =
        elim (earlier-begun prefix begins.0 branch (subst (λ b. IsEarlier b branch) begins.1 after)) [
          | inl front ↦ inr front
          | inr past ↦ absurd (not-behind later behind before past)
        ]

-- nothing covers all up to the first branch
pub going-begins : (cs : List Choice) (first : List Pick) → IsFirstBranch cs first → CoversUpTo cs [] (Some first)
going-begins cs first is = record {
  only = All-nil (IsPrefix cs);
  order = λ i j d less below. absurd (omega arith);
  before = All-nil (λ prefix. ComesBefore prefix (Some first));
  every = λ branch is_branch before. absurd (is.none_earlier branch is_branch before);
  next_branch = is.is_branch;
}

-- a prefix whose first branch is the next one covers up to the branch behind it
pub going-on : (cs : List Choice) (prefixes : List (List Pick)) (next prefix : List Pick) (later : Option (List Pick)) → CoversUpTo cs prefixes (Some next) → IsFirstFrom cs prefix next →
    IsBehind cs prefix later → CoversUpTo cs (prefixes ++ prefix ∷ []) later
going-on cs prefixes next prefix later so_far from behind = record {
  only = All-push (IsPrefix cs) prefixes prefix so_far.only (prefix-front cs prefix from.begins.0 (subst (λ b. IsPrefix cs b) from.begins.1 (branch-prefix cs next from.is_branch)));
  order = all_pairs_push IsEarlier prefixes prefix so_far.order (λ k d below. earlier (get_or prefixes k d) (so_far.only k d below) (so_far.before k d below));
  before = All-push (λ p. ComesBefore p later) prefixes prefix (λ k d below. before later behind (get_or prefixes k d) (earlier (get_or prefixes k d) (so_far.only k d below) (so_far.before k d below))) (own later behind);
  every = λ branch is_branch comes. each branch is_branch (before-behind cs prefix next later branch from.is_branch from.begins behind is_branch comes);
  next_branch = next_is later behind;
}
  where
    earlier : (other : List Pick) → IsPrefix cs other → IsEarlier other next → IsEarlier other prefix
    earlier other (rest, is_branch) before =
        elim (earlier-front other prefix from.begins.0 (subst (λ b. IsEarlier other b) from.begins.1 before)) [
          | inr past ↦ past
          | inl (more, is) ↦
              let shape : other ++ rest ≡ prefix ++ (more ++ rest) = ap (λ (l : List Pick). l ++ rest) is ∙ append_assoc prefix more rest in
              absurd (from.none_earlier (more ++ rest) (subst (λ b. IsBranch cs b) shape is_branch) (subst (λ b. IsEarlier b next) shape (begun-earlier other rest next before)))
        ]

    before : (later : Option (List Pick)) → IsBehind cs prefix later → (other : List Pick) → IsEarlier other prefix → ComesBefore other later
    before None behind other earlier = tt
    before (Some last) behind other earlier = earlier-trans other prefix last earlier behind.behind

    own : (later : Option (List Pick)) → IsBehind cs prefix later → ComesBefore prefix later
    own None behind = tt
    own (Some last) behind = behind.behind

    next_is : (later : Option (List Pick)) → IsBehind cs prefix later → IfSome later (IsBranch cs)
    next_is None behind = tt
    next_is (Some last) behind = behind.is_branch

    each : (branch : List Pick) → IsBranch cs branch → IsEarlier branch next ⊎ IsFrontOf prefix branch → IsBegunIn (prefixes ++ prefix ∷ []) branch
    each branch is_branch (inl comes) = begun-left prefixes (prefix ∷ []) branch (so_far.every branch is_branch comes)
    each branch is_branch (inr begins) = begun-right prefixes (prefix ∷ []) branch (begun-one prefix branch begins)

-- with no next branch, all are covered
pub going-ends : (cs : List Choice) (prefixes : List (List Pick)) → CoversUpTo cs prefixes None → IsCover cs prefixes
going-ends cs prefixes covers = record {
  only = covers.only;
  each = λ branch is. begun-one_place prefixes branch covers.order (covers.every branch is tt);
  order = covers.order;
}

-- where there is a next branch, the prefixes so far don't begin it
pub next-not_begun : (cs : List Choice) (prefixes : List (List Pick)) (next : List Pick) → CoversUpTo cs prefixes (Some next) → IsBegunIn prefixes next → ⊥
next-not_begun cs prefixes next covers begun =
    front-not_earlier begun.prefix next begun.begins (All-contains (λ p. IsEarlier p next) prefixes begun.prefix covers.before begun.contained)

-- so they are no cover
pub cover-not_going : (cs : List Choice) (prefixes : List (List Pick)) (next : List Pick) → CoversUpTo cs prefixes (Some next) → IsCover cs prefixes → ⊥
cover-not_going cs prefixes next covers cover = next-not_begun cs prefixes next covers (one-begun prefixes next (cover.each next covers.next_branch))

module _ (cs : List Choice) (so_far : List (List Pick)) (prefix : List Pick) (rest : List (List Pick)) (cover : IsCover cs (so_far ++ prefix ∷ rest)) where
  -- each of the prefixes so far is earlier than each further one
  further-later : (one other : List Pick) → Contains so_far one → Contains (prefix ∷ rest) other → IsEarlier one other
  further-later one other has there =
      All-contains (IsEarlier one) (prefix ∷ rest) other (All-contains (λ x. All (IsEarlier x) (prefix ∷ rest)) so_far one (pairs-across IsEarlier so_far (prefix ∷ rest) cover.order) has) there

  -- so what the prefixes so far begin isn't begun by a further one
  not-begun_twice : (picks other : List Pick) → IsBegunIn so_far picks → Contains (prefix ∷ rest) other → IsFrontOf other picks → ⊥
  not-begun_twice picks other begun there begins =
      apart begun.prefix other picks (further-later begun.prefix other begun.contained there) begun.begins begins

  first-there : Contains (prefix ∷ rest) prefix
  first-there = (0, omega arith, refl)

  prefix-is : IsPrefix cs prefix
  prefix-is = All-contains (IsPrefix cs) (so_far ++ prefix ∷ rest) prefix cover.only (Contains-append_right so_far (prefix ∷ rest) prefix first-there)

  -- where the prefixes so far begin all branches, none is left for another prefix
  pub cover-not_ended : CoversUpTo cs so_far None → ⊥
  cover-not_ended covers =
      let more : List Pick = prefix-is.0 in
      not-begun_twice (prefix ++ more) prefix (covers.every (prefix ++ more) prefix-is.1 tt) first-there (more, refl)

  -- and else the next prefix is one whose first branch is the next one
  pub cover-next : (next : List Pick) → CoversUpTo cs so_far (Some next) → IsFirstFrom cs prefix next
  cover-next next covers = record {
    is_branch = covers.next_branch;
    begins = begins (one-begun (so_far ++ prefix ∷ rest) next (cover.each next covers.next_branch));
    none_earlier = λ more is_branch before. none-before more is_branch before;
  }
    where
      none-before : (more : List Pick) → IsBranch cs (prefix ++ more) → IsEarlier (prefix ++ more) next → ⊥
      none-before more is_branch before =
          not-begun_twice (prefix ++ more) prefix (covers.every (prefix ++ more) is_branch before) first-there (more, refl)

      by-first : (begun : IsBegunIn (prefix ∷ rest) next) → (prefix ≡ begun.prefix) ⊎ IsEarlier prefix begun.prefix → IsFrontOf prefix next
      by-first begun (inl same) = subst (λ p. IsFrontOf p next) (sym same) begun.begins
      by-first begun (inr earlier) =
          let more : List Pick = prefix-is.0 in
          absurd (none-before more prefix-is.1
          (subst (λ b. IsEarlier (prefix ++ more) b) (sym begun.begins.1) (earlier-more prefix more begun.prefix begun.begins.0 earlier)))

      begins : IsBegunIn (so_far ++ prefix ∷ rest) next → IsFrontOf prefix next
      begins begun =
          elim (begun-cases so_far (prefix ∷ rest) next begun) [
            | inl before ↦ absurd (next-not_begun cs so_far next covers before)
            | inr there ↦ by-first there (contains-first IsEarlier prefix rest there.prefix (pairs-right IsEarlier so_far (prefix ∷ rest) cover.order) there.contained)
          ]
