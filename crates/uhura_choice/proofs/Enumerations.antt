-- All branches of some choices, in order, which are a walk.
use Rattle.std.proofs.Common.{◌≡◌, ℕ, ◌<◌, List, [], ◌∷◌, ◌++◌, inl, inr, ap, sym, subst, refl, ◌∙◌, arith, suc, zero, get_or, length, map}
use Rattle.std.proofs.lemmas.Bool.{cases_Bool, cases_order, both_ways}
use Rattle.std.proofs.lemmas.List.{length-map, get_or-map}
use Rattle.std.proofs.lemmas.List.Elements.{All-nil, All-cons, All-append, All-map, Contains-append_left, Contains-append_right}
use Rattle.std.proofs.lemmas.List.Kept.{AllPairs-cons}
use Rattle.std.specs.Prelude.{◌⊎◌, All, AllPairs, Contains, IsTrue, IsFalse}
use Rattle.uhura_plan.specs.declared.choice.Choice.{Choice}
use Rattle.uhura_choice.specs.declared.prefix.Pick.{Pick}
use Rattle.uhura_choice.specs.declared.prefix.Pick.TheVariants.{Alternative, Inactive}
use Rattle.uhura_choice.specs.Branch.{holds, Follows, IsEarlier, IsBranch}
use Rattle.uhura_choice.specs.Walk.{GoesOn, IsWalk}
use Rattle.uhura_choice.proofs.Earlier.{earlier-irreflexive, earlier-trans, earlier-behind}
use Rattle.uhura_choice.proofs.Prefixes.{HaveAlternatives, go-on}

-- the lists of picks of one kind, all of them, in order
record Enumerates (Is : List Pick → Type 0) : Type 0 where
  pub list : List (List Pick)
  pub only : All Is list
  pub order : AllPairs IsEarlier list
  pub every : (xs : List Pick) → Is xs → Contains list xs

-- ---- lists that are in order

order-nil : AllPairs IsEarlier []
order-nil = λ i j d lower below. absurd (omega arith)

order-head : (x : List Pick) (xs : List (List Pick)) → AllPairs IsEarlier (x ∷ xs) → All (IsEarlier x) xs
order-head x xs order = λ k d below. order 0 (suc k) d (omega arith) (omega arith)

order-tail : (x : List Pick) (xs : List (List Pick)) → AllPairs IsEarlier (x ∷ xs) → AllPairs IsEarlier xs
order-tail x xs order = λ i j d lower below. order (suc i) (suc j) d (omega arith) (omega arith)

order-append : (xs ys : List (List Pick)) → AllPairs IsEarlier xs → AllPairs IsEarlier ys → All (λ x. All (IsEarlier x) ys) xs →
    AllPairs IsEarlier (xs ++ ys)
order-append [] ys one other apart = other
order-append (x ∷ xs) ys one other apart =
    AllPairs-cons IsEarlier x (xs ++ ys) (All-append (IsEarlier x) xs ys (order-head x xs one) (apart 0 x (omega arith)))
    (order-append xs ys (order-tail x xs one) other (λ k d below. apart (suc k) d (omega arith)))

order-behind : (y : Pick) (xs : List (List Pick)) → AllPairs IsEarlier xs → AllPairs IsEarlier (map (λ rest. y ∷ rest) xs)
order-behind y [] order = order-nil
order-behind y (x ∷ xs) order =
    AllPairs-cons IsEarlier (y ∷ x) (map (λ rest. y ∷ rest) xs)
    (All-map (IsEarlier (y ∷ x)) (λ rest. y ∷ rest) xs (λ k d below. earlier-behind (y ∷ []) x (get_or xs k d) (order-head x xs order k d below)))
    (order-behind y xs (order-tail x xs order))

-- ---- enumerations

-- one entry, and what stands behind it
abbrev Begins : Pick → (List Pick → Type 0) → List Pick → Type 0
Begins y Is xs = (rest : List Pick) × (xs ≡ y ∷ rest) × Is rest

behind : (y : Pick) (Is : List Pick → Type 0) → Enumerates Is → Enumerates (Begins y Is)
behind y Is e = record {
  list = map (λ rest. y ∷ rest) e.list;
  only = All-map (Begins y Is) (λ rest. y ∷ rest) e.list (λ k d below. (get_or e.list k d, refl, e.only k d below));
  order = order-behind y e.list e.order;
  every = λ xs begins. every xs begins.0 begins.1 (e.every begins.0 begins.2);
}
  where
    every : (xs rest : List Pick) → xs ≡ y ∷ rest → Contains e.list rest → Contains (map (λ rest. y ∷ rest) e.list) xs
    every xs rest is (k, below, there) = (
      k,
      omega (arith, length-map e.list (λ (rest : List Pick). y ∷ rest)),
      get_or-map (λ (rest : List Pick). y ∷ rest) e.list k rest xs below ∙ (ap (λ l. y ∷ l) there ∙ sym is),
    )

-- one kind, each before each of the other
both : (One Other : List Pick → Type 0) → ((xs ys : List Pick) → One xs → Other ys → IsEarlier xs ys) →
    Enumerates One → Enumerates Other → Enumerates (λ xs. One xs ⊎ Other xs)
both One Other before one other = record {
  list = one.list ++ other.list;
  only = All-append (λ xs. One xs ⊎ Other xs) one.list other.list (λ k d below. inl (one.only k d below)) (λ k d below. inr (other.only k d below));
  order = order-append one.list other.list one.order other.order
      (λ i d lower. λ j d' below. before (get_or one.list i d) (get_or other.list j d') (one.only i d lower) (other.only j d' below));
  every = λ xs is. elim is [
    | inl first ↦ Contains-append_left one.list other.list xs (one.every xs first)
    | inr second ↦ Contains-append_right one.list other.list xs (other.every xs second)
  ];
}

-- the same kind in other words
renamed : (Is As : List Pick → Type 0) → ((xs : List Pick) → Is xs → As xs) → ((xs : List Pick) → As xs → Is xs) → Enumerates Is → Enumerates As
renamed Is As to from e = record {
  list = e.list;
  only = λ k d below. to (get_or e.list k d) (e.only k d below);
  order = e.order;
  every = λ xs is. e.every xs (from xs is);
}

-- ---- the entries of choices

-- one of the first alternatives, and what may stand behind it
abbrev BeginsBelow : List Choice → List Pick → ℕ → List Pick → Type 0
BeginsBelow cs before n [] = ⊥
BeginsBelow cs before n (Inactive ∷ rest) = ⊥
BeginsBelow cs before n (Alternative a ∷ rest) = (a < n) × Follows cs (before ++ Alternative a ∷ []) rest

below-first : (cs : List Choice) (before : List Pick) → ((x : Pick) → Enumerates (Follows cs (before ++ x ∷ []))) → (n : ℕ) → Enumerates (BeginsBelow cs before n)
below-first cs before further zero = record {
  list = [];
  only = All-nil (BeginsBelow cs before 0);
  order = order-nil;
  every = every;
}
  where
    every : (xs : List Pick) → BeginsBelow cs before 0 xs → Contains [] xs
    every [] is = absurd is
    every (Inactive ∷ rest) is = absurd is
    every (Alternative a ∷ rest) is = absurd (omega (arith, is.0))
below-first cs before further (suc n) =
    renamed (λ xs. BeginsBelow cs before n xs ⊎ Begins (Alternative n) (Follows cs (before ++ Alternative n ∷ [])) xs) (BeginsBelow cs before (suc n)) to from
    (both (BeginsBelow cs before n) (Begins (Alternative n) (Follows cs (before ++ Alternative n ∷ []))) earlier (below-first cs before further n)
    (behind (Alternative n) (Follows cs (before ++ Alternative n ∷ [])) (further (Alternative n))))
  where
    earlier : (xs ys : List Pick) → BeginsBelow cs before n xs → Begins (Alternative n) (Follows cs (before ++ Alternative n ∷ [])) ys → IsEarlier xs ys
    earlier [] ys is (rest, same, follows) = absurd is
    earlier (Inactive ∷ xs) ys is (rest, same, follows) = absurd is
    earlier (Alternative a ∷ xs) ys is (rest, same, follows) = subst (λ l. IsEarlier (Alternative a ∷ xs) l) (sym same) (inl is.0)

    to : (xs : List Pick) → BeginsBelow cs before n xs ⊎ Begins (Alternative n) (Follows cs (before ++ Alternative n ∷ [])) xs → BeginsBelow cs before (suc n) xs
    to [] (inl is) = absurd is
    to (Inactive ∷ xs) (inl is) = absurd is
    to (Alternative a ∷ xs) (inl is) = (omega (arith, is.0), is.1)
    to xs (inr (rest, same, follows)) = subst (BeginsBelow cs before (suc n)) (sym same) (omega arith, follows)

    from : (xs : List Pick) → BeginsBelow cs before (suc n) xs → BeginsBelow cs before n xs ⊎ Begins (Alternative n) (Follows cs (before ++ Alternative n ∷ [])) xs
    from [] is = absurd is
    from (Inactive ∷ xs) is = absurd is
    from (Alternative a ∷ xs) is = elim (cases_order a n) [
      | inl same ↦ inr (xs, ap (λ m. Alternative m ∷ xs) same, subst (λ m. Follows cs (before ++ Alternative m ∷ []) xs) same is.1)
      | inr differ ↦ elim differ [ inl less ↦ inl (less, is.1) | inr more ↦ absurd (omega (arith, is.0)) ]
    ]

-- the entries of one more choice
follow-next : (c : Choice) (cs : List Choice) (before : List Pick) → ((x : Pick) → Enumerates (Follows cs (before ++ x ∷ []))) → Enumerates (Follows (c ∷ cs) before)
follow-next c cs before further = elim (cases_Bool (holds c.guard before)) [ inl met ↦ active met | inr unmet ↦ inactive unmet ]
  where
    active : IsTrue (holds c.guard before) → Enumerates (Follows (c ∷ cs) before)
    active met = renamed (BeginsBelow cs before (length c.alternatives)) (Follows (c ∷ cs) before) to from (below-first cs before further (length c.alternatives))
      where
        to : (xs : List Pick) → BeginsBelow cs before (length c.alternatives) xs → Follows (c ∷ cs) before xs
        to [] is = absurd is
        to (Inactive ∷ xs) is = absurd is
        to (Alternative a ∷ xs) is = ((met, is.0), is.1)

        from : (xs : List Pick) → Follows (c ∷ cs) before xs → BeginsBelow cs before (length c.alternatives) xs
        from [] is = absurd is
        from (Inactive ∷ xs) is = absurd (both_ways (holds c.guard before) is.0 met)
        from (Alternative a ∷ xs) is = (is.0.1, is.1)

    inactive : IsFalse (holds c.guard before) → Enumerates (Follows (c ∷ cs) before)
    inactive unmet = renamed (Begins Inactive (Follows cs (before ++ Inactive ∷ []))) (Follows (c ∷ cs) before) to from
        (behind Inactive (Follows cs (before ++ Inactive ∷ [])) (further Inactive))
      where
        to : (xs : List Pick) → Begins Inactive (Follows cs (before ++ Inactive ∷ [])) xs → Follows (c ∷ cs) before xs
        to xs (rest, same, follows) = subst (Follows (c ∷ cs) before) (sym same) (unmet, follows)

        from : (xs : List Pick) → Follows (c ∷ cs) before xs → Begins Inactive (Follows cs (before ++ Inactive ∷ [])) xs
        from [] is = absurd is
        from (Inactive ∷ xs) is = (xs, refl, is.1)
        from (Alternative a ∷ xs) is = absurd (both_ways (holds c.guard before) unmet is.0.0)

-- all entries that may follow some others
all-follow : (cs : List Choice) (before : List Pick) → Enumerates (Follows cs before)
all-follow [] before = record {
  list = [] ∷ [];
  only = All-cons (Follows [] before) [] [] tt (All-nil (Follows [] before));
  order = λ i j d lower below. absurd (omega arith);
  every = every;
}
  where
    every : (xs : List Pick) → Follows [] before xs → Contains ([] ∷ []) xs
    every [] is = (0, omega arith, refl)
    every (x ∷ xs) is = absurd is
all-follow (c ∷ cs) before = follow-next c cs before (λ x. all-follow cs (before ++ x ∷ []))

-- ---- the walk

-- from a branch on, the rest of the enumeration has each later branch
goes-on : (cs : List Choice) (branch : List Pick) (later : List (List Pick)) → All (IsBranch cs) later → AllPairs IsEarlier (branch ∷ later) →
    ((other : List Pick) → IsBranch cs other → IsEarlier branch other → Contains later other) → GoesOn cs branch later
goes-on cs branch [] only order every = λ other is after. absurd (omega (arith, (every other is after).1))
goes-on cs branch (next ∷ later) only order every = (
  record {
    is_branch = only 0 next (omega arith);
    later = order-head branch (next ∷ later) order 0 next (omega arith);
    nothing_between = λ other is after. place other (every other is after);
  },
  goes-on cs next later (λ k d below. only (suc k) d (omega arith)) (order-tail branch (next ∷ later) order)
      (λ other is after. further other after (every other is (earlier-trans branch next other (order-head branch (next ∷ later) order 0 next (omega arith)) after))),
)
  where
    place : (other : List Pick) → Contains (next ∷ later) other → (other ≡ next) ⊎ IsEarlier next other
    place other (zero, below, is) = inl (sym is)
    place other (suc k, below, is) = inr (subst (IsEarlier next) is (order-head next later (order-tail branch (next ∷ later) order) k other (omega arith)))

    further : (other : List Pick) → IsEarlier next other → Contains (next ∷ later) other → Contains later other
    further other after (zero, below, is) = absurd (earlier-irreflexive other (subst (λ l. IsEarlier l other) is after))
    further other after (suc k, below, is) = (k, omega arith, is)

walk-of : (cs : List Choice) (list : List (List Pick)) → All (IsBranch cs) list → AllPairs IsEarlier list →
    ((branch : List Pick) → IsBranch cs branch → Contains list branch) → (branch : List Pick) → IsBranch cs branch → IsWalk cs list
walk-of cs [] only order every branch is = absurd (omega (arith, (every branch is).1))
walk-of cs (first ∷ later) only order every branch is = (
  record { is_branch = only 0 first (omega arith); none_earlier = λ other is_branch before. none other before (every other is_branch) },
  goes-on cs first later (λ k d below. only (suc k) d (omega arith)) order (λ other is_branch after. further other after (every other is_branch)),
)
  where
    none : (other : List Pick) → IsEarlier other first → Contains (first ∷ later) other → ⊥
    none other before (zero, below, same) = earlier-irreflexive other (subst (IsEarlier other) same before)
    none other before (suc k, below, same) =
        earlier-irreflexive other (earlier-trans other first other before (subst (IsEarlier first) same (order-head first later order k other (omega arith))))

    further : (other : List Pick) → IsEarlier first other → Contains (first ∷ later) other → Contains later other
    further other after (zero, below, same) = absurd (earlier-irreflexive other (subst (λ l. IsEarlier l other) same after))
    further other after (suc k, below, same) = (k, omega arith, same)

-- the enumeration of all branches is a walk
pub walk-of_branches : (cs : List Choice) → HaveAlternatives cs → (walk : List (List Pick)) × IsWalk cs walk
walk-of_branches cs have =
    let all = all-follow cs [] in
    let some = go-on [] cs [] have tt in
    (all.list, walk-of cs all.list all.only all.order all.every some.rest some.follows)
