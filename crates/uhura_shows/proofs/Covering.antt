-- How covers are joined: prefixes that cover some tops, from the covers of single prefixes.
use Rattle.std.proofs.Common.{◌≡◌, ℕ, List, [], ◌∷◌, ◌++◌, get_or, Some, refl, sym, ap, ◌∙◌, subst, inl, inr, arith, Contains, append_assoc, append-nil}
use Rattle.std.specs.Prelude.{◌⊎◌, All, AllPairs, slice_get}
use Rattle.std.proofs.lemmas.List.Elements.{All-nil, All-cons, All-tail, All-append, All-contains, Contains-get_or, Contains-append_left, Contains-append_right, Contains-append_cases}
use Rattle.std.proofs.lemmas.List.Kept.{AllPairs-cons}
use Rattle.uhura_plan.specs.declared.choice.Choice.{Choice}
use Rattle.uhura_choice.specs.declared.prefix.Pick.{Pick}
use Rattle.uhura_choice.specs.Branch.{IsBranch, IsPrefix, IsEarlier}
use Rattle.uhura_choice.specs.Order.{IsFrontOf}
use Rattle.uhura_choice.specs.Children.{children, HasOneChild}
use Rattle.uhura_choice.proofs.Earlier.{earlier-irreflexive}
use Rattle.uhura_choice.proofs.Prefixes.{HaveAlternatives}
use Rattle.uhura_choice.proofs.Extensions.{are-children, one-child}
use Rattle.uhura_worst.proofs.SoundItems.{Contains-at}
use Rattle.uhura_shows.specs.Cover.{IsBegunByOne, IsCover, IsBegunIn, Covers}
use Rattle.uhura_shows.proofs.Behind.{earlier-more}
use Rattle.uhura_shows.proofs.Lists.{All-left, All-right, pairs-head, pairs-tail, pairs-left, pairs-right, pairs-across, pairs-append, contains-place, pairs-places}

-- what begins something that begins a list begins the list
pub front-trans : (one other picks : List Pick) → IsFrontOf one other → IsFrontOf other picks → IsFrontOf one picks
front-trans one other picks (rest, is) (more, shape) = (rest ++ more, shape ∙ (ap (λ (l : List Pick). l ++ more) is ∙ append_assoc one rest more))

pub front-itself : (picks : List Pick) → IsFrontOf picks picks
front-itself picks = ([], sym (append-nil picks))

-- two lists of which the one is earlier begin nothing together
pub apart : (one other picks : List Pick) → IsEarlier one other → IsFrontOf one picks → IsFrontOf other picks → ⊥
apart one other picks before (rest, is) (more, shape) =
    earlier-irreflexive picks (subst (λ l. IsEarlier l picks) (sym is) (subst (λ l. IsEarlier (one ++ rest) l) (sym shape) (earlier-more one rest other more before)))

-- what a prefix of a list begins is begun in each longer one
pub begun-left : (one other : List (List Pick)) (picks : List Pick) → IsBegunIn one picks → IsBegunIn (one ++ other) picks
begun-left one other picks begun = record { prefix = begun.prefix; contained = Contains-append_left one other begun.prefix begun.contained; begins = begun.begins }

pub begun-right : (one other : List (List Pick)) (picks : List Pick) → IsBegunIn other picks → IsBegunIn (one ++ other) picks
begun-right one other picks begun = record { prefix = begun.prefix; contained = Contains-append_right one other begun.prefix begun.contained; begins = begun.begins }

pub begun-cases : (one other : List (List Pick)) (picks : List Pick) → IsBegunIn (one ++ other) picks → IsBegunIn one picks ⊎ IsBegunIn other picks
begun-cases one other picks begun =
    elim (Contains-append_cases one other begun.prefix begun.contained) [
      | inl left ↦ inl (record { prefix = begun.prefix; contained = left; begins = begun.begins })
      | inr right ↦ inr (record { prefix = begun.prefix; contained = right; begins = begun.begins })
    ]

-- a list of one thing contains that
pub the-one : (x y : List Pick) → Contains (x ∷ []) y → x ≡ y
the-one x y there = All-contains (λ z. x ≡ z) (x ∷ []) y (All-cons (λ z. x ≡ z) x [] refl (All-nil (λ z. x ≡ z))) there

-- what is begun by one of a list
pub begun-one : (prefix picks : List Pick) → IsFrontOf prefix picks → IsBegunIn (prefix ∷ []) picks
begun-one prefix picks begins = record { prefix = prefix; contained = (0, omega arith, refl); begins = begins }

pub begun-by : (prefix picks : List Pick) → IsBegunIn (prefix ∷ []) picks → IsFrontOf prefix picks
begun-by prefix picks begun =
    subst (λ p. IsFrontOf p picks) (sym (the-one prefix begun.prefix begun.contained)) begun.begins

-- nothing covers nothing
pub covers-nothing : (cs : List Choice) → Covers cs [] []
covers-nothing cs = record {
  only = All-nil (IsPrefix cs);
  order = λ i j d less below. absurd (omega arith);
  below = All-nil (IsBegunIn []);
  every = λ branch is begun. begun;
}

-- prefixes in order cover themselves
pub covers-themselves : (cs : List Choice) (prefixes : List (List Pick)) → All (IsPrefix cs) prefixes → AllPairs IsEarlier prefixes → Covers cs prefixes prefixes
covers-themselves cs prefixes only order = record {
  only = only;
  order = order;
  below = λ k d below. record { prefix = get_or prefixes k d; contained = Contains-get_or prefixes k d below; begins = front-itself (get_or prefixes k d) };
  every = λ branch is begun. begun;
}

pub covers-itself : (cs : List Choice) (prefix : List Pick) → IsPrefix cs prefix → Covers cs (prefix ∷ []) (prefix ∷ [])
covers-itself cs prefix is =
    covers-themselves cs (prefix ∷ []) (All-cons (IsPrefix cs) prefix [] is (All-nil (IsPrefix cs)))
    (AllPairs-cons IsEarlier prefix [] (All-nil (IsEarlier prefix)) (λ i j d less below. absurd (omega arith)))

-- covers of tops that come after one another are joined to one of them all
pub covers-append : (cs : List Choice) (tops others prefixes more : List (List Pick)) → Covers cs tops prefixes → Covers cs others more →
    ((top other : List Pick) → Contains tops top → Contains others other → IsEarlier top other) → Covers cs (tops ++ others) (prefixes ++ more)
covers-append cs tops others prefixes more one two before = record {
  only = All-append (IsPrefix cs) prefixes more one.only two.only;
  order = pairs-append IsEarlier prefixes more one.order two.order across;
  below = All-append (IsBegunIn (tops ++ others)) prefixes more (λ k d below. begun-left tops others (get_or prefixes k d) (one.below k d below))
      (λ k d below. begun-right tops others (get_or more k d) (two.below k d below));
  every = λ branch is begun. each branch is (begun-cases tops others branch begun);
}
  where
    across : (x y : List Pick) → Contains prefixes x → Contains more y → IsEarlier x y
    across x y has there =
        let top = All-contains (IsBegunIn tops) prefixes x one.below has in
        let other = All-contains (IsBegunIn others) more y two.below there in
        subst (λ l. IsEarlier l y) (sym top.begins.1) (subst (λ l. IsEarlier (top.prefix ++ top.begins.0) l) (sym other.begins.1)
        (earlier-more top.prefix top.begins.0 other.prefix other.begins.0 (before top.prefix other.prefix top.contained other.contained)))

    each : (branch : List Pick) → IsBranch cs branch → IsBegunIn tops branch ⊎ IsBegunIn others branch → IsBegunIn (prefixes ++ more) branch
    each branch is (inl begun) = begun-left prefixes more branch (one.every branch is begun)
    each branch is (inr begun) = begun-right prefixes more branch (two.every branch is begun)

-- one top more, behind the others
pub covers-push : (cs : List Choice) (tops : List (List Pick)) (top : List Pick) (prefixes more : List (List Pick)) → Covers cs tops prefixes → Covers cs (top ∷ []) more →
    All (λ other. IsEarlier other top) tops → Covers cs (tops ++ top ∷ []) (prefixes ++ more)
covers-push cs tops top prefixes more one two before =
    covers-append cs tops (top ∷ []) prefixes more one two
    (λ other last has there.
    subst (λ l. IsEarlier other l) (the-one top last there) (All-contains (λ p. IsEarlier p top) tops other before has))

-- what covers the covers of tops covers the tops
pub covers-trans : (cs : List Choice) (tops middles prefixes : List (List Pick)) → Covers cs tops middles → Covers cs middles prefixes → Covers cs tops prefixes
covers-trans cs tops middles prefixes one two = record {
  only = two.only;
  order = two.order;
  below = λ k d below. further (get_or prefixes k d) (two.below k d below);
  every = λ branch is begun. two.every branch is (one.every branch is begun);
}
  where
    further : (picks : List Pick) → IsBegunIn middles picks → IsBegunIn tops picks
    further picks begun =
        let top = All-contains (IsBegunIn tops) middles begun.prefix one.below begun.contained in
        record { prefix = top.prefix; contained = top.contained; begins = front-trans top.prefix begun.prefix picks top.begins begun.begins }

-- what covers the children of a prefix covers the prefix
pub covers-up : (cs : List Choice) (prefix : List Pick) (prefixes : List (List Pick)) → HaveAlternatives cs → IsPrefix cs prefix → (IsBranch cs prefix → ⊥) →
    Covers cs (children cs prefix) prefixes → Covers cs (prefix ∷ []) prefixes
covers-up cs prefix prefixes have is_prefix longer covers = record {
  only = covers.only;
  order = covers.order;
  below = λ k d below. from_child (get_or prefixes k d) (covers.below k d below);
  every = λ branch is begun. covers.every branch is (by_child branch is (begun-by prefix branch begun));
}
  where
    from_child : (picks : List Pick) → IsBegunIn (children cs prefix) picks → IsBegunIn (prefix ∷ []) picks
    from_child picks begun =
        let one = ((are-children cs prefix have is_prefix).only begun.prefix begun.contained).1 in
        begun-one prefix picks (front-trans prefix begun.prefix picks (one.0 ∷ [], one.1) begun.begins)

    by_child : (branch : List Pick) → IsBranch cs branch → IsFrontOf prefix branch → IsBegunIn (children cs prefix) branch
    by_child branch is begins =
        let has : HasOneChild cs prefix branch = one-child cs prefix branch have is begins longer in
        record { prefix = has.child; contained = has.is_child; begins = has.begins }

-- the empty prefix begins every branch, so what covers it is a cover
pub begun-one_place : (prefixes : List (List Pick)) (branch : List Pick) → AllPairs IsEarlier prefixes → IsBegunIn prefixes branch → IsBegunByOne prefixes branch
begun-one_place prefixes branch order begun = record {
  place = begun.contained.0;
  prefix = begun.prefix;
  there = contains-place prefixes begun.prefix begun.contained;
  begins = begun.begins;
  only = λ other front there begins. only other front there begins (pairs-places IsEarlier prefixes other begun.contained.0 front begun.prefix order there (contains-place prefixes begun.prefix begun.contained));
}
  where
    only : (other : ℕ) (front : List Pick) → slice_get prefixes other ≡ Some front → IsFrontOf front branch →
        (other ≡ begun.contained.0) ⊎ (IsEarlier front begun.prefix ⊎ IsEarlier begun.prefix front) → other ≡ begun.contained.0
    only other front there begins (inl same) = same
    only other front there begins (inr (inl before)) = absurd (apart front begun.prefix branch before begins begun.begins)
    only other front there begins (inr (inr after)) = absurd (apart begun.prefix front branch after begun.begins begins)

pub one-begun : (prefixes : List (List Pick)) (branch : List Pick) → IsBegunByOne prefixes branch → IsBegunIn prefixes branch
one-begun prefixes branch one = record { prefix = one.prefix; contained = Contains-at prefixes one.place one.prefix one.there; begins = one.begins }

pub covers-all : (cs : List Choice) (prefixes : List (List Pick)) → Covers cs ([] ∷ []) prefixes → IsCover cs prefixes
covers-all cs prefixes covers = record {
  only = covers.only;
  each = λ branch is. begun-one_place prefixes branch covers.order (covers.every branch is (begun-one [] branch (branch, refl)));
  order = covers.order;
}

pub cover-covers : (cs : List Choice) (prefixes : List (List Pick)) → IsCover cs prefixes → Covers cs ([] ∷ []) prefixes
cover-covers cs prefixes cover = record {
  only = cover.only;
  order = cover.order;
  below = λ k d below. begun-one [] (get_or prefixes k d) (get_or prefixes k d, refl);
  every = λ branch is begun. one-begun prefixes branch (cover.each branch is);
}

-- a prefix among others may be refined to what covers it
pub covers-refine : (cs : List Choice) (tops before : List (List Pick)) (prefix : List Pick) (after prefixes : List (List Pick)) → Covers cs tops (before ++ prefix ∷ after) → Covers cs (prefix ∷ []) prefixes →
    Covers cs tops (before ++ (prefixes ++ after))
covers-refine cs tops before prefix after prefixes all covers =
    covers-trans cs tops (before ++ prefix ∷ after) (before ++ (prefixes ++ after)) all
    (covers-append cs before (prefix ∷ after) before (prefixes ++ after)
    (covers-themselves cs before (All-left (IsPrefix cs) before (prefix ∷ after) all.only) (pairs-left IsEarlier before (prefix ∷ after) all.order))
    (covers-append cs (prefix ∷ []) after prefixes after covers
    (covers-themselves cs after (All-tail (IsPrefix cs) prefix after rest_only) (pairs-tail IsEarlier prefix after rest))
    (λ one other has there. from_prefix one other has (All-contains (IsEarlier prefix) after other (pairs-head IsEarlier prefix after rest) there)))
    (λ one other has there. All-contains (IsEarlier one) (prefix ∷ after) other
    (All-contains (λ x. All (IsEarlier x) (prefix ∷ after)) before one (pairs-across IsEarlier before (prefix ∷ after) all.order) has) there))
  where
    rest : AllPairs IsEarlier (prefix ∷ after)
    rest = pairs-right IsEarlier before (prefix ∷ after) all.order

    rest_only : All (IsPrefix cs) (prefix ∷ after)
    rest_only = All-right (IsPrefix cs) before (prefix ∷ after) all.only

    from_prefix : (one other : List Pick) → Contains (prefix ∷ []) one → IsEarlier prefix other → IsEarlier one other
    from_prefix one other has before = subst (λ l. IsEarlier l other) (the-one prefix one has) before
