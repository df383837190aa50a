-- Prefixes of a cover are merged to one prefix that they cover.
use Rattle.std.proofs.Common.{List, [], ◌∷◌, ◌++◌, refl, sym, subst, inl, inr, Contains}
use Rattle.std.specs.Prelude.{◌⊎◌, All, AllPairs}
use Rattle.std.proofs.lemmas.List.Elements.{All-cons, All-append, All-contains, All-contains_itself, All-weaker, Contains-append_left, Contains-append_right, Contains-append_cases}
use Rattle.std.proofs.lemmas.List.Kept.{AllPairs-cons}
use Rattle.uhura_plan.specs.declared.choice.Choice.{Choice}
use Rattle.uhura_choice.specs.declared.prefix.Pick.{Pick}
use Rattle.uhura_choice.specs.Branch.{IsBranch, IsPrefix, IsEarlier}
use Rattle.uhura_choice.specs.Order.{IsFrontOf}
use Rattle.uhura_shows.specs.Cover.{IsCover, IsBegunIn, Covers}
use Rattle.uhura_shows.proofs.Behind.{earlier-begun, earlier-than_begun, begun-earlier}
use Rattle.uhura_shows.proofs.Covering.{front-trans, apart, begun-left, begun-right, begun-cases, begun-one, begun-by, begun-one_place, one-begun, the-one}
use Rattle.uhura_shows.proofs.Going.{earlier-front}
use Rattle.uhura_shows.proofs.Lists.{All-left, All-right, pairs-left, pairs-right, pairs-across, pairs-append}

module _ (cs : List Choice) (before : List (List Pick)) (prefix : List Pick) (prefixes after : List (List Pick)) (cover : IsCover cs (before ++ (prefixes ++ after))) (covers : Covers cs (prefix ∷ []) prefixes) (is_prefix : IsPrefix cs prefix) where
  -- one of them begins each branch of the prefix
  own : (branch : List Pick) → IsBranch cs branch → IsFrontOf prefix branch → IsBegunIn prefixes branch
  own branch is begins = covers.every branch is (begun-one prefix branch begins)

  others : AllPairs IsEarlier (prefixes ++ after)
  others = pairs-right IsEarlier before (prefixes ++ after) cover.order

  earlier-than_own : (one other : List Pick) → Contains before one → Contains prefixes other → IsEarlier one other
  earlier-than_own one other has there =
      All-contains (IsEarlier one) (prefixes ++ after) other (All-contains (λ x. All (IsEarlier x) (prefixes ++ after)) before one (pairs-across IsEarlier before (prefixes ++ after) cover.order) has)
      (Contains-append_left prefixes after other there)

  own-earlier : (one other : List Pick) → Contains prefixes one → Contains after other → IsEarlier one other
  own-earlier one other has there =
      All-contains (IsEarlier one) after other (All-contains (λ x. All (IsEarlier x) after) prefixes one (pairs-across IsEarlier prefixes after others) has) there

  -- what stands before them is earlier than the prefix, and what stands behind them is later
  before-merged : (one : List Pick) → Contains before one → IsEarlier one prefix
  before-merged one has =
      let more : List Pick = is_prefix.0 in
      let begun : IsBegunIn prefixes (prefix ++ more) = own (prefix ++ more) is_prefix.1 (more, refl) in
      let earlier : IsEarlier one (prefix ++ more) = subst (λ b. IsEarlier one b) (sym begun.begins.1) (earlier-than_begun one begun.prefix begun.begins.0 (earlier-than_own one begun.prefix has begun.contained)) in
      elim (earlier-front one prefix more earlier) [
        | inr past ↦ past
        | inl front ↦ absurd (not-above (prefix-of one has) front)
      ]
    where
      prefix-of : (one : List Pick) → Contains before one → IsPrefix cs one
      prefix-of one has = All-contains (IsPrefix cs) (before ++ (prefixes ++ after)) one cover.only (Contains-append_left before (prefixes ++ after) one has)

      not-above : IsPrefix cs one → IsFrontOf prefix one → ⊥
      not-above (rest, is) front =
          let begun : IsBegunIn prefixes (one ++ rest) = own (one ++ rest) is (front-trans prefix one (one ++ rest) front (rest, refl)) in
          apart one begun.prefix (one ++ rest) (earlier-than_own one begun.prefix has begun.contained) (rest, refl) begun.begins

  behind-merged : (other : List Pick) → Contains after other → IsEarlier prefix other
  behind-merged other there =
      let more : List Pick = is_prefix.0 in
      let begun : IsBegunIn prefixes (prefix ++ more) = own (prefix ++ more) is_prefix.1 (more, refl) in
      let earlier : IsEarlier (prefix ++ more) other = subst (λ b. IsEarlier b other) (sym begun.begins.1) (begun-earlier begun.prefix begun.begins.0 other (own-earlier begun.prefix other begun.contained there)) in
      elim (earlier-begun prefix more other earlier) [
        | inr past ↦ past
        | inl front ↦ absurd (not-above (prefix-of other there) front)
      ]
    where
      prefix-of : (other : List Pick) → Contains after other → IsPrefix cs other
      prefix-of other there =
          All-contains (IsPrefix cs) (before ++ (prefixes ++ after)) other cover.only (Contains-append_right before (prefixes ++ after) other (Contains-append_right prefixes after other there))

      not-above : IsPrefix cs other → IsFrontOf prefix other → ⊥
      not-above (rest, is) front =
          let begun : IsBegunIn prefixes (other ++ rest) = own (other ++ rest) is (front-trans prefix other (other ++ rest) front (rest, refl)) in
          apart begun.prefix other (other ++ rest) (own-earlier begun.prefix other begun.contained there) begun.begins (rest, refl)

  each-within : (list : List (List Pick)) (P : List Pick → Type 0) → ((x : List Pick) → Contains list x → P x) → All P list
  each-within list P each = All-weaker (Contains list) P each list (All-contains_itself list)

  -- so the prefix may stand in their place
  pub covers-merge : IsCover cs (before ++ prefix ∷ after)
  covers-merge = record {
    only = All-append (IsPrefix cs) before (prefix ∷ after) (All-left (IsPrefix cs) before (prefixes ++ after) cover.only)
        (All-cons (IsPrefix cs) prefix after is_prefix (All-right (IsPrefix cs) prefixes after (All-right (IsPrefix cs) before (prefixes ++ after) cover.only)));
    each = λ branch is. begun-one_place (before ++ prefix ∷ after) branch order (by branch (begun-cases before (prefixes ++ after) branch (one-begun (before ++ (prefixes ++ after)) branch (cover.each branch is))));
    order = order;
  }
    where
      across : (one other : List Pick) → Contains before one → Contains (prefix ∷ []) other ⊎ Contains after other → IsEarlier one other
      across one other has (inl there) = subst (λ l. IsEarlier one l) (the-one prefix other there) (before-merged one has)
      across one other has (inr there) =
          All-contains (IsEarlier one) (prefixes ++ after) other (All-contains (λ x. All (IsEarlier x) (prefixes ++ after)) before one (pairs-across IsEarlier before (prefixes ++ after) cover.order) has)
          (Contains-append_right prefixes after other there)

      order : AllPairs IsEarlier (before ++ prefix ∷ after)
      order =
          pairs-append IsEarlier before (prefix ∷ after) (pairs-left IsEarlier before (prefixes ++ after) cover.order)
          (AllPairs-cons IsEarlier prefix after (each-within after (IsEarlier prefix) behind-merged) (pairs-right IsEarlier prefixes after others))
          (λ one other has there. across one other has (Contains-append_cases (prefix ∷ []) after other there))

      by-own : (branch : List Pick) → IsBegunIn prefixes branch → IsFrontOf prefix branch
      by-own branch begun =
          front-trans prefix begun.prefix branch (begun-by prefix begun.prefix (All-contains (IsBegunIn (prefix ∷ [])) prefixes begun.prefix covers.below begun.contained)) begun.begins

      behind : (branch : List Pick) → IsBegunIn prefixes branch ⊎ IsBegunIn after branch → IsBegunIn (before ++ prefix ∷ after) branch
      behind branch (inl begun) = begun-right before (prefix ∷ after) branch (begun-left (prefix ∷ []) after branch (begun-one prefix branch (by-own branch begun)))
      behind branch (inr begun) = begun-right before (prefix ∷ after) branch (begun-right (prefix ∷ []) after branch begun)

      by : (branch : List Pick) → IsBegunIn before branch ⊎ IsBegunIn (prefixes ++ after) branch → IsBegunIn (before ++ prefix ∷ after) branch
      by branch (inl begun) = begun-left before (prefix ∷ after) branch begun
      by branch (inr begun) = behind branch (begun-cases prefixes after branch begun)
