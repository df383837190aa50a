-- Leaves show the same answer where their units stand in another order.
use Rattle.std.proofs.Common.{◌≡◌, ◌≢◌, ℕ, zero, suc, ◌+◌, ◌<◌, List, [], ◌∷◌, map, length, get_or, set, Some, None, refl, sym, ap, subst, ◌∙◌, inl, inr, arith, get_or-set_same, get_or-set_other, length-set}
use Rattle.std.proofs.lemmas.Int.{ints}
use Rattle.std.specs.Prelude.{ℤ, pos, ◌+ℤ◌, ◌*ℤ◌, ◌≤ℤ◌, All, AllPairs, IfSome, IsTrue, if◌then◌else◌, ◌==◌}
use Rattle.std.specs.List.{swap, AllZip}
use Rattle.std.specs.List.Sorted.{IsPermutation}
use Rattle.std.proofs.lemmas.Bool.{cases_eq, cases_order}
use Rattle.std.proofs.lemmas.List.Edits.{swap_is, swapped_from_swap}
use Rattle.std.proofs.lemmas.List.Elements.{All-nil, All-cons, All-head, All-tail}
use Rattle.std.proofs.lemmas.List.Sorted.{IsPermutation-keeps, IsPermutation-map, IsPermutation-swap, length_permutation, All-permutation, sum_by-IsPermutation}
use Rattle.uhura_plan.specs.declared.key.EdgeKey.{EdgeKey}
use Rattle.uhura_choice.specs.declared.prefix.Pick.{Pick}
use Rattle.uhura_veto.specs.State.{State}
use Rattle.uhura_worst.specs.Edges.{is_active_edge}
use Rattle.uhura_shows.specs.Leaf.{LeafReason, Denied, Flow, Stuck, LeafShown, prefixes_of}
use Rattle.uhura_shows.specs.Cover.{IsCover}
use Rattle.uhura_shows.specs.Carried.{keyed_edge, IsCarried, IsKeyedCirculation, weighed_pairs}
use Rattle.uhura_shows.specs.Shows.{Answer, IsShownBy, shown_cost, Shows, AreNoProperFronts}
use Rattle.uhura_proof.specs.Made.{IsSameReason, IsSameLeaf}

-- ---- what holds of all pairs, whichever comes first

-- where the element at a place stood before two were exchanged
abbrev IsFrom : ℕ → ℕ → ℕ → ℕ → Type 0
IsFrom a b k m = (k ≡ a → m ≡ b) × (k ≡ b → m ≡ a) × (k ≢ a → k ≢ b → m ≡ k)

differ : (a b i j m n : ℕ) → IsFrom a b i m → IsFrom a b j n → i ≢ j → m ≢ n
differ a b i j m n one two apart same = elim (cases_eq i a) [
  | inl first ↦ elim (cases_eq j b) [
    | inl last ↦ apart (first ∙ sym (two.1 last) ∙ sym same ∙ one.0 first ∙ sym last)
    | inr neither ↦ elim (cases_eq j a) [
      | inl both ↦ apart (first ∙ sym both)
      | inr other ↦ neither (sym (two.2 other neither) ∙ sym same ∙ one.0 first)
    ]
  ]
  | inr later ↦ elim (cases_eq i b) [
    | inl last ↦ elim (cases_eq j a) [
      | inl first ↦ apart (last ∙ sym (two.0 first) ∙ sym same ∙ one.1 last ∙ sym first)
      | inr other ↦ elim (cases_eq j b) [
        | inl both ↦ apart (last ∙ sym both)
        | inr neither ↦ other (sym (two.2 other neither) ∙ sym same ∙ one.1 last)
      ]
    ]
    | inr neither ↦ elim (cases_eq j a) [
      | inl first ↦ neither (sym (one.2 later neither) ∙ same ∙ two.0 first)
      | inr other ↦ elim (cases_eq j b) [
        | inl last ↦ later (sym (one.2 later neither) ∙ same ∙ two.1 last)
        | inr none ↦ apart (sym (one.2 later neither) ∙ same ∙ two.2 other none)
      ]
    ]
  ]
]

module _ {X : Type 0} (R : X → X → Type 0) (turns : (x y : X) → R x y → R y x) where
  -- it holds of any two that stand at different places
  apart : (xs : List X) → AllPairs R xs → (i j : ℕ) (d : X) → i ≢ j → i < length xs → j < length xs → R (get_or xs i d) (get_or xs j d)
  apart xs pairs i j d differs inside within = elim (cases_order i j) [
    | inl same ↦ absurd (differs same)
    | inr (inl less) ↦ pairs i j d less within
    | inr (inr more) ↦ turns (get_or xs j d) (get_or xs i d) (pairs j i d more inside)
  ]

  module _ (xs : List X) (a b : ℕ) (left : a < length xs) (right : b < length xs) where
    record Stood (k : ℕ) (d : X) : Type 0 where
      place : ℕ
      from : IsFrom a b k place
      inside : place < length xs
      is : get_or (swap xs a b) k d ≡ get_or xs place d

    stood : (k : ℕ) (d : X) → k < length xs → Stood k d
    stood k d below =
        let moved = swapped_from_swap xs (swap xs a b) a b d left right refl in
        elim (cases_eq k a) [
          | inl first ↦ record {
            place = b;
            from = (λ same. refl, λ same. sym same ∙ first, λ one other. absurd (one first));
            inside = right;
            is = ap (λ i. get_or (swap xs a b) i d) first ∙ moved.0;
          }
          | inr later ↦ elim (cases_eq k b) [
            | inl last ↦ record {
              place = a;
              from = (λ same. absurd (later same), λ same. refl, λ one other. absurd (other last));
              inside = left;
              is = ap (λ i. get_or (swap xs a b) i d) last ∙ moved.1;
            }
            | inr neither ↦ record {
              place = k;
              from = (λ same. absurd (later same), λ same. absurd (neither same), λ one other. refl);
              inside = below;
              is = moved.2 k later neither;
            }
          ]
        ]

    swapped_pairs : AllPairs R xs → AllPairs R (swap xs a b)
    swapped_pairs pairs i j d less below =
        let long : length (swap xs a b) ≡ length xs = length_permutation xs (swap xs a b) (IsPermutation-swap xs (swap xs a b) a b left right refl) in
        let one = stood i d (omega (arith, less, below, long)) in
        let other = stood j d (omega (arith, below, long)) in
        subst (λ x. R x (get_or (swap xs a b) j d)) (sym one.is)
        (subst (λ y. R (get_or xs one.place d) y) (sym other.is)
        (apart xs pairs one.place other.place d (differ a b i j one.place other.place one.from other.from (λ same. omega (arith, less, same))) one.inside other.inside))

  pub pairs-permutation : (xs ys : List X) → IsPermutation xs ys → AllPairs R xs → AllPairs R ys
  pairs-permutation xs ys same pairs = IsPermutation-keeps xs (AllPairs R) pairs swapped_pairs ys same

-- ---- sums of integers

module _ {X : Type 0} (f : X → ℤ) where
  abbrev total : List X → ℤ
  total [] = pos 0
  total (x ∷ xs) = f x +ℤ total xs

  total-set : (xs : List X) (i : ℕ) (y d : X) → i < length xs → total (set xs i y) +ℤ f (get_or xs i d) ≡ total xs +ℤ f y
  total-set [] i y d below = absurd (omega (arith, below))
  total-set (x ∷ xs) zero y d below = omega (arith, ints)
  total-set (x ∷ xs) (suc i) y d below = omega (arith, ints, total-set xs i y d (omega (arith, below)))

  total-swap : (xs : List X) (a b : ℕ) (d : X) → a < length xs → b < length xs → total (swap xs a b) ≡ total xs
  total-swap xs a b d left right =
      let first = get_or xs a d in
      let last = get_or xs b d in
      let half = set xs a last in
      let there : get_or half b d ≡ last = elim (cases_eq b a) [
        | inl same ↦ ap (λ i. get_or half i d) same ∙ get_or-set_same xs a last d left
        | inr differs ↦ get_or-set_other xs a b last d differs
      ] in
      let whole : total (set half b first) +ℤ f last ≡ total half +ℤ f first =
      subst (λ x. total (set half b first) +ℤ f x ≡ total half +ℤ f first) there (total-set half b first d (omega (arith, right, length-set xs a last))) in
      ap total (sym (swap_is xs a b d left right)) ∙ omega (arith, ints, whole, total-set xs a last d left)

  total-step : (xs : List X) (a b : ℕ) → a < length xs → b < length xs → total (swap xs a b) ≡ total xs
  total-step [] a b left right = refl
  total-step (x ∷ xs) a b left right = total-swap (x ∷ xs) a b x left right

  total-permutation : (xs ys : List X) → IsPermutation xs ys → total ys ≡ total xs
  total-permutation xs ys same = IsPermutation-keeps xs (λ l. total l ≡ total xs) refl (λ l i j p q before. total-step l i j p q ∙ before) ys same

-- ---- circulations

weighed-total : (state : State) (pairs : List (EdgeKey × ℕ)) → weighed_pairs state pairs ≡ total (λ (pair : EdgeKey × ℕ). pos pair.1 *ℤ (keyed_edge state pair.0).bound) pairs
weighed-total state [] = refl
weighed-total state (pair ∷ pairs) = ap (λ n. (pos pair.1 *ℤ (keyed_edge state pair.0).bound) +ℤ n) (weighed-total state pairs)

weighed-same : (state : State) (pairs others : List (EdgeKey × ℕ)) → IsPermutation pairs others → weighed_pairs state others ≡ weighed_pairs state pairs
weighed-same state pairs others same =
    weighed-total state others ∙ total-permutation (λ (pair : EdgeKey × ℕ). pos pair.1 *ℤ (keyed_edge state pair.0).bound) pairs others same ∙ sym (weighed-total state pairs)

cost-same : (state : State) (prefix : List Pick) (pairs others : List (EdgeKey × ℕ)) → IsPermutation pairs others → shown_cost state prefix others ≡ shown_cost state prefix pairs
cost-same state prefix pairs others same = omega (arith, ints, weighed-same state pairs others same)

circulation-same : (state : State) (pairs others : List (EdgeKey × ℕ)) → IsPermutation pairs others → IsKeyedCirculation state pairs → IsKeyedCirculation state others
circulation-same state pairs others same is = record {
  carried = All-permutation (IsCarried state) pairs others same is.carried;
  once = pairs-permutation (λ (a b : EdgeKey × ℕ). a.0 ≢ b.0) (λ a b differ equal. differ (sym equal)) pairs others same is.once;
  balanced = λ node.
      sum_by-IsPermutation (λ (pair : EdgeKey × ℕ). if (keyed_edge state pair.0).to == node then pair.1 else 0) pairs others same
      ∙ is.balanced node
      ∙ sym (sum_by-IsPermutation (λ (pair : EdgeKey × ℕ). if (keyed_edge state pair.0).from == node then pair.1 else 0) pairs others same);
}

-- ---- leaves

shown-same : (state : State) (answer : Answer) (prefix : List Pick) (one other : LeafReason) → IsSameReason one other → IsShownBy state answer prefix one → IsShownBy state answer prefix other
shown-same state answer prefix (Denied veto) other same shown = subst (IsShownBy state answer prefix) (sym same) shown
shown-same state answer prefix (Stuck keys) other same shown = subst (IsShownBy state answer prefix) (sym same) shown
shown-same state None prefix (Flow pairs) (Flow others) same shown = shown
shown-same state (Some proposal) prefix (Flow pairs) (Flow others) same shown = record {
  circulation = circulation-same state pairs others same shown.circulation;
  settled = All-permutation (λ key. IsTrue (is_active_edge state.plan prefix key)) (map (λ (pair : EdgeKey × ℕ). pair.0) pairs) (map (λ (pair : EdgeKey × ℕ). pair.0) others)
      (IsPermutation-map (λ (pair : EdgeKey × ℕ). pair.0) pairs others same) shown.settled;
  least = subst (λ n. pos proposal.1 ≤ℤ n) (sym (cost-same state prefix pairs others same)) shown.least;
  more = λ earlier. subst (λ n. pos (proposal.1 + 1) ≤ℤ n) (sym (cost-same state prefix pairs others same)) (shown.more earlier);
}
shown-same state answer prefix (Flow pairs) (Denied veto) same shown = absurd same
shown-same state answer prefix (Flow pairs) (Stuck keys) same shown = absurd same

prefixes-same : (leaves others : List LeafShown) → AllZip IsSameLeaf leaves others → prefixes_of others ≡ prefixes_of leaves
prefixes-same [] [] same = refl
prefixes-same [] (o ∷ others) same = absurd same
prefixes-same (l ∷ leaves) [] same = absurd same
prefixes-same (l ∷ leaves) (o ∷ others) same = let rest = prefixes-same leaves others same.1 in let here = same.0.prefix in λ i. here i ∷ rest i

reasons-same : (state : State) (answer : Answer) (leaves others : List LeafShown) → AllZip IsSameLeaf leaves others → All (λ leaf. IsShownBy state answer leaf.prefix leaf.reason) leaves →
    All (λ leaf. IsShownBy state answer leaf.prefix leaf.reason) others
reasons-same state answer [] [] same shown = All-nil (λ (leaf : LeafShown). IsShownBy state answer leaf.prefix leaf.reason)
reasons-same state answer [] (o ∷ others) same shown = absurd same
reasons-same state answer (l ∷ leaves) [] same shown = absurd same
reasons-same state answer (l ∷ leaves) (o ∷ others) same shown =
    let P : LeafShown → Type 0 = λ leaf. IsShownBy state answer leaf.prefix leaf.reason in
    All-cons P o others
    (subst (λ prefix. IsShownBy state answer prefix o.reason) (sym same.0.prefix) (shown-same state answer l.prefix l.reason o.reason same.0.reason (All-head P l leaves shown)))
    (reasons-same state answer leaves others same.1 (All-tail P l leaves shown))

pub shows-same : (state : State) (answer : Answer) (leaves others : List LeafShown) → AllZip IsSameLeaf leaves others → Shows state answer leaves → Shows state answer others
shows-same state answer leaves others same shows =
    let prefixes = prefixes-same leaves others same in
    record {
      cover = subst (IsCover state.plan.choices) (sym prefixes) shows.cover;
      reasons = reasons-same state answer leaves others same shows.reasons;
      whole = subst (λ fronts. IfSome answer (λ proposal. AreNoProperFronts fronts proposal.0)) (sym prefixes) shows.whole;
    }
