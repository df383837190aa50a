-- Two prefixes of one plan's branches, one place after another.
use Rattle.std.proofs.Common.{◌≡◌, ℕ, ◌+◌, ◌<◌, ◌≤◌, List, [], ◌∷◌, ◌++◌, ap, sym, subst, refl, ◌∙◌, arith, length, take, drop, get_or, Some, None, Option, true, false, inl, inr, take-append-drop, min}
use Rattle.std.proofs.lemmas.Option.{slice_get-get_or, slice_get_cases}
use Rattle.std.proofs.lemmas.Bool.{both_ways, cases_lt}
use Rattle.std.proofs.lemmas.List.{take_more, drop_more, take_all, length-take-le}
use Rattle.std.specs.Prelude.{◌⊎◌, slice_get, option_and_then}
use Rattle.std.specs.Cmp.{ranks}
use Rattle.std.specs.declared.cmp.Ordering.{Ordering}
use Rattle.std.specs.declared.cmp.Ordering.TheVariants.{Less, Equal, Greater}
use Rattle.std.specs.Ordering.{MatchOrdering, nat_cmp, is_ne}
use Rattle.uhura_plan.specs.declared.choice.Choice.{Choice}
use Rattle.uhura_choice.specs.declared.prefix.Pick.{Pick}
use Rattle.uhura_choice.specs.declared.prefix.Pick.TheVariants.{Alternative, Inactive}
use Rattle.uhura_choice.specs.Branch.{holds, IsEntry, IsPrefix}
use Rattle.uhura_choice.specs.Order.{IsFrontOf, ArePrefixesOfOne, Compares, alternative_of, alternative_at, order_of}
use Rattle.uhura_choice.proofs.Earlier.{earlier-behind}
use Rattle.uhura_choice.proofs.Prefixes.{prefix-entry, prefix-few}

-- two lists are the same up to a place, and have these entries there
record AreSplitAt (a b : List Pick) (place : ℕ) (x y : Pick) : Type 0 where
  pub one : a ≡ take place a ++ x ∷ drop (place + 1) a
  pub other : b ≡ take place a ++ y ∷ drop (place + 1) b
  pub order : order_of (alternative_at a place) (alternative_at b place) ≡ order_of (alternative_of x) (alternative_of y)

split-at : (a b : List Pick) (place : ℕ) → take place a ≡ take place b → place < length a → place < length b →
    AreSplitAt a b place (get_or a place Inactive) (get_or b place Inactive)
split-at a b place same below_a below_b = record {
  one = cut a below_a;
  other = cut b below_b ∙ ap (λ (p : List Pick). p ++ get_or b place Inactive ∷ drop (place + 1) b) (sym same);
  order = ap (λ (o : Option Pick). order_of (option_and_then alternative_of o) (alternative_at b place)) (slice_get-get_or a place Inactive below_a)
      ∙ ap (λ (o : Option Pick). order_of (alternative_of (get_or a place Inactive)) (option_and_then alternative_of o)) (slice_get-get_or b place Inactive below_b);
}
  where
    cut : (l : List Pick) → place < length l → l ≡ take place l ++ get_or l place Inactive ∷ drop (place + 1) l
    cut l below = sym (take-append-drop place l) ∙ ap (λ (p : List Pick). take place l ++ p) (drop_more l place Inactive below)

-- two different alternatives decide
decided : (front : List Pick) (m n : ℕ) (a b : List Pick) (o : Ordering) → MatchOrdering o (m < n) (m ≡ n) (n < m) → is_ne o ≡ true →
    Compares o (front ++ Alternative m ∷ a) (front ++ Alternative n ∷ b)
decided front m n a b Less is differ = earlier-behind front (Alternative m ∷ a) (Alternative n ∷ b) (inl is)
decided front m n a b Equal is differ = cc
decided front m n a b Greater is differ = earlier-behind front (Alternative n ∷ b) (Alternative m ∷ a) (inl is)

decided-by : (front : List Pick) (x y : Pick) (a b : List Pick) → is_ne (order_of (alternative_of x) (alternative_of y)) ≡ true →
    Compares (order_of (alternative_of x) (alternative_of y)) (front ++ x ∷ a) (front ++ y ∷ b)
decided-by front Inactive y a b differ = cc
decided-by front (Alternative m) Inactive a b differ = cc
decided-by front (Alternative m) (Alternative n) a b differ = decided front m n a b (nat_cmp m n) (ranks m n) differ

-- a difference at this place decides
pub compares-at : (a b : List Pick) (place : ℕ) (o : Ordering) → take place a ≡ take place b → place < length a → place < length b →
    o ≡ order_of (alternative_at a place) (alternative_at b place) → is_ne o ≡ true → Compares o a b
compares-at a b place o same below_a below_b is differ =
    let split = split-at a b place same below_a below_b in
    let x = get_or a place Inactive in
    let y = get_or b place Inactive in
    let order : o ≡ order_of (alternative_of x) (alternative_of y) = is ∙ split.order in
    subst (λ r. Compares r a b) (sym order)
    (subst (λ l. Compares (order_of (alternative_of x) (alternative_of y)) l b) (sym split.one)
    (subst (λ l. Compares (order_of (alternative_of x) (alternative_of y)) (take place a ++ x ∷ drop (place + 1) a) l) (sym split.other)
    (decided-by (take place a) x y (drop (place + 1) a) (drop (place + 1) b) (sym (ap is_ne order) ∙ differ))))

-- two entries of one choice that don't differ are the same
same-alternatives : (m n : ℕ) (o : Ordering) → MatchOrdering o (m < n) (m ≡ n) (n < m) → is_ne o ≡ false → m ≡ n
same-alternatives m n Less is same = cc
same-alternatives m n Equal is same = is
same-alternatives m n Greater is same = cc

same-entries : (c : Choice) (before : List Pick) (x y : Pick) → IsEntry c before x → IsEntry c before y → is_ne (order_of (alternative_of x) (alternative_of y)) ≡ false → x ≡ y
same-entries c before Inactive Inactive one other same = refl
same-entries c before Inactive (Alternative n) one other same = absurd (both_ways (holds c.guard before) one other.0)
same-entries c before (Alternative m) Inactive one other same = absurd (both_ways (holds c.guard before) other one.0)
same-entries c before (Alternative m) (Alternative n) one other same = ap (λ i. Alternative i) (same-alternatives m n (nat_cmp m n) (ranks m n) same)

-- without a difference at this place, two prefixes are the same one place further
pub same-further : (a b : List Pick) (place : ℕ) (o : Ordering) → ArePrefixesOfOne a b → take place a ≡ take place b → place < length a → place < length b →
    o ≡ order_of (alternative_at a place) (alternative_at b place) → is_ne o ≡ false → take (place + 1) a ≡ take (place + 1) b
same-further a b place o both same below_a below_b is equal = further (slice_get_cases both.choices place).1
  where
    split : AreSplitAt a b place (get_or a place Inactive) (get_or b place Inactive)
    split = split-at a b place same below_a below_b

    reached : length (take place a) ≡ place
    reached = length-take-le place a (omega arith)

    entries : (c : Choice) → slice_get both.choices place ≡ Some c → get_or a place Inactive ≡ get_or b place Inactive
    entries c there =
        let there' : slice_get both.choices (length (take place a)) ≡ Some c = subst (λ n. slice_get both.choices n ≡ Some c) (sym reached) there in
        same-entries c (take place a) (get_or a place Inactive) (get_or b place Inactive)
        (prefix-entry both.choices (take place a) (get_or a place Inactive) (drop (place + 1) a) c (subst (λ l. IsPrefix both.choices l) split.one both.one) there')
        (prefix-entry both.choices (take place a) (get_or b place Inactive) (drop (place + 1) b) c (subst (λ l. IsPrefix both.choices l) split.other both.other) there')
        (sym (ap is_ne (is ∙ split.order)) ∙ equal)

    longer : get_or a place Inactive ≡ get_or b place Inactive → take (place + 1) a ≡ take (place + 1) b
    longer entry =
        take_more a place Inactive below_a
        ∙ (ap (λ (p : List Pick). p ++ get_or a place Inactive ∷ []) same
        ∙ (ap (λ (x : Pick). take place b ++ x ∷ []) entry ∙ sym (take_more b place Inactive below_b)))

    further : ((c : Choice) × (place < length both.choices) × (slice_get both.choices place ≡ Some c) × (get_or both.choices place c ≡ c)) ⊎ ((length both.choices ≤ place) × (slice_get both.choices place ≡ None)) →
        take (place + 1) a ≡ take (place + 1) b
    further (inl found) = longer (entries found.0 found.2)
    further (inr past) = absurd (omega (arith, past.0, prefix-few both.choices a both.one))

-- the same up to the shorter one's end
begins : (a b : List Pick) → length a ≤ length b → take (length a) a ≡ take (length a) b → IsFrontOf a b
begins a b few same = (
  drop (length a) b,
  sym (take-append-drop (length a) b) ∙ ap (λ (p : List Pick). p ++ drop (length a) b) (sym same ∙ take_all (length a) a (omega arith)),
)

pub compares-equal : (a b : List Pick) (place : ℕ) → take place a ≡ take place b → min (length a) (length b) ≡ place → Compares Equal a b
compares-equal a b place same all = elim (cases_lt (length b) (length a)) [
  | inl shorter ↦ inr (begins b a (omega arith) (sym (subst (λ n. take n a ≡ take n b) (let e : place ≡ length b = omega arith in e) same)))
  | inr longer ↦ inl (begins a b longer (subst (λ n. take n a ≡ take n b) (let e : place ≡ length a = omega arith in e) same))
]
