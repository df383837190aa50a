-- There is a first branch, and behind each prefix a next branch or none.
use Rattle.std.proofs.Common.{◌≡◌, zero, suc, ◌<◌, List, [], ◌∷◌, None, Some, Option, refl, sym, subst, inl, inr, Contains, arith}
use Rattle.std.specs.Prelude.{◌⊎◌, AllPairs}
use Rattle.std.proofs.lemmas.Bool.{cases_order}
use Rattle.std.proofs.lemmas.List.Elements.{All-contains}
use Rattle.uhura_plan.specs.Lists.{Lists}
use Rattle.uhura_plan.specs.Sound.{IsSound}
use Rattle.uhura_choice.specs.declared.prefix.Pick.{Pick}
use Rattle.uhura_choice.specs.declared.prefix.Pick.TheVariants.{Alternative, Inactive}
use Rattle.uhura_choice.specs.Branch.{IsBranch, IsEarlier}
use Rattle.uhura_choice.specs.Walk.{IsFirstBranch, IsWalk, ListsBranches}
use Rattle.uhura_choice.proofs.Prefixes.{sound-have_alternatives}
use Rattle.uhura_choice.proofs.Enumerations.{walk-of_branches}
use Rattle.uhura_choice.proofs.Walks.{walk-lists_branches}
use Rattle.uhura_shows.specs.Behind.{IsBehind}
use Rattle.uhura_shows.proofs.Lists.{pairs-tail, contains-first}

-- picks are earlier than others, or they aren't
earlier-or_not : (xs ys : List Pick) → IsEarlier xs ys ⊎ (IsEarlier xs ys → ⊥)
earlier-or_not [] ys = inr (λ never. never)
earlier-or_not (x ∷ xs) [] = inr (λ never. never)
earlier-or_not (Inactive ∷ xs) (Inactive ∷ ys) = earlier-or_not xs ys
earlier-or_not (Alternative a ∷ xs) (Inactive ∷ ys) = inr (λ never. never)
earlier-or_not (Inactive ∷ xs) (Alternative b ∷ ys) = inr (λ never. never)
earlier-or_not (Alternative a ∷ xs) (Alternative b ∷ ys) = by (cases_order a b) (earlier-or_not xs ys)
  where
    not-same : a ≡ b → (IsEarlier xs ys → ⊥) → (a < b) ⊎ ((a ≡ b) × IsEarlier xs ys) → ⊥
    not-same same never (inl less) = omega (arith, same, less)
    not-same same never (inr both) = never both.1

    not-more : b < a → (a < b) ⊎ ((a ≡ b) × IsEarlier xs ys) → ⊥
    not-more more (inl less) = omega (arith, more, less)
    not-more more (inr both) = omega (arith, more, both.0)

    by : (a ≡ b) ⊎ ((a < b) ⊎ (b < a)) → IsEarlier xs ys ⊎ (IsEarlier xs ys → ⊥) → ((a < b) ⊎ ((a ≡ b) × IsEarlier xs ys)) ⊎ ((a < b) ⊎ ((a ≡ b) × IsEarlier xs ys) → ⊥)
    by (inl same) (inl earlier) = inl (inr (same, earlier))
    by (inl same) (inr never) = inr (not-same same never)
    by (inr (inl less)) rest = inl (inl less)
    by (inr (inr more)) rest = inr (not-more more)

-- of some branches the first that is behind the prefix
record IsFirstOf (prefix : List Pick) (branches : List (List Pick)) (next : List Pick) : Type 0 where
  contained : Contains branches next
  behind : IsEarlier prefix next
  first : (other : List Pick) → Contains branches other → IsEarlier prefix other → (other ≡ next) ⊎ IsEarlier next other

abbrev FirstOf : List Pick → List (List Pick) → Option (List Pick) → Type 0
FirstOf prefix branches None = (other : List Pick) → Contains branches other → IsEarlier prefix other → ⊥
FirstOf prefix branches (Some next) = IsFirstOf prefix branches next

contains-cases : (b : List Pick) (bs : List (List Pick)) (other : List Pick) → Contains (b ∷ bs) other → (b ≡ other) ⊎ Contains bs other
contains-cases b bs other (zero, below, is) = inl is
contains-cases b bs other (suc k, below, is) = inr (k, omega arith, is)

nothing-contained : (other : List Pick) → Contains [] other → ⊥
nothing-contained other (k, below, is) = omega (arith, below)

first-of : (prefix : List Pick) (branches : List (List Pick)) → AllPairs IsEarlier branches → (next : Option (List Pick)) × FirstOf prefix branches next
first-of prefix [] order = (None, λ other there behind. nothing-contained other there)
first-of prefix (b ∷ bs) order = by (earlier-or_not prefix b) (first-of prefix bs (pairs-tail IsEarlier b bs order))
  where
    turned : (other : List Pick) → (b ≡ other) ⊎ IsEarlier b other → (other ≡ b) ⊎ IsEarlier b other
    turned other (inl same) = inl (sym same)
    turned other (inr later) = inr later

    none : (IsEarlier prefix b → ⊥) → FirstOf prefix bs None → (other : List Pick) → (b ≡ other) ⊎ Contains bs other → IsEarlier prefix other → ⊥
    none never rest other (inl same) behind = never (subst (λ l. IsEarlier prefix l) (sym same) behind)
    none never rest other (inr there) behind = rest other there behind

    further : (IsEarlier prefix b → ⊥) → (next : List Pick) → IsFirstOf prefix bs next → (other : List Pick) → (b ≡ other) ⊎ Contains bs other → IsEarlier prefix other → (other ≡ next) ⊎ IsEarlier next other
    further never next found other (inl same) behind = absurd (never (subst (λ l. IsEarlier prefix l) (sym same) behind))
    further never next found other (inr there) behind = found.first other there behind

    moved : (next : List Pick) → Contains bs next → Contains (b ∷ bs) next
    moved next (k, below, is) = (suc k, omega arith, is)

    by : IsEarlier prefix b ⊎ (IsEarlier prefix b → ⊥) → (next : Option (List Pick)) × FirstOf prefix bs next → (next : Option (List Pick)) × FirstOf prefix (b ∷ bs) next
    by (inl behind) rest = (
      Some b,
      record {
        contained = (0, omega arith, refl);
        behind = behind;
        first = λ other there after. turned other (contains-first IsEarlier b bs other order there);
      },
    )
    by (inr never) (None, rest) = (None, λ other there behind. none never rest other (contains-cases b bs other there) behind)
    by (inr never) (Some next, found) = (
      Some next,
      record {
        contained = moved next found.contained;
        behind = found.behind;
        first = λ other there after. further never next found other (contains-cases b bs other there) after;
      },
    )

module _ (plan : Lists) (sound : IsSound plan) where
  walk : (walk : List (List Pick)) × IsWalk plan.choices walk
  walk = walk-of_branches plan.choices (sound-have_alternatives plan sound)

  listed : (list : List (List Pick)) → IsWalk plan.choices list → ListsBranches plan.choices list
  listed list walked = walk-lists_branches plan.choices list walked

  pub first-there : (first : List Pick) × IsFirstBranch plan.choices first
  first-there = by walk.0 walk.1
    where
      by : (list : List (List Pick)) → IsWalk plan.choices list → (first : List Pick) × IsFirstBranch plan.choices first
      by [] walked = absurd walked
      by (first ∷ later) walked = (first, walked.0)

  pub behind-there : (prefix : List Pick) → (later : Option (List Pick)) × IsBehind plan.choices prefix later
  behind-there prefix = by walk.0 walk.1
    where
      of : (list : List (List Pick)) → ListsBranches plan.choices list → (later : Option (List Pick)) → FirstOf prefix list later → IsBehind plan.choices prefix later
      of list lists None none = λ branch is after. none branch (lists.every branch is) after
      of list lists (Some next) found = record {
        is_branch = All-contains (IsBranch plan.choices) list next lists.only found.contained;
        behind = found.behind;
        first = λ branch is after. found.first branch (lists.every branch is) after;
      }

      by : (list : List (List Pick)) → IsWalk plan.choices list → (later : Option (List Pick)) × IsBehind plan.choices prefix later
      by list walked =
          let lists : ListsBranches plan.choices list = listed list walked in
          let found : (next : Option (List Pick)) × FirstOf prefix list next = first-of prefix list lists.order in
          (found.0, of list lists found.0 found.1)
