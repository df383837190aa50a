-- When a value is enough: by how the prefix stands to the best branch.
use Rattle.std.proofs.Common.{◌≡◌, List, Option, Some, None, [], ◌∷◌, length, ◌++◌, inl, inr, sym, ap, ◌∙◌, subst, arith, append-nil, length-append}
use Rattle.std.specs.Prelude.{ℤ, pos, ◌+ℤ◌, ◌≤ℤ◌, ◌<ℤ◌, ◌⊎◌, ◌↔◌, Bool, true, false, int_lt, nat_eq}
use Rattle.std.specs.Bool.{MatchBool}
use Rattle.std.specs.Int.{w128}
use Rattle.std.proofs.Common.{to_z, of_z, SFits}
use Rattle.std.proofs.lemmas.Int.{ints, by_lt_z, to_z-of_z}
use Rattle.std.proofs.lemmas.Bool.Decides.{nat_tests}
use Rattle.uhura_plan.specs.Lists.{Lists}
use Rattle.uhura_choice.specs.declared.prefix.Pick.{Pick}
use Rattle.uhura_choice.specs.Branch.{IsBranch, IsPrefix, IsEarlier}
use Rattle.uhura_choice.specs.Order.{IsFrontOf}
use Rattle.uhura_choice.proofs.Prefixes.{length-follows, prefix-few}
use Rattle.uhura_choice.proofs.Earlier.{earlier-irreflexive, earlier-trans, begins-not_earlier, begun-not_earlier}
use Rattle.uhura_conflict.specs.Store.{IsReachedBy}
use Rattle.uhura_search.specs.declared.incumbent.Incumbent.{Incumbent}
use Rattle.uhura_search.specs.Shut.{IsEnough, IsDear, left_of}

-- more is enough where less is
pub enough-more : (plan : Lists) (best : Incumbent) (prefix : List Pick) (less more : ℤ) → less ≤ℤ more → IsEnough plan best prefix less → IsEnough plan best prefix more
enough-more plan best prefix less more most enough = record {
  whole = enough.whole;
  least = let least = enough.least in omega (arith, ints);
  more = λ earlier. let least = enough.more earlier in omega (arith, ints);
}

pub dear-more : (plan : Lists) (best : Option Incumbent) (prefix : List Pick) (less more : ℤ) → less ≤ℤ more → IsDear plan best prefix less → IsDear plan best prefix more
dear-more plan None prefix less more most dear = absurd dear
dear-more plan (Some best) prefix less more most dear = enough-more plan best prefix less more most dear

-- a prefix that is earlier
pub earlier-enough : (plan : Lists) (best : Incumbent) (prefix : List Pick) (value : ℤ) → IsEarlier prefix best.branch → left_of plan best prefix <ℤ value → IsEnough plan best prefix value
earlier-enough plan best prefix value earlier less = record {
  whole = λ begins. absurd (begins-not_earlier prefix begins.0 (subst (λ b. IsEarlier prefix b) begins.1 earlier));
  least = omega (arith, ints);
  more = λ _. omega (arith, ints);
}

-- one that is later
pub later-enough : (plan : Lists) (best : Incumbent) (prefix : List Pick) (value : ℤ) → IsEarlier best.branch prefix → left_of plan best prefix ≤ℤ value → IsEnough plan best prefix value
later-enough plan best prefix value later least = record {
  whole = λ begins. absurd (begun-not_earlier prefix begins.0 (subst (λ b. IsEarlier b prefix) begins.1 later));
  least = omega (arith, ints);
  more = λ earlier. absurd (earlier-irreflexive prefix (earlier-trans prefix best.branch prefix earlier later));
}

-- two of which the one begins the other, and that are as long, are the same
pub front-same : (one other : List Pick) → IsFrontOf one other → length one ≡ length other → one ≡ other
front-same one other (rest, is) long =
    by_rest rest is (omega (arith, long, ap length is ∙ length-append one rest))
  where
    by_rest : (rest : List Pick) → other ≡ one ++ rest → length rest ≡ 0 → one ≡ other
    by_rest [] is none = sym (is ∙ append-nil one)
    by_rest (x ∷ xs) is none = absurd (omega (arith, none))

pub same-branch : (one other : List Pick) → IsFrontOf one other ⊎ IsFrontOf other one → length one ≡ length other → one ≡ other
same-branch one other (inl begins) long = front-same one other begins long
same-branch one other (inr begins) long = sym (front-same other one begins (sym long))

-- the best branch itself
pub same-enough : (plan : Lists) (best : Incumbent) (prefix : List Pick) (value : ℤ) → IsFrontOf prefix best.branch ⊎ IsFrontOf best.branch prefix → length prefix ≡ length best.branch →
    left_of plan best prefix ≤ℤ value → IsEnough plan best prefix value
same-enough plan best prefix value one long least =
    let same : prefix ≡ best.branch = same-branch prefix best.branch one long in
    record {
      whole = λ _. same;
      least = omega (arith, ints);
      more = λ earlier. absurd (earlier-irreflexive best.branch (subst (λ b. IsEarlier b best.branch) same earlier));
    }

-- and a proper prefix of it
proper-not_enough : (plan : Lists) (best : Incumbent) (prefix : List Pick) (value : ℤ) → IsPrefix plan.choices prefix → IsBranch plan.choices best.branch →
    IsFrontOf prefix best.branch ⊎ IsFrontOf best.branch prefix → (length prefix ≡ length best.branch → ⊥) → IsEnough plan best prefix value → ⊥
proper-not_enough plan best prefix value is is_branch (inl begins) other enough = other (ap length (enough.whole begins))
proper-not_enough plan best prefix value is is_branch (inr begins) other enough =
    let few = prefix-few plan.choices prefix is in
    let whole = length-follows best.branch plan.choices [] is_branch in
    let long = ap length begins.1 ∙ length-append best.branch begins.0 in
    other (omega (arith, few, whole, long))

-- so the least value that is enough is what is left, and 1 more for an earlier prefix
pub earlier-least : (plan : Lists) (best : Incumbent) (prefix : List Pick) (least : ℤ) → IsEarlier prefix best.branch → least ≡ left_of plan best prefix +ℤ pos 1 → (value : ℤ) →
    IsEnough plan best prefix value ↔ (least ≤ℤ value)
earlier-least plan best prefix least earlier is value = (
  λ enough. let more = enough.more earlier in omega (arith, ints, is),
  λ reached. earlier-enough plan best prefix value earlier (omega (arith, ints, is, reached)),
)

pub later-least : (plan : Lists) (best : Incumbent) (prefix : List Pick) (least : ℤ) → IsEarlier best.branch prefix → least ≡ left_of plan best prefix → (value : ℤ) →
    IsEnough plan best prefix value ↔ (least ≤ℤ value)
later-least plan best prefix least later is value = (
  λ enough. let most = enough.least in omega (arith, ints, is),
  λ reached. later-enough plan best prefix value later (omega (arith, ints, is, reached)),
)

pub same-least : (plan : Lists) (best : Incumbent) (prefix : List Pick) (least : ℤ) → IsFrontOf prefix best.branch ⊎ IsFrontOf best.branch prefix → length prefix ≡ length best.branch →
    least ≡ left_of plan best prefix → (value : ℤ) → IsEnough plan best prefix value ↔ (least ≤ℤ value)
same-least plan best prefix least one long is value = (
  λ enough. let most = enough.least in omega (arith, ints, is),
  λ reached. same-enough plan best prefix value one long (omega (arith, ints, is, reached)),
)

pub proper-least : (plan : Lists) (best : Incumbent) (prefix : List Pick) → IsPrefix plan.choices prefix → IsBranch plan.choices best.branch →
    IsFrontOf prefix best.branch ⊎ IsFrontOf best.branch prefix → (length prefix ≡ length best.branch → ⊥) → (value : ℤ) → IsEnough plan best prefix value ↔ IsReachedBy None value
proper-least plan best prefix is is_branch one other value = (proper-not_enough plan best prefix value is is_branch one other, λ none. absurd none)

-- a value that is enough reaches the least, and no other does
pub dear-match : (test : Bool) (plan : Lists) (best : Option Incumbent) (prefix : List Pick) (least : Option ℤ) (value : ℤ) →
    ((v : ℤ) → IsDear plan best prefix v ↔ IsReachedBy least v) → MatchBool test (IsReachedBy least value) (IsReachedBy least value → ⊥) →
    MatchBool test (IsDear plan best prefix value) (IsDear plan best prefix value → ⊥)
dear-match true plan best prefix least value same reached = (same value).1 reached
dear-match false plan best prefix least value same none = λ dear. none ((same value).0 dear)

-- what a test of two integers says
pub lt-true : (a b : ℤ) → int_lt a b ≡ true → a <ℤ b
lt-true a b is = by_lt_z {P = a <ℤ b} a b (λ less. less) (λ least. grind (arith, ints, nat_tests))

pub lt-false : (a b : ℤ) → int_lt a b ≡ false → b ≤ℤ a
lt-false a b is = by_lt_z {P = b ≤ℤ a} a b (λ less. grind (arith, ints, nat_tests)) (λ least. least)

-- lists of which a test says that they aren't as long aren't
pub not-as_long : (one other : List Pick) → nat_eq (length one) (length other) ≡ false → length one ≡ length other → ⊥
not-as_long one other differ same = grind (arith, nat_tests)

pub as-long : (one other : List Pick) → nat_eq (length one) (length other) ≡ true → length one ≡ length other
as-long one other same = grind (arith, nat_tests)

-- what was tested, of numbers that fit
pub tested-lt : (test : Bool) (given a b : ℤ) → SFits w128 given → SFits w128 b → given ≡ a → test ≡ int_lt (to_z w128 (of_z w128 given)) (to_z w128 (of_z w128 b)) → test ≡ int_lt a b
tested-lt test given a b fits other same is =
    is ∙ (ap (λ n. int_lt n (to_z w128 (of_z w128 b))) (to_z-of_z w128 given fits ∙ same) ∙ ap (λ n. int_lt a n) (to_z-of_z w128 b other))
