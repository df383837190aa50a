-- A walk over branches that passes all those of a prefix at once: what it leaves behind at each branch.
use Rattle.std.proofs.Common.{List, Some, Option, inl, inr}
use Rattle.uhura_plan.specs.declared.choice.Choice.{Choice}
use Rattle.uhura_choice.specs.declared.prefix.Pick.{Pick}
use Rattle.uhura_choice.specs.Branch.{IsBranch}
use Rattle.uhura_choice.specs.Order.{IsFrontOf}
use Rattle.uhura_choice.specs.Walk.{IsFirstBranch}
use Rattle.uhura_shows.specs.Behind.{IsBehind, HaveBefore}
use Rattle.uhura_shows.proofs.Going.{before-behind}

-- there is nothing before the first branch
pub have-before_first : (cs : List Choice) (P : List Pick → Type 0) (first : List Pick) → IsFirstBranch cs first → HaveBefore cs P (Some first)
have-before_first cs P first is branch is_branch before = absurd (is.none_earlier branch is_branch before)

-- what each branch before the present one has, and each that a prefix of it begins, each branch before the one behind the prefix has; where none is behind it, all do
pub have-before_next : (cs : List Choice) (P Q : List Pick → Type 0) (branch prefix : List Pick) (later : Option (List Pick)) → IsBranch cs branch → HaveBefore cs P (Some branch) →
    IsFrontOf prefix branch → IsBehind cs prefix later → ((other : List Pick) → P other → Q other) → ((other : List Pick) → IsBranch cs other → IsFrontOf prefix other → Q other) → HaveBefore cs Q later
have-before_next cs P Q branch prefix later is_branch have begins behind kept passed other is_other before =
    elim (before-behind cs prefix branch later other is_branch begins behind is_other before) [
      | inl earlier ↦ kept other (have other is_other earlier)
      | inr begun ↦ passed other is_other begun
    ]
