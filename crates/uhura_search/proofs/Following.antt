-- A prefix that goes on by children, one after another, is a branch in the end.
use Rattle.std.proofs.Common.{◌≡◌, ℕ, ◌+◌, List, [], ◌∷◌, length, Some, ap, ◌∙◌, arith, length-append}
use Rattle.std.specs.Prelude.{slice_get}
use Rattle.uhura_plan.specs.declared.choice.Choice.{Choice}
use Rattle.uhura_choice.specs.declared.prefix.Pick.{Pick}
use Rattle.uhura_choice.specs.Branch.{IsBranch, IsPrefix}
use Rattle.uhura_choice.specs.Children.{children}
use Rattle.uhura_choice.proofs.Prefixes.{HaveAlternatives, prefix-whole}
use Rattle.uhura_search.proofs.Appending.{child-longer, child-prefix}

-- a prefix with so many picks
pub record IsPrefixTo (choices : List Choice) (place : ℕ) (prefix : List Pick) : Type 0 where
  pub is_prefix : IsPrefix choices prefix
  pub long : length prefix ≡ place

pub further : (cs : List Choice) (place : ℕ) (prefix next : List Pick) (index : ℕ) → HaveAlternatives cs → IsPrefixTo cs place prefix → slice_get (children cs prefix) index ≡ Some next → IsPrefixTo cs (place + 1) next
further cs place prefix next index have is there =
    let longer = child-longer cs prefix next index have is.is_prefix there in
    record {
      is_prefix = child-prefix cs prefix next index have is.is_prefix there;
      long = omega (arith, ap length longer.1, length-append prefix (longer.0 ∷ []), is.long);
    }

pub whole : (cs : List Choice) (place : ℕ) (prefix : List Pick) → place ≡ length cs → IsPrefixTo cs place prefix → IsBranch cs prefix
whole cs place prefix all is = prefix-whole cs prefix is.is_prefix (is.long ∙ all)
