-- A branch is built pick by pick.
use Rattle.std.proofs.Common.{◌≡◌, ℕ, ◌+◌, ◌<◌, List, [], ◌∷◌, ◌++◌, length, take, None, Some, sym, ap, ◌∙◌, subst, arith}
use Rattle.std.specs.Prelude.{slice_get}
use Rattle.std.proofs.lemmas.List.{length_push}
use Rattle.std.proofs.lemmas.List.FromFn.{length-map-range_with_len, take-map-range_with_len, map-range_with_len_more}
use Rattle.std.proofs.lemmas.Option.{same_Some}
use Rattle.uhura_plan.specs.declared.guard.Literal.{Literal}
use Rattle.uhura_plan.specs.declared.choice.Choice.{Choice}
use Rattle.uhura_choice.specs.declared.prefix.Pick.{Pick}
use Rattle.uhura_choice.specs.declared.prefix.Pick.TheVariants.{Alternative, Inactive}
use Rattle.uhura_choice.specs.Branch.{IsBranch, IsPrefix, IsEntry}
use Rattle.uhura_choice.specs.Children.{children}
use Rattle.uhura_choice.proofs.Prefixes.{HaveAlternatives, choice-there, prefix-whole, prefix-push, branch-prefix, prefix-take, prefix-few, starts-prefix}
use Rattle.uhura_choice.proofs.Extensions.{children-active, children-inactive, slice_get-with_alternatives}
use Rattle.uhura_shows.specs.Behind.{child_index}
use Rattle.uhura_check.specs.Confirmed.{pick_of, picks_of}
use Rattle.uhura_check.specs.Picks.{IsLonger, IsBranchBy}

-- the child that goes on by a pick which the choice may have
pub child-by : (cs : List Choice) (picks : List Pick) (c : Choice) (pick : Pick) → slice_get cs (length picks) ≡ Some c → IsEntry c picks pick → slice_get (children cs picks) (child_index pick) ≡ Some (picks ++ pick ∷ [])
child-by cs picks c (Alternative a) there entry = ap (λ (l : List (List Pick)). slice_get l a) (children-active cs picks c there entry.0) ∙ slice_get-with_alternatives picks (length c.alternatives) a entry.1
child-by cs picks c Inactive there entry = ap (λ (l : List (List Pick)). slice_get l 0) (children-inactive cs picks c there entry)

pub longer-by : (cs : List Choice) (picks : List Pick) (c : Choice) (pick : Pick) (longer : List Pick) → HaveAlternatives cs → IsPrefix cs picks → slice_get cs (length picks) ≡ Some c → IsEntry c picks pick →
    slice_get (children cs picks) (child_index pick) ≡ Some longer → IsLonger cs picks pick longer
longer-by cs picks c pick longer have prefix there entry is =
    let same : longer ≡ picks ++ pick ∷ [] = same_Some longer (picks ++ pick ∷ []) (sym is ∙ child-by cs picks c pick there entry) in
    record { picks_are = same; is_prefix = subst (λ l. IsPrefix cs l) (sym same) (prefix-push cs picks c pick have prefix there entry) }

-- no pick stands behind a whole branch
pub none-behind : (cs : List Choice) (picks : List Pick) (pick : Pick) → slice_get cs (length picks) ≡ None → IsPrefix cs (picks ++ pick ∷ []) → ⊥
none-behind cs picks pick none prefix =
    let there : (c : Choice) × (slice_get cs (length picks) ≡ Some c) = choice-there cs (length picks) (omega (arith, prefix-few cs (picks ++ pick ∷ []) prefix, length_push picks pick)) in
    let some : None ≡ Some there.0 = sym none ∙ there.1 in
    absurd (let never : ⊥ = cc in never)

pub nothing-prefix : (cs : List Choice) → HaveAlternatives cs → IsPrefix cs []
nothing-prefix cs have = starts-prefix cs [] have tt

-- one pick more
pub picks-more : (literals : List Literal) (place : ℕ) → picks_of literals (place + 1) ≡ picks_of literals place ++ pick_of literals place ∷ []
picks-more literals place = map-range_with_len_more (pick_of literals) 0 place place (omega arith)

-- where the picks so far and the next one are no prefix, all of them are no branch
pub no-branch : (cs : List Choice) (literals : List Literal) (place : ℕ) (front : List Pick) → front ≡ picks_of literals place → place < length cs → (IsPrefix cs (front ++ pick_of literals place ∷ []) → ⊥) → IsBranch cs (picks_of literals (length cs)) → ⊥
no-branch cs literals place front so_far below never branch =
    let cut : take (place + 1) (picks_of literals (length cs)) ≡ picks_of literals (place + 1) = take-map-range_with_len (pick_of literals) 0 (length cs) (place + 1) (omega (arith, below)) in
    let shape : picks_of literals (place + 1) ≡ front ++ pick_of literals place ∷ [] = picks-more literals place ∙ ap (λ l. l ++ pick_of literals place ∷ []) (sym so_far) in
    never (subst (λ l. IsPrefix cs l) (cut ∙ shape) (prefix-take cs (place + 1) (picks_of literals (length cs)) (branch-prefix cs (picks_of literals (length cs)) branch)))

-- and with a pick for each choice they are one
pub whole-branch : (cs : List Choice) (literals : List Literal) (front : List Pick) → front ≡ picks_of literals (length cs) → IsPrefix cs front → IsBranchBy cs literals front
whole-branch cs literals front so_far prefix = record {
  picks_are = so_far;
  is_branch = prefix-whole cs front prefix (ap length so_far ∙ length-map-range_with_len (pick_of literals) 0 (length cs));
}
