-- Prefixes that come next, each in its turn, cover the branches where none is left; and what covers them comes so.
use Rattle.std.proofs.Common.{◌≡◌, List, [], ◌∷◌, ◌++◌, None, Some, Option, sym, ap, subst, inl, inr, append_assoc, append-nil}
use Rattle.std.specs.Prelude.{◌⊎◌, All, IfSome}
use Rattle.std.proofs.lemmas.List.Elements.{All-head, All-tail}
use Rattle.uhura_plan.specs.Lists.{Lists}
use Rattle.uhura_plan.specs.Sound.{IsSound}
use Rattle.uhura_plan.specs.declared.choice.Choice.{Choice}
use Rattle.uhura_choice.specs.declared.prefix.Pick.{Pick}
use Rattle.uhura_choice.specs.Branch.{IsBranch, IsEarlier}
use Rattle.uhura_choice.specs.Order.{IsFrontOf}
use Rattle.uhura_choice.proofs.Earlier.{Compare, compare}
use Rattle.uhura_shows.specs.Cover.{IsCover, IsBegunIn}
use Rattle.uhura_shows.specs.Behind.{IsBehind, CoversUpTo}
use Rattle.uhura_shows.specs.Shows.{Answer}
use Rattle.uhura_shows.proofs.Covering.{one-begun}
use Rattle.uhura_shows.proofs.Going.{going-begins, going-on, going-ends, next-not_begun, cover-not_ended, cover-next}
use Rattle.uhura_check.specs.Conditions.{IsFirstUncovered, ComesNext, CoversAll}
use Rattle.uhura_check.proofs.Nexts.{first-there, behind-there}

-- each prefix comes next behind those before it
abbrev pub AreInTurn : List Choice → Answer → List (List Pick) → List (List Pick) → Type 0
AreInTurn choices answer before [] = Unit {0}
AreInTurn choices answer before (prefix ∷ prefixes) =
    ComesNext choices answer before prefix × AreInTurn choices answer (before ++ prefix ∷ []) prefixes

-- the prefix is no proper prefix of the answer's branch
abbrev pub IsNoProperFront : Answer → List Pick → Type 0
IsNoProperFront answer prefix = IfSome answer (λ proposal. IsFrontOf prefix proposal.0 → prefix ≡ proposal.0)

-- what prefixes cover up to is the first branch that they leave uncovered
pub uncovered-next : (cs : List Choice) (before : List (List Pick)) (next : Option (List Pick)) (branch : List Pick) → CoversUpTo cs before next → IsFirstUncovered cs before branch → next ≡ Some branch
uncovered-next cs before None branch covers first = absurd (first.uncovered (covers.every branch first.is_branch tt))
uncovered-next cs before (Some next) branch covers first = by (first.first next covers.next_branch (next-not_begun cs before next covers))
  where
    by : (next ≡ branch) ⊎ IsEarlier branch next → Some next ≡ Some branch
    by (inl same) = ap (λ (l : List Pick). Some l) same
    by (inr earlier) = absurd (first.uncovered (covers.every branch first.is_branch earlier))

pub next-uncovered : (cs : List Choice) (before : List (List Pick)) (next : List Pick) → CoversUpTo cs before (Some next) → IsFirstUncovered cs before next
next-uncovered cs before next covers = record {
  is_branch = covers.next_branch;
  uncovered = next-not_begun cs before next covers;
  first = λ other is never. by other is never (compare cs other next is covers.next_branch);
}
  where
    by : (other : List Pick) → IsBranch cs other → (IsBegunIn before other → ⊥) → Compare other next → (other ≡ next) ⊎ IsEarlier next other
    by other is never (inl same) = inl same
    by other is never (inr (inl earlier)) = absurd (never (covers.every other is earlier))
    by other is never (inr (inr later)) = inr later

module _ (plan : Lists) (sound : IsSound plan) (answer : Answer) where
  pub next-step : (before : List (List Pick)) (next : Option (List Pick)) (prefix : List Pick) → CoversUpTo plan.choices before next → ComesNext plan.choices answer before prefix →
      (later : Option (List Pick)) → IsBehind plan.choices prefix later → CoversUpTo plan.choices (before ++ prefix ∷ []) later
  next-step before next prefix covers comes later behind =
      going-on plan.choices before comes.branch prefix later
      (subst (λ n. CoversUpTo plan.choices before n) (uncovered-next plan.choices before next comes.branch covers comes.uncovered) covers) comes.first behind

  from : (before : List (List Pick)) (next : Option (List Pick)) (prefixes : List (List Pick)) → CoversUpTo plan.choices before next → AreInTurn plan.choices answer before prefixes → CoversAll plan.choices (before ++ prefixes) → IsCover plan.choices (before ++ prefixes)
  from before next [] covers turn all = subst (λ l. IsCover plan.choices l) (sym (append-nil before)) (by next covers)
    where
      by : (next : Option (List Pick)) → CoversUpTo plan.choices before next → IsCover plan.choices before
      by None ended = going-ends plan.choices before ended
      by (Some branch) going =
          absurd (next-not_begun plan.choices before branch going (subst (λ l. IsBegunIn l branch) (append-nil before) (all branch going.next_branch)))
  from before next (prefix ∷ prefixes) covers turn all =
      let behind : (later : Option (List Pick)) × IsBehind plan.choices prefix later = behind-there plan sound prefix in
      let shape : (before ++ prefix ∷ []) ++ prefixes ≡ before ++ prefix ∷ prefixes = append_assoc before (prefix ∷ []) prefixes in
      subst (λ l. IsCover plan.choices l) shape
      (from (before ++ prefix ∷ []) behind.0 prefixes (next-step before next prefix covers turn.0 behind.0 behind.1) turn.1 (subst (λ l. CoversAll plan.choices l) (sym shape) all))

  pub turns-cover : (prefixes : List (List Pick)) → AreInTurn plan.choices answer [] prefixes → CoversAll plan.choices prefixes → IsCover plan.choices prefixes
  turns-cover prefixes turn all =
      let first = first-there plan sound in
      from [] (Some first.0) prefixes (going-begins plan.choices first.0 first.1) turn all

  to : (before : List (List Pick)) (next : Option (List Pick)) (prefixes : List (List Pick)) → CoversUpTo plan.choices before next → IsCover plan.choices (before ++ prefixes) → All (IsNoProperFront answer) prefixes → AreInTurn plan.choices answer before prefixes
  to before next [] covers cover whole = tt
  to before None (prefix ∷ prefixes) covers cover whole = absurd (cover-not_ended plan.choices before prefix prefixes cover covers)
  to before (Some branch) (prefix ∷ prefixes) covers cover whole =
      let behind : (later : Option (List Pick)) × IsBehind plan.choices prefix later = behind-there plan sound prefix in
      let comes : ComesNext plan.choices answer before prefix = record {
        branch = branch;
        uncovered = next-uncovered plan.choices before branch covers;
        first = cover-next plan.choices before prefix prefixes cover branch covers;
        whole = All-head (IsNoProperFront answer) prefix prefixes whole;
      } in (
        comes,
        to (before ++ prefix ∷ []) behind.0 prefixes (next-step before (Some branch) prefix covers comes behind.0 behind.1)
            (subst (λ l. IsCover plan.choices l) (sym (append_assoc before (prefix ∷ []) prefixes)) cover) (All-tail (IsNoProperFront answer) prefix prefixes whole),
      )

  pub cover-turns : (prefixes : List (List Pick)) → IsCover plan.choices prefixes → All (IsNoProperFront answer) prefixes → AreInTurn plan.choices answer [] prefixes
  cover-turns prefixes cover whole =
      let first = first-there plan sound in
      to [] (Some first.0) prefixes (going-begins plan.choices first.0 first.1) cover whole

-- a cover leaves no branch
pub cover-all : (cs : List Choice) (prefixes : List (List Pick)) → IsCover cs prefixes → CoversAll cs prefixes
cover-all cs prefixes cover branch is = one-begun prefixes branch (cover.each branch is)
