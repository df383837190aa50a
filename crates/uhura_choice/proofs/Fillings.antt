-- A prefix is filled up to the first branch that begins with it: each further choice gets its least entry.
use Rattle.std.proofs.Common.{◌≡◌, ℕ, ◌+◌, ◌<◌, ◌≤◌, List, [], ◌∷◌, ◌++◌, ap, sym, subst, refl, ◌∙◌, arith, length, Some, Option, Bool, false, cond, append_assoc, append-nil, inl, inr}
use Rattle.std.proofs.lemmas.Bool.{cases_Bool, cond-true, cond-false}
use Rattle.std.proofs.lemmas.List.{length_push}
use Rattle.std.specs.Prelude.{slice_get, IsTrue, IsFalse}
use Rattle.std.specs.Option.{option_map_or}
use Rattle.uhura_plan.specs.declared.choice.Choice.{Choice}
use Rattle.uhura_choice.specs.declared.prefix.Pick.{Pick}
use Rattle.uhura_choice.specs.declared.prefix.Pick.TheVariants.{Alternative, Inactive}
use Rattle.uhura_choice.specs.Branch.{holds, is_active, IsEntry, IsPrefix, IsEarlier}
use Rattle.uhura_choice.specs.Order.{IsFrontOf}
use Rattle.uhura_choice.specs.Walk.{IsFirstBranch, IsFirstFrom}
use Rattle.uhura_choice.proofs.Earlier.{begun-not_earlier, nothing-before_empty}
use Rattle.uhura_choice.proofs.Prefixes.{HaveAlternatives, choice-there, prefix-push, prefix-whole}

-- no entry of a choice stands before it
abbrev IsLeast : Pick → Type 0
IsLeast (Alternative a) = a ≡ 0
IsLeast Inactive = Unit {0}

-- what stands before a list that ends with a least entry stands before the list without it
before-least : (picks : List Pick) (x : Pick) (other : List Pick) → IsLeast x → IsEarlier other (picks ++ x ∷ []) → IsEarlier other picks
before-least picks x [] least before = absurd (nothing-shorter picks x before)
  where
    nothing-shorter : (picks : List Pick) (x : Pick) → IsEarlier [] (picks ++ x ∷ []) → ⊥
    nothing-shorter picks x before = before
before-least [] Inactive (Inactive ∷ other) least before = absurd (nothing-before_empty other before)
before-least [] Inactive (Alternative m ∷ other) least before = absurd before
before-least [] (Alternative a) (Inactive ∷ other) least before = absurd before
before-least [] (Alternative a) (Alternative m ∷ other) least (inl less) = absurd (omega arith)
before-least [] (Alternative a) (Alternative m ∷ other) least (inr both) = absurd (nothing-before_empty other both.1)
before-least (Inactive ∷ picks) x (Inactive ∷ other) least before = before-least picks x other least before
before-least (Inactive ∷ picks) x (Alternative m ∷ other) least before = absurd before
before-least (Alternative a ∷ picks) x (Inactive ∷ other) least before = absurd before
before-least (Alternative a ∷ picks) x (Alternative m ∷ other) least (inl less) = inl less
before-least (Alternative a ∷ picks) x (Alternative m ∷ other) least (inr both) = inr (both.0, before-least picks x other least both.1)

-- the picks are filled up to this place, and nothing that they begin is earlier
pub record IsFilledTo (cs : List Choice) (picks : List Pick) (place : ℕ) (filled : List Pick) : Type 0 where
  pub prefix : IsPrefix cs filled
  pub reached : length filled ≡ place
  pub begins : IsFrontOf picks filled
  pub none_earlier : (rest : List Pick) → IsEarlier (picks ++ rest) filled → ⊥

pub filled-none : (cs : List Choice) (picks : List Pick) → IsPrefix cs picks → IsFilledTo cs picks (length picks) picks
filled-none cs picks prefix = record {
  prefix = prefix;
  reached = refl;
  begins = ([], sym (append-nil picks));
  none_earlier = λ rest before. begun-not_earlier picks rest before;
}

-- the least entry of a choice
least-entry : (c : Choice) (before : List Pick) → 1 ≤ length c.alternatives → (x : Pick) → x ≡ cond (holds c.guard before) (Alternative 0) Inactive → IsEntry c before x × IsLeast x
least-entry c before some x is = elim (cases_Bool (holds c.guard before)) [ inl met ↦ picked met | inr unmet ↦ not_picked unmet ]
  where
    picked : IsTrue (holds c.guard before) → IsEntry c before x × IsLeast x
    picked met =
        subst (λ y. IsEntry c before y × IsLeast y) (sym (is ∙ cond-true (holds c.guard before) (Alternative 0) Inactive met)) ((met, omega arith), refl)

    not_picked : IsFalse (holds c.guard before) → IsEntry c before x × IsLeast x
    not_picked unmet =
        subst (λ y. IsEntry c before y × IsLeast y) (sym (is ∙ cond-false (holds c.guard before) (Alternative 0) Inactive unmet)) (unmet, tt)

filled-by : (cs : List Choice) (picks filled : List Pick) (c : Choice) (x : Pick) → HaveAlternatives cs → IsFilledTo cs picks (length filled) filled →
    slice_get cs (length filled) ≡ Some c → IsEntry c filled x × IsLeast x → IsFilledTo cs picks (length filled + 1) (filled ++ x ∷ [])
filled-by cs picks filled c x have so_far there entry = record {
  prefix = prefix-push cs filled c x have so_far.prefix there entry.0;
  reached = length_push filled x;
  begins = (so_far.begins.0 ++ x ∷ [], ap (λ (p : List Pick). p ++ x ∷ []) so_far.begins.1 ∙ append_assoc picks so_far.begins.0 (x ∷ []));
  none_earlier = λ rest before. so_far.none_earlier rest (before-least filled x (picks ++ rest) entry.1 before);
}

-- one choice further
pub filled-next : (cs : List Choice) (picks filled : List Pick) (place : ℕ) (x : Pick) → HaveAlternatives cs → IsFilledTo cs picks place filled → place < length cs →
    x ≡ cond (is_active cs filled place) (Alternative 0) Inactive → IsFilledTo cs picks (place + 1) (filled ++ x ∷ [])
filled-next cs picks filled place x have so_far below is =
    let found = choice-there cs place below in
    let same : length filled ≡ place = so_far.reached in
    let active : is_active cs filled place ≡ holds found.0.guard filled = ap (λ (o : Option Choice). option_map_or (λ c. holds c.guard filled) o false) found.1 in
    let entry = least-entry found.0 filled (have.some place found.0 found.1) x (is ∙ ap (λ (b : Bool). cond b (Alternative 0) Inactive) active) in
    subst (λ n. IsFilledTo cs picks (n + 1) (filled ++ x ∷ [])) same
    (filled-by cs picks filled found.0 x have (subst (λ n. IsFilledTo cs picks n filled) (sym same) so_far) (subst (λ n. slice_get cs n ≡ Some found.0) (sym same) found.1) entry)

-- all choices
pub filled-all : (cs : List Choice) (picks filled : List Pick) → IsFilledTo cs picks (length cs) filled → IsFirstFrom cs picks filled
filled-all cs picks filled full = record {
  is_branch = prefix-whole cs filled full.prefix full.reached;
  begins = full.begins;
  none_earlier = λ rest branch before. full.none_earlier rest before;
}

-- the first branch of all begins with nothing
pub first-of_all : (cs : List Choice) (branch : List Pick) → IsFirstFrom cs [] branch → IsFirstBranch cs branch
first-of_all cs branch first = record { is_branch = first.is_branch; none_earlier = first.none_earlier }
