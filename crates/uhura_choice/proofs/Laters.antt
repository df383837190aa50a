-- The next branch of a branch: at the last place that has a later alternative it takes that, and then is the first that goes on so.
use Rattle.std.proofs.Common.{◌≡◌, ℕ, ◌+◌, ◌<◌, List, [], ◌∷◌, ◌++◌, ap, sym, subst, refl, ◌∙◌, arith, length, take, drop, get_or, Some, None, Option, true, append_assoc, take-append-drop, inl, inr}
use Rattle.std.proofs.lemmas.Option.{none-some, slice_get-get_or, cond_some}
use Rattle.std.proofs.lemmas.Bool.{ltb-true, lt-ltb}
use Rattle.std.proofs.lemmas.List.{take_more, drop_more, length-take-le}
use Rattle.std.specs.Prelude.{◌⊎◌, slice_get, nat_lt, option_and_then, if◌then◌else◌}
use Rattle.uhura_plan.specs.declared.choice.Choice.{Choice}
use Rattle.uhura_choice.specs.declared.prefix.Pick.{Pick}
use Rattle.uhura_choice.specs.declared.prefix.Pick.TheVariants.{Alternative, Inactive}
use Rattle.uhura_choice.specs.Branch.{IsEntry, IsBranch, IsPrefix, IsEarlier}
use Rattle.uhura_choice.specs.Walk.{IsFirstFrom, IsLastBranch, IsNextBranch, later_pick, later_at}
use Rattle.uhura_choice.proofs.Earlier.{Compare, compare, between-begins, begins-not_earlier, earlier-behind, earlier-from_behind}
use Rattle.uhura_choice.proofs.Prefixes.{HaveAlternatives, choice-there, branch-prefix, prefix-take, prefix-push, prefix-entry, length-follows}

-- no branch that begins with the front is later than the branch
abbrev pub NoneLater : List Choice → List Pick → List Pick → Type 0
NoneLater cs branch front = (rest : List Pick) → IsBranch cs (front ++ rest) → IsEarlier branch (front ++ rest) → ⊥

-- nothing later begins with the whole branch
pub none-later_whole : (cs : List Choice) (branch front : List Pick) → front ≡ branch → NoneLater cs branch front
none-later_whole cs branch front same =
    subst (λ f. NoneLater cs branch f) (sym same) (λ rest is_branch later. begins-not_earlier branch rest later)

-- where nothing later begins with nothing, the branch is the last
pub last-branch : (cs : List Choice) (branch : List Pick) → NoneLater cs branch [] → IsLastBranch cs branch
last-branch cs branch none = none

module _ (cs : List Choice) (front : List Pick) (y : Pick) (behind : List Pick) (c : Choice) (there : slice_get cs (length front) ≡ Some c) (none : NoneLater cs (front ++ y ∷ behind) (front ++ y ∷ [])) where
  -- nothing later has the same pick at this place
  none-same : (rest : List Pick) → IsBranch cs (front ++ y ∷ rest) → IsEarlier (front ++ y ∷ behind) (front ++ y ∷ rest) → ⊥
  none-same rest is_branch later =
      none rest (subst (λ p. IsBranch cs p) (sym (append_assoc front (y ∷ []) rest)) is_branch)
      (subst (λ p. IsEarlier (front ++ y ∷ behind) p) (sym (append_assoc front (y ∷ []) rest)) later)

  -- the pick behind the front of a branch is one of the choice
  entry-there : (z : Pick) (rest : List Pick) → IsBranch cs (front ++ z ∷ rest) → IsEntry c front z
  entry-there z rest is_branch = prefix-entry cs front z rest c (branch-prefix cs (front ++ z ∷ rest) is_branch) there

-- where the pick has no later one
none-passed : (cs : List Choice) (front : List Pick) (y : Pick) (behind : List Pick) (c : Choice) → slice_get cs (length front) ≡ Some c →
    NoneLater cs (front ++ y ∷ behind) (front ++ y ∷ []) → later_pick c y ≡ None →
    (rest : List Pick) → IsBranch cs (front ++ rest) → IsEarlier (y ∷ behind) rest → ⊥
none-passed cs front y behind c there none last [] is_branch later = later
none-passed cs front Inactive behind c there none last (Alternative m ∷ rest) is_branch later = later
none-passed cs front (Alternative a) behind c there none last (Inactive ∷ rest) is_branch later = later
none-passed cs front Inactive behind c there none last (Inactive ∷ rest) is_branch later =
    none-same cs front Inactive behind c there none rest is_branch (earlier-behind front (Inactive ∷ behind) (Inactive ∷ rest) later)
none-passed cs front (Alternative a) behind c there none last (Alternative m ∷ rest) is_branch (inl less) =
    let within : m < length c.alternatives = (entry-there cs front (Alternative a) behind c there none (Alternative m) rest is_branch).1 in
    let more : a + 1 < length c.alternatives = omega arith in
    let test : nat_lt (a + 1) (length c.alternatives) ≡ true = lt-ltb (a + 1) (length c.alternatives) more in
    none-some (Alternative (a + 1)) (sym last ∙ ap (λ b. if b then Some (Alternative (a + 1)) else None) test)
none-passed cs front (Alternative a) behind c there none last (Alternative m ∷ rest) is_branch (inr both) =
    let same : m ≡ a = sym both.0 in
    none-same cs front (Alternative a) behind c there none rest (subst (λ n. IsBranch cs (front ++ Alternative n ∷ rest)) same is_branch)
    (earlier-behind front (Alternative a ∷ behind) (Alternative a ∷ rest) (inr (refl, both.1)))

-- where it has one, the first branch that goes on by it
found-between : (cs : List Choice) (front : List Pick) (a : ℕ) (behind : List Pick) (c : Choice) → slice_get cs (length front) ≡ Some c →
    NoneLater cs (front ++ Alternative a ∷ behind) (front ++ Alternative a ∷ []) → (more next : List Pick) →
    IsFirstFrom cs (front ++ Alternative (a + 1) ∷ []) next →
    (rest : List Pick) → IsBranch cs (front ++ rest) → IsEarlier (front ++ rest) next → IsEarlier (Alternative a ∷ behind) rest → IsEarlier rest (Alternative (a + 1) ∷ more) → ⊥
found-between cs front a behind c there none more next first [] is_branch before_next after before = after
found-between cs front a behind c there none more next first (Inactive ∷ rest) is_branch before_next after before = after
found-between cs front a behind c there none more next first (Alternative m ∷ rest) is_branch before_next (inr after) before =
    let same : m ≡ a = sym after.0 in
    none-same cs front (Alternative a) behind c there none rest (subst (λ n. IsBranch cs (front ++ Alternative n ∷ rest)) same is_branch)
    (earlier-behind front (Alternative a ∷ behind) (Alternative a ∷ rest) (inr (refl, after.1)))
found-between cs front a behind c there none more next first (Alternative m ∷ rest) is_branch before_next (inl after) (inl before) = absurd (omega arith)
found-between cs front a behind c there none more next first (Alternative m ∷ rest) is_branch before_next (inl after) (inr before) =
    let shape : front ++ Alternative m ∷ rest ≡ (front ++ Alternative (a + 1) ∷ []) ++ rest = ap (λ (n : ℕ). front ++ Alternative n ∷ rest) before.0 ∙ sym (append_assoc front (Alternative (a + 1) ∷ []) rest) in
    first.none_earlier rest (subst (λ p. IsBranch cs p) shape is_branch) (subst (λ p. IsEarlier p next) shape before_next)

next-found : (cs : List Choice) (front : List Pick) (a : ℕ) (behind : List Pick) (c : Choice) → slice_get cs (length front) ≡ Some c →
    NoneLater cs (front ++ Alternative a ∷ behind) (front ++ Alternative a ∷ []) → (next : List Pick) →
    IsFirstFrom cs (front ++ Alternative (a + 1) ∷ []) next → IsNextBranch cs (front ++ Alternative a ∷ behind) next
next-found cs front a behind c there none next first = record {
  is_branch = first.is_branch;
  later = subst (λ p. IsEarlier (front ++ Alternative a ∷ behind) p) (sym shape) (earlier-behind front (Alternative a ∷ behind) (Alternative (a + 1) ∷ first.begins.0) (inl (omega arith)));
  nothing_between = λ other is_branch later. decide other is_branch later (compare cs other next is_branch first.is_branch);
}
  where
    shape : next ≡ front ++ Alternative (a + 1) ∷ first.begins.0
    shape = first.begins.1 ∙ append_assoc front (Alternative (a + 1) ∷ []) first.begins.0

    decide : (other : List Pick) → IsBranch cs other → IsEarlier (front ++ Alternative a ∷ behind) other → Compare other next → (other ≡ next) ⊎ IsEarlier next other
    decide other is_branch later (inl same) = inl same
    decide other is_branch later (inr (inr after)) = inr after
    decide other is_branch later (inr (inl before)) =
        let between = between-begins front (Alternative a ∷ behind) (Alternative (a + 1) ∷ first.begins.0) other later (subst (λ p. IsEarlier other p) shape before) in
        absurd (
        found-between cs front a behind c there none first.begins.0 next first between.rest
        (subst (λ p. IsBranch cs p) between.begins is_branch) (subst (λ p. IsEarlier p next) between.begins before) between.after between.before
        )

-- a later pick is the alternative after one
pub record IsStep (c : Choice) (y x : Pick) : Type 0 where
  pub at : ℕ
  pub from : y ≡ Alternative at
  pub to : x ≡ Alternative (at + 1)
  pub within : at + 1 < length c.alternatives

step-of : (c : Choice) (y x : Pick) → later_pick c y ≡ Some x → IsStep c y x
step-of c Inactive x later = absurd (none-some x later)
step-of c (Alternative a) x later =
    let parts = cond_some (nat_lt (a + 1) (length c.alternatives)) (Alternative (a + 1)) x later in
    record { at = a; from = refl; to = sym parts.1; within = ltb-true (a + 1) (length c.alternatives) parts.0 }

-- a branch at a place: its front, its pick and what follows, and the choice
pub record IsCutAt (cs : List Choice) (branch : List Pick) (place : ℕ) : Type 0 where
  pub choice : Choice
  pub pick : Pick
  pub behind : List Pick
  pub whole : branch ≡ take place branch ++ pick ∷ behind
  pub further : take (place + 1) branch ≡ take place branch ++ pick ∷ []
  pub there : slice_get cs (length (take place branch)) ≡ Some choice
  pub later : later_at cs branch place ≡ later_pick choice pick

pub cut-at : (cs : List Choice) (branch : List Pick) (place : ℕ) → IsBranch cs branch → place < length branch → IsCutAt cs branch place
cut-at cs branch place is_branch below = record {
  choice = found.0;
  pick = get_or branch place Inactive;
  behind = drop (place + 1) branch;
  whole = sym (take-append-drop place branch) ∙ ap (λ (p : List Pick). take place branch ++ p) (drop_more branch place Inactive below);
  further = take_more branch place Inactive below;
  there = subst (λ n. slice_get cs n ≡ Some found.0) (sym (length-take-le place branch (omega arith))) found.1;
  later = ap (λ (o : Option Choice). option_and_then (λ c. option_and_then (later_pick c) (slice_get branch place)) o) found.1
      ∙ ap (λ (o : Option Pick). option_and_then (later_pick found.0) o) (slice_get-get_or branch place Inactive below);
}
  where
    found : (c : Choice) × (slice_get cs place ≡ Some c)
    found = choice-there cs place (omega (arith, length-follows branch cs [] is_branch))

-- nothing later at this place either
pub later-passed : (cs : List Choice) (branch : List Pick) (place : ℕ) → IsBranch cs branch → place < length branch → later_at cs branch place ≡ None →
    NoneLater cs branch (take (place + 1) branch) → NoneLater cs branch (take place branch)
later-passed cs branch place is_branch below last none = λ rest other later.
    let cut = cut-at cs branch place is_branch below in
    none-passed cs (take place branch) cut.pick cut.behind cut.choice cut.there
    (subst (λ f. NoneLater cs (take place branch ++ cut.pick ∷ cut.behind) f) cut.further (subst (λ b. NoneLater cs b (take (place + 1) branch)) cut.whole none))
    (sym cut.later ∙ last) rest other
    (earlier-from_behind (take place branch) (cut.pick ∷ cut.behind) rest (subst (λ b. IsEarlier b (take place branch ++ rest)) cut.whole later))

-- with the later pick, what stands before the place is a prefix still
pub later-prefix : (cs : List Choice) (branch : List Pick) (place : ℕ) (x : Pick) → HaveAlternatives cs → IsBranch cs branch → place < length branch → later_at cs branch place ≡ Some x →
    IsPrefix cs (take place branch ++ x ∷ [])
later-prefix cs branch place x have is_branch below later =
    let cut = cut-at cs branch place is_branch below in
    let step = step-of cut.choice cut.pick x (sym cut.later ∙ later) in
    let was = prefix-entry cs (take place branch) cut.pick cut.behind cut.choice (subst (λ b. IsPrefix cs b) cut.whole (branch-prefix cs branch is_branch)) cut.there in
    let met = subst (λ y. IsEntry cut.choice (take place branch) y) step.from was in
    prefix-push cs (take place branch) cut.choice x have (prefix-take cs place branch (branch-prefix cs branch is_branch)) cut.there
    (subst (λ y. IsEntry cut.choice (take place branch) y) (sym step.to) (met.0, step.within))

-- and the first branch that it begins is the next
pub later-next : (cs : List Choice) (branch : List Pick) (place : ℕ) (x : Pick) (next : List Pick) → IsBranch cs branch → place < length branch → later_at cs branch place ≡ Some x →
    NoneLater cs branch (take (place + 1) branch) → IsFirstFrom cs (take place branch ++ x ∷ []) next → IsNextBranch cs branch next
later-next cs branch place x next is_branch below later none first =
    let cut = cut-at cs branch place is_branch below in
    let step = step-of cut.choice cut.pick x (sym cut.later ∙ later) in
    let front = take place branch in
    let whole : branch ≡ front ++ Alternative step.at ∷ cut.behind = cut.whole ∙ ap (λ (y : Pick). front ++ y ∷ cut.behind) step.from in
    let further : take (place + 1) branch ≡ front ++ Alternative step.at ∷ [] = cut.further ∙ ap (λ (y : Pick). front ++ y ∷ []) step.from in
    subst (λ b. IsNextBranch cs b next) (sym whole)
    (next-found cs front step.at cut.behind cut.choice cut.there
    (subst (λ f. NoneLater cs (front ++ Alternative step.at ∷ cut.behind) f) further (subst (λ b. NoneLater cs b (take (place + 1) branch)) whole none))
    next (subst (λ y. IsFirstFrom cs (front ++ y ∷ []) next) step.to first))
