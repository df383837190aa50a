-- The literals of a branch are literals of the plan in its order, and pick the branch.
use Rattle.std.proofs.Common.{◌≡◌, ℕ, zero, suc, ◌+◌, ◌<◌, ◌≤◌, Bool, true, false, List, [], ◌∷◌, ◌++◌, length, map, Some, slice_get, refl, sym, ap, ◌∙◌, subst, arith}
use Rattle.std.specs.Prelude.{IsSomeAnd, Option, find, if◌then◌else◌, ◌==◌}
use Rattle.std.specs.List.{AllByRecursion, range_with_len}
use Rattle.std.specs.Option.{option_map_or}
use Rattle.std.proofs.lemmas.Bool.{ne_eqb}
use Rattle.std.proofs.lemmas.Bool.Decides.{Decides-eqb}
use Rattle.std.proofs.lemmas.Option.{same_Some}
use Rattle.uhura_plan.specs.declared.guard.Literal.{Literal}
use Rattle.uhura_plan.specs.declared.choice.Choice.{Choice}
use Rattle.uhura_plan.specs.Sound.{IsLiteralAmong}
use Rattle.uhura_choice.specs.declared.prefix.Pick.{Pick}
use Rattle.uhura_choice.specs.declared.prefix.Pick.TheVariants.{Alternative, Inactive}
use Rattle.uhura_choice.specs.Branch.{Follows, IsBranch}
use Rattle.uhura_choice.proofs.Prefixes.{length-follows}
use Rattle.uhura_cert.specs.Order.{Rises}
use Rattle.uhura_check.specs.Confirmed.{pick_of, picks_of}
use Rattle.uhura_answer.specs.Literals.{literals_from, literals_of}

-- literals of entries that follow one another are about these choices
literals-among : (choices cs : List Choice) (place : ℕ) (before picks : List Pick) → ((i : ℕ) (c : Choice) → slice_get cs i ≡ Some c → slice_get choices (place + i) ≡ Some c) → Follows cs before picks →
    AllByRecursion (IsLiteralAmong choices) (literals_from place picks)
literals-among choices [] place before [] there follows = tt
literals-among choices [] place before (x ∷ xs) there follows = absurd follows
literals-among choices (c ∷ cs) place before [] there follows = absurd follows
literals-among choices (c ∷ cs) place before (Inactive ∷ xs) there follows =
    literals-among choices cs (place + 1) (before ++ Inactive ∷ []) xs
    (λ i d is. let e : place + suc i ≡ place + 1 + i = omega arith in subst (λ p. slice_get choices p ≡ Some d) e (there (suc i) d is)) follows.1
literals-among choices (c ∷ cs) place before (Alternative a ∷ xs) there follows =
    let e : place + 0 ≡ place = omega arith in
    let at : slice_get choices place ≡ Some c = subst (λ p. slice_get choices p ≡ Some c) e (there 0 c refl) in (
      subst (λ (o : Option Choice). IsSomeAnd o (λ d. a < length d.alternatives)) (sym at) follows.0.1,
      literals-among choices cs (place + 1) (before ++ Alternative a ∷ []) xs
          (λ i d is. let f : place + suc i ≡ place + 1 + i = omega arith in subst (λ p. slice_get choices p ≡ Some d) f (there (suc i) d is)) follows.1,
    )

pub branch-among : (choices : List Choice) (branch : List Pick) → IsBranch choices branch → AllByRecursion (IsLiteralAmong choices) (literals_of branch)
branch-among choices branch is =
    literals-among choices choices 0 [] branch (λ i c there. let e : i ≡ 0 + i = omega arith in subst (λ p. slice_get choices p ≡ Some c) e there) is

-- they stand in the order of the choices
pub literals-rise : (place least : ℕ) (picks : List Pick) → least ≤ place → Rises (λ (l : Literal). l.choice) least (literals_from place picks)
literals-rise place least [] below = tt
literals-rise place least (Inactive ∷ picks) below = literals-rise (place + 1) least picks (omega (arith, below))
literals-rise place least (Alternative a ∷ picks) below = (below, literals-rise (place + 1) (place + 1) picks (omega arith))

-- what an alternative in front makes of a pick
in_front : (place a choice : ℕ) (rest : List Literal) (b : Bool) → (place == choice) ≡ b →
    pick_of (record { choice = place; alternative = a } ∷ rest) choice ≡ (if b then Alternative a else pick_of rest choice)
in_front place a choice rest true is =
    ap (λ (b : Bool). option_map_or (λ (l : Literal). Alternative l.alternative) (if b then Some (record { choice = place; alternative = a }) else find (λ (l : Literal). l.choice == choice) rest) Inactive) is
in_front place a choice rest false is =
    ap (λ (b : Bool). option_map_or (λ (l : Literal). Alternative l.alternative) (if b then Some (record { choice = place; alternative = a }) else find (λ (l : Literal). l.choice == choice) rest) Inactive) is

-- they pick nothing of earlier choices
none_before : (place choice : ℕ) (picks : List Pick) → choice < place → pick_of (literals_from place picks) choice ≡ Inactive
none_before place choice [] earlier = refl
none_before place choice (Inactive ∷ picks) earlier = none_before (place + 1) choice picks (omega (arith, earlier))
none_before place choice (Alternative a ∷ picks) earlier =
    in_front place a choice (literals_from (place + 1) picks) false (ne_eqb place choice (λ same. omega (arith, same, earlier)))
    ∙ none_before (place + 1) choice picks (omega (arith, earlier))

-- and of each choice the entry that stands for it
picks_entry : (place i : ℕ) (picks : List Pick) (x : Pick) → slice_get picks i ≡ Some x → pick_of (literals_from place picks) (place + i) ≡ x
picks_entry place i [] x there = let no : ⊥ = cc in absurd no
picks_entry place zero (Inactive ∷ picks) x there = none_before (place + 1) (place + 0) picks (omega arith) ∙ same_Some Inactive x there
picks_entry place zero (Alternative a ∷ picks) x there =
    in_front place a (place + 0) (literals_from (place + 1) picks) true ((Decides-eqb place (place + 0)).1 (omega arith)) ∙ same_Some (Alternative a) x there
picks_entry place (suc i) (Inactive ∷ picks) x there =
    let e : place + suc i ≡ place + 1 + i = omega arith in
    ap (pick_of (literals_from (place + 1) picks)) e ∙ picks_entry (place + 1) i picks x there
picks_entry place (suc i) (Alternative a ∷ picks) x there =
    let e : place + suc i ≡ place + 1 + i = omega arith in
    in_front place a (place + suc i) (literals_from (place + 1) picks) false (ne_eqb place (place + suc i) (λ same. omega (arith, same)))
    ∙ (ap (pick_of (literals_from (place + 1) picks)) e ∙ picks_entry (place + 1) i picks x there)

-- entries that a function gives are a list
each_entry : (f : ℕ → Pick) (place : ℕ) (picks : List Pick) → ((i : ℕ) (x : Pick) → slice_get picks i ≡ Some x → f (place + i) ≡ x) → map f (range_with_len place (length picks)) ≡ picks
each_entry f place [] gives = refl
each_entry f place (x ∷ picks) gives =
    let e : place ≡ place + 0 = omega arith in
    let first : f place ≡ x = ap f e ∙ gives 0 x refl in
    let rest : map f (range_with_len (place + 1) (length picks)) ≡ picks =
    each_entry f (place + 1) picks (λ i y there. let g : place + 1 + i ≡ place + suc i = omega arith in ap f g ∙ gives (suc i) y there) in
    ap (λ (y : Pick). y ∷ map f (range_with_len (place + 1) (length picks))) first ∙ ap (λ (ys : List Pick). x ∷ ys) rest

-- the literals of a branch pick it
pub picks-branch : (choices : List Choice) (branch : List Pick) → IsBranch choices branch → picks_of (literals_of branch) (length choices) ≡ branch
picks-branch choices branch is =
    ap (λ (n : ℕ). map (pick_of (literals_of branch)) (range_with_len 0 n)) (sym (length-follows branch choices [] is))
    ∙ each_entry (pick_of (literals_of branch)) 0 branch (λ i x there. picks_entry 0 i branch x there)
