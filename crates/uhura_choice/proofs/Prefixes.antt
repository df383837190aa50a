-- Prefixes of branches, one entry after another.
use Rattle.std.proofs.Common.{◌≡◌, ℕ, ◌<◌, ◌≤◌, List, [], ◌∷◌, ◌++◌, ap, sym, subst, refl, arith, suc, length, Some, append_assoc, append-nil, take, drop, take-append-drop, inl, inr, length-append}
use Rattle.std.proofs.lemmas.Option.{slice_get_cases, same_Some, none-some}
use Rattle.std.proofs.lemmas.Bool.{cases_Bool}
use Rattle.std.specs.Prelude.{slice_get}
use Rattle.uhura_plan.specs.Lists.{Lists}
use Rattle.uhura_plan.specs.Sound.{IsSound}
use Rattle.uhura_plan.specs.declared.choice.Choice.{Choice}
use Rattle.uhura_choice.specs.declared.prefix.Pick.{Pick}
use Rattle.uhura_choice.specs.declared.prefix.Pick.TheVariants.{Alternative, Inactive}
use Rattle.uhura_choice.specs.Branch.{holds, IsEntry, Follows, IsBranch, IsPrefix}

-- entries of the first choices, after the entries before them
abbrev pub Starts : List Pick → List Choice → List Pick → Type 0
Starts [] cs before = Unit {0}
Starts (x ∷ xs) [] before = ⊥
Starts (x ∷ xs) (c ∷ cs) before = IsEntry c before x × Starts xs cs (before ++ x ∷ [])

-- below the number of choices there is one
pub choice-there : (cs : List Choice) (place : ℕ) → place < length cs → (c : Choice) × (slice_get cs place ≡ Some c)
choice-there cs place below = elim (slice_get_cases cs place).1 [ inl found ↦ (found.0, found.2) | inr past ↦ absurd (omega (arith, past.0)) ]

-- each choice has an alternative
pub record HaveAlternatives (cs : List Choice) : Type 0 where
  pub some : (place : ℕ) (c : Choice) → slice_get cs place ≡ Some c → 1 ≤ length c.alternatives

pub sound-have_alternatives : (plan : Lists) → IsSound plan → HaveAlternatives plan.choices
sound-have_alternatives plan sound = record { some = λ place c there. (sound.choices place c there).some }

-- and no more than 16
pub sound-few_alternatives : (plan : Lists) (place : ℕ) (c : Choice) → IsSound plan → slice_get plan.choices place ≡ Some c → length c.alternatives ≤ 16
sound-few_alternatives plan place c sound there = (sound.choices place c there).few

-- what begins the entries that follow is a start
pub starts-front : (front rest : List Pick) (cs : List Choice) (before : List Pick) → Follows cs before (front ++ rest) → Starts front cs before
starts-front [] rest cs before follows = tt
starts-front (x ∷ front) rest [] before follows = absurd follows
starts-front (x ∷ front) rest (c ∷ cs) before follows = (follows.0, starts-front front rest cs (before ++ x ∷ []) follows.1)

-- one more entry
pub starts-push : (xs : List Pick) (cs : List Choice) (before : List Pick) (c : Choice) (x : Pick) →
    Starts xs cs before → slice_get cs (length xs) ≡ Some c → IsEntry c (before ++ xs) x → Starts (xs ++ x ∷ []) cs before
starts-push [] [] before c x starts there entry = absurd (none-some c there)
starts-push [] (d ∷ cs) before c x starts there entry =
    (subst (λ e. IsEntry e before x) (sym (same_Some d c there)) (subst (λ b. IsEntry c b x) (append-nil before) entry), tt)
starts-push (y ∷ xs) [] before c x starts there entry = absurd starts
starts-push (y ∷ xs) (d ∷ cs) before c x starts there entry =
    (starts.0, starts-push xs cs (before ++ y ∷ []) c x starts.1 there (subst (λ b. IsEntry c b x) (sym (append_assoc before (y ∷ []) xs)) entry))

-- each entry fits its choice after those before it
pub starts-entry : (xs : List Pick) (x : Pick) (rest : List Pick) (cs : List Choice) (before : List Pick) (c : Choice) →
    Starts (xs ++ x ∷ rest) cs before → slice_get cs (length xs) ≡ Some c → IsEntry c (before ++ xs) x
starts-entry [] x rest [] before c starts there = absurd starts
starts-entry [] x rest (d ∷ cs) before c starts there =
    subst (λ b. IsEntry c b x) (sym (append-nil before)) (subst (λ e. IsEntry e before x) (same_Some d c there) starts.0)
starts-entry (y ∷ xs) x rest [] before c starts there = absurd starts
starts-entry (y ∷ xs) x rest (d ∷ cs) before c starts there =
    subst (λ b. IsEntry c b x) (append_assoc before (y ∷ []) xs) (starts-entry xs x rest cs (before ++ y ∷ []) c starts.1 there)

-- entries of all choices are a branch's
pub starts-whole : (xs : List Pick) (cs : List Choice) (before : List Pick) → Starts xs cs before → length xs ≡ length cs → Follows cs before xs
starts-whole [] [] before starts same = tt
starts-whole [] (c ∷ cs) before starts same = absurd (omega arith)
starts-whole (x ∷ xs) [] before starts same = absurd starts
starts-whole (x ∷ xs) (c ∷ cs) before starts same = (starts.0, starts-whole xs cs (before ++ x ∷ []) starts.1 (omega arith))

pub length-follows : (xs : List Pick) (cs : List Choice) (before : List Pick) → Follows cs before xs → length xs ≡ length cs
length-follows [] [] before follows = refl
length-follows [] (c ∷ cs) before follows = absurd follows
length-follows (x ∷ xs) [] before follows = absurd follows
length-follows (x ∷ xs) (c ∷ cs) before follows = ap suc (length-follows xs cs (before ++ x ∷ []) follows.1)

-- the choices that have no entry yet can be given one each
pub record GoOn (cs : List Choice) (before xs : List Pick) : Type 0 where
  pub rest : List Pick
  pub follows : Follows cs before (xs ++ rest)

behind-first : (c : Choice) (cs : List Choice) → HaveAlternatives (c ∷ cs) → HaveAlternatives cs
behind-first c cs have = record { some = λ place d there. have.some (suc place) d there }

some-entry : (c : Choice) (before : List Pick) → 1 ≤ length c.alternatives → (x : Pick) × IsEntry c before x
some-entry c before some =
    elim (cases_Bool (holds c.guard before)) [ inl met ↦ (Alternative 0, (met, omega arith)) | inr unmet ↦ (Inactive, unmet) ]

go-on_from : (cs : List Choice) (before : List Pick) → HaveAlternatives cs → GoOn cs before []
go-on_from [] before have = record { rest = []; follows = tt }
go-on_from (c ∷ cs) before have =
    let entry = some-entry c before (have.some 0 c refl) in
    let further = go-on_from cs (before ++ entry.0 ∷ []) (behind-first c cs have) in
    record { rest = entry.0 ∷ further.rest; follows = (entry.1, further.follows) }

pub go-on : (xs : List Pick) (cs : List Choice) (before : List Pick) → HaveAlternatives cs → Starts xs cs before → GoOn cs before xs
go-on [] cs before have starts = go-on_from cs before have
go-on (x ∷ xs) [] before have starts = absurd starts
go-on (x ∷ xs) (c ∷ cs) before have starts =
    let further = go-on xs cs (before ++ x ∷ []) (behind-first c cs have) starts.1 in
    record { rest = further.rest; follows = (starts.0, further.follows) }

-- a prefix of a branch starts, and what starts is one
pub prefix-starts : (cs : List Choice) (xs : List Pick) → IsPrefix cs xs → Starts xs cs []
prefix-starts cs xs (rest, follows) = starts-front xs rest cs [] follows

pub starts-prefix : (cs : List Choice) (xs : List Pick) → HaveAlternatives cs → Starts xs cs [] → IsPrefix cs xs
starts-prefix cs xs have starts = let further = go-on xs cs [] have starts in (further.rest, further.follows)

-- a prefix with an entry for each choice is a branch
pub prefix-whole : (cs : List Choice) (xs : List Pick) → IsPrefix cs xs → length xs ≡ length cs → IsBranch cs xs
prefix-whole cs xs prefix same = starts-whole xs cs [] (prefix-starts cs xs prefix) same

-- a prefix and an entry of the next choice are a prefix
pub prefix-push : (cs : List Choice) (xs : List Pick) (c : Choice) (x : Pick) → HaveAlternatives cs →
    IsPrefix cs xs → slice_get cs (length xs) ≡ Some c → IsEntry c xs x → IsPrefix cs (xs ++ x ∷ [])
prefix-push cs xs c x have prefix there entry =
    starts-prefix cs (xs ++ x ∷ []) have (starts-push xs cs [] c x (prefix-starts cs xs prefix) there entry)

-- the entry behind a prefix is one of the next choice
pub prefix-entry : (cs : List Choice) (xs : List Pick) (x : Pick) (rest : List Pick) (c : Choice) →
    IsPrefix cs (xs ++ x ∷ rest) → slice_get cs (length xs) ≡ Some c → IsEntry c xs x
prefix-entry cs xs x rest c prefix there = starts-entry xs x rest cs [] c (prefix-starts cs (xs ++ x ∷ rest) prefix) there

-- the branch itself, and what begins it, are prefixes
pub branch-prefix : (cs : List Choice) (xs : List Pick) → IsBranch cs xs → IsPrefix cs xs
branch-prefix cs xs branch = ([], subst (λ ys. IsBranch cs ys) (sym (append-nil xs)) branch)

pub prefix-front : (cs : List Choice) (front rest : List Pick) → IsPrefix cs (front ++ rest) → IsPrefix cs front
prefix-front cs front rest (more, branch) = (rest ++ more, subst (λ ys. IsBranch cs ys) (append_assoc front rest more) branch)

pub prefix-take : (cs : List Choice) (n : ℕ) (xs : List Pick) → IsPrefix cs xs → IsPrefix cs (take n xs)
prefix-take cs n xs prefix = prefix-front cs (take n xs) (drop n xs) (subst (λ ys. IsPrefix cs ys) (sym (take-append-drop n xs)) prefix)

-- a prefix has no more entries than there are choices
pub prefix-few : (cs : List Choice) (xs : List Pick) → IsPrefix cs xs → length xs ≤ length cs
prefix-few cs xs (rest, branch) = omega (arith, length-follows (xs ++ rest) cs [] branch, length-append xs rest)
