-- Branches of a plan: what is picked, what is active, which branch is earlier, what the picks cost.
use Rattle.std.specs.Prelude.{◌≡◌, ℕ, ◌+◌, ◌<◌, ◌⊎◌, Bool, false, IsTrue, IsFalse, List, [], ◌∷◌, ◌++◌, length, slice_get, None, Some, Option, nat_eq, unwrap_or, option_map}
use Rattle.std.specs.List.{list_all}
use Rattle.std.specs.Option.{option_map_or}
use Rattle.uhura_plan.specs.declared.guard.Literal.{Literal}
use Rattle.uhura_plan.specs.declared.choice.Choice.{Choice}
use Rattle.uhura_choice.specs.declared.prefix.Pick.{Pick}
use Rattle.uhura_choice.specs.declared.prefix.Pick.TheVariants.{Alternative, Inactive}

-- the entry is this alternative
abbrev pub is_alternative : ℕ → Option Pick → Bool
is_alternative a None = false
is_alternative a (Some Inactive) = false
is_alternative a (Some (Alternative b)) = nat_eq a b

-- a literal is picked where the entry of its choice is its alternative
abbrev pub is_picked : List Pick → Literal → Bool
is_picked picks l = is_alternative l.alternative (slice_get picks l.choice)

-- a guard holds where each of its literals is picked: what it guards is then active
abbrev pub holds : List Literal → List Pick → Bool
holds guard picks = list_all (is_picked picks) guard

-- the choice at this place is active: it is there, and its guard holds
abbrev pub is_active : List Choice → List Pick → ℕ → Bool
is_active choices picks place =
    option_map_or (λ c. holds c.guard picks) (slice_get choices place) false

-- an entry fits a choice after the entries before it: an alternative of the choice where its guard holds
-- there, and nothing where it doesn't
abbrev pub IsEntry : Choice → List Pick → Pick → Type 0
IsEntry c before (Alternative a) = IsTrue (holds c.guard before) × (a < length c.alternatives)
IsEntry c before Inactive = IsFalse (holds c.guard before)

-- one entry for each of the choices, after the entries before them
abbrev pub Follows : List Choice → List Pick → List Pick → Type 0
Follows [] before [] = Unit {0}
Follows [] before (x ∷ xs) = ⊥
Follows (c ∷ cs) before [] = ⊥
Follows (c ∷ cs) before (x ∷ xs) = IsEntry c before x × Follows cs (before ++ x ∷ []) xs

-- a branch has one entry for each choice, in their order
abbrev pub IsBranch : List Choice → List Pick → Type 0
IsBranch choices picks = Follows choices [] picks

-- the first entries of a branch
abbrev pub IsPrefix : List Choice → List Pick → Type 0
IsPrefix choices picks = (rest : List Pick) × IsBranch choices (picks ++ rest)

-- the one branch is earlier: at their first difference both have an alternative, and its own stands before
abbrev pub IsEarlier : List Pick → List Pick → Type 0
IsEarlier [] ys = ⊥
IsEarlier (x ∷ xs) [] = ⊥
IsEarlier (Alternative a ∷ xs) (Alternative b ∷ ys) = (a < b) ⊎ ((a ≡ b) × IsEarlier xs ys)
IsEarlier (Inactive ∷ xs) (Inactive ∷ ys) = IsEarlier xs ys
IsEarlier (Alternative a ∷ xs) (Inactive ∷ ys) = ⊥
IsEarlier (Inactive ∷ xs) (Alternative b ∷ ys) = ⊥

-- what an entry of a choice costs
abbrev pub pick_cost : Choice → Pick → ℕ
pick_cost c Inactive = 0
pick_cost c (Alternative a) =
    unwrap_or (option_map (λ pair. pair.1) (slice_get c.alternatives a)) 0

-- what the pick at this place costs: nothing where there is none, or no such choice
abbrev pub cost_at : List Choice → List Pick → ℕ → ℕ
cost_at choices picks place =
    option_map_or (λ c. option_map_or (pick_cost c) (slice_get picks place) 0)
    (slice_get choices place) 0

-- the costs of all picks together
abbrev pub picked_cost : List Choice → List Pick → ℕ
picked_cost [] picks = 0
picked_cost (c ∷ cs) [] = 0
picked_cost (c ∷ cs) (x ∷ xs) = pick_cost c x + picked_cost cs xs
