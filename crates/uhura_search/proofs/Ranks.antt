-- A number that falls from each branch to every later one, so that a walk over branches ends.
use Rattle.std.proofs.Common.{◌≡◌, ℕ, ◌+◌, ◌-◌, ◌*◌, ◌<◌, ◌≤◌, List, [], ◌∷◌, ◌++◌, length, inl, inr, ap, arith}
use Rattle.std.proofs.Math.Nat.{mul-le-mul_right}
use Rattle.uhura_plan.specs.declared.choice.Choice.{Choice}
use Rattle.uhura_choice.specs.declared.prefix.Pick.{Pick}
use Rattle.uhura_choice.specs.declared.prefix.Pick.TheVariants.{Alternative, Inactive}
use Rattle.uhura_choice.specs.Branch.{Follows, IsBranch, IsEarlier}

-- the place of the alternative that is picked
abbrev pub place_of : Pick → ℕ
place_of (Alternative a) = a
place_of Inactive = 0

-- more than the ranks of all lists of picks over these choices
unfoldable pub ranks : List Choice → ℕ
ranks [] = 1
ranks (c ∷ cs) = (length c.alternatives + 1) * ranks cs

-- how far picks are from the last ones
unfoldable pub rank : List Choice → List Pick → ℕ
rank [] picks = 0
rank (c ∷ cs) [] = 0
rank (c ∷ cs) (x ∷ xs) = (length c.alternatives - place_of x) * ranks cs + rank cs xs

rank-below : (cs : List Choice) (picks : List Pick) → rank cs picks < ranks cs
unfolding rank ranks
rank-below [] picks = omega arith
rank-below (c ∷ cs) [] =
    let some : rank cs [] < ranks cs = rank-below cs [] in
    let own : 1 * ranks cs ≤ (length c.alternatives + 1) * ranks cs = mul-le-mul_right (ranks cs) (omega arith) in
    omega (arith, some, own)
rank-below (c ∷ cs) (x ∷ xs) =
    let rest : rank cs xs < ranks cs = rank-below cs xs in
    let own : (length c.alternatives - place_of x) * ranks cs ≤ length c.alternatives * ranks cs = mul-le-mul_right (ranks cs) (omega arith) in
    omega (arith, rest, own)

-- one more alternative weighs more than all that follows
falls-here : (n a b w rest other : ℕ) → a < b → b < n → rest < w → ((n - b) * w + rest) < ((n - a) * w + other)
falls-here n a b w rest other less inside small =
    let more : ((n - b) + 1) * w ≤ (n - a) * w = mul-le-mul_right w (omega arith) in
    omega (arith, more, small)

rank-falls_after : (cs : List Choice) (before xs ys : List Pick) → Follows cs before ys → IsEarlier xs ys → rank cs ys < rank cs xs
unfolding rank
rank-falls_after [] before [] [] follows earlier = absurd earlier
rank-falls_after [] before (x ∷ xs) [] follows earlier = absurd earlier
rank-falls_after [] before xs (y ∷ ys) follows earlier = absurd follows
rank-falls_after (c ∷ cs) before xs [] follows earlier = absurd follows
rank-falls_after (c ∷ cs) before [] (y ∷ ys) follows earlier = absurd earlier
rank-falls_after (c ∷ cs) before (Alternative a ∷ xs) (Alternative b ∷ ys) follows (inl less) =
    falls-here (length c.alternatives) a b (ranks cs) (rank cs ys) (rank cs xs) less follows.0.1 (rank-below cs ys)
rank-falls_after (c ∷ cs) before (Alternative a ∷ xs) (Alternative b ∷ ys) follows (inr both) =
    let rest = rank-falls_after cs (before ++ Alternative b ∷ []) xs ys follows.1 both.1 in
    let same : (length c.alternatives - a) * ranks cs ≡ (length c.alternatives - b) * ranks cs = ap (λ (n : ℕ). (length c.alternatives - n) * ranks cs) both.0 in
    omega (arith, rest, same)
rank-falls_after (c ∷ cs) before (Inactive ∷ xs) (Inactive ∷ ys) follows earlier =
    let rest = rank-falls_after cs (before ++ Inactive ∷ []) xs ys follows.1 earlier in
    omega (arith, rest)
rank-falls_after (c ∷ cs) before (Alternative a ∷ xs) (Inactive ∷ ys) follows earlier = absurd earlier
rank-falls_after (c ∷ cs) before (Inactive ∷ xs) (Alternative b ∷ ys) follows earlier = absurd earlier

pub rank-falls : (choices : List Choice) (branch later : List Pick) → IsBranch choices later → IsEarlier branch later → rank choices later < rank choices branch
rank-falls choices branch later is earlier = rank-falls_after choices [] branch later is earlier
