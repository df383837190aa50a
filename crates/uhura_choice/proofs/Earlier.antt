-- The order of lists of picks: of two branches that differ one is earlier; what begins two lists doesn't matter.
use Rattle.std.proofs.Common.{◌≡◌, ℕ, ◌<◌, List, [], ◌∷◌, ◌++◌, inl, inr, ap, sym, subst, refl, arith}
use Rattle.std.proofs.lemmas.Bool.{cases_order}
use Rattle.std.specs.Prelude.{◌⊎◌, IsTrue, IsFalse}
use Rattle.uhura_plan.specs.declared.choice.Choice.{Choice}
use Rattle.uhura_choice.specs.declared.prefix.Pick.{Pick}
use Rattle.uhura_choice.specs.declared.prefix.Pick.TheVariants.{Alternative, Inactive}
use Rattle.uhura_choice.specs.Branch.{Follows, IsEarlier, IsBranch, holds}

-- nothing is earlier than itself
pub earlier-irreflexive : (xs : List Pick) → IsEarlier xs xs → ⊥
earlier-irreflexive [] before = before
earlier-irreflexive (Inactive ∷ xs) before = earlier-irreflexive xs before
earlier-irreflexive (Alternative a ∷ xs) (inl less) = absurd (omega arith)
earlier-irreflexive (Alternative a ∷ xs) (inr both) = earlier-irreflexive xs both.1

-- nor than what it begins, and what it begins is no earlier than it
pub begins-not_earlier : (xs rest : List Pick) → IsEarlier xs (xs ++ rest) → ⊥
begins-not_earlier [] rest before = before
begins-not_earlier (Inactive ∷ xs) rest before = begins-not_earlier xs rest before
begins-not_earlier (Alternative a ∷ xs) rest (inl less) = absurd (omega arith)
begins-not_earlier (Alternative a ∷ xs) rest (inr both) = begins-not_earlier xs rest both.1

-- before the empty list there is nothing
pub nothing-before_empty : (xs : List Pick) → IsEarlier xs [] → ⊥
nothing-before_empty [] before = before
nothing-before_empty (x ∷ xs) before = before

pub begun-not_earlier : (xs rest : List Pick) → IsEarlier (xs ++ rest) xs → ⊥
begun-not_earlier [] rest before = nothing-before_empty rest before
begun-not_earlier (Inactive ∷ xs) rest before = begun-not_earlier xs rest before
begun-not_earlier (Alternative a ∷ xs) rest (inl less) = absurd (omega arith)
begun-not_earlier (Alternative a ∷ xs) rest (inr both) = begun-not_earlier xs rest both.1

-- an earlier one of an earlier one is earlier
pub earlier-trans : (xs ys zs : List Pick) → IsEarlier xs ys → IsEarlier ys zs → IsEarlier xs zs
earlier-trans [] ys zs one two = absurd one
earlier-trans (x ∷ xs) [] zs one two = absurd one
earlier-trans (x ∷ xs) (y ∷ ys) [] one two = absurd two
earlier-trans (Inactive ∷ xs) (Inactive ∷ ys) (Inactive ∷ zs) one two = earlier-trans xs ys zs one two
earlier-trans (Inactive ∷ xs) (Inactive ∷ ys) (Alternative c ∷ zs) one two = absurd two
earlier-trans (Inactive ∷ xs) (Alternative b ∷ ys) (z ∷ zs) one two = absurd one
earlier-trans (Alternative a ∷ xs) (Inactive ∷ ys) (z ∷ zs) one two = absurd one
earlier-trans (Alternative a ∷ xs) (Alternative b ∷ ys) (Inactive ∷ zs) one two = absurd two
earlier-trans (Alternative a ∷ xs) (Alternative b ∷ ys) (Alternative c ∷ zs) (inl one) (inl two) = inl (omega arith)
earlier-trans (Alternative a ∷ xs) (Alternative b ∷ ys) (Alternative c ∷ zs) (inl one) (inr two) = inl (omega (arith, two.0))
earlier-trans (Alternative a ∷ xs) (Alternative b ∷ ys) (Alternative c ∷ zs) (inr one) (inl two) = inl (omega (arith, one.0))
earlier-trans (Alternative a ∷ xs) (Alternative b ∷ ys) (Alternative c ∷ zs) (inr one) (inr two) =
    inr (omega (arith, one.0, two.0), earlier-trans xs ys zs one.1 two.1)

-- behind one beginning two lists compare as they do alone
pub earlier-behind : (front xs ys : List Pick) → IsEarlier xs ys → IsEarlier (front ++ xs) (front ++ ys)
earlier-behind [] xs ys before = before
earlier-behind (Inactive ∷ front) xs ys before = earlier-behind front xs ys before
earlier-behind (Alternative a ∷ front) xs ys before = inr (refl, earlier-behind front xs ys before)

pub earlier-from_behind : (front xs ys : List Pick) → IsEarlier (front ++ xs) (front ++ ys) → IsEarlier xs ys
earlier-from_behind [] xs ys before = before
earlier-from_behind (Inactive ∷ front) xs ys before = earlier-from_behind front xs ys before
earlier-from_behind (Alternative a ∷ front) xs ys (inl less) = absurd (omega arith)
earlier-from_behind (Alternative a ∷ front) xs ys (inr both) = earlier-from_behind front xs ys both.1

-- what lies between two lists with one beginning has that beginning
pub record IsBetween (front xs ys between : List Pick) : Type 0 where
  pub rest : List Pick
  pub begins : between ≡ front ++ rest
  pub after : IsEarlier xs rest
  pub before : IsEarlier rest ys

between-inactive : (front xs ys between : List Pick) → IsBetween front xs ys between → IsBetween (Inactive ∷ front) xs ys (Inactive ∷ between)
between-inactive front xs ys between b =
    record { rest = b.rest; begins = ap (λ l. Inactive ∷ l) b.begins; after = b.after; before = b.before }

between-picked : (a m : ℕ) (front xs ys between : List Pick) → a ≡ m → IsBetween front xs ys between → IsBetween (Alternative a ∷ front) xs ys (Alternative m ∷ between)
between-picked a m front xs ys between same b =
    let begins : between ≡ front ++ b.rest = b.begins in
    record { rest = b.rest; begins = cc; after = b.after; before = b.before }

pub between-begins : (front xs ys between : List Pick) → IsEarlier (front ++ xs) between → IsEarlier between (front ++ ys) → IsBetween front xs ys between
between-begins [] xs ys between after before = record { rest = between; begins = refl; after = after; before = before }
between-begins (x ∷ front) xs ys [] after before = absurd before
between-begins (Inactive ∷ front) xs ys (Inactive ∷ between) after before =
    between-inactive front xs ys between (between-begins front xs ys between after before)
between-begins (Inactive ∷ front) xs ys (Alternative m ∷ between) after before = absurd after
between-begins (Alternative a ∷ front) xs ys (Inactive ∷ between) after before = absurd after
between-begins (Alternative a ∷ front) xs ys (Alternative m ∷ between) (inl after) (inl before) = absurd (omega arith)
between-begins (Alternative a ∷ front) xs ys (Alternative m ∷ between) (inl after) (inr before) = absurd (omega (arith, before.0))
between-begins (Alternative a ∷ front) xs ys (Alternative m ∷ between) (inr after) (inl before) = absurd (omega (arith, after.0))
between-begins (Alternative a ∷ front) xs ys (Alternative m ∷ between) (inr after) (inr before) =
    between-picked a m front xs ys between after.0 (between-begins front xs ys between after.1 before.1)

-- how two branches compare
abbrev pub Compare : List Pick → List Pick → Type 0
Compare xs ys = (xs ≡ ys) ⊎ (IsEarlier xs ys ⊎ IsEarlier ys xs)

-- behind one inactive entry
both-inactive : (xs ys : List Pick) → Compare xs ys → Compare (Inactive ∷ xs) (Inactive ∷ ys)
both-inactive xs ys (inl same) = inl (ap (λ l. Inactive ∷ l) same)
both-inactive xs ys (inr (inl before)) = inr (inl before)
both-inactive xs ys (inr (inr after)) = inr (inr after)

-- behind two alternatives
both-picked : (a b : ℕ) (xs ys : List Pick) → (a ≡ b) ⊎ ((a < b) ⊎ (b < a)) → (a ≡ b → Compare xs ys) → Compare (Alternative a ∷ xs) (Alternative b ∷ ys)
both-picked a b xs ys (inr (inl before)) rest = inr (inl (inl before))
both-picked a b xs ys (inr (inr after)) rest = inr (inr (inl after))
both-picked a b xs ys (inl same) rest = behind (rest same)
  where
    behind : Compare xs ys → Compare (Alternative a ∷ xs) (Alternative b ∷ ys)
    behind (inl equal) = inl cc
    behind (inr (inl before)) = inr (inl (inr (same, before)))
    behind (inr (inr after)) = inr (inr (inr (sym same, after)))

compare-from : (cs : List Choice) (before xs ys : List Pick) → Follows cs before xs → Follows cs before ys → Compare xs ys
compare-from [] before [] [] f g = inl refl
compare-from [] before (x ∷ xs) ys f g = absurd f
compare-from [] before [] (y ∷ ys) f g = absurd g
compare-from (c ∷ cs) before [] ys f g = absurd f
compare-from (c ∷ cs) before (x ∷ xs) [] f g = absurd g
compare-from (c ∷ cs) before (Inactive ∷ xs) (Inactive ∷ ys) f g = both-inactive xs ys (compare-from cs (before ++ Inactive ∷ []) xs ys f.1 g.1)
compare-from (c ∷ cs) before (Alternative a ∷ xs) (Inactive ∷ ys) f g = let is : IsTrue (holds c.guard before) = f.0.0 in let no : IsFalse (holds c.guard before) = g.0 in cc
compare-from (c ∷ cs) before (Inactive ∷ xs) (Alternative b ∷ ys) f g = let is : IsTrue (holds c.guard before) = g.0.0 in let no : IsFalse (holds c.guard before) = f.0 in cc
compare-from (c ∷ cs) before (Alternative a ∷ xs) (Alternative b ∷ ys) f g =
    both-picked a b xs ys (cases_order a b) (λ same. compare-from cs (before ++ Alternative a ∷ []) xs ys f.1 (subst (λ n. Follows cs (before ++ Alternative n ∷ []) ys) (sym same) g.1))

-- of two branches of one plan the one is the other, or earlier, or later
pub compare : (choices : List Choice) (xs ys : List Pick) → IsBranch choices xs → IsBranch choices ys → Compare xs ys
compare choices xs ys x y = compare-from choices [] xs ys x y

-- where neither is earlier, they are one
pub same-branch : (xs ys : List Pick) → Compare xs ys → (IsEarlier xs ys → ⊥) → (IsEarlier ys xs → ⊥) → xs ≡ ys
same-branch xs ys (inl same) no_less no_more = same
same-branch xs ys (inr (inl before)) no_less no_more = absurd (no_less before)
same-branch xs ys (inr (inr after)) no_less no_more = absurd (no_more after)
