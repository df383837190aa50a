-- What was learned, counted step by step.
use Rattle.std.proofs.Common.{◌≡◌, ℕ, ◌+◌, ◌<◌, List, [], ◌∷◌, ◌++◌, length, inl, inr, refl, sym, ap, subst, ◌∙◌, arith, length-append}
use Rattle.std.specs.Prelude.{◌⊎◌, ◌^◌}
use Rattle.uhura_plan.specs.Lists.{Lists}
use Rattle.uhura_plan.specs.declared.choice.Choice.{Choice}
use Rattle.uhura_choice.specs.declared.prefix.Pick.{Pick}
use Rattle.uhura_choice.specs.Branch.{IsBranch}
use Rattle.uhura_conflict.specs.Learned.{Learned}
use Rattle.uhura_conflict.specs.Store.{Stored}
use Rattle.uhura_search.specs.declared.learning.Learning.{Learning}
use Rattle.uhura_search.specs.Asked.{raised, AddsAt, AddsAll, HasLearned, LearnsSome, LearnsOrStops}
use Rattle.uhura_search.specs.Learning.{AreCounts, KeepsLearned, HasAddedAt}

raised-none : (count : ℕ) → count < 2 ^ 64 → count ≡ raised 0 count
raised-none count small = omega (arith, small)

raised-both : (m n count : ℕ) → raised n (raised m count) ≡ raised (m + n) count
raised-both m n count = omega arith

pub raised-small : (n count : ℕ) → raised n count < 2 ^ 64
raised-small n count = omega arith

adds-both : (cs : List Choice) (a b c : Stored) (xs ys : List Learned) → AddsAll cs a xs b → AddsAll cs b ys c → AddsAll cs a (xs ++ ys) c
adds-both cs a b c [] ys one two = subst (λ (s : Stored). AddsAll cs s ys c) one two
adds-both cs a b c (x ∷ xs) ys one two = (one.0, one.1, adds-both cs one.0 b c xs ys one.2 two)

-- one after the other
pub learned-both : (cs : List Choice) (a b c : Learning) (xs ys : List Learned) (m n : ℕ) → HasLearned cs a b xs m → HasLearned cs b c ys n → HasLearned cs a c (xs ++ ys) (m + n)
learned-both cs a b c xs ys m n one two = record {
  adds = adds-both cs a.store b.store c.store xs ys one.adds two.adds;
  added = two.added ∙ (ap (raised (length ys)) one.added ∙ (raised-both (length xs) (length ys) a.added ∙ ap (λ (k : ℕ). raised k a.added) (sym (length-append xs ys))));
  settles = two.settles ∙ (ap (raised n) one.settles ∙ raised-both m n a.flow.settles);
  pushes = omega (arith, one.pushes, two.pushes);
  table = two.table ∙ one.table;
}

-- as many, and then as many again, or once more
same-count : (cs : List Choice) (a c : Learning) (xs ys : List Learned) (m : ℕ) → HasLearned cs a c (xs ++ ys) (length xs + (length ys + m)) → HasLearned cs a c (xs ++ ys) (length (xs ++ ys) + m)
same-count cs a c xs ys m has =
    let long : length (xs ++ ys) ≡ length xs + length ys = length-append xs ys in
    let same : length xs + (length ys + m) ≡ length (xs ++ ys) + m = omega (arith, long) in
    subst (λ (k : ℕ). HasLearned cs a c (xs ++ ys) k) same has

plain-count : (cs : List Choice) (a c : Learning) (xs ys : List Learned) → HasLearned cs a c (xs ++ ys) (length xs + length ys) → HasLearned cs a c (xs ++ ys) (length (xs ++ ys))
plain-count cs a c xs ys has = subst (λ (k : ℕ). HasLearned cs a c (xs ++ ys) k) (sym (length-append xs ys)) has

pub some-both : (cs : List Choice) (a b c : Learning) → LearnsSome cs a b → LearnsSome cs b c → LearnsSome cs a c
some-both cs a b c one two = record {
  learned = one.learned ++ two.learned;
  has_learned = plain-count cs a c one.learned two.learned (learned-both cs a b c one.learned two.learned (length one.learned) (length two.learned) one.has_learned two.has_learned);
}

pub some-stops : (cs : List Choice) (a b c : Learning) → LearnsSome cs a b → LearnsOrStops cs b c → LearnsOrStops cs a c
some-stops cs a b c one two = record { learned = one.learned ++ two.learned; has_learned = by two.has_learned }
  where
    by : HasLearned cs b c two.learned (length two.learned) ⊎ HasLearned cs b c two.learned (length two.learned + 1) →
        HasLearned cs a c (one.learned ++ two.learned) (length (one.learned ++ two.learned)) ⊎ HasLearned cs a c (one.learned ++ two.learned) (length (one.learned ++ two.learned) + 1)
    by (inl as_many) = inl (plain-count cs a c one.learned two.learned (learned-both cs a b c one.learned two.learned (length one.learned) (length two.learned) one.has_learned as_many))
    by (inr more) = inr (same-count cs a c one.learned two.learned 1 (learned-both cs a b c one.learned two.learned (length one.learned) (length two.learned + 1) one.has_learned more))

pub some-or_stops : (cs : List Choice) (a b : Learning) → LearnsSome cs a b → LearnsOrStops cs a b
some-or_stops cs a b some = record { learned = some.learned; has_learned = inl some.has_learned }

-- nothing was learned, and nothing settled, or once
none-settled : (cs : List Choice) (a b : Learning) (m : ℕ) → AreCounts a → KeepsLearned a b → b.flow.settles ≡ raised m a.flow.settles → HasLearned cs a b [] m
none-settled cs a b m counts keeps settles = record {
  adds = keeps.store;
  added = keeps.added ∙ raised-none a.added counts.added;
  settles = settles;
  pushes = keeps.pushes;
  table = keeps.table;
}

pub learns-none : (cs : List Choice) (a b : Learning) → AreCounts a → KeepsLearned a b → b.flow.settles ≡ a.flow.settles → LearnsSome cs a b
learns-none cs a b counts keeps settles = record { learned = []; has_learned = none-settled cs a b 0 counts keeps (settles ∙ raised-none a.flow.settles counts.settles) }

pub stops-settled : (cs : List Choice) (a b : Learning) → AreCounts a → KeepsLearned a b → b.flow.settles ≡ raised 1 a.flow.settles → LearnsOrStops cs a b
stops-settled cs a b counts keeps settles = record { learned = []; has_learned = inr (none-settled cs a b 1 counts keeps settles) }

-- and once, for a conflict
pub learns-one : (plan : Lists) (a b c : Learning) (branch : List Pick) (conflict : Learned) → IsBranch plan.choices branch → KeepsLearned a b → b.flow.settles ≡ raised 1 a.flow.settles →
    HasAddedAt plan b c branch conflict → LearnsSome plan.choices a c
learns-one plan a b c branch conflict is keeps settles has = record {
  learned = conflict ∷ [];
  has_learned = record {
    adds = (
      c.store,
      subst (λ (s : Stored). AddsAt s c.store plan.choices conflict) keeps.store (record { branch = branch; is_branch = is; applies = has.applies; exceeds = has.exceeds; key = has.key; adds = has.adds }),
      refl,
    );
    added = has.added ∙ ap (raised 1) keeps.added;
    settles = ap (λ flow. flow.settles) has.flow ∙ settles;
    pushes = omega (arith, keeps.pushes, ap (λ flow. flow.net.pushes) has.flow);
    table = has.table ∙ keeps.table;
  };
}
