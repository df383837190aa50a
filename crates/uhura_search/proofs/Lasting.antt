-- What shuts a prefix shuts each longer one.
use Rattle.std.proofs.Common.{◌≡◌, List, [], ◌∷◌, ◌++◌, length, Option, Some, None, Bool, true, false, refl, sym, ap, ◌∙◌, subst, inl, inr, arith, length-append}
use Rattle.std.specs.Prelude.{ℕ, ◌≤◌, ℤ, pos, ◌⊎◌, ◌&&◌, IsTrue, IsFalse, find, is_some, option_map}
use Rattle.std.proofs.lemmas.Int.{ints}
use Rattle.uhura_plan.specs.Lists.{Lists}
use Rattle.uhura_plan.specs.declared.guard.Literal.{Literal}
use Rattle.uhura_choice.specs.declared.prefix.Pick.{Pick}
use Rattle.uhura_choice.specs.declared.prefix.Pick.TheVariants.{Alternative, Inactive}
use Rattle.uhura_choice.specs.Branch.{IsEarlier, is_picked, picked_cost}
use Rattle.uhura_choice.specs.Order.{IsFrontOf}
use Rattle.uhura_choice.proofs.Earlier.{begun-not_earlier}
use Rattle.uhura_dual.proofs.Beginnings.{holds-more, denied-more, picked-begins}
use Rattle.uhura_shows.proofs.Covering.{front-trans}
use Rattle.uhura_veto.specs.declared.veto.Veto.{Veto}
use Rattle.uhura_veto.specs.Vetoes.{veto_name}
use Rattle.uhura_veto.specs.State.{State}
use Rattle.uhura_veto.specs.Denial.{denies, denied_by, is_denied}
use Rattle.uhura_conflict.specs.Learned.{Learned}
use Rattle.uhura_conflict.specs.Literals.{Applies}
use Rattle.uhura_conflict.specs.Store.{Stored, value_at}
use Rattle.uhura_search.specs.declared.leaf.LeafReason.{LeafReason}
use Rattle.uhura_search.specs.declared.leaf.LeafReason.TheVariants.{Denied, Empty, Learned as LearnedOf}
use Rattle.uhura_search.specs.declared.incumbent.Incumbent.{Incumbent}
use Rattle.uhura_search.specs.Shut.{IsEnough, IsDear, IsReason, IsShut}
use Rattle.uhura_search.proofs.Bettering.{is_some-find}
use Rattle.uhura_search.proofs.Enough.{front-same}
use Rattle.uhura_search.proofs.Reasons.{denied-shut}
use Rattle.uhura_search.proofs.Shorter.{Last}

-- what is earlier with more picks is earlier without them, or begins the other
behind-pick : (x : Pick) (one other : List Pick) → (IsEarlier one other → IsEarlier (x ∷ one) (x ∷ other)) → IsEarlier one other ⊎ IsFrontOf one other → IsEarlier (x ∷ one) (x ∷ other) ⊎ IsFrontOf (x ∷ one) (x ∷ other)
behind-pick x one other step (inl earlier) = inl (step earlier)
behind-pick x one other step (inr begins) = inr (begins.0, ap (λ (l : List Pick). x ∷ l) begins.1)

earlier-front : (one rest other : List Pick) → IsEarlier (one ++ rest) other → IsEarlier one other ⊎ IsFrontOf one other
earlier-front [] rest other earlier = inr (other, refl)
earlier-front (x ∷ one) rest [] earlier = absurd earlier
earlier-front (Inactive ∷ one) rest (Inactive ∷ other) earlier = behind-pick Inactive one other (λ less. less) (earlier-front one rest other earlier)
earlier-front (Inactive ∷ one) rest (Alternative b ∷ other) earlier = absurd earlier
earlier-front (Alternative a ∷ one) rest (Inactive ∷ other) earlier = absurd earlier
earlier-front (Alternative a ∷ one) rest (Alternative b ∷ other) (inl less) = inl (inl less)
earlier-front (Alternative a ∷ one) rest (Alternative b ∷ other) (inr both) =
    let found : IsEarlier (Alternative a ∷ one) (Alternative a ∷ other) ⊎ IsFrontOf (Alternative a ∷ one) (Alternative a ∷ other) =
    behind-pick (Alternative a) one other (λ less. inr (refl, less)) (earlier-front one rest other both.1) in
    subst (λ n. IsEarlier (Alternative a ∷ one) (Alternative n ∷ other) ⊎ IsFrontOf (Alternative a ∷ one) (Alternative n ∷ other)) both.0 found

-- a value that is enough is enough with more picks
module _ (plan : Lists) (best : Incumbent) (prefix longer : List Pick) (value : ℤ) (begins : IsFrontOf prefix longer) (enough : IsEnough plan best prefix value) where
  costs : picked_cost plan.choices prefix ≤ picked_cost plan.choices longer
  costs = subst (λ (l : List Pick). picked_cost plan.choices prefix ≤ picked_cost plan.choices l) (sym begins.1) (picked-begins plan.choices prefix begins.0)

  -- a prefix between one and what is as long is the same
  whole : IsFrontOf longer best.branch → longer ≡ best.branch
  whole begun =
      let same : prefix ≡ best.branch = enough.whole (front-trans prefix longer best.branch begins begun) in
      front-same longer best.branch begun
      (omega (arith, ap length same, ap length begins.1 ∙ length-append prefix begins.0, ap length begun.1 ∙ length-append longer begun.0))

  more-by : IsEarlier longer best.branch → IsEarlier prefix best.branch ⊎ IsFrontOf prefix best.branch → IsEarlier prefix best.branch
  more-by earlier (inl less) = less
  more-by earlier (inr begun) =
      let same : prefix ≡ best.branch = enough.whole begun in
      absurd (begun-not_earlier prefix begins.0 (subst (λ b. IsEarlier (prefix ++ begins.0) b) (sym same) (subst (λ l. IsEarlier l best.branch) begins.1 earlier)))

  earlier-too : IsEarlier longer best.branch → IsEarlier prefix best.branch
  earlier-too earlier = more-by earlier (earlier-front prefix begins.0 best.branch (subst (λ l. IsEarlier l best.branch) begins.1 earlier))

  pub enough-longer : IsEnough plan best longer value
  enough-longer = record {
    whole = whole;
    least = let least = enough.least in omega (arith, ints, costs);
    more = λ earlier. let least = enough.more (earlier-too earlier) in omega (arith, ints, costs);
  }

dear-longer : (plan : Lists) (best : Option Incumbent) (prefix longer : List Pick) (value : ℤ) → IsFrontOf prefix longer → IsDear plan best prefix value → IsDear plan best longer value
dear-longer plan None prefix longer value begins dear = absurd dear
dear-longer plan (Some best) prefix longer value begins dear = enough-longer plan best prefix longer value begins dear

-- what is picked goes on to be
picked-more : (picks rest : List Pick) (l : Literal) → is_picked picks l ≡ true → is_picked (picks ++ rest) l ≡ true
picked-more picks rest l is = alone (is_picked (picks ++ rest) l) (holds-more (l ∷ []) picks rest (rw is refl))
  where
    alone : (b : Bool) → (b && true) ≡ true → b ≡ true
    alone true both = refl
    alone false both = both

-- what applies goes on to apply
applies-longer : (prefix longer : List Pick) (c : Learned) → IsFrontOf prefix longer → Applies prefix c → Applies longer c
applies-longer prefix longer c begins applies literal asks =
    subst (λ (l : List Pick). is_picked l literal ≡ true) (sym begins.1) (picked-more prefix begins.0 literal (applies literal asks))

-- a denial denies with more picks
is_some-named : (o : Option Veto) → is_some (option_map veto_name o) ≡ is_some o
is_some-named None = refl
is_some-named (Some v) = refl

is_some-denied : (state : State) (picks : List Pick) → is_some (denied_by state.vetoes picks) ≡ is_denied state.vetoes picks
is_some-denied state picks = is_some-named (find (denies picks) state.vetoes) ∙ is_some-find (denies picks) state.vetoes

denied-longer : (state : State) (prefix longer : List Pick) (name : List ℕ) → IsFrontOf prefix longer → denied_by state.vetoes prefix ≡ Some name → is_some (denied_by state.vetoes longer) ≡ true
denied-longer state prefix longer name begins is =
    is_some-denied state longer
    ∙ subst (λ (l : List Pick). is_denied state.vetoes l ≡ true) (sym begins.1) (denied-more state.vetoes prefix begins.0 (sym (is_some-denied state prefix) ∙ ap is_some is))

pub shut-longer : (state : State) (store : Stored) (best : Option Incumbent) (prefix longer : List Pick) → IsFrontOf prefix longer → IsShut state store best prefix → IsShut state store best longer
shut-longer state store best prefix longer begins shut = by_reason shut.reason shut.is_reason
  where
    by_enough : (c : Learned) (value : ℤ) → IsTrue c.stuck ⊎ (IsFalse c.stuck × IsDear state.plan best prefix value) → IsTrue c.stuck ⊎ (IsFalse c.stuck × IsDear state.plan best longer value)
    by_enough c value (inl stuck) = inl stuck
    by_enough c value (inr dear) = inr (dear.0, dear-longer state.plan best prefix longer value begins dear.1)

    by_reason : (reason : LeafReason) → IsReason state store best prefix reason → IsShut state store best longer
    by_reason (Denied name) is = denied-shut state store best longer (denied_by state.vetoes longer) refl (denied-longer state prefix longer name begins is)
    by_reason Empty is = record { reason = Empty; is_reason = dear-longer state.plan best prefix longer (pos 0) begins is }
    by_reason (LearnedOf c) is = record {
      reason = LearnedOf c;
      is_reason = record {
        key = is.key;
        applies = record { there = is.applies.there; applies = applies-longer prefix longer c begins is.applies.applies };
        enough = by_enough c (value_at store c) is.enough;
      };
    }

-- each prefix of a shut one's branches
pub shut-lasts : (state : State) (store : Stored) (best : Option Incumbent) → Last (IsShut state store best)
shut-lasts state store best prefix longer begins shut = shut-longer state store best prefix longer begins shut
