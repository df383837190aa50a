-- What is shut stays shut.
use Rattle.std.proofs.Common.{◌≡◌, ℕ, List, Option, Some, None, sym, ap, ◌∙◌, subst, inl, inr, arith}
use Rattle.std.specs.Prelude.{ℤ, pos, ◌⊎◌, IsTrue, IsFalse}
use Rattle.std.proofs.lemmas.Int.{ints}
use Rattle.std.proofs.lemmas.Bool.{cases_eq}
use Rattle.uhura_plan.specs.Lists.{Lists}
use Rattle.uhura_choice.specs.declared.prefix.Pick.{Pick}
use Rattle.uhura_choice.specs.Order.{IsFrontOf}
use Rattle.uhura_choice.proofs.Earlier.{earlier-trans}
use Rattle.uhura_net.specs.declared.edge.Edge.{Edge}
use Rattle.uhura_net.specs.Circulation.{edges_of}
use Rattle.uhura_veto.specs.State.{State}
use Rattle.uhura_conflict.specs.Learned.{Learned, flow_value}
use Rattle.uhura_conflict.specs.Store.{Stored, conflict_at, value_at, Adds}
use Rattle.uhura_search.specs.declared.leaf.LeafReason.{LeafReason}
use Rattle.uhura_search.specs.declared.leaf.LeafReason.TheVariants.{Denied, Empty, Learned as LearnedOf}
use Rattle.uhura_search.specs.declared.incumbent.Incumbent.{Incumbent}
use Rattle.uhura_search.specs.Shut.{IsDear, IsEnough, IsReason, IsShut, IsBetter}

-- a conflict that is there stays there when another is added
kept-there : (old new : Stored) (key : ℕ) (added : Learned) (other : ℕ) (c : Learned) → Adds old new key added → conflict_at old other ≡ Some c → conflict_at new other ≡ Some c
kept-there old new key added other c adds there =
    elim (cases_eq other key) [
      | inl same ↦
          let none : conflict_at old other ≡ None = ap (conflict_at old) same ∙ adds.free in
          absurd (let never : ⊥ = cc in never)
      | inr differs ↦ adds.others other differs ∙ there
    ]

-- so what a store shuts is shut when more is known
pub shut-more : (state : State) (old new : Stored) (best : Option Incumbent) (prefix : List Pick) (key : ℕ) (added : Learned) → Adds old new key added → IsShut state old best prefix → IsShut state new best prefix
shut-more state old new best prefix key added adds shut = record { reason = shut.reason; is_reason = by_reason shut.reason shut.is_reason }
  where
    by_reason : (reason : LeafReason) → IsReason state old best prefix reason → IsReason state new best prefix reason
    by_reason (Denied name) is = is
    by_reason Empty is = is
    by_reason (LearnedOf c) is = record {
      key = is.key;
      applies = record { there = kept-there old new key added is.key c adds is.applies.there; applies = is.applies.applies };
      enough = subst (λ (table : List (Option Edge)). IsTrue c.stuck ⊎ (IsFalse c.stuck × IsDear state.plan best prefix (flow_value (edges_of table) c.pairs))) (sym adds.table) is.enough;
    }

-- what is enough for the best so far is enough for a better one, where the prefix doesn't begin its branch
enough-better : (plan : Lists) (best better : Incumbent) (prefix : List Pick) (value : ℤ) → IsBetter better best → (IsFrontOf prefix better.branch → ⊥) →
    IsEnough plan best prefix value → IsEnough plan better prefix value
enough-better plan best better prefix value (inl less) apart enough = record {
  whole = λ begins. absurd (apart begins);
  least = let least = enough.least in omega (arith, ints, less);
  more = λ earlier. let least = enough.least in omega (arith, ints, less);
}
enough-better plan best better prefix value (inr (same, before)) apart enough = record {
  whole = λ begins. absurd (apart begins);
  least = let least = enough.least in omega (arith, ints, same);
  more = λ earlier. let more = enough.more (earlier-trans prefix better.branch best.branch earlier before) in omega (arith, ints, same, more);
}

-- and so what is shut stays shut when the best so far gets better, where the prefix doesn't begin the new branch
pub shut-better : (state : State) (store : Stored) (best better : Incumbent) (prefix : List Pick) → IsBetter better best → (IsFrontOf prefix better.branch → ⊥) →
    IsShut state store (Some best) prefix → IsShut state store (Some better) prefix
shut-better state store best better prefix is_better apart shut = record { reason = shut.reason; is_reason = by_reason shut.reason shut.is_reason }
  where
    by_reason : (reason : LeafReason) → IsReason state store (Some best) prefix reason → IsReason state store (Some better) prefix reason
    by_reason (Denied name) is = is
    by_reason Empty is = enough-better state.plan best better prefix (pos 0) is_better apart is
    by_reason (LearnedOf c) is = record { key = is.key; applies = is.applies; enough = by_enough is.enough }
      where
        by_enough : IsTrue c.stuck ⊎ (IsFalse c.stuck × IsDear state.plan (Some best) prefix (value_at store c)) → IsTrue c.stuck ⊎ (IsFalse c.stuck × IsDear state.plan (Some better) prefix (value_at store c))
        by_enough (inl stuck) = inl stuck
        by_enough (inr dear) = inr (dear.0, enough-better state.plan best better prefix (value_at store c) is_better apart dear.1)

-- without a best so far only denials and firm cycles shut, and they do so with one too
pub shut-first : (state : State) (store : Stored) (best : Option Incumbent) (prefix : List Pick) → IsShut state store None prefix → IsShut state store best prefix
shut-first state store best prefix shut = record { reason = shut.reason; is_reason = by_reason shut.reason shut.is_reason }
  where
    by_reason : (reason : LeafReason) → IsReason state store None prefix reason → IsReason state store best prefix reason
    by_reason (Denied name) is = is
    by_reason Empty is = absurd is
    by_reason (LearnedOf c) is = record { key = is.key; applies = is.applies; enough = by_enough is.enough }
      where
        by_enough : IsTrue c.stuck ⊎ (IsFalse c.stuck × IsDear state.plan None prefix (value_at store c)) → IsTrue c.stuck ⊎ (IsFalse c.stuck × IsDear state.plan best prefix (value_at store c))
        by_enough (inl stuck) = inl stuck
        by_enough (inr dear) = absurd dear.1
