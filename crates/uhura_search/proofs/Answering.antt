-- Leaves that cover all branches, each shut for its reason, show the answer.
use Rattle.std.proofs.Common.{◌≡◌, ℕ, List, [], ◌∷◌, get_or, Option, Some, None, refl, sym, ap, subst, inl, inr}
use Rattle.std.specs.Prelude.{All, IsTrue, IsFalse, IfSome, ◌⊎◌, unwrap_or}
use Rattle.std.proofs.lemmas.List.Elements.{All-map}
use Rattle.uhura_plan.specs.Sound.{IsSound}
use Rattle.uhura_choice.specs.declared.prefix.Pick.{Pick}
use Rattle.uhura_choice.specs.Order.{IsFrontOf}
use Rattle.uhura_veto.specs.State.{State}
use Rattle.uhura_veto.specs.Denial.{denied_by}
use Rattle.uhura_veto.specs.Find.{veto_named}
use Rattle.uhura_worst.specs.Proposal.{Proposal}
use Rattle.uhura_worst.specs.Allowed.{Allowed}
use Rattle.uhura_conflict.specs.Learned.{Learned}
use Rattle.uhura_conflict.specs.Store.{Stored, value_at}
use Rattle.uhura_shows.specs.Leaf as shown
use Rattle.uhura_shows.specs.Leaf.{LeafShown}
use Rattle.uhura_shows.specs.Cover.{IsCover, Covers}
use Rattle.uhura_shows.specs.Shows.{is_denied_by, IsShownBy, AreNoProperFronts, Shows}
use Rattle.uhura_shows.proofs.Covering.{covers-all}
use Rattle.uhura_shows.proofs.Leaves.{denied-allows_nothing, stuck-allows_nothing}
use Rattle.uhura_search.specs.declared.leaf.LeafReason.{LeafReason}
use Rattle.uhura_search.specs.declared.leaf.LeafReason.TheVariants.{Denied, Empty, Learned as LearnedOf}
use Rattle.uhura_search.specs.declared.leaf.LeafNote.{LeafNote}
use Rattle.uhura_search.specs.declared.incumbent.Incumbent.{Incumbent}
use Rattle.uhura_search.specs.Known.{IsStoreFor, answer_of, IsReached}
use Rattle.uhura_search.specs.Shut.{IsDear, IsShutBy, IsReason, IsNoted}
use Rattle.uhura_search.specs.Answer.{shown_conflict, shown_reason, shown_leaf, shown_leaves}
use Rattle.uhura_search.specs.Appended.{prefixes_of, AppendsCover}
use Rattle.uhura_search.specs.Asked.{IsEntered, AreEntered}
use Rattle.uhura_search.proofs.Showing.{IsKnownAt, known-at, stuck-shown, flow-shown, empty-shown}

-- a denial is known by the name of the first that denies
abbrev pub AreDenialsNamed : State → Type 0
AreDenialsNamed state = (prefix : List Pick) (name : List ℕ) → denied_by state.vetoes prefix ≡ Some name → IsTrue (is_denied_by state prefix (unwrap_or (veto_named state.vetoes name) 0))

module _ (state : State) (store : Stored) (named : AreDenialsNamed state) (is_store : IsStoreFor state store) where
  -- what a conflict shows that shuts a prefix
  conflict-shown : (best : Option Incumbent) (prefix : List Pick) (c : Learned) → IsShutBy state.plan store best prefix c → IsShownBy state (answer_of best) prefix (shown_conflict c)
  conflict-shown best prefix c by_it = by_kind best by_it.enough
    where
      known : IsKnownAt state store prefix c
      known = known-at state store prefix by_it.key c is_store by_it.applies

      by_kind : (best : Option Incumbent) → IsTrue c.stuck ⊎ (IsFalse c.stuck × IsDear state.plan best prefix (value_at store c)) → IsShownBy state (answer_of best) prefix (shown_conflict c)
      by_kind None (inl stuck) = rw stuck (stuck-shown state store prefix c known stuck)
      by_kind (Some i) (inl stuck) = rw stuck (stuck-shown state store prefix c known stuck)
      by_kind None (inr dear) = absurd dear.1
      by_kind (Some i) (inr dear) = rw dear.0 (flow-shown state store prefix c known dear.0 i dear.1)

  reason-shown : (best : Option Incumbent) (prefix : List Pick) (reason : LeafReason) → IsReason state store best prefix reason → IsShownBy state (answer_of best) prefix (shown_reason state reason)
  reason-shown best prefix (Denied name) is = named prefix name is
  reason-shown None prefix Empty is = absurd is
  reason-shown (Some best) prefix Empty is = empty-shown state prefix best is
  reason-shown best prefix (LearnedOf c) is = conflict-shown best prefix c is

  -- what is shut for its reason is no proper prefix of the branch of what is allowed
  whole-by_reason : (best : Incumbent) (k : ℕ) (q : Proposal) (prefix : List Pick) (reason : LeafReason) → IsSound state.plan → Allowed state k q → q.branch ≡ best.branch →
      IsReason state store (Some best) prefix reason → IsFrontOf prefix best.branch → prefix ≡ best.branch
  whole-by_reason best k q prefix (Denied name) sound allowed same is begins =
      absurd (denied-allows_nothing state prefix (unwrap_or (veto_named state.vetoes name) 0) k q (named prefix name is) (subst (λ b. IsFrontOf prefix b) (sym same) begins) allowed)
  whole-by_reason best k q prefix Empty sound allowed same is begins = is.whole begins
  whole-by_reason best k q prefix (LearnedOf c) sound allowed same is begins = by_kind is.enough
    where
      by_kind : IsTrue c.stuck ⊎ (IsFalse c.stuck × IsDear state.plan (Some best) prefix (value_at store c)) → prefix ≡ best.branch
      by_kind (inl stuck) =
          absurd (stuck-allows_nothing state prefix _ k q sound (stuck-shown state store prefix c (known-at state store prefix is.key c is_store is.applies) stuck) (subst (λ b. IsFrontOf prefix b) (sym same) begins) allowed)
      by_kind (inr dear) = dear.1.whole begins

-- the prefixes of leaves that are shown are those of the leaves
same-prefixes : (state : State) (notes : List LeafNote) → shown.prefixes_of (shown_leaves state notes) ≡ prefixes_of notes
same-prefixes state [] = refl
same-prefixes state (note ∷ notes) = ap (λ (l : List (List Pick)). note.prefix ∷ l) (same-prefixes state notes)

-- so the leaves show the answer
pub leaves-show : (state : State) (store : Stored) (best : Option Incumbent) (notes : List LeafNote) → IsSound state.plan → AreDenialsNamed state → IsStoreFor state store → IsReached state best →
    AppendsCover state.plan.choices (IsNoted state store best) ([] ∷ []) [] notes → Shows state (answer_of best) (shown_leaves state notes)
leaves-show state store best notes sound named is_store reached appended = record {
  cover = subst (λ l. IsCover state.plan.choices l) (sym (same-prefixes state notes))
      (covers-all state.plan.choices (prefixes_of notes) (subst (λ (l : List LeafNote). Covers state.plan.choices ([] ∷ []) (prefixes_of l)) (sym appended.shape) appended.covers));
  reasons = All-map (λ (leaf : LeafShown). IsShownBy state (answer_of best) leaf.prefix leaf.reason) (shown_leaf state) notes
      (λ k d below. reason-shown state store named is_store best (get_or notes k d).prefix (get_or notes k d).reason (each k d below));
  whole = by_best best reached each;
}
  where
    each : All (IsNoted state store best) notes
    each = subst (λ (l : List LeafNote). All (IsNoted state store best) l) (sym appended.shape) appended.each

    by_best : (b : Option Incumbent) → IsReached state b → All (IsNoted state store b) notes → IfSome (answer_of b) (λ proposal. AreNoProperFronts (shown.prefixes_of (shown_leaves state notes)) proposal.0)
    by_best None is all = tt
    by_best (Some i) is all =
        subst (λ (l : List (List Pick)). AreNoProperFronts l i.branch) (sym (same-prefixes state notes))
        (All-map (λ (prefix : List Pick). IsFrontOf prefix i.branch → prefix ≡ i.branch) (λ (note : LeafNote). note.prefix) notes
        (λ k d below begins. whole-by_reason state store named is_store i is.0 is.1 (get_or notes k d).prefix (get_or notes k d).reason sound is.2 is.3 (all k d below) begins))

-- what a leaf was learned of is an entry
entered-by : (state : State) (store : Stored) (best : Option Incumbent) (prefix : List Pick) (reason : LeafReason) → IsReason state store best prefix reason → IsEntered store reason
entered-by state store best prefix (Denied name) is = tt
entered-by state store best prefix Empty is = tt
entered-by state store best prefix (LearnedOf c) is = record { key = is.key; entry = c; there = is.applies.there; kind = refl; units = refl }

pub leaves-entered : (state : State) (store : Stored) (best : Option Incumbent) (notes : List LeafNote) → AppendsCover state.plan.choices (IsNoted state store best) ([] ∷ []) [] notes → AreEntered store notes
leaves-entered state store best notes appended = λ k d below.
    let each : All (IsNoted state store best) notes = subst (λ (l : List LeafNote). All (IsNoted state store best) l) (sym appended.shape) appended.each in
    entered-by state store best (get_or notes k d).prefix (get_or notes k d).reason (each k d below)
