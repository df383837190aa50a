-- Leaves whose prefixes are shut for their reasons show the answer.
use Rattle.std.proofs.Common.{◌≡◌, ℕ, ◌+◌, ◌<◌, ◌≤◌, List, [], length, get_or, map, Option, None, true, false, Bool, cond, refl, sym, subst, arith}
use Rattle.std.specs.Prelude.{ℤ, pos, ◌+ℤ◌, ◌*ℤ◌, ◌≤ℤ◌, All, Contains, IsTrue, IsFalse, IsSome, IfSome, MatchBool}
use Rattle.std.proofs.lemmas.List.Elements.{All-nil, All-map, All-contains, Contains-get_or}
use Rattle.uhura_plan.specs.declared.key.EdgeKey.{EdgeKey}
use Rattle.uhura_choice.specs.declared.prefix.Pick.{Pick}
use Rattle.uhura_choice.specs.Branch.{picked_cost}
use Rattle.uhura_net.specs.declared.edge.Edge.{Edge}
use Rattle.uhura_net.specs.declared.place.Place.{Place}
use Rattle.uhura_net.specs.declared.place.TheConstants.{PLACES}
use Rattle.uhura_net.specs.Circulation.{edges_of, IsCirculation}
use Rattle.uhura_net.specs.Optimal.{firm_edges}
use Rattle.uhura_net.specs.Walk.{IsNegativeWalk}
use Rattle.uhura_plan.specs.Sound.{IsSound}
use Rattle.uhura_choice.specs.Order.{IsFrontOf}
use Rattle.uhura_veto.specs.State.{State}
use Rattle.uhura_worst.specs.Proposal.{Proposal}
use Rattle.uhura_worst.specs.Allowed.{Allowed}
use Rattle.uhura_worst.specs.Cost.{cost}
use Rattle.uhura_shows.proofs.Leaves.{pairs-bound}
use Rattle.uhura_worst.specs.Edges.{is_active_edge}
use Rattle.uhura_worst.specs.Filled.{IsTableOf}
use Rattle.uhura_dual.specs.Settled.{key_at}
use Rattle.uhura_conflict.specs.Learned.{Learned, places_in, units_in, IsLearned, IsValid}
use Rattle.uhura_conflict.specs.Literals.{AreLiteralsOf, Applies}
use Rattle.uhura_conflict.specs.Store.{Stored, AppliesAt, value_at}
use Rattle.uhura_shows.specs.Carried.{IsKeyedCirculation, AreSettledKeys, value_of_pairs}
use Rattle.uhura_shows.specs.Shows.{IsStuckBy, IsBoundedBy}
use Rattle.uhura_shows.proofs.Keyed.{walk-keyed}
use Rattle.std.proofs.lemmas.List.{get_or-map, length-map}
use Rattle.uhura_shows.proofs.Lists.{All-from_map}
use Rattle.uhura_shows.specs.Carried.{IsCarried}
use Rattle.uhura_shows.proofs.Pairs.{ListUnits, keyed-from_places, value-pairs}
use Rattle.uhura_search.specs.declared.incumbent.Incumbent.{Incumbent}
use Rattle.uhura_search.specs.Known.{IsStoreFor}
use Rattle.uhura_search.specs.Shut.{IsEnough}
use Rattle.uhura_search.proofs.Shown.{keyed_pairs, edge-at_key, edge-active, firm-places, keyed-list}

-- what is known of a conflict that applies
pub record IsKnownAt (state : State) (store : Stored) (prefix : List Pick) (c : Learned) : Type 0 where
  pub table : IsTableOf state store.table
  pub learned : IsLearned c
  pub valid : IsValid (edges_of store.table) c
  pub literals : AreLiteralsOf state.plan (places_in c.pairs) c.literals
  pub applies : Applies prefix c

pub known-at : (state : State) (store : Stored) (prefix : List Pick) (key : ℕ) (c : Learned) → IsStoreFor state store → AppliesAt store prefix key c → IsKnownAt state store prefix c
known-at state store prefix key c is at = record {
  table = is.table;
  learned = subst (λ (o : Option Learned). IfSome o IsLearned) at.there (is.sound.learned key);
  valid = subst (λ (o : Option Learned). IfSome o (IsValid (edges_of store.table))) at.there (is.sound.valid key);
  literals = subst (λ (o : Option Learned). IfSome o (λ (l : Learned). AreLiteralsOf state.plan (places_in l.pairs) l.literals)) at.there (is.literals key);
  applies = at.applies;
}

module _ (state : State) (store : Stored) (prefix : List Pick) (c : Learned) (is : IsKnownAt state store prefix c) where
  inside : All (λ place. place.0 < PLACES) (places_in c.pairs)
  inside = All-map (λ (place : Place). place.0 < PLACES) (λ (pair : Place × ℕ). pair.0) c.pairs is.learned.inside

  -- the edges at its places, where they are there, are settled active
  settled-at : (place : Place) → Contains (places_in c.pairs) place → IsSome (edges_of store.table place.0) → IsTrue (is_active_edge state.plan prefix (key_at place.0))
  settled-at place among there =
      edge-active state store.table is.table prefix (places_in c.pairs) c.literals is.literals is.applies place among (All-contains (λ (p : Place). p.0 < PLACES) (places_in c.pairs) place inside among) there

  -- a firm cycle shows that the prefix is stuck
  firm-there : (place : Place) (b : Bool) → IsSome (cond b None (edges_of store.table place.0)) → IsSome (edges_of store.table place.0)
  firm-there place true there = absurd (let never : ⊥ = cc in never)
  firm-there place false there = there

  pub stuck-shown : IsTrue c.stuck → IsStuckBy state prefix (map (λ (place : Place). key_at place.0) (places_in c.pairs))
  stuck-shown stuck = record {
    walk = walk-keyed state (firm_edges (edges_of store.table)) (places_in c.pairs) (map (λ (place : Place). key_at place.0) (places_in c.pairs))
        (firm-places state store.table is.table (places_in c.pairs) inside walk.there) walk;
    settled = All-map (λ (key : EdgeKey). IsTrue (is_active_edge state.plan prefix key)) (λ (place : Place). key_at place.0) (places_in c.pairs)
        (λ k d below. settled-at (get_or (places_in c.pairs) k d) (Contains-get_or (places_in c.pairs) k d below) (firm-there (get_or (places_in c.pairs) k d) _ (walk.there k d below)));
  }
    where
      walk : IsNegativeWalk (firm_edges (edges_of store.table)) (places_in c.pairs)
      walk = subst (λ (b : Bool). MatchBool b (IsNegativeWalk (firm_edges (edges_of store.table)) (places_in c.pairs)) (IsCirculation PLACES (edges_of store.table) (units_in c.pairs))) stuck is.valid

  -- the place of a pair is among its places
  among-places : (k : ℕ) (d : Place × ℕ) → k < length c.pairs → Contains (places_in c.pairs) (get_or c.pairs k d).0
  among-places k d below =
      subst (λ (place : Place). Contains (places_in c.pairs) place) (get_or-map (λ (pair : Place × ℕ). pair.0) c.pairs k d d.0 below)
      (Contains-get_or (places_in c.pairs) k d.0 (omega (arith, below, length-map c.pairs (λ (pair : Place × ℕ). pair.0))))

  module _ (unstuck : IsFalse c.stuck) where
    circulates : IsCirculation PLACES (edges_of store.table) (units_in c.pairs)
    circulates =
        subst (λ (b : Bool). MatchBool b (IsNegativeWalk (firm_edges (edges_of store.table)) (places_in c.pairs)) (IsCirculation PLACES (edges_of store.table) (units_in c.pairs))) unstuck is.valid

    flow-list : ListUnits state (edges_of store.table) (units_in c.pairs) (keyed_pairs c.pairs)
    flow-list = keyed-list state store.table is.table c.pairs is.learned.inside (is.learned.flow unstuck).rising

    flow-keyed : IsKeyedCirculation state (keyed_pairs c.pairs)
    flow-keyed =
        keyed-from_places state (edges_of store.table) (units_in c.pairs) (keyed_pairs c.pairs) flow-list
        (All-map (λ (pair : EdgeKey × ℕ). 1 ≤ pair.1) (λ (pair : Place × ℕ). (key_at pair.0.0, pair.1)) c.pairs is.learned.some) circulates

    flow-settled : AreSettledKeys state prefix (map (λ (pair : EdgeKey × ℕ). pair.0) (keyed_pairs c.pairs))
    flow-settled =
        All-map (λ (key : EdgeKey). IsTrue (is_active_edge state.plan prefix key)) (λ (pair : EdgeKey × ℕ). pair.0) (keyed_pairs c.pairs)
        (All-map (λ (pair : EdgeKey × ℕ). IsTrue (is_active_edge state.plan prefix pair.0)) (λ (pair : Place × ℕ). (key_at pair.0.0, pair.1)) c.pairs
        (λ k d below. settled-at (get_or c.pairs k d).0 (among-places k d below)
        (subst (λ (o : Option Edge). IsSome o) (sym (edge-at_key state store.table is.table (get_or c.pairs k d).0.0 (is.learned.inside k d below)))
        (All-from_map (IsCarried state) (λ (pair : Place × ℕ). (key_at pair.0.0, pair.1)) c.pairs flow-keyed.carried k d below).there)))

    -- a flow of enough value bounds the branches of the prefix
    pub flow-shown : (best : Incumbent) → IsEnough state.plan best prefix (value_at store c) → IsBoundedBy state best.branch best.cost prefix (keyed_pairs c.pairs)
    flow-shown best enough =
        let worth : value_at store c ≡ value_of_pairs state (keyed_pairs c.pairs) = value-pairs state (edges_of store.table) (units_in c.pairs) (keyed_pairs c.pairs) flow-list in
        record {
          circulation = flow-keyed;
          settled = flow-settled;
          least = subst (λ (v : ℤ). pos best.cost ≤ℤ (v +ℤ pos (picked_cost state.plan.choices prefix))) worth enough.least;
          more = λ earlier. subst (λ (v : ℤ). pos (best.cost + 1) ≤ℤ (v +ℤ pos (picked_cost state.plan.choices prefix))) worth (enough.more earlier);
        }

    -- and whatever it is worth bounds all that is allowed there
    pub flow-bounds : (k : ℕ) (q : Proposal) → IsSound state.plan → IsFrontOf prefix q.branch → Allowed state k q →
        (pos k *ℤ (value_at store c +ℤ pos (picked_cost state.plan.choices prefix))) ≤ℤ pos (cost state.plan k q)
    flow-bounds k q sound begins allowed =
        let worth : value_at store c ≡ value_of_pairs state (keyed_pairs c.pairs) = value-pairs state (edges_of store.table) (units_in c.pairs) (keyed_pairs c.pairs) flow-list in
        subst (λ (v : ℤ). (pos k *ℤ (v +ℤ pos (picked_cost state.plan.choices prefix))) ≤ℤ pos (cost state.plan k q)) (sym worth)
        (pairs-bound state prefix (keyed_pairs c.pairs) k q sound flow-keyed flow-settled allowed begins)

-- and so do the costs picked there, where they are enough
pub empty-shown : (state : State) (prefix : List Pick) (best : Incumbent) → IsEnough state.plan best prefix (pos 0) → IsBoundedBy state best.branch best.cost prefix []
empty-shown state prefix best enough = record {
  circulation = record { carried = All-nil (IsCarried state); once = λ i j d less below. absurd (omega arith); balanced = λ node. refl };
  settled = All-nil (λ (key : EdgeKey). IsTrue (is_active_edge state.plan prefix key));
  least = enough.least;
  more = enough.more;
}
