-- What was learned, as an entry.
use Rattle.std.proofs.Common.{◌≡◌, ℕ, ◌<◌, ◌≤◌, Bool, List, map, sym, ap, subst}
use Rattle.std.specs.Prelude.{All, IsTrue, IsFalse, if◌then◌else◌}
use Rattle.std.specs.List.Sorted.{IsPermutation}
use Rattle.std.proofs.lemmas.List.Elements.{All-map, All-weaker}
use Rattle.std.proofs.lemmas.List.Sorted.{All-permutation}
use Rattle.uhura_plan.specs.declared.key.EdgeKey.{EdgeKey}
use Rattle.uhura_net.specs.declared.place.Place.{Place}
use Rattle.uhura_net.specs.declared.place.TheConstants.{PLACES}
use Rattle.uhura_net.specs.Place.{HasPlace}
use Rattle.uhura_dual.specs.Settled.{key_at}
use Rattle.uhura_conflict.specs.Learned.{Learned, IsLearned, places_in}
use Rattle.uhura_search.proofs.Shown.{key-stands}
use Rattle.uhura_shows.specs.Leaf as shown
use Rattle.uhura_shows.specs.Leaf.{LeafReason}
use Rattle.uhura_cert.specs.declared.document.Shared.TheVariants.{Flow, Stuck}
use Rattle.uhura_proof.specs.Entries.{keyed, AreInOrder, IsEntryFor}
use Rattle.uhura_proof.specs.Made.{IsSameReason}

module _ (place : ℕ → ℕ) (conflict : Learned) (is : IsLearned conflict) where
  pub entry-walk : (keys : List EdgeKey) → IsTrue conflict.stuck → keys ≡ map (λ (p : Place). key_at p.0) (places_in conflict.pairs) → IsEntryFor place conflict (Stuck keys)
  entry-walk keys stuck same = record {
    same = subst (λ (b : Bool). IsSameReason (if b then shown.Stuck (map (λ (p : Place). key_at p.0) (places_in conflict.pairs)) else shown.Flow (keyed conflict.pairs)) (shown.Stuck keys)) (sym stuck) (ap (λ ks. shown.Stuck ks) same);
    placed = subst (λ ks. All HasPlace ks) (sym same)
        (All-map HasPlace (λ (p : Place). key_at p.0) (places_in conflict.pairs)
        (All-map (λ (p : Place). HasPlace (key_at p.0)) (λ (pair : Place × ℕ). pair.0) conflict.pairs
        (All-weaker (λ (pair : Place × ℕ). pair.0.0 < PLACES) (λ (pair : Place × ℕ). HasPlace (key_at pair.0.0)) (λ pair below. (key-stands pair.0.0 below).0) conflict.pairs is.inside)));
    in_order = tt;
  }

  pub entry-flow : (edges : List (EdgeKey × ℕ)) → IsFalse conflict.stuck → IsPermutation (keyed conflict.pairs) edges → AreInOrder place edges → IsEntryFor place conflict (Flow edges)
  entry-flow edges not_stuck same rise = record {
    same = subst (λ (b : Bool). IsSameReason (if b then shown.Stuck (map (λ (p : Place). key_at p.0) (places_in conflict.pairs)) else shown.Flow (keyed conflict.pairs)) (shown.Flow edges)) (sym not_stuck) same;
    placed = All-permutation (λ (e : EdgeKey × ℕ). HasPlace e.0) (keyed conflict.pairs) edges same
        (All-map (λ (e : EdgeKey × ℕ). HasPlace e.0) (λ (pair : Place × ℕ). (key_at pair.0.0, pair.1)) conflict.pairs
        (All-weaker (λ (pair : Place × ℕ). pair.0.0 < PLACES) (λ (pair : Place × ℕ). HasPlace (key_at pair.0.0)) (λ pair below. (key-stands pair.0.0 below).0) conflict.pairs is.inside));
    in_order = (
      All-permutation (λ (e : EdgeKey × ℕ). 1 ≤ e.1) (keyed conflict.pairs) edges same
          (All-map (λ (e : EdgeKey × ℕ). 1 ≤ e.1) (λ (pair : Place × ℕ). (key_at pair.0.0, pair.1)) conflict.pairs is.some),
      rise,
    );
  }
