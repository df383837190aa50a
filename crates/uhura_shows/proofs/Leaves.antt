-- What a leaf shows of the branches that its prefix begins.
use Rattle.std.proofs.Common.{◌≡◌, ℕ, ◌+◌, ◌*◌, ◌≤◌, false, true≢false, List, ◌++◌, map, None, Some, Option, IsSome, unwrap_or, slice_get, get_or, option_map, refl, sym, ap, ◌∙◌, subst, inl, inr, arith, Contains}
use Rattle.std.specs.Prelude.{◌⊎◌, ℤ, pos, ◌+ℤ◌, ◌*ℤ◌, ◌≤ℤ◌, IsTrue, IsFalse}
use Rattle.std.specs.Option.{option_map_or}
use Rattle.std.proofs.lemmas.Int.{ints}
use Rattle.std.proofs.lemmas.List.Elements.{All-map, All-contains}
use Rattle.std.proofs.lemmas.Option.{none-some, same_Some, slice_get-map}
use Rattle.uhura_plan.specs.Sound.{IsSound}
use Rattle.uhura_plan.specs.declared.key.EdgeKey.{EdgeKey}
use Rattle.uhura_choice.specs.declared.prefix.Pick.{Pick}
use Rattle.uhura_choice.specs.Branch.{IsEarlier, picked_cost}
use Rattle.uhura_choice.specs.Order.{IsFrontOf}
use Rattle.uhura_choice.proofs.Earlier.{begun-not_earlier}
use Rattle.uhura_net.specs.declared.edge.Edge.{Edge}
use Rattle.uhura_net.specs.Place.{is_loose_key}
use Rattle.uhura_net.specs.Edges.{no_edge}
use Rattle.uhura_net.proofs.Scaled.{scaled-le}
use Rattle.uhura_veto.specs.State.{State}
use Rattle.uhura_veto.specs.declared.veto.Veto.{Veto}
use Rattle.uhura_veto.specs.Denial.{denies}
use Rattle.uhura_worst.specs.Proposal.{Proposal}
use Rattle.uhura_worst.specs.Allowed.{Allowed}
use Rattle.uhura_worst.specs.Cost.{cost}
use Rattle.uhura_worst.specs.Best.{IsCheapest, IsFirst}
use Rattle.uhura_worst.specs.Edges.{edge_of, is_active_edge}
use Rattle.uhura_worst.proofs.SoundItems.{Contains-at}
use Rattle.uhura_dual.specs.Settled.{AreSettled, IsSettledFirm, worth_with}
use Rattle.uhura_dual.proofs.Beginnings.{denied-by}
use Rattle.uhura_dual.proofs.Barred.{denied-bars, walk-bars}
use Rattle.uhura_dual.proofs.Settling.{edge-placed}
use Rattle.uhura_dual.proofs.Duality.{dual-bound}
use Rattle.uhura_shows.specs.Leaf.{LeafReason, Denied, Flow, Stuck, LeafShown, prefixes_of}
use Rattle.uhura_shows.specs.Cover.{IsBegunByOne}
use Rattle.uhura_shows.specs.Carried.{keyed_edge, AreSettledKeys, IsKeyedCirculation}
use Rattle.uhura_shows.specs.Shows.{is_denied_by, IsStuckBy, shown_cost, IsShownBy, Shows}
use Rattle.uhura_shows.proofs.Behind.{earlier-begun}
use Rattle.uhura_shows.proofs.Lists.{All-from_map}
use Rattle.uhura_shows.proofs.Pairs.{pair_units, pair_edges, pair_edges-pair, IsOfPair, pairs-placed, pairs-list, value-pairs, circulation-at}

-- where a denial has all its literals picked in a prefix, nothing is allowed in the branches that the prefix begins
pub denied-allows_nothing : (state : State) (prefix : List Pick) (veto : ℕ) (k : ℕ) (q : Proposal) → IsTrue (is_denied_by state prefix veto) → IsFrontOf prefix q.branch → Allowed state k q → ⊥
denied-allows_nothing state prefix veto k q is begins allowed = by (slice_get state.vetoes veto) refl is
  where
    by : (o : Option Veto) → slice_get state.vetoes veto ≡ o → IsTrue (option_map_or (denies prefix) o false) → ⊥
    by None there is = true≢false (sym is)
    by (Some v) there is = denied-bars state prefix k q (denied-by state.vetoes v prefix (Contains-at state.vetoes veto v there) is) allowed begins

-- an edge that is there, settled active in a prefix and not loose is a firm one there
firm-there : (state : State) (prefix : List Pick) (key : EdgeKey) (o : Option Edge) → edge_of state key ≡ o → IsSome o → IsFalse (is_loose_key key) →
    IsTrue (is_active_edge state.plan prefix key) → IsSettledFirm state prefix (unwrap_or o no_edge)
firm-there state prefix key None there some firm active = absurd (true≢false (sym some))
firm-there state prefix key (Some edge) there some firm active = record { key = key; there = there; firm = firm; active = active }

-- so where a walk of such edges sums below 0, nothing is allowed there
pub stuck-allows_nothing : (state : State) (prefix : List Pick) (keys : List EdgeKey) (k : ℕ) (q : Proposal) → IsSound state.plan → IsStuckBy state prefix keys → IsFrontOf prefix q.branch → Allowed state k q → ⊥
stuck-allows_nothing state prefix keys k q sound stuck begins allowed =
    walk-bars state prefix (map (keyed_edge state) keys) k q sound
    (All-map (IsSettledFirm state prefix) (keyed_edge state) keys
    (λ n d below. firm-there state prefix (get_or keys n d) (edge_of state (get_or keys n d)) refl (stuck.walk.each n d below).there (stuck.walk.each n d below).firm (stuck.settled n d below)))
    stuck.walk.closed stuck.walk.below allowed begins

-- the edges of pairs that are settled active in a prefix are settled there
pairs-settled : (state : State) (prefix : List Pick) (pairs : List (EdgeKey × ℕ)) → IsSound state.plan → AreSettledKeys state prefix (map (λ pair. pair.0) pairs) → AreSettled state prefix (pair_edges state pairs)
pairs-settled state prefix pairs sound settled place edge is =
    let of : IsOfPair state pairs place edge = pair_edges-pair state pairs place edge is in
    record {
      key = of.pair.0;
      stands = (edge-placed state of.pair.0 edge sound of.is, of.stands);
      there = of.is;
      active = active of.pair of.contained;
    }
  where
    active : (pair : EdgeKey × ℕ) → Contains pairs pair → IsTrue (is_active_edge state.plan prefix pair.0)
    active pair (n, below, at) =
        subst (λ (p : EdgeKey × ℕ). IsTrue (is_active_edge state.plan prefix p.0)) at (All-from_map (λ (key : EdgeKey). IsTrue (is_active_edge state.plan prefix key)) (λ (p : EdgeKey × ℕ). p.0) pairs settled n pair below)

-- units on edges that are settled active in a prefix bound the cost of what is allowed in the branches that it begins
pub pairs-bound : (state : State) (prefix : List Pick) (pairs : List (EdgeKey × ℕ)) (k : ℕ) (q : Proposal) → IsSound state.plan →
    IsKeyedCirculation state pairs → AreSettledKeys state prefix (map (λ pair. pair.0) pairs) → Allowed state k q → IsFrontOf prefix q.branch →
    (pos k *ℤ shown_cost state prefix pairs) ≤ℤ pos (cost state.plan k q)
pairs-bound state prefix pairs k q sound keyed settled allowed begins =
    let list = pairs-list state pairs (pairs-placed state pairs sound keyed) in
    let worth : worth_with state.plan prefix (pair_edges state pairs) (pair_units pairs) ≡ shown_cost state prefix pairs =
    ap (λ (z : ℤ). z +ℤ pos (picked_cost state.plan.choices prefix)) (value-pairs state (pair_edges state pairs) (pair_units pairs) pairs list) in
    subst (λ (z : ℤ). (pos k *ℤ z) ≤ℤ pos (cost state.plan k q)) worth
    (dual-bound state prefix (pair_edges state pairs) (pair_units pairs) k q sound (pairs-settled state prefix pairs sound settled) (circulation-at state pairs sound keyed) allowed begins)

-- a number that what is shown isn't below is, k times, no more than the cost
bounded-by : (k n c : ℕ) (shown : ℤ) → pos n ≤ℤ shown → (pos k *ℤ shown) ≤ℤ pos c → k * n ≤ c
bounded-by k n c shown least bound = omega (arith, ints, scaled-le k (pos n) shown least, bound)

module _ (state : State) (branch : List Pick) (least : ℕ) (sound : IsSound state.plan) (k : ℕ) (q : Proposal) (allowed : Allowed state k q) where
  -- so no leaf leaves anything cheaper than the answer in the branches of its prefix
  pub leaf-bounds : (prefix : List Pick) (reason : LeafReason) → IsShownBy state (Some (branch, least)) prefix reason → IsFrontOf prefix q.branch → k * least ≤ cost state.plan k q
  leaf-bounds prefix (Denied veto) shown begins = absurd (denied-allows_nothing state prefix veto k q shown begins allowed)
  leaf-bounds prefix (Stuck keys) shown begins = absurd (stuck-allows_nothing state prefix keys k q sound shown begins allowed)
  leaf-bounds prefix (Flow pairs) shown begins =
      bounded-by k least (cost state.plan k q) (shown_cost state prefix pairs) shown.least (pairs-bound state prefix pairs k q sound shown.circulation shown.settled allowed begins)

  -- nor anything as cheap where its prefix is earlier than the branch of the answer
  pub leaf-bounds_more : (prefix : List Pick) (reason : LeafReason) → IsShownBy state (Some (branch, least)) prefix reason → IsFrontOf prefix q.branch → IsEarlier prefix branch →
      k * (least + 1) ≤ cost state.plan k q
  leaf-bounds_more prefix (Denied veto) shown begins earlier = absurd (denied-allows_nothing state prefix veto k q shown begins allowed)
  leaf-bounds_more prefix (Stuck keys) shown begins earlier = absurd (stuck-allows_nothing state prefix keys k q sound shown begins allowed)
  leaf-bounds_more prefix (Flow pairs) shown begins earlier =
      bounded-by k (least + 1) (cost state.plan k q) (shown_cost state prefix pairs) (shown.more earlier) (pairs-bound state prefix pairs k q sound shown.circulation shown.settled allowed begins)

-- and where there is no answer, it leaves nothing
pub leaf-bars : (state : State) (prefix : List Pick) (reason : LeafReason) (k : ℕ) (q : Proposal) → IsSound state.plan → IsShownBy state None prefix reason → IsFrontOf prefix q.branch → Allowed state k q → ⊥
leaf-bars state prefix (Denied veto) k q sound shown begins allowed = denied-allows_nothing state prefix veto k q shown begins allowed
leaf-bars state prefix (Stuck keys) k q sound shown begins allowed = stuck-allows_nothing state prefix keys k q sound shown begins allowed
leaf-bars state prefix (Flow pairs) k q sound shown begins allowed = shown

-- the leaf whose prefix begins a branch
pub record IsLeafOf (leaves : List LeafShown) (branch : List Pick) : Type 0 where
  pub leaf : LeafShown
  pub contained : Contains leaves leaf
  pub begins : IsFrontOf leaf.prefix branch

leaf-of : (leaves : List LeafShown) (branch : List Pick) → IsBegunByOne (prefixes_of leaves) branch → IsLeafOf leaves branch
leaf-of leaves branch one = by (slice_get leaves one.place) refl
  where
    by : (o : Option LeafShown) → slice_get leaves one.place ≡ o → IsLeafOf leaves branch
    by None there = absurd (none-some one.prefix (sym (slice_get-map (λ (leaf : LeafShown). leaf.prefix) leaves one.place ∙ ap (option_map (λ (leaf : LeafShown). leaf.prefix)) there) ∙ one.there))
    by (Some leaf) there =
        let same : leaf.prefix ≡ one.prefix =
        same_Some leaf.prefix one.prefix (sym (slice_get-map (λ (leaf : LeafShown). leaf.prefix) leaves one.place ∙ ap (option_map (λ (leaf : LeafShown). leaf.prefix)) there) ∙ one.there) in
        record {
          leaf = leaf;
          contained = Contains-at leaves one.place leaf there;
          begins = subst (λ p. IsFrontOf p branch) (sym same) one.begins;
        }

-- leaves that show an answer show that nothing that is allowed costs less
pub leaves-cheapest : (state : State) (p : Proposal) (leaves : List LeafShown) → IsSound state.plan → Allowed state 1 p → Shows state (Some (p.branch, cost state.plan 1 p)) leaves → IsCheapest state p
leaves-cheapest state p leaves sound allowed shows = record {
  allowed = allowed;
  least = λ k q other.
      let of : IsLeafOf leaves q.branch = leaf-of leaves q.branch (shows.cover.each q.branch other.branch) in
      leaf-bounds state p.branch (cost state.plan 1 p) sound k q other of.leaf.prefix of.leaf.reason
      (All-contains (λ leaf. IsShownBy state (Some (p.branch, cost state.plan 1 p)) leaf.prefix leaf.reason) leaves of.leaf shows.reasons of.contained) of.begins;
}

-- nor that anything that costs the same has an earlier branch
pub leaves-first : (state : State) (p : Proposal) (leaves : List LeafShown) → IsSound state.plan → Shows state (Some (p.branch, cost state.plan 1 p)) leaves → IsFirst state p
leaves-first state p leaves sound shows k q allowed same earlier =
    let of : IsLeafOf leaves q.branch = leaf-of leaves q.branch (shows.cover.each q.branch allowed.branch) in
    by of.leaf of.contained of.begins
  where
    apart : (leaf : LeafShown) → Contains leaves leaf → (begins : IsFrontOf leaf.prefix q.branch) → IsFrontOf leaf.prefix p.branch ⊎ IsEarlier leaf.prefix p.branch → ⊥
    apart leaf contained begins (inr before) =
        let more = leaf-bounds_more state p.branch (cost state.plan 1 p) sound k q allowed leaf.prefix leaf.reason
        (All-contains (λ l. IsShownBy state (Some (p.branch, cost state.plan 1 p)) l.prefix l.reason) leaves leaf shows.reasons contained) begins before in
        omega (arith, more, same, allowed.scale)
    apart leaf contained begins (inl front) =
        let whole : leaf.prefix ≡ p.branch =
        All-contains (λ (l : LeafShown). IsFrontOf l.prefix p.branch → l.prefix ≡ p.branch) leaves leaf
        (All-from_map (λ prefix. IsFrontOf prefix p.branch → prefix ≡ p.branch) (λ (l : LeafShown). l.prefix) leaves shows.whole) contained front in
        let shape : q.branch ≡ p.branch ++ begins.0 = begins.1 ∙ ap (λ (l : List Pick). l ++ begins.0) whole in
        begun-not_earlier p.branch begins.0 (subst (λ b. IsEarlier b p.branch) shape earlier)

    by : (leaf : LeafShown) → Contains leaves leaf → IsFrontOf leaf.prefix q.branch → ⊥
    by leaf contained begins =
        apart leaf contained begins (earlier-begun leaf.prefix begins.0 p.branch (subst (λ b. IsEarlier b p.branch) begins.1 earlier))

-- and leaves that show no answer show that nothing is allowed
pub leaves-none : (state : State) (leaves : List LeafShown) (k : ℕ) (q : Proposal) → IsSound state.plan → Shows state None leaves → Allowed state k q → ⊥
leaves-none state leaves k q sound shows allowed =
    let of : IsLeafOf leaves q.branch = leaf-of leaves q.branch (shows.cover.each q.branch allowed.branch) in
    leaf-bars state of.leaf.prefix of.leaf.reason k q sound
    (All-contains (λ leaf. IsShownBy state None leaf.prefix leaf.reason) leaves of.leaf shows.reasons of.contained) of.begins allowed
