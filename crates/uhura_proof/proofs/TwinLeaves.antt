-- Leaves of two states that are the same up to slots: they show the same answer.
use Rattle.std.proofs.Common.{◌≡◌, ◌≢◌, ℕ, ◌+◌, List, [], ◌∷◌, map, Option, Some, None, IsSome, unwrap_or, refl, sym, ap, subst, ◌∙◌, arith}
use Rattle.std.specs.Prelude.{pos, ◌+ℤ◌, ◌*ℤ◌, ◌≤ℤ◌, ◌<ℤ◌, ◌==◌, if◌then◌else◌, All, AllPairs, IsTrue, IfSome, sum_by}
use Rattle.std.specs.List.{AllZip}
use Rattle.std.proofs.lemmas.Int.{ints}
use Rattle.std.proofs.lemmas.List.Elements.{All-nil, All-cons, All-head, All-tail}
use Rattle.std.proofs.lemmas.List.Kept.{AllPairs-cons}
use Rattle.std.proofs.lemmas.List.Sums.{sum_by-cons}
use Rattle.uhura_plan.specs.declared.key.EdgeKey.{EdgeKey}
use Rattle.uhura_choice.specs.declared.prefix.Pick.{Pick}
use Rattle.uhura_choice.specs.Branch.{picked_cost}
use Rattle.uhura_net.specs.declared.edge.Edge.{Edge}
use Rattle.uhura_net.specs.Edges.{no_edge}
use Rattle.uhura_net.specs.Walk.{IsClosedWalk, bounds_of}
use Rattle.uhura_veto.specs.State.{State}
use Rattle.uhura_worst.specs.Edges.{is_active_edge}
use Rattle.uhura_command.specs.Replay.{IsSameUpToSlots}
use Rattle.uhura_command.specs.State.{IsSoundState}
use Rattle.uhura_shows.specs.Leaf.{LeafReason, Denied, Flow, Stuck, LeafShown, prefixes_of}
use Rattle.uhura_shows.specs.Cover.{IsCover}
use Rattle.uhura_shows.specs.Carried.{keyed_edge, IsCarried, IsKeyedCirculation, weighed_pairs, AreSettledKeys, IsFirmKey}
use Rattle.uhura_shows.specs.Shows.{Answer, IsShownBy, IsStuckBy, shown_cost, Shows, AreNoProperFronts, is_denied_by}
use Rattle.uhura_shows.proofs.Lists.{pairs-head, pairs-tail}
use Rattle.uhura_proof.proofs.SameVetoes.{all_alike, denied_at}
use Rattle.uhura_proof.proofs.Twins.{AreTwinEdges, twin_edge, twin_loose, twin_active, one_twin}

module _ (a b : State) (sound_a : IsSoundState a) (sound_b : IsSoundState b) (same : IsSameUpToSlots a b) where
  -- pairs of twins, with the same units
  abbrev pub AreTwinPairs : (EdgeKey × ℕ) → (EdgeKey × ℕ) → Type 0
  AreTwinPairs p q = AreTwinEdges a b sound_a sound_b same p.0 q.0 × (p.1 ≡ q.1)

  keyed_twin : (one other : EdgeKey) → AreTwinEdges a b sound_a sound_b same one other → keyed_edge a one ≡ keyed_edge b other
  keyed_twin one other twins = ap (λ (o : Option Edge). unwrap_or o no_edge) (twin_edge a b sound_a sound_b same one other twins)

  sums_twin : (f g : EdgeKey × ℕ → ℕ) → ((p q : EdgeKey × ℕ) → AreTwinPairs p q → f p ≡ g q) → (ps qs : List (EdgeKey × ℕ)) → AllZip AreTwinPairs ps qs → sum_by f ps ≡ sum_by g qs
  sums_twin f g each [] [] twins = refl
  sums_twin f g each [] (q ∷ qs) twins = absurd twins
  sums_twin f g each (p ∷ ps) [] twins = absurd twins
  sums_twin f g each (p ∷ ps) (q ∷ qs) twins = omega (arith, sum_by-cons f p ps, sum_by-cons g q qs, each p q twins.0, sums_twin f g each ps qs twins.1)

  all_twin : (P Q : EdgeKey × ℕ → Type 0) → ((p q : EdgeKey × ℕ) → AreTwinPairs p q → P p → Q q) → (ps qs : List (EdgeKey × ℕ)) → AllZip AreTwinPairs ps qs → All P ps → All Q qs
  all_twin P Q each [] [] twins all = All-nil Q
  all_twin P Q each [] (q ∷ qs) twins all = absurd twins
  all_twin P Q each (p ∷ ps) [] twins all = absurd twins
  all_twin P Q each (p ∷ ps) (q ∷ qs) twins all = All-cons Q q qs (each p q twins.0 (All-head P p ps all)) (all_twin P Q each ps qs twins.1 (All-tail P p ps all))

  once_twin : (ps qs : List (EdgeKey × ℕ)) → AllZip AreTwinPairs ps qs → AllPairs (λ x y. x.0 ≢ y.0) ps → AllPairs (λ x y. x.0 ≢ y.0) qs
  once_twin [] [] twins once = once
  once_twin [] (q ∷ qs) twins once = absurd twins
  once_twin (p ∷ ps) [] twins once = absurd twins
  once_twin (p ∷ ps) (q ∷ qs) twins once =
      let differ : EdgeKey × ℕ → EdgeKey × ℕ → Type 0 = λ x y. x.0 ≢ y.0 in
      AllPairs-cons differ q qs
      (all_twin (differ p) (differ q) (λ x y twin apart equal. apart (one_twin a b sound_a sound_b same p.0 x.0 y.0 (subst (λ key. AreTwinEdges a b sound_a sound_b same p.0 key) equal twins.0.0) twin.0)) ps qs twins.1 (pairs-head differ p ps once))
      (once_twin ps qs twins.1 (pairs-tail differ p ps once))

  weighed_twin : (ps qs : List (EdgeKey × ℕ)) → AllZip AreTwinPairs ps qs → weighed_pairs a ps ≡ weighed_pairs b qs
  weighed_twin [] [] twins = refl
  weighed_twin [] (q ∷ qs) twins = absurd twins
  weighed_twin (p ∷ ps) [] twins = absurd twins
  weighed_twin (p ∷ ps) (q ∷ qs) twins =
      let edge = keyed_twin p.0 q.0 twins.0.0 in
      let units = twins.0.1 in
      let rest = weighed_twin ps qs twins.1 in
      λ i. (pos (units i) *ℤ (edge i).bound) +ℤ rest i

  circulation_twin : (ps qs : List (EdgeKey × ℕ)) → AllZip AreTwinPairs ps qs → IsKeyedCirculation a ps → IsKeyedCirculation b qs
  circulation_twin ps qs twins is = record {
    carried = all_twin (IsCarried a) (IsCarried b) (λ p q twin carried. record {
      there = subst (λ (o : Option Edge). IsSome o) (twin_edge a b sound_a sound_b same p.0 q.0 twin.0) carried.there;
      within = omega (arith, carried.within, twin.1, ap (λ (e : Edge). e.capacity) (keyed_twin p.0 q.0 twin.0));
    }) ps qs twins is.carried;
    once = once_twin ps qs twins is.once;
    balanced = λ node.
        sym (sums_twin (λ (p : EdgeKey × ℕ). if (keyed_edge a p.0).to == node then p.1 else 0) (λ (q : EdgeKey × ℕ). if (keyed_edge b q.0).to == node then q.1 else 0)
        (λ p q twin. let edge = keyed_twin p.0 q.0 twin.0 in let units = twin.1 in λ i. if (edge i).to == node then units i else 0) ps qs twins)
        ∙ is.balanced node
        ∙ sums_twin (λ (p : EdgeKey × ℕ). if (keyed_edge a p.0).from == node then p.1 else 0) (λ (q : EdgeKey × ℕ). if (keyed_edge b q.0).from == node then q.1 else 0)
        (λ p q twin. let edge = keyed_twin p.0 q.0 twin.0 in let units = twin.1 in λ i. if (edge i).from == node then units i else 0) ps qs twins;
  }

  -- keys of twins
  keys_all : (P Q : EdgeKey → Type 0) → ((x y : EdgeKey) → AreTwinEdges a b sound_a sound_b same x y → P x → Q y) → (xs ys : List EdgeKey) → AllZip (AreTwinEdges a b sound_a sound_b same) xs ys → All P xs → All Q ys
  keys_all P Q each [] [] twins all = All-nil Q
  keys_all P Q each [] (y ∷ ys) twins all = absurd twins
  keys_all P Q each (x ∷ xs) [] twins all = absurd twins
  keys_all P Q each (x ∷ xs) (y ∷ ys) twins all = All-cons Q y ys (each x y twins.0 (All-head P x xs all)) (keys_all P Q each xs ys twins.1 (All-tail P x xs all))

  keys_edges : (xs ys : List EdgeKey) → AllZip (AreTwinEdges a b sound_a sound_b same) xs ys → map (keyed_edge a) xs ≡ map (keyed_edge b) ys
  keys_edges [] [] twins = refl
  keys_edges [] (y ∷ ys) twins = absurd twins
  keys_edges (x ∷ xs) [] twins = absurd twins
  keys_edges (x ∷ xs) (y ∷ ys) twins = let here = keyed_twin x y twins.0 in let rest = keys_edges xs ys twins.1 in λ i. here i ∷ rest i

  keys_of_pairs : (ps qs : List (EdgeKey × ℕ)) → AllZip AreTwinPairs ps qs → AllZip (AreTwinEdges a b sound_a sound_b same) (map (λ p. p.0) ps) (map (λ q. q.0) qs)
  keys_of_pairs [] [] twins = tt
  keys_of_pairs [] (q ∷ qs) twins = absurd twins
  keys_of_pairs (p ∷ ps) [] twins = absurd twins
  keys_of_pairs (p ∷ ps) (q ∷ qs) twins = (twins.0.0, keys_of_pairs ps qs twins.1)

  settled_twin : (prefix : List Pick) (xs ys : List EdgeKey) → AllZip (AreTwinEdges a b sound_a sound_b same) xs ys → AreSettledKeys a prefix xs → AreSettledKeys b prefix ys
  settled_twin prefix xs ys twins settled =
      keys_all (λ key. IsTrue (is_active_edge a.plan prefix key)) (λ key. IsTrue (is_active_edge b.plan prefix key)) (λ x y twin active. sym (twin_active a b sound_a sound_b same prefix x y twin) ∙ active) xs ys twins settled

  stuck_twin : (prefix : List Pick) (xs ys : List EdgeKey) → AllZip (AreTwinEdges a b sound_a sound_b same) xs ys → IsStuckBy a prefix xs → IsStuckBy b prefix ys
  stuck_twin prefix xs ys twins is =
      let edges = keys_edges xs ys twins in
      record {
        walk = record {
          each = keys_all (IsFirmKey a) (IsFirmKey b) (λ x y twin firm. record {
            there = subst (λ (o : Option Edge). IsSome o) (twin_edge a b sound_a sound_b same x y twin) firm.there;
            firm = sym (twin_loose a b sound_a sound_b same x y twin) ∙ firm.firm;
          }) xs ys twins is.walk.each;
          closed = subst IsClosedWalk edges is.walk.closed;
          below = subst (λ es. bounds_of es <ℤ pos 0) edges is.walk.below;
        };
        settled = settled_twin prefix xs ys twins is.settled;
      }

  cost_twin : (prefix : List Pick) (ps qs : List (EdgeKey × ℕ)) → AllZip AreTwinPairs ps qs → shown_cost a prefix ps ≡ shown_cost b prefix qs
  cost_twin prefix ps qs twins = omega (arith, ints, weighed_twin ps qs twins, ap (λ choices. picked_cost choices prefix) same.choices)

  -- ---- reasons and leaves

  -- reasons that speak of twins
  abbrev pub AreTwinReasons : LeafReason → LeafReason → Type 0
  AreTwinReasons (Denied v) (Denied w) = v ≡ w
  AreTwinReasons (Flow ps) (Flow qs) = AllZip AreTwinPairs ps qs
  AreTwinReasons (Stuck xs) (Stuck ys) = AllZip (AreTwinEdges a b sound_a sound_b same) xs ys
  AreTwinReasons (Denied v) (Flow qs) = ⊥
  AreTwinReasons (Denied v) (Stuck ys) = ⊥
  AreTwinReasons (Flow ps) (Denied w) = ⊥
  AreTwinReasons (Flow ps) (Stuck ys) = ⊥
  AreTwinReasons (Stuck xs) (Denied w) = ⊥
  AreTwinReasons (Stuck xs) (Flow qs) = ⊥

  pub record AreTwinLeaves (one other : LeafShown) : Type 0 where
    pub prefix : one.prefix ≡ other.prefix
    pub reason : AreTwinReasons one.reason other.reason

  denied_twin : (prefix : List Pick) (veto : ℕ) → is_denied_by a prefix veto ≡ is_denied_by b prefix veto
  denied_twin prefix veto =
      let alike = all_alike a.plan b.plan sound_a.plan sound_b.plan same.uncertains same.choices a.vetoes b.vetoes sound_a.vetoes.there sound_b.vetoes.there same.vetoes in
      denied_at a.plan b.plan sound_a.plan sound_b.plan same.uncertains same.choices prefix a.vetoes b.vetoes veto alike

  shown_twin : (answer : Answer) (prefix : List Pick) (one other : LeafReason) → AreTwinReasons one other → IsShownBy a answer prefix one → IsShownBy b answer prefix other
  shown_twin answer prefix (Denied v) (Denied w) twins shown = sym (denied_twin prefix w) ∙ ap (is_denied_by a prefix) (sym twins) ∙ shown
  shown_twin answer prefix (Stuck xs) (Stuck ys) twins shown = stuck_twin prefix xs ys twins shown
  shown_twin None prefix (Flow ps) (Flow qs) twins shown = shown
  shown_twin (Some proposal) prefix (Flow ps) (Flow qs) twins shown = record {
    circulation = circulation_twin ps qs twins shown.circulation;
    settled = settled_twin prefix (map (λ (p : EdgeKey × ℕ). p.0) ps) (map (λ (q : EdgeKey × ℕ). q.0) qs) (keys_of_pairs ps qs twins) shown.settled;
    least = subst (λ n. pos proposal.1 ≤ℤ n) (cost_twin prefix ps qs twins) shown.least;
    more = λ earlier. subst (λ n. pos (proposal.1 + 1) ≤ℤ n) (cost_twin prefix ps qs twins) (shown.more earlier);
  }
  shown_twin answer prefix (Denied v) (Flow qs) twins shown = absurd twins
  shown_twin answer prefix (Denied v) (Stuck ys) twins shown = absurd twins
  shown_twin answer prefix (Flow ps) (Denied w) twins shown = absurd twins
  shown_twin answer prefix (Flow ps) (Stuck ys) twins shown = absurd twins
  shown_twin answer prefix (Stuck xs) (Denied w) twins shown = absurd twins
  shown_twin answer prefix (Stuck xs) (Flow qs) twins shown = absurd twins

  prefixes_twin : (ls ms : List LeafShown) → AllZip AreTwinLeaves ls ms → prefixes_of ls ≡ prefixes_of ms
  prefixes_twin [] [] twins = refl
  prefixes_twin [] (m ∷ ms) twins = absurd twins
  prefixes_twin (l ∷ ls) [] twins = absurd twins
  prefixes_twin (l ∷ ls) (m ∷ ms) twins = let here = twins.0.prefix in let rest = prefixes_twin ls ms twins.1 in λ i. here i ∷ rest i

  reasons_twin : (answer : Answer) (ls ms : List LeafShown) → AllZip AreTwinLeaves ls ms → All (λ leaf. IsShownBy a answer leaf.prefix leaf.reason) ls → All (λ leaf. IsShownBy b answer leaf.prefix leaf.reason) ms
  reasons_twin answer [] [] twins shown = All-nil (λ (leaf : LeafShown). IsShownBy b answer leaf.prefix leaf.reason)
  reasons_twin answer [] (m ∷ ms) twins shown = absurd twins
  reasons_twin answer (l ∷ ls) [] twins shown = absurd twins
  reasons_twin answer (l ∷ ls) (m ∷ ms) twins shown =
      let P : LeafShown → Type 0 = λ leaf. IsShownBy a answer leaf.prefix leaf.reason in
      let Q : LeafShown → Type 0 = λ leaf. IsShownBy b answer leaf.prefix leaf.reason in
      All-cons Q m ms
      (subst (λ prefix. IsShownBy b answer prefix m.reason) twins.0.prefix (shown_twin answer l.prefix l.reason m.reason twins.0.reason (All-head P l ls shown)))
      (reasons_twin answer ls ms twins.1 (All-tail P l ls shown))

  pub shows_twin : (answer : Answer) (ls ms : List LeafShown) → AllZip AreTwinLeaves ls ms → Shows a answer ls → Shows b answer ms
  shows_twin answer ls ms twins shows =
      let prefixes = prefixes_twin ls ms twins in
      record {
        cover = subst (λ choices. IsCover choices (prefixes_of ms)) same.choices (subst (IsCover a.plan.choices) prefixes shows.cover);
        reasons = reasons_twin answer ls ms twins shows.reasons;
        whole = subst (λ fronts. IfSome answer (λ proposal. AreNoProperFronts fronts proposal.0)) prefixes shows.whole;
      }
