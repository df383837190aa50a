-- Going back node by node.
use Rattle.std.proofs.Common.{◌≡◌, ℕ, suc, ◌+◌, ◌-◌, ◌<◌, ◌≤◌, List, ◌∷◌, length, set, get_or, Option, None, Some, option_map, inl, inr, refl, sym, ap, ◌∙◌, subst, arith}
use Rattle.std.specs.Prelude.{slice_range}
use Rattle.std.specs.List.{sum_by}
use Rattle.std.proofs.lemmas.Bool.{cases_eq}
use Rattle.std.proofs.lemmas.List.{get_or-set_same, get_or-set_other, drop-set}
use Rattle.std.proofs.lemmas.List.Sums.{sum_by-set, get_or-le-sum_by}
use Rattle.uhura_net.specs.declared.edge.TheConstants.{NODES}
use Rattle.uhura_net.specs.declared.place.Place.{Place}
use Rattle.uhura_cycle.specs.declared.step.Step.{Step}
use Rattle.uhura_cycle.specs.Steps.{back_of}
use Rattle.uhura_cycle.specs.Trail.{IsTrail, IsLoop, IsTrace}

-- where a trace came by a node
abbrev visit_of : List (Option ℕ) → ℕ → Option ℕ
visit_of visits node = get_or visits node None

-- 1 for a node that it did not come by
abbrev pub unvisited : Option ℕ → ℕ
unvisited None = 1
unvisited (Some at) = 0

-- The trace stands at a node and at a place of the walk: from there the walk leads to each node that it came by.
pub record IsTracing (backs : List (Option Step)) (start taken : ℕ) (visits : List (Option ℕ)) (walk : List Place) (node : ℕ) : Type 0 where
  pub inside : node < NODES
  pub visited : (other end : ℕ) → visit_of visits other ≡ Some end →
      (NODES - taken < end) × (end ≤ NODES) × IsTrail backs node (slice_range walk (NODES - taken) end) other
  pub whole : IsTrail backs node (slice_range walk (NODES - taken) NODES) start
  pub left : sum_by unvisited visits + taken ≡ NODES

-- one more place in front of a part of the walk
part_more : (walk : List Place) (at end : ℕ) (place : Place) → 0 < at → at ≤ end → at ≤ length walk →
    slice_range (set walk (at - 1) place) (at - 1) end ≡ place ∷ slice_range walk at end
part_more walk at end place some order room =
    let longer : end - (at - 1) ≡ suc (end - at) = omega arith in
    let next : at - 1 + 1 ≡ at = omega arith in
    rw (longer, drop-set walk (at - 1) place (omega arith), next) refl

module _ (backs : List (Option Step)) (start taken : ℕ) (visits : List (Option ℕ)) (walk : List Place) (node : ℕ) (step : Step)
    (more : taken < NODES) (in_visits : length visits ≡ NODES) (in_walk : length walk ≡ NODES)
    (new : visit_of visits node ≡ None) (back : back_of backs node ≡ Some step) (inside : step.edge.from < NODES)
    (so_far : IsTracing backs start taken visits walk node) where
  abbrev at : ℕ
  at = NODES - taken

  abbrev walk_after : List Place
  walk_after = set walk (at - 1) step.place

  abbrev visits_after : List (Option ℕ)
  visits_after = set visits node (Some at)

  -- the step leads in front of what led from the node
  longer : (end other : ℕ) → at ≤ end → IsTrail backs node (slice_range walk at end) other →
      IsTrail backs step.edge.from (slice_range walk_after (at - 1) end) other
  longer end other order trail =
      rw (part_more walk at end step.place (omega arith) order (omega arith))
      (node, record { step = step; back = back; place_is = refl; from_is = refl }, trail)

  visited_after : (other end : ℕ) → visit_of visits_after other ≡ Some end →
      (at - 1 < end) × (end ≤ NODES) × IsTrail backs step.edge.from (slice_range walk_after (at - 1) end) other
  visited_after other end is =
      elim (cases_eq other node) [
        | inl same ↦
            let written : visit_of visits_after node ≡ Some at = get_or-set_same visits node (Some at) None (omega (arith, so_far.inside)) in
            let one : Some at ≡ Some end = sym written ∙ (ap (visit_of visits_after) (sym same) ∙ is) in
            let here : at ≡ end = cc in
            let nothing : at - at ≡ 0 = omega arith in
            let rest : IsTrail backs node (slice_range walk at at) other = rw nothing (sym same) in
            let trail = longer at other (omega arith) rest in
            let holds : ℕ → Type 0 = λ e. IsTrail backs step.edge.from (slice_range walk_after (at - 1) e) other in
            (omega arith, omega arith, subst holds here trail)
        | inr different ↦
            let old = so_far.visited other end (sym (get_or-set_other visits node other (Some at) None different) ∙ is) in
            (omega (arith, old.0), old.1, longer end other (omega (arith, old.0)) old.2)
      ]

  pub IsTracing-more : IsTracing backs start (taken + 1) visits_after walk_after step.edge.from
  IsTracing-more =
      let next : NODES - (taken + 1) ≡ at - 1 = omega arith in
      record {
        inside = inside;
        visited = rw next visited_after;
        whole = rw next (longer NODES start (omega arith) so_far.whole);
        left =
            let change = sum_by-set unvisited visits node (Some at) None (omega (arith, so_far.inside)) in
            let old : unvisited (get_or visits node None) ≡ 1 = ap unvisited new in
            omega (arith, change, old, so_far.left);
      }

-- a node that the trace came by closes the walk
pub IsLoop-visited : (backs : List (Option Step)) (start taken : ℕ) (visits : List (Option ℕ)) (walk : List Place) (node end : ℕ) →
    IsTracing backs start taken visits walk node → visit_of visits node ≡ Some end → IsLoop backs walk (NODES - taken) end
IsLoop-visited backs start taken visits walk node end so_far is =
    let found = so_far.visited node end is in
    record { some = found.0; most = found.1; node = node; trail = found.2 }

-- after as many steps as there are nodes the trace came by the node
pub IsTrace-done : (backs : List (Option Step)) (start taken : ℕ) (visits : List (Option ℕ)) (walk : List Place) (node : ℕ) (visit : Option ℕ) → NODES ≤ taken →
    length visits ≡ NODES → IsTracing backs start taken visits walk node → visit_of visits node ≡ visit →
    IsTrace backs start walk (option_map (λ end. (0, end)) visit)
IsTrace-done backs start taken visits walk node None all in_visits so_far is =
    let one : unvisited (visit_of visits node) ≡ 1 = ap unvisited is in
    absurd (omega (arith, so_far.left, get_or-le-sum_by unvisited visits node None (omega (arith, so_far.inside)), one))
IsTrace-done backs start taken visits walk node (Some end) all in_visits so_far is =
    let zero_at : NODES - taken ≡ 0 = omega arith in
    rw zero_at at (IsLoop-visited backs start taken visits walk node end so_far is)
