-- A search without a goal and without a cap measures the distances of all nodes.
use Rattle.std.proofs.Common.{◌≡◌, ℕ, zero, suc, ◌+◌, ◌*◌, ◌<◌, ◌≤◌, pos, Bool, true, List, [], ◌∷◌, Option, None, Some, MatchOption, refl, sym, ap, subst, ◌∙◌, inl, inr, arith}
use Rattle.std.specs.Option.{option_map}
use Rattle.std.proofs.lemmas.Bool.{cases_eq, cases_lt, cases_Bool, both_ways}
use Rattle.uhura_net.specs.declared.edge.TheConstants.{NODES}
use Rattle.uhura_net.specs.declared.place.Place.{Place}
use Rattle.uhura_path.specs.declared.ways.TheConstants.{MOST_COST}
use Rattle.uhura_path.specs.declared.ways.Arc.{Arc}
use Rattle.uhura_path.specs.declared.task.TheConstants.{NO_CAP}
use Rattle.uhura_path.specs.declared.label.Step.{Step}
use Rattle.uhura_path.specs.Ways.{Arcs, turned, directed, IsSoundArc}
use Rattle.uhura_path.specs.Walk.{IsWalk, HasWalk, NoneIsShorter}
use Rattle.uhura_path.specs.Found.{label_at}
use Rattle.uhura_path.specs.Reach.{IsDistance, told_distance}
use Rattle.uhura_path.specs.Quest.{Aim}
use Rattle.uhura_path.specs.Search.{Spread, has_label, reach, IsClosing, IsSpread, IsOver}
use Rattle.uhura_path.proofs.Reaching.{reach-own, reach-free}
use Rattle.uhura_path.proofs.Noting.{few_listed}
use Rattle.uhura_path.proofs.Distances.{capped, beyond, within_done, AreDistances-over, NoneIsShorter-distance}
use Rattle.uhura_path.proofs.Ends.{IsTurned-arc}
use Rattle.uhura_path.proofs.Trail.{walk_more}

-- a walk along turned arcs is one the other way round
pub turn_walk : (arcs : Arcs) (from : ℕ) (places : List Place) (backward : List Bool) (to cost : ℕ) → IsWalk (directed true arcs) from places backward to cost → HasWalk arcs to from cost
turn_walk arcs from [] [] to cost walk = ([], [], (sym walk.0, walk.1))
turn_walk arcs from [] (back ∷ backward) to cost walk = absurd walk
turn_walk arcs from (place ∷ places) [] to cost walk = absurd walk
turn_walk arcs from (place ∷ places) (back ∷ backward) to cost walk =
    let found = IsTurned-arc (arcs place.0 back) walk.0 walk.2 in
    let rest = turn_walk arcs walk.0.to places backward to walk.1 walk.5 in
    let starts : found.other.from ≡ walk.0.to = ap (λ (a : Arc). a.to) (sym found.same) in
    let ends : found.other.to ≡ from = ap (λ (a : Arc). a.from) (sym found.same) ∙ walk.3 in
    let costs : found.other.cost ≡ walk.0.cost = ap (λ (a : Arc). a.cost) (sym found.same) in
    let sum : walk.1 + found.other.cost ≡ cost = omega (arith, walk.4, costs) in
    let more = walk_more arcs to rest.0 rest.1 walk.0.to walk.1 place back found.other rest.2 found.there starts in
    subst (λ n. HasWalk arcs to n cost) ends (subst (λ n. HasWalk arcs to found.other.to n) sum (_, _, more))

pub turn_back : (arcs : Arcs) (from : ℕ) (places : List Place) (backward : List Bool) (to cost : ℕ) → IsWalk arcs from places backward to cost → HasWalk (directed true arcs) to from cost
turn_back arcs from [] [] to cost walk = ([], [], (sym walk.0, walk.1))
turn_back arcs from [] (back ∷ backward) to cost walk = absurd walk
turn_back arcs from (place ∷ places) [] to cost walk = absurd walk
turn_back arcs from (place ∷ places) (back ∷ backward) to cost walk =
    let rest = turn_back arcs walk.0.to places backward to walk.1 walk.5 in
    let there : directed true arcs place.0 back ≡ Some (turned walk.0) = ap (option_map turned) walk.2 in
    let sum : walk.1 + walk.0.cost ≡ cost = omega (arith, walk.4) in
    let more = walk_more (directed true arcs) to rest.0 rest.1 walk.0.to walk.1 place back (turned walk.0) rest.2 there refl in
    subst (λ n. HasWalk (directed true arcs) to n cost) walk.3 (subst (λ n. HasWalk (directed true arcs) to walk.0.from n) sum (_, _, more))

-- a search without a goal comes to no closing step
no_closing : (aim : Aim) (taken : ℕ) (spread : Spread) (place : ℕ → ℕ) → ((place : ℕ) (backward : Bool) (arc : Arc) → aim.arcs place backward ≡ Some arc → IsSoundArc arc) →
    aim.goal ≡ NODES → (first : Option Step) → MatchOption first (spread.front.cap ≡ aim.cap) (IsClosing aim taken spread place) → spread.front.cap ≡ aim.cap
no_closing aim taken spread place sound nowhere None capped = capped
no_closing aim taken spread place sound nowhere (Some step) closing =
    let first = closing.goal_step in
    absurd (omega (arith, (sound step.place.0 step.backward first.arc first.there).starts, first.starts, nowhere))

pub uncapped_without_goal : (aim : Aim) (taken : ℕ) (spread : Spread) → IsOver aim taken spread →
    ((place : ℕ) (backward : Bool) (arc : Arc) → aim.arcs place backward ≡ Some arc → IsSoundArc arc) → aim.goal ≡ NODES → aim.cap ≡ NO_CAP → spread.front.cap ≡ NO_CAP
uncapped_without_goal aim taken spread over sound nowhere far =
    no_closing aim taken spread over.spreads.place sound nowhere spread.front.closing over.spreads.closing ∙ far

module _ (aim : Aim) (taken : ℕ) (spread : Spread) (over : IsOver aim taken spread)
    (sound : (place : ℕ) (backward : Bool) (arc : Arc) → aim.arcs place backward ≡ Some arc → IsSoundArc arc) (uncapped : spread.front.cap ≡ NO_CAP) (far : aim.cap ≡ NO_CAP) where
  abbrev was : IsSpread aim taken over.level spread
  was = over.spreads

  -- a path to the root has fewer arcs than there are nodes
  near_root : (most node : ℕ) → was.place node < most → has_label aim spread node ≡ true → reach aim spread node ≤ was.place node * MOST_COST
  near_root zero node below has = absurd (omega arith)
  near_root (suc most) node below has =
      elim (cases_eq node aim.root) [
        | inl root ↦ let zero_far : reach aim spread node ≡ 0 = ap (reach aim spread) root ∙ was.root_zero in omega arith
        | inr apart ↦
            let step = was.steps node has apart in
            let rest = near_root most step.arc.to (omega (arith, step.earlier)) (within_done aim taken spread over step.arc.to step.done) in
            let few = (sound _ _ step.arc step.there).few in
            omega (arith, rest, few, step.costs, step.earlier)
      ]

  near : (node : ℕ) → has_label aim spread node ≡ true → reach aim spread node + MOST_COST < NO_CAP
  near node has =
      omega (arith, near_root (was.place node + 1) node (omega arith) has, was.listed.within node has, few_listed aim spread was.place was.listed)

  labelled_done : (node : ℕ) → has_label aim spread node ≡ true → was.place node < taken
  labelled_done node has =
      elim (cases_lt (was.place node) taken) [
        | inl done ↦ done
        | inr behind ↦ absurd (omega (arith, beyond aim taken spread over node behind, near node has, uncapped))
      ]

  walked_labelled : (from : ℕ) (places : List Place) (backward : List Bool) (cost : ℕ) → IsWalk aim.arcs from places backward aim.root cost → has_label aim spread from ≡ true
  walked_labelled from [] [] cost walk = ap (has_label aim spread) walk.0 ∙ was.root_here
  walked_labelled from [] (back ∷ backward) cost walk = absurd walk
  walked_labelled from (place ∷ places) [] cost walk = absurd walk
  walked_labelled from (place ∷ places) (back ∷ backward) cost walk =
      let arc = walk.0 in
      let has = walked_labelled arc.to places backward walk.1 walk.5 in
      let done = labelled_done arc.to has in
      let kept = over.kept (was.place arc.to) done place.0 back arc walk.2 (sym (was.listed.stands arc.to (omega (arith, was.some)))) in
      let few = (sound place.0 back arc walk.2).few in
      elim (cases_Bool (has_label aim spread arc.from)) [
        | inl own ↦ ap (has_label aim spread) (sym walk.3) ∙ own
        | inr none ↦
            let free : reach aim spread arc.from ≡ aim.cap = reach-free aim (label_at spread.labels arc.from) none in
            absurd (omega (arith, kept, few, near arc.to has, uncapped, free, far))
      ]

  pub small_told : (node : ℕ) → has_label aim spread node ≡ true → (label_at spread.labels node).distance ≤ NO_CAP
  small_told node has = omega (arith, near node has, reach-own aim (label_at spread.labels node) has)

  IsShortest_told : (node : ℕ) → has_label aim spread node ≡ true → HasWalk aim.arcs node aim.root (reach aim spread node) × NoneIsShorter aim.arcs node aim.root (reach aim spread node)
  IsShortest_told node has =
      let distances = AreDistances-over aim taken spread over in
      let same : capped aim taken spread over node ≡ reach aim spread node = omega (arith, near node has, uncapped) in
      let P : ℕ → Type 0 = λ n. HasWalk aim.arcs node aim.root n × NoneIsShorter aim.arcs node aim.root n in
      subst P same (distances.walked node (omega (arith, near node has, uncapped)), NoneIsShorter-distance aim.arcs aim.root spread.front.cap (capped aim taken spread over) distances node)

  pub IsDistance-told : (arcs : Arcs) → aim.arcs ≡ directed true arcs → (node : ℕ) → IsDistance arcs aim.root node (told_distance aim.mark (label_at spread.labels node))
  IsDistance-told arcs is node =
      elim (cases_Bool (has_label aim spread node)) [
        | inl has ↦
            let found = IsShortest_told node has in
            let Walks : Arcs → Type 0 = λ some. HasWalk some node aim.root (reach aim spread node) in
            let Least : Arcs → Type 0 = λ some. NoneIsShorter some node aim.root (reach aim spread node) in
            let walk : HasWalk (directed true arcs) node aim.root (reach aim spread node) = subst Walks is found.0 in
            let least : NoneIsShorter (directed true arcs) node aim.root (reach aim spread node) = subst Least is found.1 in
            let there = turn_walk arcs node walk.0 walk.1 aim.root (reach aim spread node) walk.2 in
            let shortest : NoneIsShorter arcs aim.root node (reach aim spread node) = λ places backward other along.
            let back = turn_back arcs aim.root places backward node other along in
            least back.0 back.1 other back.2 in
            let told : IsDistance arcs aim.root node (Some (pos (label_at spread.labels node).distance)) =
            (reach aim spread node, ap pos (sym (reach-own aim (label_at spread.labels node) has)), there, shortest) in
            rw has told
        | inr none ↦
            let apart : IsDistance arcs aim.root node None = λ places backward cost along.
            let back = turn_back arcs aim.root places backward node cost along in
            let Along : Arcs → Type 0 = λ some. IsWalk some node back.0 back.1 aim.root cost in
            both_ways (has_label aim spread node) none (walked_labelled node back.0 back.1 cost (subst Along (sym is) back.2)) in
            rw none apart
      ]

  -- where the goal has no label, no walk leads to the root from there
  pub goal_apart : (places : List Place) (backward : List Bool) (cost : ℕ) → IsWalk aim.arcs aim.goal places backward aim.root cost → ⊥
  goal_apart places backward cost along = both_ways (has_label aim spread aim.goal) was.goal_free (walked_labelled aim.goal places backward cost along)
