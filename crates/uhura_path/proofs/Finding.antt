-- What a search that is over has found.
use Rattle.std.proofs.Common.{◌≡◌, ℕ, ◌<◌, ◌≤◌, Bool, List, length, take, get_or, MatchOption, sym, ap, subst, ◌∙◌, arith}
use Rattle.std.proofs.lemmas.List.{get_or-take, length-take-le}
use Rattle.uhura_path.specs.declared.task.TheConstants.{NO_CAP}
use Rattle.uhura_path.specs.declared.task.Task.{Task}
use Rattle.uhura_path.specs.declared.label.Label.{Label}
use Rattle.uhura_path.specs.declared.front.Front.{Front}
use Rattle.uhura_path.specs.declared.found.Found.{Found}
use Rattle.uhura_net.specs.declared.place.Place.{Place}
use Rattle.uhura_path.specs.Walk.{IsWalk, NoneIsShorter}
use Rattle.uhura_path.specs.Found.{label_at, AreDistances, IsPathOf, IsReached, IsFound}
use Rattle.uhura_path.specs.Quest.{Aim}
use Rattle.uhura_path.specs.Search.{Spread, reach, node_at, IsSpread, IsOver}
use Rattle.uhura_path.proofs.Reaching.{reach-own, inside_labelled}
use Rattle.uhura_path.proofs.Noting.{few_listed}
use Rattle.uhura_path.proofs.Distances.{capped, beyond, within_done, AreDistances-over, capped_goal, NoneIsShorter-distance}

-- what is handed out of a search
pub record HandsOut (taken : ℕ) (labels : List Label) (order : List ℕ) (front : Front) (found : Found) : Type 0 where
  pub cost : found.cost ≡ front.cap
  pub reached : found.reached.now ≡ take taken order
  pub labels_are : found.labels.now ≡ labels

module _ (aim : Aim) (taken : ℕ) (labels : List Label) (order : List ℕ) (front : Front) (found : Found) (over : IsOver aim taken (record { labels = labels; order = order; front = front }))
    (out : HandsOut taken labels order front found) (later : 1 ≤ aim.mark) (fits : aim.cap ≤ NO_CAP) where
  abbrev spread : Spread
  spread = record { labels = labels; order = order; front = front }

  abbrev was : IsSpread aim taken over.level spread
  was = over.spreads

  few : taken ≤ length order
  few = omega (arith, few_listed aim spread was.place was.listed, was.some, was.listed.ordered)

  many : length found.reached.now ≡ taken
  many = ap length out.reached ∙ length-take-le taken order few

  node_is : (at : ℕ) → at < taken → get_or found.reached.now at 0 ≡ node_at spread at
  node_is at below = ap (λ l. get_or l at 0) out.reached ∙ get_or-take taken order at 0 below

  IsReached-over : IsReached found (capped aim taken spread over)
  IsReached-over = record {
    fits = omega (arith, out.cost, was.capped);
    labels = ap length out.labels_are ∙ was.listed.labelled;
    place = was.place;
    stands = λ node below.
        let inside : was.place node < taken = omega (arith, many) in
        node_is (was.place node) inside ∙ was.listed.stands node (omega (arith, was.some));
    placed = λ at below.
        let inside : at < taken = omega (arith, many) in
        ap was.place (node_is at inside) ∙ was.listed.placed at (omega (arith, was.some));
    inside = λ at below.
        let inside : at < taken = omega (arith, many) in
        let node = node_at spread at in
        let has = within_done aim taken spread over node (omega (arith, was.listed.placed at (omega (arith, was.some)))) in
        omega (arith, node_is at inside, inside_labelled aim spread node later has, was.listed.labelled);
    reached = λ node below.
        let inside : was.place node < taken = omega (arith, many) in
        let far : reach aim spread node ≡ (label_at labels node).distance = reach-own aim (label_at labels node) (within_done aim taken spread over node inside) in
        let same : (label_at found.labels.now node).distance ≡ (label_at labels node).distance = ap (λ ls. (label_at ls node).distance) out.labels_are in
        omega (arith, was.lower node inside, was.reached);
    others = λ node behind. let far = beyond aim taken spread over node (omega (arith, many)) in omega (arith, out.cost);
    most = λ node. omega (arith, out.cost);
  }

  -- what is found, at a cost between two nodes below a cap
  record IsFoundAt (root goal cap cost : ℕ) : Type 0 where
    pub most : cost ≤ cap
    pub path : MatchOption found.path (cost ≡ cap) (λ path. (cost < cap) × IsPathOf aim.arcs goal path root cost)
    pub shortest : NoneIsShorter aim.arcs goal root cost
    pub distances : AreDistances aim.arcs root cost (capped aim taken spread over)
    pub at_goal : capped aim taken spread over goal ≡ cost

  IsFoundAt-over : MatchOption found.path (front.cap ≡ aim.cap) (λ path. (front.cap < aim.cap) × IsPathOf aim.arcs aim.goal path aim.root front.cap) →
      IsFoundAt aim.root aim.goal aim.cap front.cap
  IsFoundAt-over path =
      let distances = AreDistances-over aim taken spread over in
      let at_goal = capped_goal aim taken spread over in
      let least : (places : List Place) (backward : List Bool) (other : ℕ) → IsWalk aim.arcs aim.goal places backward aim.root other → front.cap ≤ other = λ places backward other walk.
      omega (arith, at_goal, NoneIsShorter-distance aim.arcs aim.root front.cap (capped aim taken spread over) distances aim.goal places backward other walk) in
      record { most = was.capped; path = path; shortest = least; distances = distances; at_goal = at_goal }

  -- with the path, or without one where the cap stands
  pub IsFound-over : (task : Task) → aim.root ≡ task.root → aim.goal ≡ task.goal → aim.cap ≡ task.cap →
      MatchOption found.path (front.cap ≡ aim.cap) (λ path. (front.cap < aim.cap) × IsPathOf aim.arcs aim.goal path aim.root front.cap) → IsFound aim.arcs task found
  IsFound-over task root goal cap path =
      let at_root : IsFoundAt task.root aim.goal aim.cap front.cap = subst (λ r. IsFoundAt r aim.goal aim.cap front.cap) root (IsFoundAt-over path) in
      let at_goal : IsFoundAt task.root task.goal aim.cap front.cap = subst (λ g. IsFoundAt task.root g aim.cap front.cap) goal at_root in
      let at_cap : IsFoundAt task.root task.goal task.cap front.cap = subst (λ m. IsFoundAt task.root task.goal m front.cap) cap at_goal in
      let is : IsFoundAt task.root task.goal task.cap found.cost = subst (IsFoundAt task.root task.goal task.cap) (sym out.cost) at_cap in
      record {
        most = is.most;
        path = is.path;
        shortest = is.shortest;
        distance = capped aim taken spread over;
        distances = is.distances;
        goal = is.at_goal;
        reached = IsReached-over;
      }
