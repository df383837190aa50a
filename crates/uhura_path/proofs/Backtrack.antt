-- Going back by the steps of a search that is over.
use Rattle.std.proofs.Common.{◌≡◌, ◌≢◌, ℕ, ◌+◌, ◌-◌, ◌^◌, ◌<◌, ◌≤◌, min, Bool, List, length, take, set, Option, None, Some, MatchOption, sym, ap, subst, ◌∙◌, arith}
use Rattle.std.proofs.lemmas.List.{length-set}
use Rattle.uhura_net.specs.declared.edge.TheConstants.{NODES}
use Rattle.uhura_net.specs.declared.place.Place.{Place}
use Rattle.uhura_path.specs.declared.ways.Arc.{Arc}
use Rattle.uhura_path.specs.declared.label.Step.{Step}
use Rattle.uhura_path.specs.Walk.{IsLeastRoom, IsPath}
use Rattle.uhura_path.specs.Found.{label_at}
use Rattle.uhura_path.specs.Quest.{Aim}
use Rattle.uhura_path.specs.Search.{Spread, reach, IsStep, IsClosing, IsSpread, IsOver}
use Rattle.uhura_path.proofs.Noting.{few_listed}
use Rattle.uhura_path.proofs.Distances.{within_done}
use Rattle.uhura_path.proofs.Trail.{IsPrefix, IsPrefix-none, IsPrefix-more, IsLeastRoom-prefix, AreOpposite, IsPath-prefix}

-- Some steps are written down, and the next one begins at a node whose distance is what is left of the cost.
pub record IsTraced (aim : Aim) (taken : ℕ) (spread : Spread) (place : ℕ → ℕ) (count : ℕ) (step : Step) (least : ℕ) (places : List Place) (backward : List Bool) : Type 0 where
  pub node : ℕ
  pub cost : ℕ
  pub rest : ℕ
  pub so_far : IsPrefix aim.arcs aim.goal place count node cost least places backward
  pub next : IsStep aim taken spread place node step rest
  pub sums : cost + rest ≡ spread.front.cap
  pub bound : count + place next.arc.to < taken

module _ (aim : Aim) (taken : ℕ) (spread : Spread) (over : IsOver aim taken spread) where
  abbrev was : IsSpread aim taken over.level spread
  was = over.spreads

  pub few_done : taken ≤ NODES
  few_done = omega (arith, few_listed aim spread was.place was.listed, was.some)

  closing_is : (first : Option Step) (closing : Step) → first ≡ Some closing → MatchOption first (spread.front.cap ≡ aim.cap) (IsClosing aim taken spread was.place) →
      IsClosing aim taken spread was.place closing
  closing_is None closing is found = absurd (let no : ⊥ = cc in no)
  closing_is (Some step) closing is found = let same : step ≡ closing = cc in subst (IsClosing aim taken spread was.place) same found

  pub IsClosing-found : (closing : Step) → spread.front.closing ≡ Some closing → IsClosing aim taken spread was.place closing
  IsClosing-found closing is = closing_is spread.front.closing closing is was.closing

  pub IsTraced-first : (closing : Step) (least : ℕ) (places : List Place) (backward : List Bool) → spread.front.closing ≡ Some closing → least ≡ 2 ^ 64 - 1 →
      IsTraced aim taken spread was.place 0 closing least places backward
  IsTraced-first closing least places backward is most =
      let found = IsClosing-found closing is in
      record {
        node = aim.goal;
        cost = 0;
        rest = spread.front.cap;
        so_far = IsPrefix-none aim.arcs aim.goal was.place least places backward most;
        next = found.goal_step;
        sums = omega arith;
        bound = omega (arith, found.goal_step.done);
      }

  module _ (count : ℕ) (step : Step) (least : ℕ) (places : List Place) (backward : List Bool) (arc : Arc) (so_far : IsTraced aim taken spread was.place count step least places backward)
      (in_places : count < length places) (in_backward : count < length backward) (there : aim.arcs step.place.0 step.backward ≡ Some arc) (fits : arc.room < 2 ^ 64) where
    same_arc : so_far.next.arc ≡ arc
    same_arc = let both : Some so_far.next.arc ≡ Some arc = sym so_far.next.there ∙ there in cc

    prefix : IsPrefix aim.arcs aim.goal was.place (count + 1) arc.to (so_far.cost + arc.cost) (min least arc.room) (set places count step.place) (set backward count step.backward)
    prefix =
        let starts : arc.from ≡ so_far.node = ap (λ (a : Arc). a.from) (sym same_arc) ∙ so_far.next.starts in
        let same_end : was.place so_far.next.arc.to ≡ was.place arc.to = ap (λ (a : Arc). was.place a.to) same_arc in
        IsPrefix-more aim.arcs aim.goal was.place count so_far.node so_far.cost least places backward step.place step.backward arc in_places in_backward there starts
        (omega (arith, so_far.next.earlier)) fits so_far.so_far

    costs : so_far.rest ≡ reach aim spread arc.to + arc.cost
    costs =
        let first : reach aim spread so_far.next.arc.to ≡ reach aim spread arc.to = ap (λ (a : Arc). reach aim spread a.to) same_arc in
        let second : so_far.next.arc.cost ≡ arc.cost = ap (λ (a : Arc). a.cost) same_arc in
        omega (arith, so_far.next.costs)

    pub IsTraced-more : arc.to ≢ aim.root →
        IsTraced aim taken spread was.place (count + 1) (label_at spread.labels arc.to).step (min least arc.room) (set places count step.place) (set backward count step.backward)
    IsTraced-more apart =
        let same_end : was.place so_far.next.arc.to ≡ was.place arc.to = ap (λ (a : Arc). was.place a.to) same_arc in
        let done : was.place arc.to < taken = omega (arith, so_far.next.done) in
        let next = was.steps arc.to (within_done aim taken spread over arc.to done) apart in
        record {
          node = arc.to;
          cost = so_far.cost + arc.cost;
          rest = reach aim spread arc.to;
          so_far = prefix;
          next = next;
          sums = omega (arith, costs, so_far.sums);
          bound = omega (arith, next.earlier, so_far.bound);
        }

    pub IsPath-traced : AreOpposite aim.arcs → arc.to ≡ aim.root →
        IsPath aim.arcs aim.goal (take (count + 1) (set places count step.place)) (take (count + 1) (set backward count step.backward)) aim.root spread.front.cap
        × IsLeastRoom aim.arcs (take (count + 1) (set places count step.place)) (take (count + 1) (set backward count step.backward)) (min least arc.room)
    IsPath-traced opposite at_root =
        let far : reach aim spread arc.to ≡ 0 = ap (reach aim spread) at_root ∙ was.root_zero in
        let sum : so_far.cost + arc.cost ≡ spread.front.cap = omega (arith, costs, so_far.sums) in
        let long_places : count + 1 ≤ length (set places count step.place) = omega (arith, length-set places count step.place) in
        let long_backward : count + 1 ≤ length (set backward count step.backward) = omega (arith, length-set backward count step.backward) in
        let path = IsPath-prefix aim.arcs aim.goal was.place (count + 1) arc.to (so_far.cost + arc.cost) (min least arc.room) (set places count step.place)
        (set backward count step.backward) prefix long_places long_backward opposite in
        let Leads : ℕ → ℕ → Type 0 = λ to cost.
        IsPath aim.arcs aim.goal (take (count + 1) (set places count step.place)) (take (count + 1) (set backward count step.backward)) to cost in (
          subst (Leads aim.root) sum (subst (λ to. Leads to (so_far.cost + arc.cost)) at_root path),
          IsLeastRoom-prefix aim.arcs aim.goal was.place (count + 1) arc.to (so_far.cost + arc.cost) (min least arc.room) (set places count step.place)
              (set backward count step.backward) prefix long_places long_backward (omega arith),
        )
