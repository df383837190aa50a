-- A node gets a label while the search is at a node that is done.
use Rattle.std.proofs.Common.{◌≡◌, ◌≢◌, ℕ, ◌+◌, ◌<◌, ◌≤◌, true, length, set, Option, None, Some, MatchOption, refl, sym, ap, subst, ◌∙◌, inl, inr, arith}
use Rattle.std.proofs.lemmas.Bool.{cases_eq, eq-eqb}
use Rattle.uhura_net.specs.declared.place.TheConstants.{PLACES}
use Rattle.uhura_path.specs.declared.ways.Arc.{Arc}
use Rattle.uhura_path.specs.declared.label.Step.{Step}
use Rattle.uhura_path.specs.declared.label.Label.{Label}
use Rattle.uhura_path.specs.Found.{label_at}
use Rattle.uhura_path.specs.Quest.{Aim}
use Rattle.uhura_path.specs.Search.{Spread, is_own, has_label, reach, node_at, IsListed, IsStep, IsClosing, IsSpread, IsGrown, IsKept}
use Rattle.uhura_path.proofs.Reaching.{label_at-set_same, label_at-set_other, reach_of, reach-own, IsStep-stays}

-- the label of an arc's start, which is so far from the root
abbrev pub label_by : Aim → Step → ℕ → Label
label_by aim step cost = record { mark = aim.mark; distance = cost; step = step }

-- The label is noted at the start of an arc into the node that is done, and the start has a place behind the done ones.
pub record IsPutAt (aim : Aim) (taken : ℕ) (old new : Spread) (place after : ℕ → ℕ) (start cost : ℕ) (step : Step) : Type 0 where
  pub labels : new.labels ≡ set old.labels start (label_by aim step cost)
  pub inside : start < length old.labels
  pub cap : new.front.cap ≡ old.front.cap
  pub closing : new.front.closing ≡ old.front.closing
  pub order : (at : ℕ) → at < taken → node_at new at ≡ node_at old at
  pub more : taken ≤ new.front.count
  pub listed : IsListed aim new after
  pub others : (other : ℕ) → other ≢ start → after other ≡ place other
  pub behind : taken ≤ after start
  pub not_done : taken ≤ place start
  pub nearer : cost ≤ reach aim old start
  pub apart : start ≢ aim.root

module _ (aim : Aim) (taken level : ℕ) (old new : Spread) (after : ℕ → ℕ) (start cost : ℕ) (step : Step) (was : IsSpread aim taken level old)
    (put : IsPutAt aim taken old new was.place after start cost step) where
  label_here : label_at new.labels start ≡ label_by aim step cost
  label_here = ap (λ ls. label_at ls start) put.labels ∙ label_at-set_same old.labels start (label_by aim step cost) put.inside

  label_there : (other : ℕ) → other ≢ start → label_at new.labels other ≡ label_at old.labels other
  label_there other apart = ap (λ ls. label_at ls other) put.labels ∙ label_at-set_other old.labels start other (label_by aim step cost) apart

  own_here : has_label aim new start ≡ true
  own_here = ap (is_own aim.mark) label_here ∙ eq-eqb aim.mark aim.mark refl

  own_there : (other : ℕ) → other ≢ start → has_label aim new other ≡ has_label aim old other
  own_there other apart = ap (is_own aim.mark) (label_there other apart)

  reach_here : reach aim new start ≡ cost
  reach_here = reach-own aim (label_at new.labels start) own_here ∙ ap (λ (l : Label). l.distance) label_here

  reach_there : (other : ℕ) → other ≢ start → reach aim new other ≡ reach aim old other
  reach_there other apart = ap (reach_of aim) (label_there other apart)

  -- done nodes stay where they are
  done_apart : (other : ℕ) → was.place other < taken → other ≢ start
  done_apart other done same = let here : was.place other ≡ was.place start = ap was.place same in omega (arith, put.not_done)

  done_stays : (other : ℕ) → was.place other < taken → (after other ≡ was.place other) × (reach aim new other ≡ reach aim old other)
  done_stays other done = let apart = done_apart other done in (put.others other apart, reach_there other apart)

  later_place : (other : ℕ) → other ≢ start → (at : ℕ) → at < taken → at < was.place other → at < after other
  later_place other apart at below before = omega (arith, put.others other apart)

  closing_stays : aim.goal ≢ start → (first : Step) → IsClosing aim taken old was.place first → IsClosing aim taken new after first
  closing_stays apart first closing = record {
    below = omega (arith, put.cap, closing.below);
    goal_step = subst (λ (n : ℕ). IsStep aim taken new after aim.goal first n) (sym put.cap)
        (IsStep-stays aim taken taken old new was.place after aim.goal old.front.cap first (omega arith) done_stays (later_place aim.goal apart) closing.goal_step);
  }

  closing_as : aim.goal ≢ start → (first : Option Step) → MatchOption first (old.front.cap ≡ aim.cap) (IsClosing aim taken old was.place) →
      MatchOption first (new.front.cap ≡ aim.cap) (IsClosing aim taken new after)
  closing_as apart None capped = put.cap ∙ capped
  closing_as apart (Some first) closing = closing_stays apart first closing

  step_here : step.place.0 < PLACES → (arc : Arc) → aim.arcs step.place.0 step.backward ≡ Some arc → arc.from ≡ start → was.place arc.to < taken → cost ≡ reach aim old arc.to + arc.cost →
      IsStep aim taken new after start step cost
  step_here within arc there starts done costs =
      let stays = done_stays arc.to done in
      record {
        inside = within;
        arc = arc;
        there = there;
        starts = starts;
        done = omega (arith, stays.0);
        earlier = omega (arith, stays.0, put.behind);
        costs = omega (arith, stays.1);
      }

  steps_after : IsStep aim taken new after start step cost → (node : ℕ) → has_label aim new node ≡ true → node ≢ aim.root →
      IsStep aim taken new after node (label_at new.labels node).step (reach aim new node)
  steps_after here node own apart =
      let P : ℕ → Type 0 = λ n. IsStep aim taken new after n (label_at new.labels n).step (reach aim new n) in
      let R : ℕ → Label → Type 0 = λ n l. IsStep aim taken new after n l.step (reach_of aim l) in
      elim (cases_eq node start) [
        | inl at ↦
            let label : Label = label_by aim step cost in
            let far : reach_of aim label ≡ cost = reach-own aim label (eq-eqb aim.mark aim.mark refl) in
            let noted : IsStep aim taken new after start step (reach_of aim label) = subst (λ n. IsStep aim taken new after start step n) (sym far) here in
            subst P (sym at) (subst (R start) (sym label_here) noted)
        | inr other ↦
            let moved = IsStep-stays aim taken taken old new was.place after node (reach aim old node) (label_at old.labels node).step (omega arith) done_stays (later_place node other)
            (was.steps node (sym (own_there node other) ∙ own) apart) in
            subst (R node) (sym (label_there node other)) moved
      ]

  module _ (within : step.place.0 < PLACES) (arc : Arc) (there : aim.arcs step.place.0 step.backward ≡ Some arc) (starts : arc.from ≡ start) (done : was.place arc.to < taken) (far : reach aim old arc.to ≡ level)
      (costs : cost ≡ level + arc.cost) (near : cost < old.front.cap) (apart : aim.goal ≢ start) where
    pub IsSpread-put : IsSpread aim taken level new
    IsSpread-put = record {
      place = after;
      listed = put.listed;
      marked = λ node.
          elim (cases_eq node start) [
            | inl at ↦
                let same : (label_at new.labels node).mark ≡ aim.mark = ap (λ n. (label_at new.labels n).mark) at ∙ ap (λ (l : Label). l.mark) label_here in
                omega arith
            | inr other ↦
                let same : (label_at new.labels node).mark ≡ (label_at old.labels node).mark = ap (λ (l : Label). l.mark) (label_there node other) in
                omega (arith, was.marked node)
          ];
      some = put.more;
      capped = omega (arith, put.cap, was.capped);
      reached = omega (arith, put.cap, was.reached);
      lower = λ node before.
          elim (cases_eq node start) [
            | inl at ↦ absurd (let same : after node ≡ after start = ap after at in omega (arith, put.behind))
            | inr other ↦ omega (arith, reach_there node other, was.lower node (omega (arith, put.others node other)))
          ];
      upper = λ node behind.
          elim (cases_eq node start) [
            | inl at ↦ let same : reach aim new node ≡ reach aim new start = ap (reach aim new) at in omega (arith, reach_here)
            | inr other ↦ omega (arith, reach_there node other, was.upper node (omega (arith, put.others node other)))
          ];
      under = λ node.
          elim (cases_eq node start) [
            | inl at ↦ let same : reach aim new node ≡ reach aim new start = ap (reach aim new) at in omega (arith, reach_here, was.capped)
            | inr other ↦ omega (arith, reach_there node other, was.under node)
          ];
      root_here = own_there aim.root (λ same. put.apart (sym same)) ∙ was.root_here;
      root_zero = reach_there aim.root (λ same. put.apart (sym same)) ∙ was.root_zero;
      goal_free = own_there aim.goal apart ∙ was.goal_free;
      steps = steps_after (step_here within arc there starts done (omega (arith, far)));
      closing =
          let P : Option Step → Type 0 = λ first. MatchOption first (new.front.cap ≡ aim.cap) (IsClosing aim taken new after) in
          subst P (sym put.closing) (closing_as apart old.front.closing was.closing);
    }

    pub IsGrown-put : IsGrown aim taken old new
    IsGrown-put = record {
      cap = omega (arith, put.cap);
      nearer = λ node.
          elim (cases_eq node start) [
            | inl at ↦
                let same : reach aim new node ≡ reach aim new start = ap (reach aim new) at in
                let before : reach aim old node ≡ reach aim old start = ap (reach aim old) at in
                omega (arith, reach_here, put.nearer)
            | inr other ↦ omega (arith, reach_there node other)
          ];
      order = put.order;
      done = λ at below. (done_stays (node_at old at) (omega (arith, was.listed.placed at (omega (arith, was.some))))).1;
    }

    pub IsKept-put : IsKept aim new arc
    IsKept-put =
        let from : reach aim new arc.from ≡ cost = ap (reach aim new) starts ∙ reach_here in
        omega (arith, from, (done_stays arc.to done).1)
