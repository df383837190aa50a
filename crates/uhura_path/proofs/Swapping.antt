-- The nearest open node comes to the front of the open ones, and is done.
use Rattle.std.proofs.Common.{◌≡◌, ◌≢◌, ℕ, ◌+◌, ◌<◌, ◌≤◌, ◌==◌, true, if◌then◌else◌, List, length, set, get_or, Option, None, Some, MatchOption, ◌⊎◌, refl, sym, ap, ◌∙◌, inl, inr, arith}
use Rattle.std.proofs.lemmas.Bool.{cases_eq, cases_lt, cases_Bool, eq-eqb, ne_eqb}
use Rattle.std.proofs.lemmas.List.{length-set, get_or-set_same, get_or-set_other}
use Rattle.uhura_net.specs.declared.edge.TheConstants.{NODES}
use Rattle.uhura_path.specs.declared.label.Step.{Step}
use Rattle.uhura_path.specs.Found.{label_at}
use Rattle.uhura_path.specs.Quest.{Aim}
use Rattle.uhura_path.specs.Search.{Spread, has_label, reach, node_at, IsListed, IsStep, IsClosing, IsSpread, AreKept, IsAtNode, IsChosen}
use Rattle.uhura_path.proofs.Reaching.{reach-own, reach-free, inside_labelled, IsStep-stays}
use Rattle.uhura_path.proofs.Noting.{few_listed}

-- two numbers change places
abbrev swap_of : ℕ → ℕ → ℕ → ℕ
swap_of a b n = if n == a then b else (if n == b then a else n)

record IsSwapped (a b n swapped : ℕ) : Type 0 where
  pub which : ((n ≡ a) × (swapped ≡ b)) ⊎ (((n ≡ b) × (swapped ≡ a)) ⊎ ((n ≢ a) × (n ≢ b) × (swapped ≡ n)))

swapped_is : (a b n : ℕ) → IsSwapped a b n (swap_of a b n)
swapped_is a b n =
    elim (cases_eq n a) [
      | inl first ↦ record { which = inl (first, rw (eq-eqb n a first) refl) }
      | inr not_first ↦
          elim (cases_eq n b) [
            | inl second ↦ record { which = inr (inl (second, rw (ne_eqb n a not_first, eq-eqb n b second) refl)) }
            | inr not_second ↦ record { which = inr (inr (not_first, not_second, rw (ne_eqb n a not_first, ne_eqb n b not_second) refl)) }
          ]
    ]

swap_twice : (a b n : ℕ) → swap_of a b (swap_of a b n) ≡ n
swap_twice a b n =
    let once = swapped_is a b n in
    let twice = swapped_is a b (swap_of a b n) in
    omega (arith, once.which, twice.which)

module _ (aim : Aim) (taken level node : ℕ) (old : Spread) (order : List ℕ) (was : IsSpread aim taken level old) (some : taken < old.front.count)
    (chosen : IsChosen taken old.front.count old.labels old.order order node) where
  abbrev new : Spread
  new = record old { order = order }

  abbrev swap : ℕ → ℕ
  swap = swap_of taken chosen.best

  abbrev after : ℕ → ℕ
  after n = swap (was.place n)

  few : old.front.count ≤ NODES
  few = few_listed aim old was.place was.listed

  node_swapped : (at : ℕ) → node_at new at ≡ node_at old (swap at)
  node_swapped at =
      let swapped = swapped_is taken chosen.best at in
      let first : List ℕ = set old.order chosen.best (get_or old.order taken 0) in
      let written : node_at new at ≡ get_or (set first taken node) at 0 = ap (λ l. get_or l at 0) chosen.swapped in
      let long : length first ≡ NODES = length-set old.order chosen.best (get_or old.order taken 0) ∙ was.listed.ordered in
      elim swapped.which [
        | inl here ↦
            written ∙ ap (λ k. get_or (set first taken node) k 0) here.0 ∙ get_or-set_same first taken node 0 (omega (arith, long, few)) ∙ chosen.chosen ∙ ap (node_at old) (sym here.1)
        | inr rest ↦ elim rest [
          | inl there ↦
              elim (cases_eq at taken) [
                | inl both ↦
                    let best_is : chosen.best ≡ taken = omega (arith, there.0) in
                    written ∙ ap (λ k. get_or (set first taken node) k 0) both ∙ get_or-set_same first taken node 0 (omega (arith, long, few)) ∙ chosen.chosen
                    ∙ ap (node_at old) (best_is ∙ sym there.1)
                | inr apart ↦
                    written ∙ get_or-set_other first taken at node 0 apart ∙ ap (λ k. get_or first k 0) there.0
                    ∙ get_or-set_same old.order chosen.best (get_or old.order taken 0) 0 (omega (arith, was.listed.ordered, few, chosen.within)) ∙ ap (node_at old) (sym there.1)
              ]
          | inr other ↦
              written ∙ get_or-set_other first taken at node 0 other.0 ∙ get_or-set_other old.order chosen.best at (get_or old.order taken 0) 0 other.1
              ∙ ap (node_at old) (sym other.2)
        ]
      ]

  swap_done : (at : ℕ) → at < taken → swap at ≡ at
  swap_done at below = let swapped = swapped_is taken chosen.best at in omega (arith, swapped.which, chosen.from)

  swap_behind : (at : ℕ) → taken ≤ at → taken ≤ swap at
  swap_behind at behind = let swapped = swapped_is taken chosen.best at in omega (arith, swapped.which, chosen.from)

  swap_within : (at : ℕ) → at < old.front.count → swap at < old.front.count
  swap_within at below = let swapped = swapped_is taken chosen.best at in omega (arith, swapped.which, chosen.within)

  swap_out : (at : ℕ) → old.front.count ≤ at → swap at ≡ at
  swap_out at out = let swapped = swapped_is taken chosen.best at in omega (arith, swapped.which, chosen.within)

  place_before : (at : ℕ) → swap at < taken → at < taken
  place_before at below =
      elim (cases_lt at taken) [ inl before ↦ before | inr behind ↦ absurd (let same = swap_behind at behind in omega arith) ]

  place_behind : (at : ℕ) → taken ≤ swap at → taken ≤ at
  place_behind at behind =
      elim (cases_lt at taken) [ inl before ↦ absurd (let same = swap_done at before in omega arith) | inr later ↦ later ]

  IsListed-swapped : IsListed aim new after
  IsListed-swapped = record {
    labelled = was.listed.labelled;
    ordered = ap length chosen.swapped ∙ length-set (set old.order chosen.best (get_or old.order taken 0)) taken node
        ∙ length-set old.order chosen.best (get_or old.order taken 0) ∙ was.listed.ordered;
    all = was.listed.all;
    out = λ n none. let far = was.listed.out n none in omega (arith, swap_out (was.place n) (omega (arith, few)));
    within = λ n has. swap_within (was.place n) (was.listed.within n has);
    stands = λ n below.
        let before : was.place n < old.front.count =
        elim (cases_lt (was.place n) old.front.count) [ inl less ↦ less | inr out ↦ absurd (let same = swap_out (was.place n) out in omega arith) ] in
        node_swapped (after n) ∙ ap (node_at old) (swap_twice taken chosen.best (was.place n)) ∙ was.listed.stands n before;
    placed = λ at below.
        ap after (node_swapped at) ∙ ap swap (was.listed.placed (swap at) (swap_within at below)) ∙ swap_twice taken chosen.best at;
  }

  step_swapped : (n cost : ℕ) (step : Step) → IsStep aim taken old was.place n step cost → IsStep aim taken new after n step cost
  step_swapped n cost step =
      IsStep-stays aim taken taken old new was.place after n cost step (omega arith) (λ other done. (swap_done (was.place other) done, refl))
      (λ at below before.
      elim (cases_lt (was.place n) taken) [
        | inl done ↦ omega (arith, swap_done (was.place n) done)
        | inr open_yet ↦ omega (arith, swap_behind (was.place n) open_yet)
      ])

  closing_swapped : (first : Option Step) → MatchOption first (old.front.cap ≡ aim.cap) (IsClosing aim taken old was.place) →
      MatchOption first (new.front.cap ≡ aim.cap) (IsClosing aim taken new after)
  closing_swapped None capped = capped
  closing_swapped (Some first) closing = record { below = closing.below; goal_step = step_swapped aim.goal old.front.cap first closing.goal_step }

  pub IsSpread-swapped : IsSpread aim taken level new
  IsSpread-swapped = record {
    place = after;
    listed = IsListed-swapped;
    marked = was.marked;
    some = was.some;
    capped = was.capped;
    reached = was.reached;
    lower = λ n done. was.lower n (place_before (was.place n) done);
    upper = λ n behind. was.upper n (place_behind (was.place n) behind);
    under = was.under;
    root_here = was.root_here;
    root_zero = was.root_zero;
    goal_free = was.goal_free;
    steps = λ n has apart. step_swapped n (reach aim old n) (label_at old.labels n).step (was.steps n has apart);
    closing = closing_swapped old.front.closing was.closing;
  }

  pub AreKept-swapped : AreKept aim taken old → AreKept aim taken new
  AreKept-swapped kept at below place backward arc is ends =
      kept at below place backward arc is (ends ∙ node_swapped at ∙ ap (node_at old) (swap_done at below))

  abbrev far : ℕ
  far = (label_at old.labels node).distance

  pub node_taken : node_at new taken ≡ node
  node_taken =
      let swapped = swapped_is taken chosen.best taken in
      let to_best : swap taken ≡ chosen.best = omega (arith, swapped.which) in
      node_swapped taken ∙ ap (node_at old) to_best ∙ sym chosen.chosen

  -- a node among the open ones has a label
  has_label_at : (at : ℕ) → at < old.front.count → has_label aim new (node_at new at) ≡ true
  has_label_at at below =
      elim (cases_Bool (has_label aim new (node_at new at))) [
        | inl has ↦ has
        | inr none ↦ absurd (omega (arith, IsListed-swapped.out (node_at new at) none, IsListed-swapped.placed at below, few))
      ]

  reach_at : (at : ℕ) → at < old.front.count → reach aim new (node_at new at) ≡ (label_at old.labels (node_at new at)).distance
  reach_at at below = reach-own aim (label_at old.labels (node_at new at)) (has_label_at at below)

  pub reach_taken : reach aim new node ≡ far
  reach_taken = ap (reach aim new) (sym node_taken) ∙ reach_at taken some ∙ ap (λ n. (label_at old.labels n).distance) node_taken

  pub far_least : (at : ℕ) → taken ≤ at → at < old.front.count → far ≤ reach aim new (node_at new at)
  far_least at behind below =
      let least = chosen.least (swap at) (swap_behind at behind) (swap_within at below) in
      let same : (label_at old.labels (node_at old (swap at))).distance ≡ (label_at old.labels (node_at new at)).distance =
      ap (λ n. (label_at old.labels n).distance) (sym (node_swapped at)) in
      omega (arith, least, same, reach_at at below)

  place_taken : after node ≡ taken
  place_taken = ap after (sym node_taken) ∙ IsListed-swapped.placed taken some

  level_far : level ≤ far
  unfolding IsSpread-swapped
  level_far = let above = IsSpread-swapped.upper node (omega (arith, place_taken)) in omega (arith, reach_taken)

  -- and is done where it is nearer than the cap
  module _ (near : far < old.front.cap) where
    step_more : (n cost : ℕ) (step : Step) → IsStep aim taken new after n step cost → IsStep aim (taken + 1) new after n step cost
    step_more n cost step = IsStep-stays aim taken (taken + 1) new new after after n cost step (omega arith) (λ other done. (refl, refl)) (λ at below before. before)

    closing_more : (first : Option Step) → MatchOption first (new.front.cap ≡ aim.cap) (IsClosing aim taken new after) →
        MatchOption first (new.front.cap ≡ aim.cap) (IsClosing aim (taken + 1) new after)
    closing_more None capped = capped
    closing_more (Some first) closing = record { below = closing.below; goal_step = step_more aim.goal new.front.cap first closing.goal_step }

    IsSpread-taken : IsSpread aim (taken + 1) far new
    unfolding IsSpread-swapped
    IsSpread-taken = record {
      place = after;
      listed = IsListed-swapped;
      marked = was.marked;
      some = omega arith;
      capped = was.capped;
      reached = omega arith;
      lower = λ n done.
          elim (cases_lt (after n) taken) [
            | inl before ↦ let below = IsSpread-swapped.lower n before in omega (arith, level_far)
            | inr last ↦
                let here : after n ≡ taken = omega arith in
                let same : n ≡ node = sym (IsListed-swapped.stands n (omega (arith, here))) ∙ ap (node_at new) here ∙ node_taken in
                let reaches : reach aim new n ≡ reach aim new node = ap (reach aim new) same in
                omega (arith, reach_taken)
          ];
      upper = λ n behind.
          elim (cases_Bool (has_label aim new n)) [
            | inl has ↦
                let within = IsListed-swapped.within n has in
                let least = far_least (after n) (omega arith) within in
                let same : reach aim new (node_at new (after n)) ≡ reach aim new n = ap (reach aim new) (IsListed-swapped.stands n within) in
                omega (arith, least, same)
            | inr none ↦ let capped : reach aim new n ≡ aim.cap = reach-free aim (label_at old.labels n) none in omega (arith, was.capped)
          ];
      under = was.under;
      root_here = was.root_here;
      root_zero = was.root_zero;
      goal_free = was.goal_free;
      steps = λ n has apart. step_more n (reach aim new n) (label_at new.labels n).step (IsSpread-swapped.steps n has apart);
      closing = closing_more old.front.closing IsSpread-swapped.closing;
    }

    pub IsAtNode-taken : IsAtNode aim taken node far new
    IsAtNode-taken = record { spreads = IsSpread-taken; here = node_taken; far = reach_taken }

  pub node_inside : 1 ≤ aim.mark → node < NODES
  node_inside later =
      let own : has_label aim new node ≡ true = ap (has_label aim new) (sym node_taken) ∙ has_label_at taken some in
      let inside = inside_labelled aim new node later own in
      omega (arith, inside, was.listed.labelled)
