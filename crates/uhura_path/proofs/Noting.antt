-- Noting a label keeps what a search knows.
use Rattle.std.proofs.Common.{◌≡◌, ◌≢◌, ℕ, ◌+◌, ◌<◌, ◌≤◌, ◌==◌, true, false, if◌then◌else◌, length, set, Some, refl, sym, ap, subst, ◌∙◌, inl, inr, arith}
use Rattle.std.proofs.lemmas.Bool.{cases_eq, cases_lt, cases_Bool, eq-eqb, ne_eqb, both_ways}
use Rattle.std.proofs.lemmas.List.{length-set, get_or-set_same, get_or-set_other}
use Rattle.std.proofs.lemmas.List.Sums.{count_by-le-length}
use Rattle.uhura_net.specs.declared.edge.TheConstants.{NODES}
use Rattle.uhura_net.specs.declared.place.TheConstants.{PLACES}
use Rattle.uhura_path.specs.declared.ways.Arc.{Arc}
use Rattle.uhura_path.specs.declared.label.Step.{Step}
use Rattle.uhura_path.specs.declared.label.Label.{Label}
use Rattle.uhura_path.specs.Found.{label_at}
use Rattle.uhura_path.specs.Quest.{Aim}
use Rattle.uhura_path.specs.Search.{Spread, is_own, has_label, reach, node_at, IsListed, IsSpread, IsAtNode, IsGrown, GoesOn, IsKept, IsStill, IsLowered, IsAdded, IsNoted}
use Rattle.uhura_path.proofs.Reaching.{label_at-set_same, label_at-set_other, reach-own, count_by-set_more, count_by-set_same, room_for_label}
use Rattle.uhura_path.proofs.Putting.{label_by, IsPutAt, IsSpread-put, IsGrown-put, IsKept-put}

-- nothing changes
pub IsGrown-refl : (aim : Aim) (taken : ℕ) (spread : Spread) → IsGrown aim taken spread spread
IsGrown-refl aim taken spread = record {
  cap = omega arith;
  nearer = λ node. omega arith;
  order = λ at below. refl;
  done = λ at below. refl;
}

pub few_listed : (aim : Aim) (spread : Spread) (place : ℕ → ℕ) → IsListed aim spread place → spread.front.count ≤ NODES
few_listed aim spread place listed =
    let most = count_by-le-length (is_own aim.mark) spread.labels in
    omega (arith, most, listed.all, listed.labelled)

module _ (aim : Aim) (taken node level : ℕ) (old : Spread) (arc : Arc) (step : Step) (at : IsAtNode aim taken node level old) (within : step.place.0 < PLACES)
    (there : aim.arcs step.place.0 step.backward ≡ Some arc) (ends : arc.to ≡ node) (later : 1 ≤ aim.mark) (inside : arc.from < NODES) (near : level + arc.cost < old.front.cap) (apart : aim.goal ≢ arc.from) where
  abbrev was : IsSpread aim (taken + 1) level old
  was = at.spreads

  abbrev label : Label
  label = label_by aim step (level + arc.cost)

  end_place : was.place arc.to ≡ taken
  end_place = ap was.place (ends ∙ sym at.here) ∙ was.listed.placed taken (omega (arith, was.some))

  end_far : reach aim old arc.to ≡ level
  end_far = ap (reach aim old) ends ∙ at.far

  goes_on : (new : Spread) (after : ℕ → ℕ) → IsPutAt aim (taken + 1) old new was.place after arc.from (level + arc.cost) step → GoesOn aim taken node level old new × IsKept aim new arc
  goes_on new after put =
      let spreads = IsSpread-put aim (taken + 1) level old new after arc.from (level + arc.cost) step was put within arc there refl (omega (arith, end_place)) end_far refl near apart in
      let grown = IsGrown-put aim (taken + 1) level old new after arc.from (level + arc.cost) step was put within arc there refl (omega (arith, end_place)) end_far refl near apart in
      let kept = IsKept-put aim (taken + 1) level old new after arc.from (level + arc.cost) step was put within arc there refl (omega (arith, end_place)) end_far refl near apart in
      let same : node_at new taken ≡ node = grown.order taken (omega arith) ∙ at.here in
      let far : reach aim new node ≡ level = ap (reach aim new) (sym at.here) ∙ grown.done taken (omega arith) ∙ ap (reach aim old) at.here ∙ at.far in
      (record { stays = record { spreads = spreads; here = same; far = far }; grown = grown }, kept)

  still : (new : Spread) → IsStill arc.from label old new → GoesOn aim taken node level old new × IsKept aim new arc
  still new is =
      let own : has_label aim old arc.from ≡ true = eq-eqb _ _ is.own in
      let from = reach-own aim (label_at old.labels arc.from) own in
      let on : GoesOn aim taken node level old old = record { stays = at; grown = IsGrown-refl aim (taken + 1) old } in
      let kept : IsKept aim old arc = omega (arith, from, is.nearer, end_far) in
      let P : Spread → Type 0 = λ s. GoesOn aim taken node level old s × IsKept aim s arc in
      subst P (sym is.same) (on, kept)

  -- a nearer label
  abbrev lowered : Spread
  lowered = record old { labels = set old.labels arc.from label }

  IsListed-lowered : has_label aim old arc.from ≡ true → IsListed aim lowered was.place
  IsListed-lowered own =
      let within : arc.from < length old.labels = omega (arith, was.listed.labelled) in
      let own_now : is_own aim.mark label ≡ true = eq-eqb aim.mark aim.mark refl in
      let same_here : has_label aim lowered arc.from ≡ true = ap (is_own aim.mark) (label_at-set_same old.labels arc.from label within) ∙ own_now in
      let same : (n : ℕ) → has_label aim lowered n ≡ has_label aim old n = λ n.
      elim (cases_eq n arc.from) [
        | inl here ↦ ap (has_label aim lowered) here ∙ same_here ∙ sym own ∙ ap (has_label aim old) (sym here)
        | inr other ↦ ap (is_own aim.mark) (label_at-set_other old.labels arc.from n label other)
      ] in
      record {
        labelled = length-set old.labels arc.from label ∙ was.listed.labelled;
        ordered = was.listed.ordered;
        all = count_by-set_same aim.mark arc.from old.labels label within own own_now ∙ was.listed.all;
        out = λ n free. was.listed.out n (sym (same n) ∙ free);
        within = λ n has. was.listed.within n (sym (same n) ∙ has);
        stands = was.listed.stands;
        placed = was.listed.placed;
      }

  lower : (new : Spread) → IsLowered arc.from label old new → GoesOn aim taken node level old new × IsKept aim new arc
  lower new is =
      let own : has_label aim old arc.from ≡ true = eq-eqb _ _ is.own in
      let from = reach-own aim (label_at old.labels arc.from) own in
      let P : Spread → Type 0 = λ s. GoesOn aim taken node level old s × IsKept aim s arc in
      let behind : taken + 1 ≤ was.place arc.from =
      elim (cases_lt (was.place arc.from) (taken + 1)) [
        | inl done ↦ absurd (omega (arith, was.lower arc.from done, from, is.farther))
        | inr not_done ↦ not_done
      ] in
      let put : IsPutAt aim (taken + 1) old lowered was.place was.place arc.from (level + arc.cost) step = record {
        labels = refl;
        inside = omega (arith, was.listed.labelled);
        cap = refl;
        closing = refl;
        order = λ n below. refl;
        more = was.some;
        listed = IsListed-lowered own;
        others = λ n other. refl;
        behind = behind;
        not_done = behind;
        nearer = omega (arith, from, is.farther);
        apart = λ same. let zero : reach aim old arc.from ≡ 0 = ap (reach aim old) same ∙ was.root_zero in absurd (omega (arith, from, is.farther));
      } in
      subst P (sym is.lowered) (goes_on lowered was.place put)

  -- a node more
  abbrev added : Spread
  added = record {
    labels = set old.labels arc.from label;
    order = set old.order old.front.count arc.from;
    front = record old.front { count = old.front.count + 1 };
  }

  abbrev after_added : ℕ → ℕ
  after_added n = if n == arc.from then old.front.count else was.place n

  after_here : after_added arc.from ≡ old.front.count
  after_here = rw (eq-eqb arc.from arc.from refl) refl

  after_there : (n : ℕ) → n ≢ arc.from → after_added n ≡ was.place n
  after_there n other = rw (ne_eqb n arc.from other) refl

  module _ (free : has_label aim old arc.from ≡ false) where
    room : old.front.count < NODES
    room = room_for_label aim old was.place arc.from was.listed inside free

    within_labels : arc.from < length old.labels
    within_labels = omega (arith, was.listed.labelled)

    own_added : has_label aim added arc.from ≡ true
    own_added = ap (is_own aim.mark) (label_at-set_same old.labels arc.from label within_labels) ∙ eq-eqb aim.mark aim.mark refl

    own_other : (n : ℕ) → n ≢ arc.from → has_label aim added n ≡ has_label aim old n
    own_other n other = ap (is_own aim.mark) (label_at-set_other old.labels arc.from n label other)

    node_added : node_at added old.front.count ≡ arc.from
    node_added = get_or-set_same old.order old.front.count arc.from 0 (omega (arith, room, was.listed.ordered))

    node_other : (n : ℕ) → n ≢ old.front.count → node_at added n ≡ node_at old n
    node_other n other = get_or-set_other old.order old.front.count n arc.from 0 other

    -- a node with a place among the old ones
    old_place : (n : ℕ) → was.place n < old.front.count + 1 → was.place n < old.front.count
    old_place n below =
        elim (cases_Bool (has_label aim old n)) [
          | inl has ↦ was.listed.within n has
          | inr none ↦ absurd (omega (arith, was.listed.out n none, room))
        ]

    -- and a place among the old ones has a node that had a label
    node_apart : (n : ℕ) → n < old.front.count → node_at old n ≢ arc.from
    node_apart n below same =
        let here : was.place arc.from ≡ n = ap was.place (sym same) ∙ was.listed.placed n below in
        absurd (omega (arith, was.listed.out arc.from free, room))

    IsListed-added : IsListed aim added after_added
    IsListed-added = record {
      labelled = length-set old.labels arc.from label ∙ was.listed.labelled;
      ordered = length-set old.order old.front.count arc.from ∙ was.listed.ordered;
      all = omega (arith, count_by-set_more aim.mark arc.from old.labels label within_labels free (eq-eqb aim.mark aim.mark refl), was.listed.all);
      out = λ n none.
          elim (cases_eq n arc.from) [
            | inl here ↦ absurd (both_ways (has_label aim added n) none (ap (has_label aim added) here ∙ own_added))
            | inr other ↦ omega (arith, after_there n other, was.listed.out n (sym (own_other n other) ∙ none))
          ];
      within = λ n has.
          elim (cases_eq n arc.from) [
            | inl here ↦ let same : after_added n ≡ after_added arc.from = ap after_added here in omega (arith, after_here)
            | inr other ↦ omega (arith, after_there n other, was.listed.within n (sym (own_other n other) ∙ has))
          ];
      stands = λ n below.
          elim (cases_eq n arc.from) [
            | inl here ↦ ap (node_at added) (ap after_added here ∙ after_here) ∙ node_added ∙ sym here
            | inr other ↦
                let moved = after_there n other in
                let before : was.place n < old.front.count = old_place n (omega (arith, moved)) in
                ap (node_at added) moved ∙ node_other (was.place n) (λ same. omega arith) ∙ was.listed.stands n before
          ];
      placed = λ n below.
          elim (cases_eq n old.front.count) [
            | inl here ↦ ap after_added (ap (node_at added) here ∙ node_added) ∙ after_here ∙ sym here
            | inr other ↦
                let before : n < old.front.count = omega arith in
                ap after_added (node_other n other) ∙ after_there (node_at old n) (node_apart n before) ∙ was.listed.placed n before
          ];
    }

    IsPutAt-added : IsPutAt aim (taken + 1) old added was.place after_added arc.from (level + arc.cost) step
    IsPutAt-added = record {
      labels = refl;
      inside = within_labels;
      cap = refl;
      closing = refl;
      order = λ n below. node_other n (λ same. omega (arith, was.some));
      more = omega (arith, was.some);
      listed = IsListed-added;
      others = after_there;
      behind = omega (arith, after_here, was.some);
      not_done = omega (arith, was.listed.out arc.from free, room, was.some);
      nearer = let far : reach aim old arc.from ≡ aim.cap = rw free refl in omega (arith, far, was.capped);
      apart = λ same. both_ways (has_label aim old arc.from) free (ap (has_label aim old) same ∙ was.root_here);
    }

  add : (new : Spread) → IsAdded arc.from label old new → GoesOn aim taken node level old new × IsKept aim new arc
  add new is =
      let free : has_label aim old arc.from ≡ false = ne_eqb _ _ is.free in
      let P : Spread → Type 0 = λ s. GoesOn aim taken node level old s × IsKept aim s arc in
      subst P (sym is.added) (goes_on added after_added (IsPutAt-added free))

  pub GoesOn-noted : (new : Spread) → IsNoted arc.from label old new → GoesOn aim taken node level old new × IsKept aim new arc
  GoesOn-noted new noted =
      elim noted [
        | inl is ↦ still new is
        | inr changed ↦ elim changed [ inl is ↦ lower new is | inr is ↦ add new is ]
      ]
