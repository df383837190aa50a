-- How a search begins: the root alone has a label.
use Rattle.std.proofs.Common.{◌≡◌, ◌≢◌, ℕ, ◌<◌, ◌≤◌, ◌==◌, true, false, cond, if◌then◌else◌, List, length, get_or, set, count_by, None, refl, sym, ap, ◌∙◌, inl, inr, arith}
use Rattle.std.specs.List.{All}
use Rattle.std.proofs.lemmas.Bool.{cases_eq, eq-eqb, ne_eqb, both_ways}
use Rattle.std.proofs.lemmas.List.{get_or_default, length-set, get_or-set_same}
use Rattle.std.proofs.lemmas.List.Sums.{sum_by-le}
use Rattle.uhura_net.specs.declared.edge.TheConstants.{NODES}
use Rattle.uhura_path.specs.declared.label.Label.{Label}
use Rattle.uhura_path.specs.Found.{no_label, label_at}
use Rattle.uhura_path.specs.Quest.{Aim}
use Rattle.uhura_path.specs.Search.{Spread, is_own, has_label, reach, node_at, IsSpread}
use Rattle.uhura_path.proofs.Reaching.{label_at-set_same, label_at-set_other, reach-own, reach-free, count_by-set_more}

-- no label is of this search yet
count_by_none : (mark : ℕ) (labels : List Label) → ((node : ℕ) → is_own mark (label_at labels node) ≡ false) → count_by (is_own mark) labels ≡ 0
count_by_none mark labels none =
    let zeros : All (λ l. cond (is_own mark l) 1 0 ≤ 0) labels = λ at other inside.
    let same : is_own mark (get_or labels at other) ≡ false = ap (is_own mark) (get_or_default labels at other no_label inside) ∙ none at in
    rw same (omega arith) in
    omega (arith, sum_by-le (λ l. cond (is_own mark l) 1 0) 0 labels zeros)

module _ (aim : Aim) (labels : List Label) (order : List ℕ) (labelled : length labels ≡ NODES) (ordered : length order ≡ NODES) (root : aim.root < NODES) (apart : aim.root ≢ aim.goal)
    (fresh : (node : ℕ) → (label_at labels node).mark < aim.mark) where
  abbrev label : Label
  label = record no_label { mark = aim.mark }

  abbrev begun : Spread
  begun = record { labels = set labels aim.root label; order = set order 0 aim.root; front = record { count = 1; cap = aim.cap; closing = None } }

  abbrev place : ℕ → ℕ
  place n = if n == aim.root then 0 else NODES

  place_root : place aim.root ≡ 0
  place_root = rw (eq-eqb aim.root aim.root refl) refl

  place_other : (n : ℕ) → n ≢ aim.root → place n ≡ NODES
  place_other n other = rw (ne_eqb n aim.root other) refl

  label_root : label_at begun.labels aim.root ≡ label
  label_root = label_at-set_same labels aim.root label (omega (arith, labelled))

  own_root : has_label aim begun aim.root ≡ true
  own_root = ap (is_own aim.mark) label_root ∙ eq-eqb aim.mark aim.mark refl

  none_other : (n : ℕ) → n ≢ aim.root → has_label aim begun n ≡ false
  none_other n other = ap (is_own aim.mark) (label_at-set_other labels aim.root n label other) ∙ ne_eqb _ _ (λ same. absurd (omega (arith, fresh n)))

  reach_root : reach aim begun aim.root ≡ 0
  reach_root = reach-own aim (label_at begun.labels aim.root) own_root ∙ ap (λ (l : Label). l.distance) label_root

  reach_other : (n : ℕ) → n ≢ aim.root → reach aim begun n ≡ aim.cap
  reach_other n other = reach-free aim (label_at begun.labels n) (none_other n other)

  root_alone : (n : ℕ) → has_label aim begun n ≡ true → n ≡ aim.root
  root_alone n has = elim (cases_eq n aim.root) [ inl same ↦ same | inr other ↦ absurd (both_ways (has_label aim begun n) (none_other n other) has) ]

  place_one : (n : ℕ) → place n < 1 → n ≡ aim.root
  place_one n below = elim (cases_eq n aim.root) [ inl same ↦ same | inr other ↦ absurd (omega (arith, place_other n other, root)) ]

  node_first : node_at begun 0 ≡ aim.root
  node_first = get_or-set_same order 0 aim.root 0 (omega (arith, ordered))

  pub IsSpread-begun : IsSpread aim 0 0 begun
  IsSpread-begun = record {
    place = place;
    listed = record {
      labelled = length-set labels aim.root label ∙ labelled;
      ordered = length-set order 0 aim.root ∙ ordered;
      all =
          let free : (n : ℕ) → is_own aim.mark (label_at labels n) ≡ false = λ n. ne_eqb _ _ (λ same. absurd (omega (arith, fresh n))) in
          let none = count_by_none aim.mark labels free in
          let one = count_by-set_more aim.mark aim.root labels label (omega (arith, labelled)) (free aim.root) (eq-eqb aim.mark aim.mark refl) in
          omega (arith, none, one);
      out = λ n none.
          elim (cases_eq n aim.root) [
            | inl same ↦ absurd (both_ways (has_label aim begun n) none (ap (has_label aim begun) same ∙ own_root))
            | inr other ↦ omega (arith, place_other n other)
          ];
      within = λ n has. let same : place n ≡ place aim.root = ap place (root_alone n has) in omega (arith, place_root);
      stands = λ n below.
          let same = place_one n below in
          ap (node_at begun) (ap place same ∙ place_root) ∙ node_first ∙ sym same;
      placed = λ at below.
          let first : at ≡ 0 = omega arith in
          ap place (ap (node_at begun) first ∙ node_first) ∙ place_root ∙ sym first;
    };
    marked = λ n.
        elim (cases_eq n aim.root) [
          | inl same ↦
              let marks : (label_at begun.labels n).mark ≡ aim.mark = ap (λ m. (label_at begun.labels m).mark) same ∙ ap (λ (l : Label). l.mark) label_root in
              omega arith
          | inr other ↦
              let marks : (label_at begun.labels n).mark ≡ (label_at labels n).mark = ap (λ (l : Label). l.mark) (label_at-set_other labels aim.root n label other) in
              omega (arith, fresh n)
        ];
    some = omega arith;
    capped = omega arith;
    reached = omega arith;
    lower = λ n done. absurd (omega arith);
    upper = λ n behind. omega arith;
    under = λ n.
        elim (cases_eq n aim.root) [
          | inl same ↦ let zero : reach aim begun n ≡ 0 = ap (reach aim begun) same ∙ reach_root in omega arith
          | inr other ↦ omega (arith, reach_other n other)
        ];
    root_here = own_root;
    root_zero = reach_root;
    goal_free = none_other aim.goal (λ same. apart (sym same));
    steps = λ n has other. absurd (other (root_alone n has));
    closing = refl;
  }
