-- What a label says of its node, and how steps stay.
use Rattle.std.proofs.Common.{◌≡◌, ◌≢◌, ℕ, ◌+◌, ◌<◌, ◌≤◌, true, false, cond, if◌then◌else◌, List, length, set, count_by, refl, sym, ap, ◌∙◌, inl, inr, arith}
use Rattle.std.proofs.lemmas.Bool.{cases_lt, eq-eqb, eqb-true}
use Rattle.std.proofs.lemmas.List.{get_or_past, length-set, get_or-set_same, get_or-set_other}
use Rattle.std.proofs.lemmas.List.Sums.{sum_by-set, count_by-le-length}
use Rattle.uhura_net.specs.declared.edge.TheConstants.{NODES}
use Rattle.uhura_path.specs.declared.label.Step.{Step}
use Rattle.uhura_path.specs.declared.label.Label.{Label}
use Rattle.uhura_path.specs.Found.{no_label, label_at}
use Rattle.uhura_path.specs.Quest.{Aim}
use Rattle.uhura_path.specs.Search.{Spread, is_own, has_label, reach, IsListed, IsStep}

-- a label with another in its place
pub label_at-set_same : (labels : List Label) (node : ℕ) (label : Label) → node < length labels → label_at (set labels node label) node ≡ label
label_at-set_same labels node label inside = get_or-set_same labels node label _ inside

pub label_at-set_other : (labels : List Label) (node other : ℕ) (label : Label) → other ≢ node → label_at (set labels node label) other ≡ label_at labels other
label_at-set_other labels node other label apart = get_or-set_other labels node other label _ apart

-- how far a label says that its node is
abbrev pub reach_of : Aim → Label → ℕ
reach_of aim label = if is_own aim.mark label then label.distance else aim.cap

pub reach-own : (aim : Aim) (label : Label) → is_own aim.mark label ≡ true → reach_of aim label ≡ label.distance
reach-own aim label own = rw own refl

pub reach-free : (aim : Aim) (label : Label) → is_own aim.mark label ≡ false → reach_of aim label ≡ aim.cap
reach-free aim label free = rw free refl

-- only a node has a label of a search
pub inside_labelled : (aim : Aim) (spread : Spread) (node : ℕ) → 1 ≤ aim.mark → has_label aim spread node ≡ true → node < length spread.labels
inside_labelled aim spread node later own =
    elim (cases_lt node (length spread.labels)) [
      | inl inside ↦ inside
      | inr past ↦
          let none = get_or_past spread.labels node _ past in
          let same : 0 ≡ aim.mark = eqb-true 0 aim.mark (sym (ap (is_own aim.mark) none) ∙ own) in
          absurd (omega arith)
    ]

-- how many labels are a search's own
pub count_by-set_more : (mark node : ℕ) (labels : List Label) (label : Label) → node < length labels → is_own mark (label_at labels node) ≡ false → is_own mark label ≡ true →
    count_by (is_own mark) (set labels node label) ≡ count_by (is_own mark) labels + 1
count_by-set_more mark node labels label inside free own =
    let swapped = sum_by-set (λ l. cond (is_own mark l) 1 0) labels node label no_label inside in
    let more = rw (free, own) at swapped in
    omega (arith, more)

pub count_by-set_same : (mark node : ℕ) (labels : List Label) (label : Label) → node < length labels → is_own mark (label_at labels node) ≡ true → is_own mark label ≡ true →
    count_by (is_own mark) (set labels node label) ≡ count_by (is_own mark) labels
count_by-set_same mark node labels label inside before own =
    let swapped = sum_by-set (λ l. cond (is_own mark l) 1 0) labels node label no_label inside in
    let same = rw (before, own) at swapped in
    omega (arith, same)

-- where a node has no label, there is room for one more
pub room_for_label : (aim : Aim) (spread : Spread) (place : ℕ → ℕ) (node : ℕ) → IsListed aim spread place → node < NODES → is_own aim.mark (label_at spread.labels node) ≡ false →
    spread.front.count < NODES
room_for_label aim spread place node listed inside free =
    let label : Label = record (label_at spread.labels node) { mark = aim.mark } in
    let own : is_own aim.mark label ≡ true = eq-eqb aim.mark aim.mark refl in
    let more = count_by-set_more aim.mark node spread.labels label (omega (arith, listed.labelled)) free own in
    let most = count_by-le-length (is_own aim.mark) (set spread.labels node label) in
    omega (arith, more, most, listed.all, listed.labelled, length-set spread.labels node label)

-- a step stays where the done nodes do
pub IsStep-stays : (aim : Aim) (taken more : ℕ) (old new : Spread) (place after : ℕ → ℕ) (node cost : ℕ) (step : Step) → taken ≤ more →
    ((other : ℕ) → place other < taken → (after other ≡ place other) × (reach aim new other ≡ reach aim old other)) →
    ((at : ℕ) → at < taken → at < place node → at < after node) →
    IsStep aim taken old place node step cost → IsStep aim more new after node step cost
IsStep-stays aim taken more old new place after node cost step further same later is =
    let stays = same is.arc.to is.done in
    record {
      inside = is.inside;
      arc = is.arc;
      there = is.there;
      starts = is.starts;
      done = omega (arith, stays.0, is.done);
      earlier = let before : after is.arc.to < after node = omega (arith, stays.0, later (place is.arc.to) is.done is.earlier) in before;
      costs = omega (arith, stays.1, is.costs);
    }
