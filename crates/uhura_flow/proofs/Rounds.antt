-- Narrowing one gap after the other.
use Rattle.std.proofs.Common.{◌≡◌, ℕ, ◌+◌, ◌*◌, ◌^◌, ◌<◌, ◌≤◌, Bool, true, false, cond, ℤ, pos, ◌+ℤ◌, ◌-ℤ◌, ◌≤ℤ◌, ◌<ℤ◌, List, length, set, refl, ap, ◌∙◌, inl, inr, arith}
use Rattle.std.proofs.lemmas.Int.{ints, by_lt_z}
use Rattle.std.proofs.lemmas.Bool.{cases_lt}
use Rattle.std.proofs.lemmas.List.{get_or_past}
use lib.Signed.{lt_z}
use Rattle.uhura_net.specs.declared.edge.TheConstants.{NODES}
use Rattle.uhura_net.specs.declared.place.TheConstants.{PLACES}
use Rattle.uhura_net.specs.Sums.{sum_below}
use Rattle.uhura_net.specs.Edges.{Edges, time_at}
use Rattle.uhura_net.proofs.Sums.{sum_below-le, sum_below-most}
use Rattle.uhura_flow.specs.Flow.{AreWithin}
use Rattle.uhura_flow.specs.Reading.{is_touched, touched_nodes}
use Rattle.uhura_flow.specs.Narrowed.{wide, IsDrawn, AreDrawn, AreNarrowed, AreMarked, AreCleared, IsLeastAbove, IsGapNarrowed, lowered_to, AreLowered}
use Rattle.uhura_flow.proofs.Gaps.{same_sum}
use Rattle.uhura_flow.proofs.Lowering.{IsEachDone, IsEachDone-none, IsEachDone-set}
use Rattle.uhura_flow.proofs.Drawing.{AreDrawn-trans, AreDrawn-same}

-- what a potential that is lowered becomes
lowered_to-above : (level by z : ℤ) → level <ℤ z → lowered_to level by z ≡ z -ℤ by
lowered_to-above level by z above = grind (arith, ints)

lowered_to-below : (level by z : ℤ) → z ≤ℤ level → lowered_to level by z ≡ z
lowered_to-below level by z below = grind (arith, ints)

-- a gap that is narrow already stays
pub IsGapNarrowed-none : (level least : ℤ) (potentials : List ℤ) → least ≤ℤ (level +ℤ pos wide) → IsLeastAbove (length potentials) level potentials least →
    IsGapNarrowed level least potentials potentials least
IsGapNarrowed-none level least potentials narrow is = record {
  nodes = refl;
  by = pos 0;
  down = omega (arith, ints);
  lands = omega (arith, ints);
  above = is.above;
  most = narrow;
  cut = λ some. absurd (omega (arith, ints, some));
  low = λ node inside below. refl;
  high = λ node inside above. omega (arith, ints);
}

-- a wider one is narrowed by what it is wider
pub IsGapNarrowed-lowered : (level least by next : ℤ) (before after : List ℤ) → (level +ℤ pos wide) <ℤ least → next ≡ level +ℤ pos wide → next +ℤ by ≡ least →
    AreLowered level by before after → IsGapNarrowed level least before after next
IsGapNarrowed-lowered level least by next before after far is lands lowered = record {
  nodes = lowered.nodes;
  by = by;
  down = omega (arith, ints);
  lands = lands;
  above = omega (arith, ints);
  most = omega (arith, ints);
  cut = λ some. is;
  low = λ node inside below. lowered.each node inside ∙ lowered_to-below level by (time_at before node) below;
  high = λ node inside above.
      let down = lowered.each node inside ∙ lowered_to-above level by (time_at before node) above in
      omega (arith, ints, down);
}

-- by how much it is lowered
pub IsGapNarrowed-wide : (level least by next : ℤ) (before after : List ℤ) → next <ℤ least → by ≡ least -ℤ next → next ≡ level +ℤ pos wide →
    AreLowered level by before after → IsGapNarrowed level least before after next
IsGapNarrowed-wide level least by next before after far by_is is lowered =
    IsGapNarrowed-lowered level least by next before after (omega (arith, ints, far, is)) is (omega (arith, ints, by_is)) lowered

-- two potentials over a narrowed gap
drawn_over : (level least next : ℤ) (before after : List ℤ) (a b : ℕ) → IsGapNarrowed level least before after next → IsLeastAbove (length before) level before least →
    a < length before → b < length before → IsDrawn (time_at before a -ℤ time_at before b) (time_at after a -ℤ time_at after b)
drawn_over level least next before after a b gap is a_in b_in =
    by_lt_z level (time_at before a)
    (λ a_above. by_lt_z level (time_at before b)
    (λ b_above. inl (omega (arith, ints, gap.high a a_in a_above, gap.high b b_in b_above)))
    (λ b_below. by_lt_z (pos 0) gap.by
    (λ some. inr (inl (omega (arith, ints, is.between a a_in a_above, gap.lands, gap.cut some, some), omega (arith, ints, is.between a a_in a_above, gap.lands, gap.cut some, gap.high a a_in a_above, gap.low b b_in b_below))))
    (λ none. inl (omega (arith, ints, none, gap.down, gap.high a a_in a_above, gap.low b b_in b_below)))))
    (λ a_below. by_lt_z level (time_at before b)
    (λ b_above. by_lt_z (pos 0) gap.by
    (λ some. inr (inr (omega (arith, ints, is.between b b_in b_above, gap.lands, gap.cut some, some), omega (arith, ints, is.between b b_in b_above, gap.lands, gap.cut some, gap.high b b_in b_above, gap.low a a_in a_below))))
    (λ none. inl (omega (arith, ints, none, gap.down, gap.high b b_in b_above, gap.low a a_in a_below))))
    (λ b_below. inl (omega (arith, ints, gap.low a a_in a_below, gap.low b b_in b_below))))

-- 1 for a potential above 0 that is at most at a level
is_low : ℤ → ℤ → ℕ
is_low level z = cond (lt_z (pos 0) z) (cond (lt_z level z) 0 1) 0

is_low-in : (level z : ℤ) → pos 0 <ℤ z → z ≤ℤ level → is_low level z ≡ 1
unfolding is_low
is_low-in level z some below = grind (arith, ints)

is_low-above : (level z : ℤ) → level <ℤ z → is_low level z ≡ 0
unfolding is_low
is_low-above level z above = grind (arith, ints)

is_low-zero : (level z : ℤ) → z ≤ℤ pos 0 → is_low level z ≡ 0
unfolding is_low
is_low-zero level z none = grind (arith, ints)

is_low-most : (level z : ℤ) → is_low level z ≤ 1
unfolding is_low
is_low-most level z = grind (arith, ints)

-- how many potentials above 0 are at most at a level
pub count_low : ℤ → List ℤ → ℕ
count_low level potentials = sum_below NODES (λ node. is_low level (time_at potentials node))

-- What stands after some rounds: the gaps up to a level are narrow, and each round brought a potential below it.
pub record IsNarrowing (edges : Edges) (before after : List ℤ) (level : ℤ) (rounds : ℕ) : Type 0 where
  pub nodes : length after ≡ NODES
  pub drawn : AreDrawn (is_touched PLACES edges) (time_at before) (time_at after)
  pub touched : (node : ℕ) → node < NODES → pos 0 <ℤ time_at after node → is_touched PLACES edges node ≡ true
  pub within : (node : ℕ) → node < NODES → (pos 0 ≤ℤ time_at after node) × (time_at after node ≤ℤ pos (2 ^ 60))
  pub from : pos 0 ≤ℤ level
  pub most : level ≤ℤ pos (wide * count_low level after)
  pub counted : rounds ≤ count_low level after

-- a term that is greater makes a greater sum
sum_below-lt : (n : ℕ) (f g : ℕ → ℕ) (at : ℕ) → ((i : ℕ) → i < n → f i ≤ g i) → at < n → f at < g at → sum_below n f < sum_below n g
sum_below-lt n f g at less inside greater =
    elim (cases_lt (sum_below n f) (sum_below n g)) [
      | inl lt ↦ lt
      | inr most ↦ absurd (omega (arith, same_sum n f g less most at inside))
    ]

-- after a gap is narrowed the potential at its end is low too
more_low : (level least next : ℤ) (before after : List ℤ) → length before ≡ NODES → pos 0 ≤ℤ level → IsGapNarrowed level least before after next →
    IsLeastAbove (length before) level before least → count_low level before < count_low next after
unfolding count_low
more_low level least next before after nodes from gap is =
    let inside : is.node < NODES = omega (arith, is.inside) in
    let lands : time_at after is.node ≡ next = omega (arith, ints, gap.high is.node is.inside (omega (arith, ints, is.is, is.above)), is.is, gap.lands) in
    sum_below-lt NODES (λ node. is_low level (time_at before node)) (λ node. is_low next (time_at after node)) is.node
    (λ node below.
    let here : node < length before = omega arith in
    by_lt_z level (time_at before node)
    (λ above. omega (arith, is_low-above level (time_at before node) above))
    (λ low. by_lt_z (pos 0) (time_at before node)
    (λ some. omega (arith, is_low-most level (time_at before node), is_low-in next (time_at after node) (omega (arith, ints, gap.low node here low, some)) (omega (arith, ints, gap.low node here low, low, gap.above))))
    (λ none. omega (arith, is_low-zero level (time_at before node) none))))
    inside
    (omega (
      arith,
      is_low-above level (time_at before is.node) (omega (arith, ints, is.is, is.above)),
      is_low-in next (time_at after is.node) (omega (arith, ints, lands, from, gap.above)) (omega (arith, ints, lands)),
    ))

-- a potential above 0 isn't cleared
touched_by : (touched : Bool) (before after : ℤ) → after ≡ cond touched before (pos 0) → pos 0 <ℤ after → touched ≡ true
touched_by true before after is some = refl
touched_by false before after is some = absurd (omega (arith, ints, is, some))

cleared_within : (touched : Bool) (before after : ℤ) → after ≡ cond touched before (pos 0) → (pos 0 ≤ℤ before) × (before ≤ℤ pos (2 ^ 60)) → (pos 0 ≤ℤ after) × (after ≤ℤ pos (2 ^ 60))
cleared_within true before after is within = (omega (arith, ints, is, within.0), omega (arith, ints, is, within.1))
cleared_within false before after is within = (omega (arith, ints, is), omega (arith, ints, is))

pub IsNarrowing-more : (edges : Edges) (first before after : List ℤ) (level least next : ℤ) (rounds : ℕ) → IsNarrowing edges first before level rounds →
    IsLeastAbove (length before) level before least → IsGapNarrowed level least before after next → IsNarrowing edges first after next (rounds + 1)
IsNarrowing-more edges first before after level least next rounds so_far is gap =
    let more : count_low level before < count_low next after = more_low level least next before after so_far.nodes so_far.from gap is in
    let moved : (node : ℕ) → node < NODES → (pos 0 <ℤ time_at after node → pos 0 <ℤ time_at before node) × (pos 0 ≤ℤ time_at after node) × (time_at after node ≤ℤ time_at before node) = λ node below.
    let here : node < length before = omega (arith, so_far.nodes) in
    by_lt_z level (time_at before node)
    (λ above.
    let down = gap.high node here above in
    ((λ some. omega (arith, ints, so_far.from, above)), omega (arith, ints, down, is.between node here above, gap.lands, gap.above, so_far.from), omega (arith, ints, down, gap.down)))
    (λ low.
    let stays = gap.low node here low in
    ((λ some. omega (arith, ints, stays, some)), omega (arith, ints, stays, (so_far.within node below).0), omega (arith, ints, stays))) in
    record {
      nodes = gap.nodes ∙ so_far.nodes;
      drawn = AreDrawn-trans (is_touched PLACES edges) (time_at first) (time_at before) (time_at after) so_far.drawn
          (λ a b a_in b_in _ _. drawn_over level least next before after a b gap is (omega (arith, so_far.nodes)) (omega (arith, so_far.nodes)));
      touched = λ node below some. so_far.touched node below ((moved node below).0 some);
      within = λ node below. ((moved node below).1, omega (arith, ints, (moved node below).2, (so_far.within node below).1));
      from = omega (arith, ints, so_far.from, gap.above);
      most = omega (arith, ints, so_far.most, gap.most, more);
      counted = omega (arith, so_far.counted, more);
    }

-- all are at most at the level after as many rounds as there are nodes
all_low : (level : ℤ) (potentials : List ℤ) → NODES ≤ count_low level potentials → (node : ℕ) → node < NODES → time_at potentials node ≤ℤ level
unfolding count_low
all_low level potentials all node inside =
    by_lt_z level (time_at potentials node)
    (λ above.
    let ones : sum_below NODES (λ (i : ℕ). 1) ≤ sum_below NODES (λ i. is_low level (time_at potentials i)) = omega (arith, all, sum_below-most NODES 1 (λ (i : ℕ). 1) (λ i _. omega arith)) in
    let one = same_sum NODES (λ i. is_low level (time_at potentials i)) (λ (i : ℕ). 1) (λ i _. is_low-most level (time_at potentials i)) ones node inside in
    absurd (omega (arith, one, is_low-above level (time_at potentials node) above)))
    (λ below. below)

-- potentials at most at the level lie within the gaps of touched nodes
pub AreNarrowed-done : (edges : Edges) (before after : List ℤ) (level : ℤ) (rounds : ℕ) → IsNarrowing edges before after level rounds →
    ((node : ℕ) → node < NODES → time_at after node ≤ℤ level) → AreNarrowed edges before after
unfolding count_low
AreNarrowed-done edges before after level rounds so_far low =
    let few : count_low level after ≤ touched_nodes edges =
    sum_below-le NODES (λ node. is_low level (time_at after node)) (λ node. cond (is_touched PLACES edges node) 1 0)
    (λ node inside. by_lt_z (pos 0) (time_at after node)
    (λ some. rw (so_far.touched node inside some) (is_low-most level (time_at after node)))
    (λ none. omega (arith, is_low-zero level (time_at after node) none))) in
    record {
      drawn = so_far.drawn;
      range = λ node.
          elim (cases_lt node NODES) [
            | inl inside ↦ ((so_far.within node inside).0, omega (arith, ints, low node inside, so_far.most, few))
            | inr past ↦
                let none : time_at after node ≡ pos 0 = get_or_past after node (pos 0) (omega (arith, so_far.nodes)) in
                (omega (arith, ints, none), omega (arith, ints, none))
          ];
      nodes = so_far.nodes;
    }

pub AreNarrowed-all : (edges : Edges) (before after : List ℤ) (level : ℤ) (rounds : ℕ) → NODES ≤ rounds → IsNarrowing edges before after level rounds → AreNarrowed edges before after
AreNarrowed-all edges before after level rounds all so_far =
    AreNarrowed-done edges before after level rounds so_far (all_low level after (omega (arith, all, so_far.counted)))

-- potentials that are lowered so far
pub IsLoweredSoFar : ℤ → ℤ → List ℤ → List ℤ → ℕ → Type 0
IsLoweredSoFar level by before after count = IsEachDone (λ _ z. lowered_to level by z) before after count

pub IsLoweredSoFar-none : (level by : ℤ) (potentials : List ℤ) → IsLoweredSoFar level by potentials potentials 0
unfolding IsLoweredSoFar
IsLoweredSoFar-none level by potentials = IsEachDone-none (λ _ z. lowered_to level by z) potentials

pub IsLoweredSoFar-more : (level by z : ℤ) (before after : List ℤ) (count : ℕ) → count < length after → z ≡ lowered_to level by (time_at after count) →
    IsLoweredSoFar level by before after count → IsLoweredSoFar level by before (set after count z) (count + 1)
unfolding IsLoweredSoFar
IsLoweredSoFar-more level by z before after count inside is so_far =
    IsEachDone-set (λ _ y. lowered_to level by y) before after count z inside (is ∙ ap (λ y. lowered_to level by y) (so_far.rest count (omega arith))) so_far

pub AreLowered-done : (level by : ℤ) (before after : List ℤ) (count : ℕ) → length before ≤ count → IsLoweredSoFar level by before after count → AreLowered level by before after
unfolding IsLoweredSoFar
AreLowered-done level by before after count all so_far = record { nodes = so_far.nodes; each = λ node inside. so_far.done node (omega arith) }

-- potentials begin to be narrowed where those of other nodes are cleared
pub IsNarrowing-none : (edges : Edges) (marks : List Bool) (before after : List ℤ) → length before ≡ NODES → AreWithin (2 ^ 60) (time_at before) → AreMarked PLACES edges marks →
    AreCleared marks before after → IsNarrowing edges before after (pos 0) 0
IsNarrowing-none edges marks before after nodes within marked cleared =
    let each : (node : ℕ) → node < NODES → time_at after node ≡ cond (is_touched PLACES edges node) (time_at before node) (pos 0) = λ node inside.
    cleared.each node (omega arith) ∙ ap (λ b. cond b (time_at before node) (pos 0)) (marked.each node inside) in
    record {
      nodes = cleared.nodes ∙ nodes;
      drawn = AreDrawn-same (is_touched PLACES edges) (time_at before) (time_at after) (λ node inside touched. each node inside ∙ ap (λ b. cond b (time_at before node) (pos 0)) touched);
      touched = λ node inside some. touched_by (is_touched PLACES edges node) (time_at before node) (time_at after node) (each node inside) some;
      within = λ node inside. cleared_within (is_touched PLACES edges node) (time_at before node) (time_at after node) (each node inside) (within node);
      from = omega (arith, ints);
      most = omega (arith, ints);
      counted = omega arith;
    }
