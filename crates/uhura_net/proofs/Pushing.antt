-- What a push does to a weighed sum.
use Rattle.std.proofs.Common.{◌≡◌, ◌≢◌, ℕ, zero, suc, ◌+◌, ◌<◌, Bool, true, false, cond, eqb, ℤ, pos, ◌+ℤ◌, List, [], ◌∷◌, length, refl, sym, ap, ◌∙◌, inl, inr, arith}
use Rattle.std.specs.Prelude.{◌*ℤ◌, neg_ℤ}
use Rattle.std.specs.List.{All, IsDistinct}
use Rattle.std.proofs.lemmas.Int.{ints}
use Rattle.std.proofs.lemmas.Bool.{cases_eq, eq-eqb, ne_eqb}
use Rattle.std.proofs.lemmas.List.Elements.{All-head, All-tail}
use Rattle.std.proofs.lemmas.Map.Keys.{IsDistinct-tail}
use Rattle.uhura_net.specs.declared.edge.Edge.{Edge}
use Rattle.uhura_net.specs.declared.place.Place.{Place}
use Rattle.uhura_net.specs.Edges.{Edges, edge_at}
use Rattle.uhura_net.specs.Sums.{int_sum_below}
use Rattle.uhura_net.specs.Circulation.{Units, weighed_sum}
use Rattle.uhura_net.specs.Residual.{residual_edge, residual_walk, is_same_place, place_at, IsMoved, IsPushed}
use Rattle.uhura_net.proofs.Scaled.{scaled_parts, scaled-plus, scaled-neg}
use Rattle.uhura_net.proofs.Sums.{int_sum_below-same}
use Rattle.uhura_net.proofs.Moves.{apart}

-- an edge walked backward weighs the opposite
pub record IsOdd (weight : Edge → ℤ) : Type 0 where
  pub forward : (edge : Edge) (units : ℕ) → weight (residual_edge edge units false) ≡ weight edge
  pub backward : (edge : Edge) (units : ℕ) → weight (residual_edge edge units true) ≡ neg_ℤ (weight edge)

-- what the edges of a walk weigh together
unfoldable pub weights_of : (Edge → ℤ) → List Edge → ℤ
weights_of weight [] = pos 0
weights_of weight (edge ∷ walk) = weight edge +ℤ weights_of weight walk

-- a sum where the units of one place changed
weighed_at : (n : ℕ) (edges : Edges) (before after : Units) (weight : Edge → ℤ) (at : ℕ) → at < n → ((place : ℕ) → place ≢ at → after place ≡ before place) →
    weighed_sum n edges after weight +ℤ (pos (before at) *ℤ weight (edge_at edges at)) ≡ weighed_sum n edges before weight +ℤ (pos (after at) *ℤ weight (edge_at edges at))
unfolding int_sum_below
weighed_at zero edges before after weight at inside others = absurd (omega arith)
weighed_at (suc n) edges before after weight at inside others =
    elim (cases_eq at n) [
      | inl last ↦
          let rest : weighed_sum n edges after weight ≡ weighed_sum n edges before weight =
          int_sum_below-same n (λ place. pos (after place) *ℤ weight (edge_at edges place)) (λ place. pos (before place) *ℤ weight (edge_at edges place))
          (λ place earlier. ap (λ u. pos u *ℤ weight (edge_at edges place)) (others place (λ same. let no : ⊥ = omega arith in no))) in
          let now = ap (λ place. pos (after place) *ℤ weight (edge_at edges place)) last in
          let then = ap (λ place. pos (before place) *ℤ weight (edge_at edges place)) last in
          omega (arith, ints, rest, now, then)
      | inr earlier ↦
          let same = ap (λ u. pos u *ℤ weight (edge_at edges n)) (others n (λ same. earlier (sym same))) in
          omega (arith, ints, weighed_at n edges before after weight at (omega arith) others, same)
    ]

-- a sum of multiples is the multiple of the sum
scaled_sum : (j k : ℕ) (z : ℤ) → pos (j + k) *ℤ z ≡ (pos j *ℤ z) +ℤ (pos k *ℤ z)
scaled_sum j k z = omega (arith, ints, scaled_parts (j + k) z, scaled_parts j z, scaled_parts k z)

-- what is moved at a place weighs as the residual edge does
moved_weight : (amount : ℕ) (back : Bool) (before after seen : ℕ) (edge : Edge) (weight : Edge → ℤ) → IsOdd weight → IsMoved amount back before after →
    pos after *ℤ weight edge ≡ (pos before *ℤ weight edge) +ℤ (pos amount *ℤ weight (residual_edge edge seen back))
moved_weight amount false before after seen edge weight odd moved =
    ap (λ u. pos u *ℤ weight edge) moved ∙ scaled_sum before amount (weight edge)
    ∙ ap (λ z. (pos before *ℤ weight edge) +ℤ (pos amount *ℤ z)) (sym (odd.forward edge seen))
moved_weight amount true before after seen edge weight odd moved =
    let whole = ap (λ u. pos u *ℤ weight edge) moved in
    let taken = ap (λ z. pos amount *ℤ z) (odd.backward edge seen) in
    omega (arith, ints, whole, taken, scaled_sum after amount (weight edge), scaled-neg amount (weight edge))

-- units after the first step alone
first_moved : ℕ → Units → Units → Units
first_moved at before after place = cond (eqb place at) (after place) (before place)

first_moved-here : (at place : ℕ) (before after : Units) → place ≡ at → first_moved at before after place ≡ after place
unfolding first_moved
first_moved-here at place before after same = rw (eq-eqb place at same) refl

first_moved-other : (at place : ℕ) (before after : Units) → place ≢ at → first_moved at before after place ≡ before place
unfolding first_moved
first_moved-other at place before after other = rw (ne_eqb place at other) refl

-- a place that isn't the first one, and none behind it
pub none_cons : (place : Place) (places : List Place) (at : ℕ) → place.0 ≢ at → ((step : ℕ) → step < length places → place_at places step ≢ at) →
    (step : ℕ) → step < length (place ∷ places) → place_at (place ∷ places) step ≢ at
none_cons place places at first rest zero inside = first
none_cons place places at first rest (suc step) inside = rest step (omega arith)

-- the steps behind the first
pushed_tail : (place : Place) (places : List Place) (back : Bool) (backward : List Bool) (amount : ℕ) (before after : Units) → IsDistinct is_same_place (place ∷ places) →
    IsPushed (place ∷ places) (back ∷ backward) amount before after → IsPushed places backward amount (first_moved place.0 before after) after
pushed_tail place places back backward amount before after once pushed = record {
  moved = λ step inside.
      let other : place_at places step ≢ place.0 = λ same. apart (place ∷ places) 0 (suc step) once (omega arith) (omega arith) (sym same) in
      rw (first_moved-other place.0 (place_at places step) before after other) (pushed.moved (suc step) (omega arith));
  others = λ at none.
      elim (cases_eq at place.0) [
        | inl same ↦ sym (first_moved-here place.0 at before after same)
        | inr other ↦ pushed.others at (none_cons place places at (λ same. other (sym same)) none) ∙ sym (first_moved-other place.0 at before after other)
      ];
}

-- a push adds the weight of its walk, once for each unit
pub pushed_weight : (n : ℕ) (edges : Edges) (seen : Units) (weight : Edge → ℤ) (amount : ℕ) (places : List Place) (backward : List Bool) (before after : Units) → IsOdd weight →
    length backward ≡ length places → All (λ (place : Place). place.0 < n) places → IsDistinct is_same_place places → IsPushed places backward amount before after →
    weighed_sum n edges after weight ≡ weighed_sum n edges before weight +ℤ (pos amount *ℤ weights_of weight (residual_walk edges seen places backward))
unfolding weights_of
pushed_weight n edges seen weight amount [] backward before after odd steps inside once pushed =
    let same : weighed_sum n edges after weight ≡ weighed_sum n edges before weight =
    int_sum_below-same n (λ place. pos (after place) *ℤ weight (edge_at edges place)) (λ place. pos (before place) *ℤ weight (edge_at edges place))
    (λ place _. ap (λ u. pos u *ℤ weight (edge_at edges place)) (pushed.others place (λ step never. absurd (omega arith)))) in
    omega (arith, ints, same, scaled_parts amount (pos 0))
pushed_weight n edges seen weight amount (place ∷ places) [] before after odd steps inside once pushed = absurd (omega arith)
pushed_weight n edges seen weight amount (place ∷ places) (back ∷ backward) before after odd steps inside once pushed =
    let mid : Units = first_moved place.0 before after in
    let fewer : length backward ≡ length places = omega arith in
    let rest = pushed_weight n edges seen weight amount places backward mid after odd fewer (All-tail (λ (p : Place). p.0 < n) place places inside)
    (IsDistinct-tail is_same_place place places once) (pushed_tail place places back backward amount before after once pushed) in
    let within : place.0 < n = All-head (λ (p : Place). p.0 < n) place places inside in
    let first = weighed_at n edges before mid weight place.0 within (λ at other. first_moved-other place.0 at before after other) in
    let here = ap (λ u. pos u *ℤ weight (edge_at edges place.0)) (first_moved-here place.0 place.0 before after refl) in
    let moved = moved_weight amount back (before place.0) (after place.0) (seen place.0) (edge_at edges place.0) weight odd (pushed.moved 0 (omega arith)) in
    omega (
      arith,
      ints,
      rest,
      first,
      here,
      moved,
      scaled-plus amount (weight (residual_edge (edge_at edges place.0) (seen place.0) back)) (weights_of weight (residual_walk edges seen places backward)),
    )
