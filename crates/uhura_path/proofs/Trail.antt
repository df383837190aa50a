-- Writing down the steps from the goal to the root, one after another.
use Rattle.std.proofs.Common.{◌≡◌, ◌≢◌, ℕ, ◌+◌, ◌-◌, ◌^◌, ◌<◌, ◌≤◌, min, Bool, true, false, List, [], ◌∷◌, ◌++◌, length, take, set, get_or, Option, Some, unwrap_or, ◌⊎◌, refl, sym, ap, subst, ◌∙◌, inl, inr, arith}
use Rattle.std.specs.List.{IsDistinct, AllPairs}
use Rattle.std.specs.Bool.{Decides}
use Rattle.std.proofs.lemmas.Bool.{cases_lt, eqb-true, eq-eqb}
use Rattle.std.proofs.lemmas.List.{get_or_default, get_or-set_same, get_or-set_other, get_or-take, length-take-le, take_more_set}
use Rattle.std.proofs.lemmas.Map.Made.{IsDistinct-from_AllPairs}
use Rattle.uhura_net.specs.declared.place.Place.{Place}
use Rattle.uhura_net.specs.Residual.{is_same_place, place_at}
use Rattle.uhura_path.specs.declared.ways.Arc.{Arc}
use Rattle.uhura_path.specs.Ways.{Arcs, no_arc}
use Rattle.uhura_path.specs.Walk.{IsWalk, arc_at, IsLeastRoom, IsPath}

-- whether a step goes backward
abbrev pub back_at : List Bool → ℕ → Bool
back_at backward step = get_or backward step false

abbrev no_place : Place
no_place = record { 0 = 0 }

-- a walk goes on along one more arc
pub walk_more : (arcs : Arcs) (from : ℕ) (places : List Place) (backward : List Bool) (to cost : ℕ) (place : Place) (back : Bool) (arc : Arc) →
    IsWalk arcs from places backward to cost → arcs place.0 back ≡ Some arc → arc.from ≡ to →
    IsWalk arcs from (places ++ place ∷ []) (backward ++ back ∷ []) arc.to (cost + arc.cost)
walk_more arcs from [] [] to cost place back arc walk there starts = (arc, 0, there, starts ∙ sym walk.0, omega (arith, walk.1), (refl, refl))
walk_more arcs from [] (b ∷ backward) to cost place back arc walk there starts = absurd walk
walk_more arcs from (p ∷ places) [] to cost place back arc walk there starts = absurd walk
walk_more arcs from (p ∷ places) (b ∷ backward) to cost place back arc walk there starts =
    (walk.0, walk.1 + arc.cost, walk.2, walk.3, omega (arith, walk.4), walk_more arcs walk.0.to places backward to walk.1 place back arc walk.5 there starts)

-- The first steps that are written down lead from the goal to a node. They go to ever earlier places.
pub record IsPrefix (arcs : Arcs) (goal : ℕ) (place : ℕ → ℕ) (count node cost least : ℕ) (places : List Place) (backward : List Bool) : Type 0 where
  pub walk : IsWalk arcs goal (take count places) (take count backward) node cost
  pub there : (step : ℕ) → step < count → arcs (place_at places step) (back_at backward step) ≡ Some (arc_at arcs places backward step)
  pub down : (step : ℕ) → step < count → place (arc_at arcs places backward step).to < place (arc_at arcs places backward step).from
  pub falls : (step later : ℕ) → step < later → later < count → place (arc_at arcs places backward later).from < place (arc_at arcs places backward step).from
  pub last : (step : ℕ) → step < count → place node < place (arc_at arcs places backward step).from
  pub room : (step : ℕ) → step < count → least ≤ (arc_at arcs places backward step).room
  pub least_is : ((count ≡ 0) × (least ≡ 2 ^ 64 - 1)) ⊎ ((step : ℕ) × (step < count) × ((arc_at arcs places backward step).room ≡ least))

pub IsPrefix-none : (arcs : Arcs) (goal : ℕ) (place : ℕ → ℕ) (least : ℕ) (places : List Place) (backward : List Bool) → least ≡ 2 ^ 64 - 1 →
    IsPrefix arcs goal place 0 goal 0 least places backward
IsPrefix-none arcs goal place least places backward is = record {
  walk = (refl, refl);
  there = λ step never. absurd (omega arith);
  down = λ step never. absurd (omega arith);
  falls = λ step later before never. absurd (omega arith);
  last = λ step never. absurd (omega arith);
  room = λ step never. absurd (omega arith);
  least_is = inl (refl, is);
}

module _ (arcs : Arcs) (goal : ℕ) (place : ℕ → ℕ) (count node cost least : ℕ) (places : List Place) (backward : List Bool) (at : Place) (back : Bool) (arc : Arc)
    (in_places : count < length places) (in_backward : count < length backward) (there : arcs at.0 back ≡ Some arc) where
  abbrev more_places : List Place
  more_places = set places count at

  abbrev more_backward : List Bool
  more_backward = set backward count back

  place_before : (step : ℕ) → step < count → place_at more_places step ≡ place_at places step
  place_before step below = ap (λ (p : Place). p.0) (get_or-set_other places count step at no_place (λ same. omega arith))

  back_before : (step : ℕ) → step < count → back_at more_backward step ≡ back_at backward step
  back_before step below = get_or-set_other backward count step back false (λ same. omega arith)

  abbrev arc_of_step : ℕ → Bool → Arc
  arc_of_step p b = unwrap_or (arcs p b) no_arc

  arc_before : (step : ℕ) → step < count → arc_at arcs more_places more_backward step ≡ arc_at arcs places backward step
  arc_before step below =
      ap (λ p. arc_of_step p (back_at more_backward step)) (place_before step below) ∙ ap (arc_of_step (place_at places step)) (back_before step below)

  place_here : place_at more_places count ≡ at.0
  place_here = ap (λ (p : Place). p.0) (get_or-set_same places count at no_place in_places)

  back_here : back_at more_backward count ≡ back
  back_here = get_or-set_same backward count back false in_backward

  some_arc : (found : Option Arc) → found ≡ Some arc → unwrap_or found no_arc ≡ arc
  some_arc found is = ap (λ o. unwrap_or o no_arc) is

  arc_here : arc_at arcs more_places more_backward count ≡ arc
  arc_here = ap (λ p. arc_of_step p (back_at more_backward count)) place_here ∙ ap (arc_of_step at.0) back_here ∙ some_arc (arcs at.0 back) there

  there_before : (step : ℕ) → step < count → arcs (place_at places step) (back_at backward step) ≡ Some (arc_at arcs places backward step) →
      arcs (place_at more_places step) (back_at more_backward step) ≡ Some (arc_at arcs more_places more_backward step)
  there_before step below is =
      ap (λ p. arcs p (back_at more_backward step)) (place_before step below) ∙ ap (arcs (place_at places step)) (back_before step below) ∙ is
      ∙ ap Some (sym (arc_before step below))

  there_here : arcs (place_at more_places count) (back_at more_backward count) ≡ Some (arc_at arcs more_places more_backward count)
  there_here = ap (λ p. arcs p (back_at more_backward count)) place_here ∙ ap (arcs at.0) back_here ∙ there ∙ ap Some (sym arc_here)

  -- what holds of the arcs before and of this one holds of all
  all_steps : (P : Arc → Type 0) → ((step : ℕ) → step < count → P (arc_at arcs places backward step)) → P arc → (step : ℕ) → step < count + 1 →
      P (arc_at arcs more_places more_backward step)
  all_steps P before here step below =
      elim (cases_lt step count) [
        | inl earlier ↦ subst P (sym (arc_before step earlier)) (before step earlier)
        | inr last ↦
            let same : step ≡ count = omega arith in
            subst P (sym (ap (arc_at arcs more_places more_backward) same ∙ arc_here)) here
      ]

  pub IsPrefix-more : arc.from ≡ node → place arc.to < place node → arc.room < 2 ^ 64 → IsPrefix arcs goal place count node cost least places backward →
      IsPrefix arcs goal place (count + 1) arc.to (cost + arc.cost) (min least arc.room) more_places more_backward
  IsPrefix-more starts earlier fits so_far =
      let start_here : place arc.from ≡ place node = ap place starts in
      let Goes : List Place → List Bool → Type 0 = λ ps bs. IsWalk arcs goal ps bs arc.to (cost + arc.cost) in
      let walked = walk_more arcs goal (take count places) (take count backward) node cost at back arc so_far.walk there starts in
      let with_places : Goes (take (count + 1) more_places) (take count backward ++ back ∷ []) =
      subst (λ ps. Goes ps (take count backward ++ back ∷ [])) (sym (take_more_set places count at in_places)) walked in
      record {
        walk = subst (Goes (take (count + 1) more_places)) (sym (take_more_set backward count back in_backward)) with_places;
        there = λ step below.
            elim (cases_lt step count) [
              | inl before ↦ there_before step before (so_far.there step before)
              | inr last ↦
                  let same : step ≡ count = omega arith in
                  let P : ℕ → Type 0 = λ n. arcs (place_at more_places n) (back_at more_backward n) ≡ Some (arc_at arcs more_places more_backward n) in
                  subst P (sym same) there_here
            ];
        down = all_steps (λ a. place a.to < place a.from) so_far.down (omega (arith, start_here));
        falls = λ step later before below.
            let first : place (arc_at arcs more_places more_backward step).from ≡ place (arc_at arcs places backward step).from =
            ap (λ (a : Arc). place a.from) (arc_before step (omega arith)) in
            elim (cases_lt later count) [
              | inl inside ↦
                  let second : place (arc_at arcs more_places more_backward later).from ≡ place (arc_at arcs places backward later).from =
                  ap (λ (a : Arc). place a.from) (arc_before later inside) in
                  omega (arith, so_far.falls step later before inside)
              | inr last ↦
                  let same : later ≡ count = omega arith in
                  let second : place (arc_at arcs more_places more_backward later).from ≡ place arc.from =
                  ap (λ n. place (arc_at arcs more_places more_backward n).from) same ∙ ap (λ (a : Arc). place a.from) arc_here in
                  omega (arith, so_far.last step (omega arith))
            ];
        last = all_steps (λ a. place arc.to < place a.from) (λ step below. omega (arith, so_far.last step below)) (omega (arith, start_here));
        room = all_steps (λ a. min least arc.room ≤ a.room) (λ step below. omega (arith, so_far.room step below)) (omega arith);
        least_is = inr (elim so_far.least_is [
          | inl none ↦ (count, omega arith, let room : (arc_at arcs more_places more_backward count).room ≡ arc.room = ap (λ (a : Arc). a.room) arc_here in omega (arith, none.1))
          | inr some ↦
              elim (cases_lt arc.room least) [
                | inl less ↦ (count, omega arith, let room : (arc_at arcs more_places more_backward count).room ≡ arc.room = ap (λ (a : Arc). a.room) arc_here in omega arith)
                | inr most ↦ (
                  some.0,
                  omega (arith, some.1),
                  let room : (arc_at arcs more_places more_backward some.0).room ≡ (arc_at arcs places backward some.0).room =
                      ap (λ (a : Arc). a.room) (arc_before some.0 some.1) in omega (arith, some.2),
                )
              ]
        ]);
      }

-- the arcs of a place, forward and backward, lead between the same nodes
abbrev pub AreOpposite : Arcs → Type 0
AreOpposite arcs = (place : ℕ) (a b : Arc) → arcs place false ≡ Some a → arcs place true ≡ Some b → (a.from ≡ b.to) × (a.to ≡ b.from)

module _ (arcs : Arcs) (goal : ℕ) (place : ℕ → ℕ) (count root cost least : ℕ) (places : List Place) (backward : List Bool) (whole : IsPrefix arcs goal place count root cost least places backward)
    (in_places : count ≤ length places) (in_backward : count ≤ length backward) where
  abbrev first_places : List Place
  first_places = take count places

  abbrev first_backward : List Bool
  first_backward = take count backward

  steps : length first_places ≡ count
  steps = length-take-le count places in_places

  place_first : (step : ℕ) → step < count → place_at first_places step ≡ place_at places step
  place_first step below = ap (λ (p : Place). p.0) (get_or-take count places step no_place below)

  arc_first : (step : ℕ) → step < count → arc_at arcs first_places first_backward step ≡ arc_at arcs places backward step
  arc_first step below =
      ap (λ p. unwrap_or (arcs p (back_at first_backward step)) no_arc) (place_first step below)
      ∙ ap (λ b. unwrap_or (arcs (place_at places step) b) no_arc) (get_or-take count backward step false below)

  pub IsLeastRoom-prefix : 1 ≤ count → IsLeastRoom arcs first_places first_backward least
  IsLeastRoom-prefix some =
      let found = found_least whole.least_is in
      record {
        below = λ step inside.
            let room : (arc_at arcs first_places first_backward step).room ≡ (arc_at arcs places backward step).room = ap (λ (a : Arc). a.room) (arc_first step (omega (arith, steps))) in
            omega (arith, whole.room step (omega (arith, steps)));
        step = found.0;
        inside = omega (arith, steps, found.1);
        reached = ap (λ (a : Arc). a.room) (arc_first found.0 found.1) ∙ found.2;
      }
    where
      found_least : ((count ≡ 0) × (least ≡ 2 ^ 64 - 1)) ⊎ ((step : ℕ) × (step < count) × ((arc_at arcs places backward step).room ≡ least)) →
          (step : ℕ) × (step < count) × ((arc_at arcs places backward step).room ≡ least)
      found_least (inl none) = absurd (omega (arith, none.0))
      found_least (inr is) = is

  -- two steps at one place
  twice : AreOpposite arcs → (step later : ℕ) → step < later → later < count → (there : Bool) (after : Bool) → back_at backward step ≡ there → back_at backward later ≡ after →
      place_at places step ≡ place_at places later → ⊥
  twice opposite step later before below there after is_there is_after same =
      let first : arcs (place_at places later) there ≡ Some (arc_at arcs places backward step) =
      ap (λ p. arcs p there) (sym same) ∙ ap (arcs (place_at places step)) (sym is_there) ∙ whole.there step (omega arith) in
      let second : arcs (place_at places later) after ≡ Some (arc_at arcs places backward later) =
      ap (arcs (place_at places later)) (sym is_after) ∙ whole.there later below in
      by_ways there after first second
    where
      crossed : (arc_at arcs places backward step).from ≡ (arc_at arcs places backward later).to → (arc_at arcs places backward step).to ≡ (arc_at arcs places backward later).from → ⊥
      crossed one other =
          let up : place (arc_at arcs places backward step).from ≡ place (arc_at arcs places backward later).to = ap place one in
          let down : place (arc_at arcs places backward step).to ≡ place (arc_at arcs places backward later).from = ap place other in
          absurd (omega (arith, whole.down step (omega arith), whole.down later below))

      equal : Some (arc_at arcs places backward step) ≡ Some (arc_at arcs places backward later) → ⊥
      equal both =
          let one : arc_at arcs places backward step ≡ arc_at arcs places backward later = cc in
          let at : place (arc_at arcs places backward step).from ≡ place (arc_at arcs places backward later).from = ap (λ (a : Arc). place a.from) one in
          absurd (omega (arith, whole.falls step later before below))

      by_ways : (b c : Bool) → arcs (place_at places later) b ≡ Some (arc_at arcs places backward step) → arcs (place_at places later) c ≡ Some (arc_at arcs places backward later) → ⊥
      by_ways false false first second = equal (sym first ∙ second)
      by_ways true true first second = equal (sym first ∙ second)
      by_ways false true first second = let ends = opposite (place_at places later) _ _ first second in crossed ends.0 ends.1
      by_ways true false first second = let ends = opposite (place_at places later) _ _ second first in crossed (sym ends.1) (sym ends.0)

  -- no place stands twice
  apart_places : AreOpposite arcs → IsDistinct is_same_place first_places
  apart_places opposite =
      let decides : (a b : Place) → Decides (is_same_place a b) (a ≡ b) = λ a b.
      (λ yes. ap (λ n. let p : Place = record { 0 = n } in p) (eqb-true a.0 b.0 yes), λ same. eq-eqb a.0 b.0 (ap (λ (p : Place). p.0) same)) in
      let pairs : AllPairs (λ (x : Place) (y : Place). x ≢ y) first_places = λ step later other before below same.
      let inside : later < count = omega (arith, steps) in
      let first : get_or first_places step other ≡ get_or places step other = get_or-take count places step other (omega arith) in
      let second : get_or first_places later other ≡ get_or places later other = get_or-take count places later other inside in
      let one : get_or places step no_place ≡ get_or places later no_place =
      get_or_default places step no_place other (omega arith) ∙ sym first ∙ same ∙ second ∙ get_or_default places later other no_place (omega arith) in
      twice opposite step later before inside (back_at backward step) (back_at backward later) refl refl (ap (λ (p : Place). p.0) one) in
      IsDistinct-from_AllPairs decides first_places pairs

  pub IsPath-prefix : AreOpposite arcs → IsPath arcs goal first_places first_backward root cost
  IsPath-prefix opposite = record {
    walk = whole.walk;
    once = λ step later before below same.
        let inside : later < count = omega (arith, steps) in
        let first : place (arc_at arcs first_places first_backward step).from ≡ place (arc_at arcs places backward step).from =
        ap (λ (a : Arc). place a.from) (arc_first step (omega arith)) in
        let second : place (arc_at arcs first_places first_backward later).from ≡ place (arc_at arcs places backward later).from =
        ap (λ (a : Arc). place a.from) (arc_first later inside) in
        let at : place (arc_at arcs first_places first_backward step).from ≡ place (arc_at arcs first_places first_backward later).from = ap place same in
        absurd (omega (arith, whole.falls step later before inside));
    ends = λ step below same.
        let inside : step < count = omega (arith, steps) in
        let first : place (arc_at arcs first_places first_backward step).from ≡ place (arc_at arcs places backward step).from =
        ap (λ (a : Arc). place a.from) (arc_first step inside) in
        let at : place (arc_at arcs first_places first_backward step).from ≡ place root = ap place same in
        absurd (omega (arith, whole.last step inside));
    places_once = apart_places opposite;
  }
