-- The steps of a walk, one by one.
use Rattle.std.proofs.Common.{◌≡◌, ◌≢◌, ℕ, zero, suc, ◌+◌, ◌<◌, ◌≤◌, Bool, false, List, [], ◌∷◌, length, Some, unwrap_or, slice_index_or, sym, ap, subst, ◌∙◌, inl, inr, arith}
use Rattle.std.proofs.lemmas.Bool.{cases_lt}
use Rattle.uhura_net.specs.declared.place.Place.{Place}
use Rattle.uhura_net.specs.Residual.{place_at}
use Rattle.uhura_path.specs.declared.ways.Arc.{Arc}
use Rattle.uhura_path.specs.Ways.{Arcs, no_arc}
use Rattle.uhura_path.specs.Walk.{IsWalk, arc_at, IsPath}
use Rattle.uhura_path.specs.Found.{AreDistances}
use Rattle.uhura_path.proofs.Distances.{walk_down}

-- the first arc
first_arc : (arcs : Arcs) (place : Place) (places : List Place) (back : Bool) (backward : List Bool) (arc : Arc) → arcs place.0 back ≡ Some arc →
    arc_at arcs (place ∷ places) (back ∷ backward) 0 ≡ arc
first_arc arcs place places back backward arc is = ap (λ o. unwrap_or o no_arc) is

-- there is an arc at each step
pub there_on_walk : (arcs : Arcs) (from : ℕ) (places : List Place) (backward : List Bool) (to cost : ℕ) → IsWalk arcs from places backward to cost →
    (step : ℕ) → step < length places → arcs (place_at places step) (slice_index_or backward step false) ≡ Some (arc_at arcs places backward step)
there_on_walk arcs from [] backward to cost walk step inside = absurd (omega arith)
there_on_walk arcs from (place ∷ places) [] to cost walk step inside = absurd walk
there_on_walk arcs from (place ∷ places) (back ∷ backward) to cost walk zero inside =
    walk.2 ∙ ap Some (sym (first_arc arcs place places back backward walk.0 walk.2))
there_on_walk arcs from (place ∷ places) (back ∷ backward) to cost walk (suc step) inside =
    there_on_walk arcs walk.0.to places backward to walk.1 walk.5 step (omega arith)

-- none costs more than the walk
pub cost_on_walk : (arcs : Arcs) (from : ℕ) (places : List Place) (backward : List Bool) (to cost : ℕ) → IsWalk arcs from places backward to cost →
    (step : ℕ) → step < length places → (arc_at arcs places backward step).cost ≤ cost
cost_on_walk arcs from [] backward to cost walk step inside = absurd (omega arith)
cost_on_walk arcs from (place ∷ places) [] to cost walk step inside = absurd walk
cost_on_walk arcs from (place ∷ places) (back ∷ backward) to cost walk zero inside =
    let same : (arc_at arcs (place ∷ places) (back ∷ backward) 0).cost ≡ walk.0.cost = ap (λ (a : Arc). a.cost) (first_arc arcs place places back backward walk.0 walk.2) in
    omega (arith, walk.4, same)
cost_on_walk arcs from (place ∷ places) (back ∷ backward) to cost walk (suc step) inside =
    omega (arith, walk.4, cost_on_walk arcs walk.0.to places backward to walk.1 walk.5 step (omega arith))

-- the first begins where the walk does, each ends where the next begins, and the last where the walk does
start_of_walk : (arcs : Arcs) (from : ℕ) (places : List Place) (backward : List Bool) (to cost : ℕ) → IsWalk arcs from places backward to cost →
    0 < length places → (arc_at arcs places backward 0).from ≡ from
start_of_walk arcs from [] backward to cost walk inside = absurd (omega arith)
start_of_walk arcs from (place ∷ places) [] to cost walk inside = absurd walk
start_of_walk arcs from (place ∷ places) (back ∷ backward) to cost walk inside =
    ap (λ (a : Arc). a.from) (first_arc arcs place places back backward walk.0 walk.2) ∙ walk.3

next_on_walk : (arcs : Arcs) (from : ℕ) (places : List Place) (backward : List Bool) (to cost : ℕ) → IsWalk arcs from places backward to cost →
    (step : ℕ) → suc step < length places → (arc_at arcs places backward step).to ≡ (arc_at arcs places backward (suc step)).from
next_on_walk arcs from [] backward to cost walk step inside = absurd (omega arith)
next_on_walk arcs from (place ∷ places) [] to cost walk step inside = absurd walk
next_on_walk arcs from (place ∷ places) (back ∷ backward) to cost walk zero inside =
    ap (λ (a : Arc). a.to) (first_arc arcs place places back backward walk.0 walk.2)
    ∙ sym (start_of_walk arcs walk.0.to places backward to walk.1 walk.5 (omega arith))
next_on_walk arcs from (place ∷ places) (back ∷ backward) to cost walk (suc step) inside =
    next_on_walk arcs walk.0.to places backward to walk.1 walk.5 step (omega arith)

last_of_walk : (arcs : Arcs) (from : ℕ) (places : List Place) (backward : List Bool) (to cost : ℕ) → IsWalk arcs from places backward to cost →
    (step : ℕ) → suc step ≡ length places → (arc_at arcs places backward step).to ≡ to
last_of_walk arcs from [] backward to cost walk step last = absurd (omega arith)
last_of_walk arcs from (place ∷ places) [] to cost walk step last = absurd walk
last_of_walk arcs from (place ∷ []) (back ∷ []) to cost walk zero last =
    ap (λ (a : Arc). a.to) (first_arc arcs place [] back [] walk.0 walk.2) ∙ walk.5.0
last_of_walk arcs from (place ∷ []) (back ∷ b ∷ backward) to cost walk zero last = absurd walk.5
last_of_walk arcs from (place ∷ p ∷ places) (back ∷ backward) to cost walk zero last = absurd (omega arith)
last_of_walk arcs from (place ∷ places) (back ∷ backward) to cost walk (suc step) last =
    last_of_walk arcs walk.0.to places backward to walk.1 walk.5 step (omega arith)

-- no arc of a path leads back to where it begins
pub never_into_start : (arcs : Arcs) (from : ℕ) (places : List Place) (backward : List Bool) (to cost : ℕ) → from ≢ to → IsPath arcs from places backward to cost →
    (step : ℕ) → step < length places → (arc_at arcs places backward step).to ≢ from
never_into_start arcs from places backward to cost apart path step inside same =
    elim (cases_lt (suc step) (length places)) [
      | inl more ↦
          path.once 0 (suc step) (omega arith) more
          (start_of_walk arcs from places backward to cost path.walk (omega arith) ∙ sym same ∙ next_on_walk arcs from places backward to cost path.walk step more)
      | inr last ↦ apart (sym same ∙ last_of_walk arcs from places backward to cost path.walk step (omega arith))
    ]

-- Along a walk that costs no more than the distance of its start, each arc leads down by what it costs.
abbrev pub IsTight : (ℕ → ℕ) → Arc → Type 0
IsTight distance arc = distance arc.from ≡ distance arc.to + arc.cost

pub tight_on_walk : (arcs : Arcs) (root cap : ℕ) (distance : ℕ → ℕ) → AreDistances arcs root cap distance → (from : ℕ) (places : List Place) (backward : List Bool) (cost : ℕ) →
    IsWalk arcs from places backward root cost → cost ≤ distance from → (step : ℕ) → step < length places → IsTight distance (arc_at arcs places backward step)
tight_on_walk arcs root cap distance are from [] backward cost walk few step inside = absurd (omega arith)
tight_on_walk arcs root cap distance are from (place ∷ places) [] cost walk few step inside = absurd walk
tight_on_walk arcs root cap distance are from (place ∷ places) (back ∷ backward) cost walk few zero inside =
    let same = first_arc arcs place places back backward walk.0 walk.2 in
    let start : distance walk.0.from ≡ distance from = ap distance walk.3 in
    let tight : IsTight distance walk.0 =
    omega (arith, start, walk.4, are.kept place.0 back walk.0 walk.2, walk_down arcs root cap distance are walk.0.to places backward root walk.1 walk.5, are.here) in
    subst (IsTight distance) (sym same) tight
tight_on_walk arcs root cap distance are from (place ∷ places) (back ∷ backward) cost walk few (suc step) inside =
    let start : distance walk.0.from ≡ distance from = ap distance walk.3 in
    tight_on_walk arcs root cap distance are walk.0.to places backward walk.1 walk.5 (omega (arith, start, walk.4, are.kept place.0 back walk.0 walk.2)) step (omega arith)
