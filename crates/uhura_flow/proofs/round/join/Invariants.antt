use Rattle.std.proofs.Common.{◌≡◌, ◌+◌, ◌∷◌, length, take}
use Rattle.uhura_flow.proofs.round.join.Given as goal

-- the first step and as many of the walk stand in front
abbrev pub invariant-loop-step : goal.invariant-loop-step
invariant-loop-step l = record {
  place_room : length l.round_places ≡ length l.fn.round_places;
  backward_room : length l.round_backward ≡ length l.fn.round_backward;
  places_in : take (l.step + 1) l.round_places ≡ l.fn.place ∷ take l.step l.places;
  backward_in : take (l.step + 1) l.round_backward ≡ l.back ∷ take l.step l.backward;
}
