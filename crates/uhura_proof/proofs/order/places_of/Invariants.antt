use Rattle.uhura_proof.proofs.Places.{ArePlacesBelow}
use Rattle.uhura_proof.proofs.order.places_of.Given as goal

-- the table has the places of the requirements so far
abbrev pub invariant-loop-place : goal.invariant-loop-place
invariant-loop-place l = ArePlacesBelow l.place l.plan.requirements l.places.items
