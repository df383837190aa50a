use Rattle.std.specs.Prelude.{◌≤◌, ◌≡◌, length}
use Rattle.std.specs.Vec.{vec_capacity}
use Rattle.uhura_net.specs.declared.place.TheConstants.{PLACES}
use Rattle.uhura_search.proofs.Listing.{AreListedBelow}
use Rattle.uhura_search.proofs.places.list_in.Given as goal

-- those of the first places that have an edge are listed
abbrev pub invariant-loop-number : goal.invariant-loop-number
invariant-loop-number l = record {
  listed : AreListedBelow l.number l.listed.items l.table;
  room : PLACES ≤ vec_capacity l.listed;
  places : 1 ≤ l.number → length l.table ≡ PLACES;
}
