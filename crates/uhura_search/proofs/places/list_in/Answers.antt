use Rattle.std.proofs.Common.{◌≡◌, arith}
use Rattle.uhura_net.specs.declared.place.TheConstants.{PLACES}
use Rattle.uhura_search.proofs.Listing.{below-all}
use Rattle.uhura_search.proofs.places.list_in.Goals as goal

pub returns-clause-listed : goal.returns-clause-listed
returns-clause-listed c =
    let all : c.loop-number.number ≡ PLACES = omega arith in
    below-all c.loop-number.number c.loop-number.listed.items c.args.table.now all (c.loop-number.invariant.places (omega (arith, all))) c.loop-number.invariant.listed
