use Rattle.std.proofs.Common.{◌+◌, ◌≤◌, ℤ, pos, List, length, sym, subst, ap, refl, ◌∙◌, arith}
use Rattle.uhura_net.specs.declared.place.Place.{Place}
use Rattle.uhura_net.specs.Edges.{time_at}
use Rattle.uhura_path.specs.declared.ways.Ways.TheVariants.{Firm}
use Rattle.uhura_path.specs.declared.task.Task.{Task}
use Rattle.uhura_path.specs.Ways.{walkable, NoneIsBelow, arcs_of}
use Rattle.uhura_flow.specs.Placing.{IsStuckWalk}
use Rattle.uhura_flow.proofs.Ways.{firm_not_below}
use Rattle.uhura_flow.proofs.Readiness.{path_of, none_of}
use Rattle.uhura_flow.proofs.Closing.{firm_found, walk_steps, few_firm_steps, stuck_walk, possible_apart}
use Rattle.uhura_flow.proofs.stuck.close_walk.Goals as goal

pub search-found-requires-clause-costs : goal.search-found-requires-clause-costs
search-found-requires-clause-costs c =
    subst (λ (l : List ℤ). NoneIsBelow (walkable Firm c.args.net.now) (time_at l)) (sym c.values.ensures.values)
    (firm_not_below c.args.net.now (time_at c.args.potentials.now) c.requires.sound.kept)

pub join-requires-clause-steps : goal.join-requires-clause-steps
join-requires-clause-steps c =
    let task : Task = record { root = c.args.edge.from; goal = c.args.edge.to; cap = c.args.cap } in
    let arcs = arcs_of (walkable Firm c.args.net.now) (time_at c.args.potentials.now) in
    let found = firm_found c.args.net.now c.args.potentials.now c.values.result.now task c.search-found.result c.values.ensures.values c.search-found.ensures in
    let path = path_of arcs task c.search-found.result c.in-Some.path found c.in-Some.is in
    walk_steps arcs c.args.edge.to c.in-Some.path.places.now c.in-Some.path.backward.now c.args.edge.from c.search-found.result.cost path.1.leads.walk

pub join-requires-clause-place_room : goal.join-requires-clause-place_room
join-requires-clause-place_room c =
    let task : Task = record { root = c.args.edge.from; goal = c.args.edge.to; cap = c.args.cap } in
    let arcs = arcs_of (walkable Firm c.args.net.now) (time_at c.args.potentials.now) in
    let found = firm_found c.args.net.now c.args.potentials.now c.values.result.now task c.search-found.result c.values.ensures.values c.search-found.ensures in
    let path = path_of arcs task c.search-found.result c.in-Some.path found c.in-Some.is in
    omega (
      arith,
      few_firm_steps c.args.net.now (time_at c.args.potentials.now) c.args.edge.to c.in-Some.path.places.now c.in-Some.path.backward.now c.args.edge.from c.search-found.result.cost
          c.requires.sound.sound path.1.leads,
      c.requires.room,
    )

pub join-requires-clause-backward_room : goal.join-requires-clause-backward_room
join-requires-clause-backward_room c =
    let task : Task = record { root = c.args.edge.from; goal = c.args.edge.to; cap = c.args.cap } in
    let arcs = arcs_of (walkable Firm c.args.net.now) (time_at c.args.potentials.now) in
    let found = firm_found c.args.net.now c.args.potentials.now c.values.result.now task c.search-found.result c.values.ensures.values c.search-found.ensures in
    let path = path_of arcs task c.search-found.result c.in-Some.path found c.in-Some.is in
    omega (
      arith,
      few_firm_steps c.args.net.now (time_at c.args.potentials.now) c.args.edge.to c.in-Some.path.places.now c.in-Some.path.backward.now c.args.edge.from c.search-found.result.cost
          c.requires.sound.sound path.1.leads,
      c.deref_mut.ensures.len,
      c.args.room.now.round.backward_room,
    )

pub returns-in-Some-clause-found : goal.returns-in-Some-clause-found
returns-in-Some-clause-found c =
    let task : Task = record { root = c.args.edge.from; goal = c.args.edge.to; cap = c.args.cap } in
    let arcs = arcs_of (walkable Firm c.args.net.now) (time_at c.args.potentials.now) in
    let found = firm_found c.args.net.now c.args.potentials.now c.values.result.now task c.search-found.result c.values.ensures.values c.search-found.ensures in
    let path = path_of arcs task c.search-found.result c.in-Some.path found c.in-Some.is in
    let few = few_firm_steps c.args.net.now (time_at c.args.potentials.now) c.args.edge.to c.in-Some.path.places.now c.in-Some.path.backward.now c.args.edge.from c.search-found.result.cost
    c.requires.sound.sound path.1.leads in
    let walk = stuck_walk c.args.net.now c.args.potentials.now c.args.place c.args.edge c.in-Some.path.places.now c.in-Some.path.backward.now c.search-found.result.cost c.args.cap
    c.requires.sound c.requires.place c.requires.firm c.requires.alike path.1.leads path.0 c.requires.cap in
    let steps : length c.in-Some.path.places.now + 1 ≤ length c.join.new.round_places = omega (arith, few, c.join.ensures.place_room, c.requires.room) in
    (steps, subst (λ (l : List Place). IsStuckWalk c.args.net.now.edges c.args.place.0 c.args.edge l) (sym c.join.ensures.places) walk)

pub returns-in-None-clause-found : goal.returns-in-None-clause-found
returns-in-None-clause-found c =
    let task : Task = record { root = c.args.edge.from; goal = c.args.edge.to; cap = c.args.cap } in
    let arcs = arcs_of (walkable Firm c.args.net.now) (time_at c.args.potentials.now) in
    let found = firm_found c.args.net.now c.args.potentials.now c.values.result.now task c.search-found.result c.values.ensures.values c.search-found.ensures in
    let all = none_of arcs task c.search-found.result found c.in-None.is in (
      possible_apart c.args.net.now c.args.potentials.now c.args.place.0 c.args.edge c.search-found.result.cost found.distance c.requires.sound c.requires.place c.requires.firm found.distances
          found.goal (ap pos all ∙ c.requires.cap),
      refl,
    )
