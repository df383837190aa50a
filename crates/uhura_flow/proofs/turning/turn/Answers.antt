use Rattle.std.proofs.Common.{ℤ, List, sym, subst}
use Rattle.uhura_net.specs.Edges.{time_at}
use Rattle.uhura_path.specs.declared.ways.Ways.TheVariants.{Residual}
use Rattle.uhura_path.specs.declared.task.Task.{Task}
use Rattle.uhura_path.specs.Ways.{walkable, NoneIsBelow, arcs_of}
use Rattle.uhura_flow.specs.Turns.{walk_start, walk_end}
use Rattle.uhura_path.proofs.Turns.{NoneIsBelow-optimal}
use Rattle.uhura_flow.proofs.Trails.{some_room}
use Rattle.uhura_flow.proofs.Readiness.{IsAsked, IsAnswered, ready_found, turn_sent, turn_none, found_at, path_of, none_of}
use Rattle.uhura_flow.proofs.turning.turn.Goals as goal

pub search-found-requires-clause-costs : goal.search-found-requires-clause-costs
search-found-requires-clause-costs c =
    subst (λ (l : List ℤ). NoneIsBelow (walkable Residual c.args.net.now) (time_at l)) (sym c.values.ensures.values) (NoneIsBelow-optimal c.args.net.now (time_at c.args.potentials.now) c.requires.held.optimal)

pub send-requires : goal.send-requires
send-requires c =
    let net = c.args.net.now in
    let before = c.args.potentials.now in
    let through = c.args.through in
    let task : Task = record { root = walk_end through.edge through.back; goal = walk_start through.edge through.back; cap = c.args.cap } in
    let found = found_at net before c.values.result.now c.task_of-task.result task c.search-found.result c.values.ensures.values c.task_of-task.ensures c.search-found.ensures in
    let path = path_of (arcs_of (walkable Residual net) (time_at before)) task c.search-found.result c.in-Some.path found c.in-Some.is in
    let asked : IsAsked net before through c.args.cap c.args.most =
    record {
      held = c.requires.held;
      low = c.requires.potentials;
      some = c.requires.most;
      forth = c.requires.forth;
      forth_room = c.requires.forth_room;
      back = c.requires.back;
    } in
    let answered : IsAnswered net before c.lift.new.self through c.search-found.result.cost found.distance =
    record { distances = found.distances; goal = found.goal; lifted = c.lift.ensures found.distance found.reached } in (
      c.lift.new.self,
      ready_found net before c.lift.new.self through c.args.cap c.args.most c.search-found.result.cost found.distance c.in-Some.path.places.now c.in-Some.path.backward.now
          c.in-Some.path.least c.lesser_of-amount.result asked answered path.0 path.1.leads path.1.least c.lesser_of-amount.ensures.first c.lesser_of-amount.ensures.second,
    )

pub returns-in-Some : goal.returns-in-Some
returns-in-Some c =
    let net = c.args.net.now in
    let before = c.args.potentials.now in
    let through = c.args.through in
    let task : Task = record { root = walk_end through.edge through.back; goal = walk_start through.edge through.back; cap = c.args.cap } in
    let found = found_at net before c.values.result.now c.task_of-task.result task c.search-found.result c.values.ensures.values c.task_of-task.ensures c.search-found.ensures in
    let path = path_of (arcs_of (walkable Residual net) (time_at before)) task c.search-found.result c.in-Some.path found c.in-Some.is in
    let asked : IsAsked net before through c.args.cap c.args.most =
    record {
      held = c.requires.held;
      low = c.requires.potentials;
      some = c.requires.most;
      forth = c.requires.forth;
      forth_room = c.requires.forth_room;
      back = c.requires.back;
    } in
    let answered : IsAnswered net before c.lift.new.self through c.search-found.result.cost found.distance =
    record { distances = found.distances; goal = found.goal; lifted = c.lift.ensures found.distance found.reached } in
    let ready = ready_found net before c.lift.new.self through c.args.cap c.args.most c.search-found.result.cost found.distance c.in-Some.path.places.now c.in-Some.path.backward.now
    c.in-Some.path.least c.lesser_of-amount.result asked answered path.0 path.1.leads path.1.least c.lesser_of-amount.ensures.first c.lesser_of-amount.ensures.second in
    let room = some_room net (time_at before) (walk_start through.edge through.back) c.in-Some.path.places.now c.in-Some.path.backward.now (walk_end through.edge through.back)
    c.search-found.result.cost c.in-Some.path.least path.1.leads.walk path.1.least in
    turn_sent net c.send.new.net before c.lift.new.self through c.args.cap c.args.most c.search-found.result.cost c.lesser_of-amount.result found.distance asked answered found.most
    (c.lesser_of-amount.ensures.either room c.requires.most) c.lesser_of-amount.ensures.second (c.send.ensures c.lift.new.self ready)

pub returns-in-None : goal.returns-in-None
returns-in-None c =
    let net = c.args.net.now in
    let before = c.args.potentials.now in
    let through = c.args.through in
    let task : Task = record { root = walk_end through.edge through.back; goal = walk_start through.edge through.back; cap = c.args.cap } in
    let found = found_at net before c.values.result.now c.task_of-task.result task c.search-found.result c.values.ensures.values c.task_of-task.ensures c.search-found.ensures in
    let asked : IsAsked net before through c.args.cap c.args.most =
    record {
      held = c.requires.held;
      low = c.requires.potentials;
      some = c.requires.most;
      forth = c.requires.forth;
      forth_room = c.requires.forth_room;
      back = c.requires.back;
    } in
    let answered : IsAnswered net before c.lift.new.self through c.search-found.result.cost found.distance =
    record { distances = found.distances; goal = found.goal; lifted = c.lift.ensures found.distance found.reached } in
    turn_none net before c.lift.new.self through c.args.cap c.args.most c.search-found.result.cost found.distance asked answered
    (none_of (arcs_of (walkable Residual net) (time_at before)) task c.search-found.result found c.in-None.is)
