use Rattle.std.proofs.Common.{◌≡◌, ℕ, ◌+◌, ◌<◌, min, length, take, set, None, Some, Fits, w64, refl, sym, subst, ◌∙◌, arith, rules}
use Rattle.uhura_net.specs.Edges.{time_at}
use Rattle.uhura_path.specs.Ways.{Arcs, walkable, arcs_of}
use Rattle.uhura_path.specs.Walk.{IsLeastRoom}
use Rattle.uhura_path.specs.Found.{label_at}
use Rattle.uhura_path.specs.Quest.{aim_of}
use Rattle.uhura_path.specs.Search.{Spread}
use Rattle.uhura_path.proofs.Ends.{AreOpposite-arcs, AreOpposite-directed}
use Rattle.uhura_path.proofs.Backtrack.{IsTraced, few_done, IsTraced-first, IsTraced-more, IsPath-traced}
use Rattle.uhura_path.proofs.tracing.trace.Goals as goal

pub loop-count-init : goal.loop-count-init
loop-count-init c = λ taken order front closed.
    let spread : Spread = record { labels = c.args.labels.now; order = order; front = front } in
    IsTraced-first (aim_of c.args.quest.now) taken spread closed.over c.args.closing 18446744073709551615 c.args.places.now c.args.backward.now closed.first refl

pub arc-requires-clause-place : goal.arc-requires-clause-place
arc-requires-clause-place c = (c.loop-count.invariant c.requires.over.0 c.requires.over.1 c.requires.over.2 c.requires.over.3).next.inside

pub returns-in_default : goal.returns-in_default
returns-in_default c =
    let next = (c.loop-count.invariant c.requires.over.0 c.requires.over.1 c.requires.over.2 c.requires.over.3).next in
    let never : None ≡ Some next.arc = sym c.in_default.is ∙ c.arc.ensures.arc ∙ next.there in
    absurd (let no : ⊥ = cc in no)

pub returns-then-arc-quest-clause-path : goal.returns-then-arc-quest-clause-path
returns-then-arc-quest-clause-path c = λ taken order front closed.
    let loop = c.loop-count in
    let spread : Spread = record { labels = c.args.labels.now; order = order; front = front } in
    let quest = c.args.quest.now in
    let arcs : Arcs = arcs_of (walkable quest.ways quest.net.now) (time_at quest.potentials.now) in
    let opposite = AreOpposite-directed quest.outward arcs (AreOpposite-arcs quest.ways quest.net.now (time_at quest.potentials.now)) in
    let fits : Fits w64 c.in-Some.arc.room = search rules in
    let in_places : loop.count < length loop.places = omega (arith, loop.auto.places, c.requires.places, c.loop-count-test.true) in
    let in_backward : loop.count < length loop.backward = omega (arith, loop.auto.backward, c.requires.backward, c.loop-count-test.true) in
    (IsPath-traced (aim_of quest) taken spread closed.over loop.count loop.step loop.least loop.places loop.backward c.in-Some.arc (loop.invariant taken order front closed)
    in_places in_backward (sym c.arc.ensures.arc ∙ c.in-Some.is) (omega (arith, fits)) opposite c.if-arc-quest.true).0

pub returns-then-arc-quest-clause-least : goal.returns-then-arc-quest-clause-least
returns-then-arc-quest-clause-least c =
    let loop = c.loop-count in
    let taken = c.requires.over.0 in
    let order = c.requires.over.1 in
    let front = c.requires.over.2 in
    let closed = c.requires.over.3 in
    let spread : Spread = record { labels = c.args.labels.now; order = order; front = front } in
    let quest = c.args.quest.now in
    let arcs : Arcs = arcs_of (walkable quest.ways quest.net.now) (time_at quest.potentials.now) in
    let opposite = AreOpposite-directed quest.outward arcs (AreOpposite-arcs quest.ways quest.net.now (time_at quest.potentials.now)) in
    let fits : Fits w64 c.in-Some.arc.room = search rules in
    let in_places : loop.count < length loop.places = omega (arith, loop.auto.places, c.requires.places, c.loop-count-test.true) in
    let in_backward : loop.count < length loop.backward = omega (arith, loop.auto.backward, c.requires.backward, c.loop-count-test.true) in
    let least : min loop.least c.in-Some.arc.room ≡ c.min-least.result = omega (arith, c.min-least.ensures) in
    let path = IsPath-traced (aim_of quest) taken spread closed.over loop.count loop.step loop.least loop.places loop.backward c.in-Some.arc (loop.invariant taken order front closed)
    in_places in_backward (sym c.arc.ensures.arc ∙ c.in-Some.is) (omega (arith, fits)) opposite c.if-arc-quest.true in
    let P : ℕ → Type 0 = λ n. IsLeastRoom (aim_of quest).arcs (take (loop.count + 1) (set loop.places loop.count loop.step.place))
    (take (loop.count + 1) (set loop.backward loop.count loop.step.backward)) n in
    subst P least path.1

pub loop-count-preserved : goal.loop-count-preserved
loop-count-preserved c = λ taken order front closed.
    let loop = c.loop-count in
    let spread : Spread = record { labels = c.args.labels.now; order = order; front = front } in
    let quest = c.args.quest.now in
    let arcs : Arcs = arcs_of (walkable quest.ways quest.net.now) (time_at quest.potentials.now) in
    let opposite = AreOpposite-directed quest.outward arcs (AreOpposite-arcs quest.ways quest.net.now (time_at quest.potentials.now)) in
    let fits : Fits w64 c.in-Some.arc.room = search rules in
    let in_places : loop.count < length loop.places = omega (arith, loop.auto.places, c.requires.places, c.loop-count-test.true) in
    let in_backward : loop.count < length loop.backward = omega (arith, loop.auto.backward, c.requires.backward, c.loop-count-test.true) in
    let least : min loop.least c.in-Some.arc.room ≡ c.min-least.result = omega (arith, c.min-least.ensures) in
    let more = IsTraced-more (aim_of quest) taken spread closed.over loop.count loop.step loop.least loop.places loop.backward c.in-Some.arc (loop.invariant taken order front closed)
    in_places in_backward (sym c.arc.ensures.arc ∙ c.in-Some.is) (omega (arith, fits)) c.if-arc-quest.false in
    let P : ℕ → Type 0 = λ n. IsTraced (aim_of quest) taken spread closed.over.spreads.place (loop.count + 1) (label_at c.args.labels.now c.in-Some.arc.to).step n (set loop.places loop.count loop.step.place)
    (set loop.backward loop.count loop.step.backward) in
    subst P least more

pub returns : goal.returns
returns c =
    let taken = c.requires.over.0 in
    let closed = c.requires.over.3 in
    let spread : Spread = record { labels = c.args.labels.now; order = c.requires.over.1; front = c.requires.over.2 } in
    let traced = c.loop-count.invariant taken c.requires.over.1 c.requires.over.2 closed in
    absurd (omega (arith, traced.bound, few_done (aim_of c.args.quest.now) taken spread closed.over, c.loop-count-test.false))
