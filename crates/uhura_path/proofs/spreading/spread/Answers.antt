use Rattle.std.proofs.Common.{◌≡◌, ℕ, ◌+◌, ◌<◌, Bool, Some, ◌∙◌, ap, subst, inl, inr, arith}
use Rattle.std.proofs.lemmas.Bool.{cases_lt}
use Rattle.uhura_net.specs.declared.edge.TheConstants.{NODES}
use Rattle.uhura_path.specs.declared.ways.Arc.{Arc}
use Rattle.uhura_path.specs.Quest.{Aim, aim_of}
use Rattle.uhura_path.specs.Search.{Spread, node_at, IsSpread, AreKept, GoesOn, IsKept, IsOver}
use Rattle.uhura_path.proofs.Noting.{few_listed}
use Rattle.uhura_path.proofs.Listwalk.{IsKept-grown}
use Rattle.uhura_path.proofs.Swapping.{IsSpread-swapped, AreKept-swapped, far_least, node_inside, IsAtNode-taken}
use Rattle.uhura_path.proofs.spreading.spread.Goals as goal

-- one more node is done
AreKept-more : (aim : Aim) (taken node level : ℕ) (old new : Spread) → GoesOn aim taken node level old new → AreKept aim taken old →
    ((place : ℕ) (backward : Bool) (arc : Arc) → aim.arcs place backward ≡ Some arc → arc.to ≡ node → IsKept aim new arc) → AreKept aim (taken + 1) new
AreKept-more aim taken node level old new on before here at below place backward arc is ends =
    elim (cases_lt at taken) [
      | inl earlier ↦
          let there : arc.to ≡ node_at old at = ends ∙ on.grown.order at below in
          IsKept-grown aim (taken + 1) at old new arc on.grown below there (before at earlier place backward arc is there)
      | inr last ↦
          let same : at ≡ taken = omega arith in
          here place backward arc is (ends ∙ ap (node_at new) same ∙ on.stays.here)
    ]

-- all nodes are done
IsOver-all : (aim : Aim) (taken level : ℕ) (spread : Spread) → taken ≡ NODES → IsSpread aim taken level spread → AreKept aim taken spread → IsOver aim NODES spread
IsOver-all aim taken level spread all spreads kept =
    let over : IsOver aim taken spread = record {
      level = level;
      spreads = spreads;
      kept = kept;
      near = λ at behind below. absurd (omega (arith, few_listed aim spread spreads.place spreads.listed));
    } in
    let P : ℕ → Type 0 = λ n. IsOver aim n spread in
    subst P all over

pub returns-then-distance-front : goal.returns-then-distance-front
returns-then-distance-front c =
    let aim : Aim = aim_of c.args.quest.now in
    let loop = c.loop-taken in
    let old : Spread = record { labels = loop.labels; order = loop.order; front = loop.front } in
    let order = c.take_least-node.new.order in
    let node = c.take_least-node.result in
    let was = loop.invariant.spreads in
    let some : loop.taken < loop.front.count = omega (arith, was.some) in
    let least = far_least aim loop.taken loop.invariant.level node old order was some c.take_least-node.ensures in
    record {
      level = loop.invariant.level;
      spreads = IsSpread-swapped aim loop.taken loop.invariant.level node old order was some c.take_least-node.ensures;
      kept = AreKept-swapped aim loop.taken loop.invariant.level node old order was some c.take_least-node.ensures loop.invariant.kept;
      near = λ at behind below. omega (arith, least at behind below);
    }

pub follow_back-requires-clause-node : goal.follow_back-requires-clause-node
follow_back-requires-clause-node c =
    let loop = c.loop-taken in
    let old : Spread = record { labels = loop.labels; order = loop.order; front = loop.front } in
    let was = loop.invariant.spreads in
    node_inside (aim_of c.args.quest.now) loop.taken loop.invariant.level c.take_least-node.result old c.take_least-node.new.order was (omega (arith, was.some)) c.take_least-node.ensures
    c.requires.quest.later

pub follow_back-requires-clause-at : goal.follow_back-requires-clause-at
follow_back-requires-clause-at c =
    let loop = c.loop-taken in
    let old : Spread = record { labels = loop.labels; order = loop.order; front = loop.front } in
    let was = loop.invariant.spreads in (
      loop.taken,
      IsAtNode-taken (aim_of c.args.quest.now) loop.taken loop.invariant.level c.take_least-node.result old c.take_least-node.new.order was (omega (arith, was.some))
          c.take_least-node.ensures (omega arith),
    )

pub loop-taken-preserved : goal.loop-taken-preserved
loop-taken-preserved c =
    let aim : Aim = aim_of c.args.quest.now in
    let loop = c.loop-taken in
    let old : Spread = record { labels = loop.labels; order = loop.order; front = loop.front } in
    let order = c.take_least-node.new.order in
    let node = c.take_least-node.result in
    let middle : Spread = record { labels = loop.labels; order = order; front = loop.front } in
    let new : Spread = record { labels = c.follow_back.new.labels; order = c.follow_back.new.order; front = c.follow_back.new.front } in
    let was = loop.invariant.spreads in
    let some : loop.taken < loop.front.count = omega (arith, was.some) in
    let at = IsAtNode-taken aim loop.taken loop.invariant.level node old order was some c.take_least-node.ensures (omega arith) in
    let on = c.follow_back.ensures.on loop.taken at in
    record {
      level = _;
      spreads = on.stays.spreads;
      kept = AreKept-more aim loop.taken node _ middle new on
          (AreKept-swapped aim loop.taken loop.invariant.level node old order was some c.take_least-node.ensures loop.invariant.kept) c.follow_back.ensures.kept;
    }

pub returns : goal.returns
returns c =
    let loop = c.loop-taken in
    IsOver-all (aim_of c.args.quest.now) loop.taken loop.invariant.level (record { labels = loop.labels; order = loop.order; front = loop.front }) (omega arith) loop.invariant.spreads
    loop.invariant.kept
