use Rattle.std.proofs.Common.{◌+◌, ◌∙◌, sym, arith}
use Rattle.uhura_path.specs.Quest.{Aim, aim_of}
use Rattle.uhura_path.specs.Search.{Spread}
use Rattle.uhura_path.proofs.Listwalk.{IsKept-grown, GoesOn-trans, HasMet-next, AreMet}
use Rattle.uhura_path.proofs.following.follow_list.Goals as goal

pub relax-requires-clause-ends : goal.relax-requires-clause-ends
relax-requires-clause-ends c = λ arc there.
    let met = rw c.in-Some.is at (c.loop-count.invariant.met c.requires.lists.ranked) in
    let inside = rw c.in-Some.is at c.loop-count.invariant.inside in
    c.requires.ends c.in-Some.place.0 arc there ∙ met.here inside

pub loop-count-preserved : goal.loop-count-preserved
loop-count-preserved c =
    let aim : Aim = aim_of c.args.quest.now in
    let first : Spread = record { labels = c.args.labels.now; order = c.args.order.now; front = c.args.front.now } in
    let old : Spread = record { labels = c.loop-count.labels; order = c.loop-count.order; front = c.loop-count.front } in
    let new : Spread = record { labels = c.relax.new.labels; order = c.relax.new.order; front = c.relax.new.front } in
    let taken = c.requires.at.0 in
    let inside = rw c.in-Some.is at c.loop-count.invariant.inside in
    let at_old = (c.loop-count.invariant.on taken c.requires.at.1).stays in
    record {
      inside = c.next-at.ensures.inside;
      on = λ taken at.
          let before = c.loop-count.invariant.on taken at in
          GoesOn-trans aim taken c.args.node c.args.distance first old new before (c.relax.ensures.on taken before.stays);
      met = λ ranked.
          let met = rw c.in-Some.is at (c.loop-count.invariant.met ranked) in
          HasMet-next aim c.args.backward c.args.lists.now ranked c.args.node c.requires.node old new c.in-Some.place.0 _ c.loop-count._count inside c.next-at.ensures.next met
          (λ place there kept arc is.
          IsKept-grown aim (taken + 1) taken old new arc (c.relax.ensures.on taken at_old).grown (omega arith) (c.requires.ends place arc is ∙ there ∙ sym at_old.here) (kept arc is))
          c.relax.ensures.kept;
    }

pub returns-clause-kept : goal.returns-clause-kept
returns-clause-kept c = λ place arc is ends.
    let new : Spread = record { labels = c.loop-count.labels; order = c.loop-count.order; front = c.loop-count.front } in
    let ranked = c.requires.lists.ranked in
    let met = c.loop-count.invariant.met ranked in
    AreMet (aim_of c.args.quest.now) c.args.backward c.args.lists.now ranked c.args.node c.requires.node new _ c.loop-count._count
    (omega (arith, met.left, c.requires.lists.few)) met place (sym (c.requires.ends place arc is) ∙ ends) arc is
