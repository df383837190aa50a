use Rattle.std.proofs.Common.{◌≡◌, ℕ, ◌+◌, Bool, true, false, Some, ◌∙◌, sym, arith}
use Rattle.uhura_path.specs.declared.ways.Arc.{Arc}
use Rattle.uhura_path.specs.Quest.{Aim, aim_of}
use Rattle.uhura_path.specs.Search.{Spread, GoesOn, IsKept}
use Rattle.uhura_path.proofs.Listwalk.{IsKept-grown, GoesOn-trans}
use Rattle.uhura_path.proofs.following.follow_back.Goals as goal

pub returns-clause-on : goal.returns-clause-on
returns-clause-on c = λ taken at.
    let first : Spread = record { labels = c.args.labels.now; order = c.args.order.now; front = c.args.front.now } in
    let old : Spread = record { labels = c.follow_list.new.labels; order = c.follow_list.new.order; front = c.follow_list.new.front } in
    let new : Spread = record { labels = c.follow_list-2.new.labels; order = c.follow_list-2.new.order; front = c.follow_list-2.new.front } in
    let before = c.follow_list.ensures.on taken at in
    GoesOn-trans (aim_of c.args.quest.now) taken c.args.node c.args.distance first old new before (c.follow_list-2.ensures.on taken before.stays)

-- the arcs of the first list stay kept while the second is followed
kept_by_both : (aim : Aim) (taken node level : ℕ) (first old new : Spread) → GoesOn aim taken node level first old → GoesOn aim taken node level old new →
    ((place : ℕ) (arc : Arc) → aim.arcs place false ≡ Some arc → arc.to ≡ node → IsKept aim old arc) →
    ((place : ℕ) (arc : Arc) → aim.arcs place true ≡ Some arc → arc.to ≡ node → IsKept aim new arc) →
    (place : ℕ) (backward : Bool) (arc : Arc) → aim.arcs place backward ≡ Some arc → arc.to ≡ node → IsKept aim new arc
kept_by_both aim taken node level first old new before after forward back place false arc is ends =
    IsKept-grown aim (taken + 1) taken old new arc after.grown (omega arith) (ends ∙ sym before.stays.here) (forward place arc is ends)
kept_by_both aim taken node level first old new before after forward back place true arc is ends = back place arc is ends

pub returns-clause-kept : goal.returns-clause-kept
returns-clause-kept c =
    let first : Spread = record { labels = c.args.labels.now; order = c.args.order.now; front = c.args.front.now } in
    let old : Spread = record { labels = c.follow_list.new.labels; order = c.follow_list.new.order; front = c.follow_list.new.front } in
    let new : Spread = record { labels = c.follow_list-2.new.labels; order = c.follow_list-2.new.order; front = c.follow_list-2.new.front } in
    let before = c.follow_list.ensures.on c.requires.at.0 c.requires.at.1 in
    kept_by_both (aim_of c.args.quest.now) c.requires.at.0 c.args.node c.args.distance first old new before (c.follow_list-2.ensures.on c.requires.at.0 before.stays)
    c.follow_list.ensures.kept c.follow_list-2.ensures.kept
