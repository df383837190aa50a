use Rattle.std.proofs.Common.{◌≡◌, Some, sym, ◌∙◌, subst}
use Rattle.std.proofs.lemmas.Bool.{ne_eqb}
use Rattle.uhura_path.specs.declared.ways.Arc.{Arc}
use Rattle.uhura_path.specs.Quest.{aim_of}
use Rattle.uhura_path.specs.Search.{Spread, IsKept}
use Rattle.uhura_path.proofs.Reaching.{room_for_label}
use Rattle.uhura_path.proofs.Noting.{GoesOn-noted}
use Rattle.uhura_path.proofs.relaxing.relax.Goals as goal

pub note_label-requires-clause-room : goal.note_label-requires-clause-room
note_label-requires-clause-room c = λ free.
    let old : Spread = record { labels = c.args.labels.now; order = c.args.order.now; front = c.args.front.now } in
    let spreads = c.requires.at.1.spreads in
    room_for_label (aim_of c.args.quest.now) old spreads.place c.in-Some.arc.from spreads.listed c.in-Some.ensures.sound.starts (ne_eqb _ _ free)

pub returns-else-arc-quest-clause-on : goal.returns-else-arc-quest-clause-on
returns-else-arc-quest-clause-on c = λ taken at.
    let old : Spread = record { labels = c.args.labels.now; order = c.args.order.now; front = c.args.front.now } in
    let new : Spread = record { labels = c.note_label.new.labels; order = c.note_label.new.order; front = c.note_label.new.front } in
    let there = sym c.arc.ensures.arc ∙ c.in-Some.is in
    (GoesOn-noted (aim_of c.args.quest.now) taken c.args.node c.args.distance old c.in-Some.arc c.args.step at c.requires.place there (c.requires.ends c.in-Some.arc there) c.requires.quest.later
    c.in-Some.ensures.sound.starts c.if-cost-front.false (λ same. c.if-arc-quest.false (sym same)) new c.note_label.ensures).0

pub returns-else-arc-quest-clause-kept : goal.returns-else-arc-quest-clause-kept
returns-else-arc-quest-clause-kept c = λ arc is.
    let old : Spread = record { labels = c.args.labels.now; order = c.args.order.now; front = c.args.front.now } in
    let new : Spread = record { labels = c.note_label.new.labels; order = c.note_label.new.order; front = c.note_label.new.front } in
    let there = sym c.arc.ensures.arc ∙ c.in-Some.is in
    let both : Some c.in-Some.arc ≡ Some arc = sym there ∙ is in
    let same : c.in-Some.arc ≡ arc = cc in
    let P : Arc → Type 0 = λ a. IsKept (aim_of c.args.quest.now) new a in
    subst P same
    (GoesOn-noted (aim_of c.args.quest.now) c.requires.at.0 c.args.node c.args.distance old c.in-Some.arc c.args.step c.requires.at.1 c.requires.place there (c.requires.ends c.in-Some.arc there)
    c.requires.quest.later c.in-Some.ensures.sound.starts c.if-cost-front.false (λ same. c.if-arc-quest.false (sym same)) new c.note_label.ensures).1
