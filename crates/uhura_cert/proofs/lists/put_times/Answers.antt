use Rattle.std.proofs.Common.{◌≡◌, ◌<◌, length, map, flat_map, take, refl, ap, ◌∙◌, arith, ◌++◌, ℕ}
use Rattle.std.specs.List.{zip}
use Rattle.uhura_item.specs.Item.{item_line}
use Rattle.uhura_cert.specs.Items.{time_item}
use Rattle.uhura_cert.proofs.Writing.{time_more, all_times}
use Rattle.uhura_cert.proofs.lists.put_times.Goals as goal

pub loop-place-preserved : goal.loop-place-preserved
loop-place-preserved c =
    let within : c.loop-place.place < length c.args.times.now = omega (arith, c.requires.count, c.events-place-end.ensures.count) in
    time_more c.args.plan.now.events c.args.times.now c.loop-place.place c.event_at-event.result _ _ _ _ c.event_at-event.ensures.there within refl c.loop-place.invariant c.in_ok-put_item.ensures.ok

pub returns : goal.returns
returns c =
    let events = c.args.plan.now.events in
    let times = c.args.times.now in
    let end : c.loop-place.place ≡ length events = omega (arith, c.events-place-end.ensures.count) in
    c.loop-place.invariant
    ∙ ap (λ (n : ℕ). c.args.out.now.items ++ flat_map item_line (map time_item (take n (zip events times)))) end
    ∙ ap (λ is. c.args.out.now.items ++ flat_map item_line is) (all_times events times c.requires.count)
