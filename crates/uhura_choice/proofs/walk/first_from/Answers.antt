use Rattle.std.proofs.Common.{◌≡◌, ap, sym, subst, length, arith}
use Rattle.uhura_choice.proofs.Prefixes.{sound-have_alternatives, prefix-few}
use Rattle.uhura_choice.proofs.Fillings.{IsFilledTo, filled-none, filled-next, filled-all}
use Rattle.uhura_choice.proofs.walk.first_from.Goals as goal

pub loop-place-init : goal.loop-place-init
loop-place-init c =
    subst (λ p. IsFilledTo c.args.plan.now.choices c.args.prefix (length p) c.args.prefix) (sym c.entries.ensures.entries)
    (filled-none c.args.plan.now.choices c.args.prefix c.requires)

pub loop-place-preserved : goal.loop-place-preserved
loop-place-preserved c =
    rw c.push.ensures
    (filled-next c.args.plan.now.choices c.args.prefix c.loop-place.prefix c.loop-place.place c.entry.result
    (sound-have_alternatives c.args.plan.now c.entry.ensures.sound) c.loop-place.invariant (omega (arith, c.choices-place-end.ensures.count)) c.entry.ensures.entry)

pub returns : goal.returns
returns c =
    let few = prefix-few c.args.plan.now.choices c.args.prefix c.requires in
    let past = c.loop-place.auto.place-end (omega (arith, few, ap length c.entries.ensures.entries, c.choices-place-end.ensures.count)) in
    let all : c.loop-place.place ≡ length c.args.plan.now.choices = omega (arith, past, c.choices-place-end.ensures.count) in
    filled-all c.args.plan.now.choices c.args.prefix c.loop-place.prefix
    (subst (λ n. IsFilledTo c.args.plan.now.choices c.args.prefix n c.loop-place.prefix) all c.loop-place.invariant)
