use Rattle.std.proofs.Common.{◌≡◌, [], ◌∷◌, ◌++◌, ◌+◌, length, take, Some, sym, ap, subst, ◌∙◌, arith, length-take-le}
use Rattle.std.proofs.lemmas.List.{take_more}
use Rattle.std.proofs.lemmas.Option.{slice_get-get_or}
use Rattle.uhura_cert.specs.Taking.{IsPickAt}
use Rattle.uhura_cert.specs.Machine.{ArePicksNamed}
use Rattle.uhura_cert.proofs.PrefixNames.{named_next, too_many, none_at}
use Rattle.uhura_cert.proofs.prefix.find_prefix.Goals as goal

pub returns-then-place-choices : goal.returns-then-place-choices
returns-then-place-choices c = λ prefix are.
    too_many c.args.plan.now.choices c.args.names.now prefix (omega (arith, c.if-place-choices.true, c.loop-place-test.true, c.choices-choices.ensures.count)) are

pub returns-in_default : goal.returns-in_default
returns-in_default c = λ prefix are.
    none_at c.args.plan.now.choices c.args.names.now c.loop-place.place c.index-names-place.result
    (slice_get-get_or c.args.names.now c.loop-place.place c.index-names-place.result c.loop-place-test.true ∙ ap (λ n. Some n) (sym c.index-names-place.is))
    (λ pick is. c.in_default.ensures pick is) prefix are

pub loop-place-preserved : goal.loop-place-preserved
loop-place-preserved c =
    let choices = c.args.plan.now.choices in
    let names = c.args.names.now in
    let place = c.loop-place.place in
    let name = c.index-names-place.result in
    let more : take (place + 1) names ≡ take place names ++ name ∷ [] =
    take_more names place name c.loop-place-test.true ∙ ap (λ n. take place names ++ n ∷ []) (sym c.index-names-place.is) in
    let many : length (take place names) ≡ place = length-take-le place names (omega (arith, c.loop-place-test.true)) in
    subst (λ ns. ArePicksNamed choices ns c.push.new.self.items) (sym more)
    (subst (λ ps. ArePicksNamed choices (take place names ++ name ∷ []) ps) (sym c.in_ok-push.ensures.items)
    (named_next choices (take place names) c.loop-place.picks.items name c.in-Some.pick c.loop-place.invariant
    (subst (λ k. IsPickAt choices k name c.in-Some.pick) (sym many) c.in-Some.ensures)))
