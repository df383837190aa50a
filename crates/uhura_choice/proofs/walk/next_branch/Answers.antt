-- The place that is looked at is one below the loop's.
use Rattle.std.proofs.Common.{◌≡◌, ◌+◌, ◌-◌, ◌<◌, ◌++◌, ◌∷◌, [], List, None, Some, sym, subst, ap, ◌∙◌, length, take, arith}
use Rattle.std.proofs.lemmas.List.{take_all}
use Rattle.uhura_choice.specs.declared.prefix.Pick.{Pick}
use Rattle.uhura_choice.specs.Branch.{IsPrefix}
use Rattle.uhura_choice.specs.Walk.{IsFirstFrom, later_at}
use Rattle.uhura_choice.proofs.Prefixes.{sound-have_alternatives}
use Rattle.uhura_choice.proofs.Laters.{NoneLater, none-later_whole, last-branch, later-passed, later-prefix, later-next}
use Rattle.uhura_choice.proofs.walk.next_branch.Goals as goal

pub loop-place-init : goal.loop-place-init
loop-place-init c =
    none-later_whole c.args.plan.now.choices c.args.branch.now (take (length c.entries.result.now) c.args.branch.now)
    (ap (λ p. take (length p) c.args.branch.now) c.entries.ensures.entries ∙ take_all (length c.args.branch.now) c.args.branch.now (omega arith))

pub loop-place-preserved : goal.loop-place-preserved
loop-place-preserved c =
    let branch = c.args.branch.now in
    let choices = c.args.plan.now.choices in
    let place = c.loop-place.place - 1 in
    let next : c.loop-place.place ≡ place + 1 = omega arith in
    let below : place < length branch = omega (arith, c.loop-place.auto.place, ap length c.entries.ensures.entries) in
    let last : later_at choices branch place ≡ None =
    ap (λ p. later_at choices p place) (sym c.entries-in-loop-place.ensures.entries) ∙ (sym c.later_at.ensures.later ∙ c.in_default.is) in
    later-passed choices branch place c.requires below last (subst (λ n. NoneLater choices branch (take n branch)) next c.loop-place.invariant)

pub first_from-requires : goal.first_from-requires
first_from-requires c =
    let branch = c.args.branch.now in
    let choices = c.args.plan.now.choices in
    let place = c.loop-place.place - 1 in
    let below : place < length branch = omega (arith, c.loop-place.auto.place, ap length c.entries.ensures.entries) in
    let later : later_at choices branch place ≡ Some c.in-Some.later =
    ap (λ p. later_at choices p place) (sym c.entries-in-loop-place.ensures.entries) ∙ (sym c.later_at.ensures.later ∙ c.in-Some.is) in
    let pushed : c.push.new.self ≡ take place branch ++ c.in-Some.later ∷ [] = c.push.ensures ∙ ap (λ (p : List Pick). p ++ c.in-Some.later ∷ []) c.front-prefix.ensures in
    subst (λ p. IsPrefix choices p) (sym pushed)
    (later-prefix choices branch place c.in-Some.later (sound-have_alternatives c.args.plan.now c.later_at.ensures.sound) c.requires below later)

pub returns-in-Some : goal.returns-in-Some
returns-in-Some c =
    let branch = c.args.branch.now in
    let choices = c.args.plan.now.choices in
    let place = c.loop-place.place - 1 in
    let next : c.loop-place.place ≡ place + 1 = omega arith in
    let below : place < length branch = omega (arith, c.loop-place.auto.place, ap length c.entries.ensures.entries) in
    let later : later_at choices branch place ≡ Some c.in-Some.later =
    ap (λ p. later_at choices p place) (sym c.entries-in-loop-place.ensures.entries) ∙ (sym c.later_at.ensures.later ∙ c.in-Some.is) in
    let pushed : c.push.new.self ≡ take place branch ++ c.in-Some.later ∷ [] = c.push.ensures ∙ ap (λ (p : List Pick). p ++ c.in-Some.later ∷ []) c.front-prefix.ensures in
    later-next choices branch place c.in-Some.later c.first_from.result c.requires below later
    (subst (λ n. NoneLater choices branch (take n branch)) next c.loop-place.invariant)
    (subst (λ p. IsFirstFrom choices p c.first_from.result) pushed c.first_from.ensures)

pub returns : goal.returns
returns c =
    let start : c.loop-place.place ≡ 0 = omega arith in
    last-branch c.args.plan.now.choices c.args.branch.now
    (subst (λ n. NoneLater c.args.plan.now.choices c.args.branch.now (take n c.args.branch.now)) start c.loop-place.invariant)
