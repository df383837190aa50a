use Rattle.std.proofs.Common.{◌≡◌, ◌+◌, ◌∷◌, length, drop, Some, refl, ap, subst, arith}
use Rattle.std.specs.Prelude.{MatchResult}
use Rattle.std.proofs.lemmas.List.{drop_all}
use Rattle.uhura_plan.specs.Lists.{Lists}
use Rattle.uhura_choice.specs.Walk.{IsFirstBranch}
use Rattle.uhura_check.specs.Table.{leaf_asks}
use Rattle.uhura_check.specs.Failure.{IsToldFirst}
use Rattle.uhura_check.specs.Walked.{IsPassed}
use Rattle.uhura_check.proofs.Leaving.{begins-way, goes-on, stops-here, misses, drop-there}
use Rattle.uhura_check.proofs.leaves.leaves_failure.Goals as goal

pub loop-place-init : goal.loop-place-init
loop-place-init c =
    begins-way c.args.document.now c.args.answer.now 0 (record { next = Some c.first_branch.result; line = c.in_ok-entries.entries.leaves_line }) c.first_branch.result refl
    (subst (λ (p : Lists). IsFirstBranch p.choices c.first_branch.result) c.plan_of.ensures.plan c.first_branch.ensures) refl c.in_ok-entries.ensures.leaves_line

pub returns-in-Err : goal.returns-in-Err
returns-in-Err c =
    let d = c.args.document.now in
    let answer = c.args.answer.now in
    let under = c.loop-place.invariant in
    let leaf = c.index-leaves-place.result in
    let here : drop c.loop-place.place d.leaves ≡ leaf ∷ drop (c.loop-place.place + 1) d.leaves = drop-there d.leaves c.leaves_of-leaves.result.now c.loop-place.place leaf c.leaves_of-leaves.ensures.leaves (omega (arith, c.loop-place-test.true)) c.index-leaves-place.is in
    stops-here d answer c.loop-place.place c.loop-place.reached under leaf (drop (c.loop-place.place + 1) d.leaves) here c.in-Err.failure
    (subst (λ r. MatchResult r (IsPassed d answer under.before under.line leaf) (IsToldFirst d.state answer (leaf_asks d under.before under.line leaf))) c.in-Err.is
    (c.pass_leaf.ensures under.before under.line under.covers under.is_told))

pub loop-place-preserved : goal.loop-place-preserved
loop-place-preserved c =
    let d = c.args.document.now in
    let answer = c.args.answer.now in
    let under = c.loop-place.invariant in
    let leaf = c.index-leaves-place.result in
    let here : drop c.loop-place.place d.leaves ≡ leaf ∷ drop (c.loop-place.place + 1) d.leaves = drop-there d.leaves c.leaves_of-leaves.result.now c.loop-place.place leaf c.leaves_of-leaves.ensures.leaves (omega (arith, c.loop-place-test.true)) c.index-leaves-place.is in
    goes-on d answer c.loop-place.place c.loop-place.reached under leaf (drop (c.loop-place.place + 1) d.leaves) here (c.loop-place.place + 1) c.in-Ok.further refl
    (subst (λ r. MatchResult r (IsPassed d answer under.before under.line leaf) (IsToldFirst d.state answer (leaf_asks d under.before under.line leaf))) c.in-Ok.is
    (c.pass_leaf.ensures under.before under.line under.covers under.is_told))

pub returns : goal.returns
returns c =
    misses c.args.document.now c.args.answer.now c.loop-place.place c.loop-place.reached c.loop-place.invariant
    (drop_all c.loop-place.place c.args.document.now.leaves (omega (arith, c.loop-place-test.false, ap length c.leaves_of-leaves.ensures.leaves))) c.missing.result c.missing.ensures
