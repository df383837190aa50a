use Rattle.std.proofs.Common.{rules, ◌≡◌, true, false, All, subst, ◌∙◌, arith}
use Rattle.std.proofs.lemmas.List.{take_all}
use Rattle.std.proofs.lemmas.List.Elements.{All-more}
use Rattle.uhura_relax.specs.Schedule.{proposal_with}
use Rattle.uhura_check.specs.Conditions.{HasRoom}
use Rattle.uhura_check.specs.Firsts.{IsFirstNot}
use Rattle.uhura_check.proofs.Firsts.{first-not}
use Rattle.uhura_check.proofs.room.first_without_room.Goals as goal

pub loop-place-preserved : goal.loop-place-preserved
loop-place-preserved c = λ times.
    let so : c.has_room.result ≡ true = search rules in
    All-more (HasRoom c.args.state.now (proposal_with c.args.branch.now c.args.loosening.now times)) c.pairs-pairs.result.now c.loop-place.place _ (omega (arith, c.loop-place-test.true)) (c.loop-place.invariant times) ((c.has_room.ensures times).0 so)

pub returns : goal.returns
returns c = λ times.
    subst (λ l. All (HasRoom c.args.state.now (proposal_with c.args.branch.now c.args.loosening.now times)) l)
    (take_all c.loop-place.place c.pairs-pairs.result.now (omega (arith, c.loop-place-test.false)) ∙ c.pairs-pairs.ensures.pairs) (c.loop-place.invariant times)

pub returns-then-not-has_room : goal.returns-then-not-has_room
returns-then-not-has_room c = λ times.
    let unso : c.has_room.result ≡ false = search rules in
    subst (λ l. IsFirstNot (HasRoom c.args.state.now (proposal_with c.args.branch.now c.args.loosening.now times)) l c.loop-place.place) c.pairs-pairs.ensures.pairs
    (first-not (HasRoom c.args.state.now (proposal_with c.args.branch.now c.args.loosening.now times)) c.pairs-pairs.result.now c.loop-place.place _ c.has_room.result
    (omega (arith, c.loop-place-test.true)) (c.has_room.ensures times) unso (c.loop-place.invariant times))
