use Rattle.std.proofs.Common.{◌≡◌, ℤ, to_z, of_z, w64, subst, arith}
use Rattle.std.proofs.lemmas.Int.{ints}
use Rattle.uhura_net.specs.Circulation.{edges_of}
use Rattle.uhura_flow.specs.Narrowed.{IsGapNarrowed}
use Rattle.uhura_flow.proofs.Rounds.{IsNarrowing-none, IsNarrowing-more, AreNarrowed-done, AreNarrowed-all}
use Rattle.uhura_flow.proofs.narrowing.narrow.Goals as goal

pub loop-round-init : goal.loop-round-init
loop-round-init c =
    IsNarrowing-none (edges_of c.args.net.now.edges) c.mark_touched.new.touched c.args.potentials.now c.clear_others.new.potentials c.requires.nodes c.requires.within
    c.mark_touched.ensures c.clear_others.ensures

pub returns-in_default-clause-narrowed : goal.returns-in_default-clause-narrowed
returns-in_default-clause-narrowed c =
    AreNarrowed-done (edges_of c.args.net.now.edges) c.args.potentials.now c.loop-round.potentials (to_z w64 c.loop-round.level-bits) c.loop-round._round c.loop-round.invariant
    (λ node inside. c.in_default.ensures node (omega (arith, c.loop-round.invariant.nodes)))

pub loop-round-preserved : goal.loop-round-preserved
loop-round-preserved c =
    let edges = edges_of c.args.net.now.edges in
    let level : ℤ = to_z w64 c.loop-round.level-bits in
    let result : to_z w64 (of_z w64 c.narrow_gap-level.result) ≡ c.narrow_gap-level.result = omega (arith, ints) in
    let least : to_z w64 (of_z w64 c.in-Some.least) ≡ c.in-Some.least = omega (arith, ints) in
    let gap : IsGapNarrowed level c.in-Some.least c.loop-round.potentials c.narrow_gap-level.new.potentials c.narrow_gap-level.result =
    subst (λ (z : ℤ). IsGapNarrowed level z c.loop-round.potentials c.narrow_gap-level.new.potentials c.narrow_gap-level.result) least c.narrow_gap-level.ensures in
    rw result
    (IsNarrowing-more edges c.args.potentials.now c.loop-round.potentials c.narrow_gap-level.new.potentials level c.in-Some.least c.narrow_gap-level.result c.loop-round._round
    c.loop-round.invariant c.in-Some.ensures gap)

pub returns-clause-narrowed : goal.returns-clause-narrowed
returns-clause-narrowed c =
    AreNarrowed-all (edges_of c.args.net.now.edges) c.args.potentials.now c.loop-round.potentials (to_z w64 c.loop-round.level-bits) c.loop-round._round c.loop-round-test.false c.loop-round.invariant
