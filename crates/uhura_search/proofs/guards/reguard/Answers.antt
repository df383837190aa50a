use Rattle.std.proofs.Common.{rules, ◌≡◌, ◌≢◌, ◌<◌, ◌≤◌, ◌+◌, ◌∷◌, ◌++◌, [], false, List, Some, take, length, sym, ap, subst, ◌∙◌, arith}
use Rattle.std.specs.Prelude.{Contains, slice_get, option_copied}
use Rattle.std.proofs.lemmas.List.{take_all}
use Rattle.uhura_plan.specs.declared.limits.TheConstants.{REQUIREMENTS}
use Rattle.uhura_plan.specs.declared.requirement.Requirement.{Requirement}
use Rattle.uhura_conflict.proofs.Gathering.{take_found, within}
use Rattle.uhura_worst.proofs.SoundItems.{Contains-at, sound_requirement}
use Rattle.uhura_search.proofs.Reguarding.{AreWritten, slot-new, written-none, written-more, none-marked, none-more}
use Rattle.uhura_search.proofs.guards.reguard.Goals.{then-any, else-any}
use Rattle.uhura_search.proofs.guards.reguard.Goals as goal

pub loop-position-init : goal.loop-position-init
loop-position-init c = record {
  written = written-none c.args.guards.now c.args.marks.now c.requires.slots c.requires.none;
  none = λ any. none-marked c.args.marks.now c.requires.none;
}

pub loop-position-preserved : goal.loop-position-preserved
loop-position-preserved c =
    let rs = c.args.plan.now.requirements in
    let at = c.loop-position.position in
    let r : Requirement = c.unwrap.result.now in
    let written = c.write_guard-differs.ensures in
    let g0 = c.args.guards.now in
    let g1 = c.loop-position.guards in
    let g2 = c.write_guard-differs.new.guards in
    let m1 = c.loop-position.marks in
    let m2 = c.write_guard-differs.new.marks in
    let differs = c.write_guard-differs.result in
    let sound = c.requirements-position-end.ensures.sound in
    let there : slice_get rs at ≡ Some r = sym c.requirement.ensures ∙ ap option_copied c.unwrap.ensures in
    let next : take (at + 1) rs ≡ take at rs ++ r ∷ [] = take_found rs at r (within rs at r there) there in
    let inside : r.slot < REQUIREMENTS = (sound_requirement c.args.plan.now r sound (Contains-at rs at r there)).slot in
    let new : (q : Requirement) → Contains (take at rs) q → q.slot ≢ r.slot = λ q before. slot-new rs at r q sound.distinct.slots there before in
    record {
      written = subst (λ (list : List Requirement). AreWritten list g0 g2 m2) (sym next)
          (written-more (take at rs) r g0 g1 g2 m1 m2 differs new c.loop-position.invariant.written inside written.guards written.marks written.differs);
      none = λ any. elim c.if-any.branch [
        | then-any w ↦ absurd (let never : ⊥ = search rules in never)
        | else-any w ↦
            let none : c.loop-position.any ≡ false = search rules in
            none-more (take at rs) r g0 g1 g2 m1 m2 differs new c.loop-position.invariant.written inside written.guards written.marks written.differs (sym w.any-is ∙ any) (c.loop-position.invariant.none none)
      ];
    }

pub returns : goal.returns
returns c =
    let rs = c.args.plan.now.requirements in
    let past : length rs ≤ c.loop-position.position = omega (arith, c.requirements-position-end.ensures.count, c.loop-position-test.false) in
    let all = subst (λ (list : List Requirement). AreWritten list c.args.guards.now c.loop-position.guards c.loop-position.marks) (take_all c.loop-position.position rs past) c.loop-position.invariant.written in
    record { guards = all.written; marks = all.marked; none = c.loop-position.invariant.none }
