use Rattle.std.proofs.Common.{◌≡◌, ◌+◌, Bool, not, ◌||◌, set, ap, sym, subst, ◌∙◌}
use Rattle.std.specs.Prelude.{IfSome}
use Rattle.uhura_net.specs.Table.{IsEdgeFor}
use Rattle.uhura_conflict.proofs.Differing.{AreCompared, compared-none, compared-more, compared-all, compared-same, compared-cleared}
use Rattle.uhura_conflict.proofs.comparing.mark_changed.Goals as goal
use Rattle.uhura_conflict.proofs.comparing.mark_changed.Goals.{then-any, else-any}

pub loop-number-init : goal.loop-number-init
loop-number-init c = compared-none c.args.old.now c.args.new.now c.args.changed.now.items _ c.requires

pub loop-number-preserved : goal.loop-number-preserved
loop-number-preserved c =
    let old = c.args.old.now in
    let new = c.args.new.now in
    let n = c.loop-number.number in
    let any = c.loop-number.any in
    let same = c.is_same-same.result in
    let next =
    compared-more old new c.loop-number.changed.items any same n c.loop-number-test.true c.get.ensures.places c.get-in-loop-number.ensures.places
    (λ yes_same. sym c.get-in-loop-number.ensures.edge ∙ (c.is_same-same.ensures yes_same ∙ c.get.ensures.edge))
    (subst (λ found. IfSome found (IsEdgeFor n)) c.get.ensures.edge c.get.ensures.sound) c.loop-number.invariant in
    let is : c.if-any.any ≡ (any || not same) = elim c.if-any.branch [
      | then-any w ↦ w.any-is ∙ (w.if-any.true ∙ sym (ap (λ b. b || not same) w.if-any.true))
      | else-any w ↦ w.any-is ∙ sym (ap (λ b. b || not same) w.if-any.false)
    ] in
    subst (λ (b : Bool). AreCompared old new (set c.loop-number.changed.items n (not same)) b (n + 1)) (sym is) next

pub returns : goal.returns
returns c = record {
  marked = compared-all c.args.old.now c.args.new.now c.loop-number.changed.items c.loop-number.any c.loop-number.number c.loop-number-test.false c.loop-number.invariant;
  same = λ nothing. compared-same c.args.old.now c.args.new.now c.loop-number.changed.items c.loop-number.any c.loop-number.number c.loop-number-test.false c.loop-number.invariant nothing;
  none = λ nothing. compared-cleared c.args.old.now c.args.new.now c.loop-number.changed.items c.loop-number.any c.loop-number.number c.loop-number-test.false c.loop-number.invariant nothing;
}
