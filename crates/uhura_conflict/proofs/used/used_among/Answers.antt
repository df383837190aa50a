use Rattle.std.proofs.Common.{ℕ, List, get_or, sym, subst}
use Rattle.std.proofs.lemmas.List.{get_or_default}
use Rattle.uhura_net.specs.declared.place.Place.{Place}
use Rattle.uhura_net.specs.declared.place.TheConstants.{PLACES}
use Rattle.uhura_flow.specs.Flow.{flow_units}
use Rattle.uhura_conflict.specs.Used.{AreUsedBelow}
use Rattle.uhura_conflict.proofs.Using.{used-first, used-next, used-end}
use Rattle.uhura_conflict.proofs.used.used_among.Goals as goal

pub loop-number-init : goal.loop-number-init
loop-number-init c =
    let units = flow_units c.args.net.now in
    subst (λ (pairs : List (Place × ℕ)). AreUsedBelow units pairs (get_or c.args.places.now 0 PLACES)) (sym c.new-pairs.ensures.items)
    (used-first units c.args.places.now c.requires)

pub add_used-requires-clause-before : goal.add_used-requires-clause-before
add_used-requires-clause-before c =
    let units = flow_units c.args.net.now in
    let places = c.args.places.now in
    let index = c.loop-number.number-index in
    subst (λ (n : ℕ). AreUsedBelow units c.loop-number.pairs.items n) (get_or_default places index PLACES 0 c.loop-number-test.true) c.loop-number.invariant

pub loop-number-preserved : goal.loop-number-preserved
loop-number-preserved c =
    used-next (flow_units c.args.net.now) c.args.places.now c.add_used.new.pairs.items c.loop-number.number-index c.requires c.loop-number-test.true c.in_ok-add_used.ensures.pairs

pub returns : goal.returns
returns c = record {
  pairs = rw c.shrink_to_fit.ensures.items
      (used-end (flow_units c.args.net.now) c.args.places.now c.loop-number.pairs.items c.loop-number.number-index c.loop-number-test.false c.loop-number.invariant);
  sound = c.value.ensures.sound;
}
