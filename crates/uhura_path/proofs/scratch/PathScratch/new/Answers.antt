use Rattle.std.proofs.Common.{◌≡◌, ℕ, false, List, length, replicate, ap, ◌∙◌, arith}
use Rattle.std.proofs.lemmas.List.{length-replicate}
use Rattle.uhura_plan.proofs.Slots.{get_or-replicate_default}
use Rattle.uhura_net.specs.declared.edge.TheConstants.{NODES}
use Rattle.uhura_net.specs.declared.place.Place.{Place}
use Rattle.uhura_path.specs.declared.label.Label.{Label}
use Rattle.uhura_path.specs.Found.{no_label, label_at}
use Rattle.uhura_path.specs.Scratch.{AreMarkedTo}
use Rattle.uhura_path.proofs.scratch.PathScratch.new.Goals as goal

-- new labels bear no mark
AreMarkedTo-new : (labels : List Label) → labels ≡ replicate NODES no_label → AreMarkedTo 0 labels
AreMarkedTo-new labels new node =
    let none : (label_at labels node).mark ≡ 0 = ap (λ ls. (label_at ls node).mark) new ∙ ap (λ (l : Label). l.mark) (get_or-replicate_default NODES node no_label) in
    omega arith

pub invariant_of-result : goal.invariant_of-result
invariant_of-result c =
    let labels = c.in_ok-vec.ensures.items_if_clones_equal (λ y same. same) in
    let order = c.in_ok-vec-2.ensures.items_if_clones_equal (λ y same. same) in
    let places = c.in_ok-vec-3.ensures.items_if_clones_equal (λ y same. same) in
    let backward = c.in_ok-vec-4.ensures.items_if_clones_equal (λ y same. same) in
    record {
      labelled = ap length labels ∙ length-replicate {A = Label} NODES no_label;
      ordered = ap length order ∙ length-replicate {A = ℕ} NODES 0;
      placed = ap length places ∙ length-replicate {A = Place} NODES (record { 0 = 0 });
      turned = ap length backward ∙ length-replicate NODES false;
      told = omega (arith, c.in_ok-vec-5.ensures.len, c.in_ok-vec-5.field-0.ok.0);
      marked = AreMarkedTo-new _ labels;
    }
