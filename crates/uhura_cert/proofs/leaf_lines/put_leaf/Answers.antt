use Rattle.std.proofs.Common.{◌++◌, List, ap, ◌∙◌}
use Rattle.uhura_veto.specs.State.{State}
use Rattle.uhura_choice.specs.declared.prefix.Pick.{Pick}
use Rattle.uhura_item.specs.declared.item.Item.TheVariants as item
use Rattle.uhura_item.specs.Item.{item_line}
use Rattle.uhura_cert.specs.Items.{picked_names, reason_items}
use Rattle.uhura_cert.proofs.Writing.{lines_headed}
use Rattle.uhura_cert.proofs.leaf_lines.put_leaf.Goals as goal

pub returns : goal.returns
returns c =
    lines_headed c.args.out.now.items c.put_prefix.new.out.items c.put_reason.new.out.items (item.Leaf (picked_names c.args.state.now.plan.choices c.args.leaf.now.prefix)) (reason_items c.args.state.now c.args.leaf.now.reason)
    (c.in_ok-put_prefix.ensures
    ∙ ap (λ (st : State). c.args.out.now.items ++ item_line (item.Leaf (picked_names st.plan.choices c.as_slice.result.now))) c.state.view_is
    ∙ ap (λ (ps : List Pick). c.args.out.now.items ++ item_line (item.Leaf (picked_names c.args.state.now.plan.choices ps))) c.as_slice.ensures) c.in_ok-put_reason.ensures
