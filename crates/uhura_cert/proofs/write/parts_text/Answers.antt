use Rattle.std.proofs.Common.{◌≡◌, ◌++◌, [], map, flat_map, ap, ◌∙◌}
use Rattle.uhura_veto.specs.State.{State}
use Rattle.uhura_command.specs.Script.{commands_of}
use Rattle.uhura_item.specs.declared.item.Item.TheVariants as item
use Rattle.uhura_item.specs.Item.{item_line}
use Rattle.uhura_cert.specs.Document.{Document}
use Rattle.uhura_cert.specs.Items.{answer_items, shared_items, leaf_items, to_version, to_script, to_question, to_answer, to_shared, to_leaves}
use Rattle.uhura_cert.proofs.Writing.{line_first, line_behind, lines_behind, script_lines}
use Rattle.uhura_cert.proofs.write.parts_text.Goals as goal

pub returns : goal.returns
returns c =
    let d : Document = record { version = c.args.version; state = c.args.state.now; answer = c.args.answer.now; shared = c.args.shared.now; leaves = c.args.leaves.now } in
    let state : State = c.args.state.now in
    let t1 : c.put_item.new.out.items ≡ flat_map item_line (to_version d) =
    line_first [] c.put_item.new.out.items (item.Version d.version) (c.in_ok-put_item.ensures.ok ∙ ap (λ t. t ++ item_line (item.Version d.version)) c.new-text.ensures.items) in
    let t2 : c.script.new.out.items ≡ flat_map item_line (to_script d) =
    lines_behind [] c.put_item.new.out.items c.script.new.out.items (to_version d) (map (λ c. item.Command c) (commands_of state)) t1
    (c.in_ok-script.ensures.ok ∙ ap (λ t. c.put_item.new.out.items ++ t) (script_lines (commands_of state))) in
    let t3 : c.put_item-2.new.out.items ≡ flat_map item_line (to_question d) =
    line_behind [] c.script.new.out.items c.put_item-2.new.out.items (to_script d) item.Answer t2 c.in_ok-put_item-2.ensures.ok in
    let t4 : c.put_answer.new.out.items ≡ flat_map item_line (to_answer d) =
    lines_behind [] c.put_item-2.new.out.items c.put_answer.new.out.items (to_question d) (answer_items state.plan d.answer) t3
    (c.in_ok-put_answer.ensures ∙ ap (λ (s : State). c.put_item-2.new.out.items ++ flat_map item_line (answer_items s.plan d.answer)) c.state.view_is) in
    let t5 : c.put_entries.new.out.items ≡ flat_map item_line (to_shared d) =
    lines_behind [] c.put_answer.new.out.items c.put_entries.new.out.items (to_answer d) (flat_map (shared_items state.plan) d.shared) t4
    (c.in_ok-put_entries.ensures ∙ ap (λ (s : State). c.put_answer.new.out.items ++ flat_map item_line (flat_map (shared_items s.plan) d.shared)) c.state.view_is) in
    let t6 : c.put_leaves.new.out.items ≡ flat_map item_line (to_leaves d) =
    lines_behind [] c.put_entries.new.out.items c.put_leaves.new.out.items (to_shared d) (flat_map (leaf_items state) d.leaves) t5 c.in_ok-put_leaves.ensures in
    line_behind [] c.put_leaves.new.out.items c.put_item-3.new.out.items (to_leaves d) item.End t6 c.in_ok-put_item-3.ensures.ok
