use Rattle.std.proofs.Common.{subst}
use Rattle.uhura_command.specs.State.{IsSoundState}
use Rattle.uhura_search.specs.Answer.{shown_leaves}
use Rattle.uhura_proof.specs.Proof.{branch_and_cost}
use Rattle.uhura_proof.proofs.Proved.{proved}
use Rattle.uhura_proof.proofs.Shown.{leaves_there}
use Rattle.uhura_proof.proofs.document.document_of.Goals as goal

pub leaves_of-requires-clause-can_be : goal.leaves_of-requires-clause-can_be
leaves_of-requires-clause-can_be c =
    let state = c.args.state.now in
    leaves_there state (branch_and_cost state c.args.answer) (shown_leaves state c.args.leaves.now) c.requires.shows

pub invariant_of-result : goal.invariant_of-result
invariant_of-result c =
    let state = c.args.state.now in
    let sound : IsSoundState state = subst IsSoundState c.state.view_is (record { plan = c.choices.ensures.sound; vetoes = c.state.invariant }) in
    (proved state c.in_ok-copy.copy c.args.answer (shown_leaves state c.args.leaves.now) c.leaves_of.new.entries.items c.from_vec.result c.in_ok-made.made.items c.from_vec-2.result
    c.in_ok-copy.ensures c.from_vec.ensures c.from_vec-2.ensures sound c.requires c.in_ok-made.ensures).is_document

pub returns : goal.returns
returns c =
    let state = c.args.state.now in
    let sound : IsSoundState state = subst IsSoundState c.state.view_is (record { plan = c.choices.ensures.sound; vetoes = c.state.invariant }) in
    (proved state c.in_ok-copy.copy c.args.answer (shown_leaves state c.args.leaves.now) c.leaves_of.new.entries.items c.from_vec.result c.in_ok-made.made.items c.from_vec-2.result
    c.in_ok-copy.ensures c.from_vec.ensures c.from_vec-2.ensures sound c.requires c.in_ok-made.ensures).is_proof
