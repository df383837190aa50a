use Rattle.std.proofs.Common.{rules, ◌≡◌, sym, subst, ◌∙◌}
use Rattle.uhura_cert.specs.Document.{ArePicks}
use Rattle.uhura_proof.proofs.Making.{prefix_picks}
use Rattle.uhura_proof.proofs.leaves.leaf_of.Goals as goal

pub returns-clause-made : goal.returns-clause-made
returns-clause-made c =
    let choices = c.args.state.now.plan.choices in
    let prefix = c.args.note.now.prefix in
    let same : c.from_vec.result ≡ prefix = c.from_vec.ensures ∙ search rules ∙ c.entries.ensures.entries in
    record {
      same = same;
      picks = subst (ArePicks choices) (sym same) (prefix_picks choices prefix c.requires.can_be.prefix);
      reason = c.in_ok-reason.ensures.made;
    }
