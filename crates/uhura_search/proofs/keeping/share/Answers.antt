use Rattle.std.proofs.Common.{List, sym, subst}
use Rattle.std.specs.Prelude.{All}
use Rattle.uhura_choice.specs.Branch.{IsPrefix}
use Rattle.uhura_veto.specs.State.{State}
use Rattle.uhura_search.specs.declared.leaf.LeafNote.{LeafNote}
use Rattle.uhura_search.specs.declared.outcome.Outcome.{Outcome}
use Rattle.uhura_search.specs.Answer.{IsAnswerTo}
use Rattle.uhura_search.proofs.Prefixed.{prefixes-shown}
use Rattle.uhura_search.proofs.keeping.share.Goals as goal

pub share_leaves-requires : goal.share_leaves-requires
share_leaves-requires c =
    let state : State = record { plan = c.args.plan.now; vetoes = c.args.vetoes.now } in
    let found = subst (λ (given : Outcome). IsAnswerTo state given) c.in-Found.is c.requires in
    subst (λ (leaves : List LeafNote). All (λ (leaf : LeafNote). IsPrefix c.args.plan.now.choices leaf.prefix) leaves) (sym c.deref-in-Found.ensures.value)
    (prefixes-shown state c.args.plan.now.choices c.in-Found.leaves.items found.shows.cover.only)

pub share_leaves-requires-in-None : goal.share_leaves-requires-in-None
share_leaves-requires-in-None c =
    let state : State = record { plan = c.args.plan.now; vetoes = c.args.vetoes.now } in
    let none = subst (λ (given : Outcome). IsAnswerTo state given) c.in-None.is c.requires in
    subst (λ (leaves : List LeafNote). All (λ (leaf : LeafNote). IsPrefix c.args.plan.now.choices leaf.prefix) leaves) (sym c.deref-in-None.ensures.value)
    (prefixes-shown state c.args.plan.now.choices c.in-None.leaves.items none.cover.only)
