use Rattle.std.proofs.Common.{sym, subst}
use Rattle.uhura_choice.specs.Branch.{IsPrefix}
use Rattle.uhura_search.specs.declared.leaf.LeafNote.{LeafNote}
use Rattle.uhura_search.proofs.keeping.share_leaves.Goals as goal

pub copy-requires : goal.copy-requires
copy-requires c =
    subst (λ (leaf : LeafNote). IsPrefix c.args.plan.now.choices leaf.prefix) (sym c.leaf-item.is) (c.requires c.loop-leaf.leaf-index c.leaf-item.result c.loop-leaf-test.true)
