use Rattle.std.proofs.Common.{List, ℕ, Option, sym, subst}
use Rattle.uhura_item.specs.declared.item.Item.TheVariants as item
use Rattle.uhura_item.specs.Item.{IsItem}
use Rattle.uhura_cert.proofs.ItemsFit.{few_picks, picks_writable}
use Rattle.uhura_cert.proofs.leaf_lines.put_prefix.Goals as goal

pub picked_names-requires-clause-few : goal.picked_names-requires-clause-few
picked_names-requires-clause-few c = few_picks c.args.plan.now c.args.picks.now c.choices.ensures.sound c.requires

pub put_item-requires : goal.put_item-requires
put_item-requires c =
    subst (λ (ns : List (Option (List ℕ))). IsItem (item.Leaf ns)) (sym c.in_ok-names.ensures) (picks_writable c.args.plan.now c.args.picks.now c.choices.ensures.sound c.requires)
