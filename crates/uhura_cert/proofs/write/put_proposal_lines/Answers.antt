use Rattle.std.proofs.Common.{◌≡◌, ◌++◌, ℕ, List, map, flat_map, All, sym, ap, subst, ◌∙◌}
use Rattle.std.specs.List.{zip}
use Rattle.uhura_plan.specs.declared.guard.Literal.{Literal}
use Rattle.uhura_plan.specs.declared.key.SideKey.{SideKey}
use Rattle.uhura_veto.specs.Vetoes.{IsItemOf}
use Rattle.uhura_item.specs.declared.item.Item.TheVariants as item
use Rattle.uhura_item.specs.Item.{item_line, IsItem}
use Rattle.uhura_cert.specs.Items.{pick_item, relax_item, time_item, to_cost, to_picks, to_sides, to_times}
use Rattle.uhura_cert.proofs.ItemsFit.{proposal_writable}
use Rattle.uhura_cert.proofs.Writing.{line_first, lines_behind, line_behind}
use Rattle.uhura_cert.proofs.write.put_proposal_lines.Goals as goal

pub put_picks-requires-clause-fit : goal.put_picks-requires-clause-fit
put_picks-requires-clause-fit c =
    let fits = proposal_writable c.args.plan.now c.args.proposal.now c.choices.ensures.sound c.requires in
    subst (λ (ls : List Literal). All (λ l. IsItem (pick_item c.args.plan.now l)) ls) (sym c.as_slice.ensures) fits.picks_fit

pub put_sides-requires-clause-there : goal.put_sides-requires-clause-there
put_sides-requires-clause-there c =
    let fits = proposal_writable c.args.plan.now c.args.proposal.now c.choices.ensures.sound c.requires in
    subst (λ (ss : List (SideKey × ℕ)). All (λ s. IsItemOf c.args.plan.now s.0.item) ss) (sym c.pairs.ensures.pairs) fits.sides_there

pub put_sides-requires-clause-fit : goal.put_sides-requires-clause-fit
put_sides-requires-clause-fit c =
    let fits = proposal_writable c.args.plan.now c.args.proposal.now c.choices.ensures.sound c.requires in
    subst (λ (ss : List (SideKey × ℕ)). All (λ s. IsItem (relax_item c.args.plan.now s)) ss) (sym c.pairs.ensures.pairs) fits.sides_fit

pub returns : goal.returns
returns c =
    let plan = c.args.plan.now in
    let p = c.args.proposal.now in
    let old : List ℕ = c.args.out.now.items in
    let cost : c.put_item.new.out.items ≡ old ++ flat_map item_line (to_cost p) = line_first old c.put_item.new.out.items (item.Proposal p.cost) c.in_ok-put_item.ensures.ok in
    let picks : c.put_picks.new.out.items ≡ old ++ flat_map item_line (to_picks plan p) =
    lines_behind old c.put_item.new.out.items c.put_picks.new.out.items (to_cost p) (map (pick_item plan) p.picks) cost
    (c.in_ok-put_picks.ensures ∙ ap (λ (ls : List Literal). c.put_item.new.out.items ++ flat_map item_line (map (pick_item plan) ls)) c.as_slice.ensures) in
    let sides : c.put_sides.new.out.items ≡ old ++ flat_map item_line (to_sides plan p) =
    lines_behind old c.put_picks.new.out.items c.put_sides.new.out.items (to_picks plan p) (map (relax_item plan) p.loosening) picks
    (c.in_ok-put_sides.ensures ∙ ap (λ (ss : List (SideKey × ℕ)). c.put_picks.new.out.items ++ flat_map item_line (map (relax_item plan) ss)) c.pairs.ensures.pairs) in
    let times : c.put_times.new.out.items ≡ old ++ flat_map item_line (to_times plan p) =
    lines_behind old c.put_sides.new.out.items c.put_times.new.out.items (to_sides plan p) (map time_item (zip plan.events p.times)) sides
    (c.in_ok-put_times.ensures ∙ ap (λ (ts : List ℕ). c.put_sides.new.out.items ++ flat_map item_line (map time_item (zip plan.events ts))) c.as_slice-2.ensures) in
    line_behind old c.put_times.new.out.items c.put_item-2.new.out.items (to_times plan p) item.End times c.in_ok-put_item-2.ensures.ok
