-- The name is no veto's, so the cap goes behind the others, on an item that is there.
use Rattle.std.proofs.Common.{sym, ◌∙◌}
use Rattle.uhura_veto.specs.declared.veto.Veto.{Veto}
use Rattle.uhura_veto.specs.declared.veto.Veto.TheVariants.{Cap}
use Rattle.uhura_veto.proofs.Added.{view-with_veto, HoldsVetoes-with_veto, AreVetoesOf-with_veto}
use Rattle.uhura_veto.proofs.Items.{IsItemOf-named}
use Rattle.uhura_veto.proofs.Unrefused.{unrefused_cap}
use Rattle.uhura_veto.proofs.vetoes.Vetoes.cap.Goals as goal

pub invariant_of-self-2 : goal.invariant_of-self-2
invariant_of-self-2 c =
    let made : Veto = Cap c.args.name (record { item = c.unwrap-item.result; side = c.args.side }) c.args.units in
    HoldsVetoes-with_veto made c.self.view_is c.self.invariant c.in_ok-insert.ensures.entries c.in_ok-insert.ensures.unique
    (unrefused_cap c.args.plan.now c.args.self.now c.args.name c.args.kind c.args.item (sym c.in_default.ensures)).new
    (record { name = c.bytes.ensures.name; sound = c.requires.units })

pub returns-clause-ok : goal.returns-clause-ok
returns-clause-ok c =
    let made : Veto = Cap c.args.name (record { item = c.unwrap-item.result; side = c.args.side }) c.args.units in
    record {
      on = c.unwrap-item.result;
      found = sym c.find.ensures ∙ c.unwrap-item.ensures;
      list = view-with_veto made c.self.view_is c.self.invariant c.in_ok-insert.ensures.entries c.in_ok-insert.ensures.unique
          (unrefused_cap c.args.plan.now c.args.self.now c.args.name c.args.kind c.args.item (sym c.in_default.ensures)).new;
    }

pub returns-clause-kept : goal.returns-clause-kept
returns-clause-kept c =
    let made : Veto = Cap c.args.name (record { item = c.unwrap-item.result; side = c.args.side }) c.args.units in
    AreVetoesOf-with_veto made c.self.view_is c.self.invariant c.in_ok-insert.ensures.entries c.in_ok-insert.ensures.unique
    (unrefused_cap c.args.plan.now c.args.self.now c.args.name c.args.kind c.args.item (sym c.in_default.ensures)).new
    c.args.plan.now (record { name = c.bytes.ensures.name; sound = c.requires.units })
    (IsItemOf-named c.args.plan.now c.args.kind c.args.item c.unwrap-item.result (sym c.find.ensures ∙ c.unwrap-item.ensures))
