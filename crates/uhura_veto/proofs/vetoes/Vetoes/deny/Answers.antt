-- The name is no veto's, so the denial goes behind the others, with the literals that its names spell.
use Rattle.std.proofs.Common.{sym}
use Rattle.uhura_veto.specs.declared.veto.Veto.{Veto}
use Rattle.uhura_veto.specs.declared.veto.Veto.TheVariants.{Deny}
use Rattle.uhura_plan.proofs.Refusals.{all_known}
use Rattle.uhura_veto.proofs.Added.{view-with_veto, HoldsVetoes-with_veto, AreVetoesOf-with_veto}
use Rattle.uhura_veto.proofs.Denials.{some_literals}
use Rattle.uhura_veto.proofs.Unrefused.{unrefused_denial}
use Rattle.uhura_veto.proofs.vetoes.Vetoes.deny.Goals as goal

pub guard_of-requires-clause-known : goal.guard_of-requires-clause-known
guard_of-requires-clause-known c =
    all_known c.args.plan.now 1 c.args.literals.now (unrefused_denial c.args.plan.now c.args.self.now c.args.name c.args.literals.now (sym c.in_default.ensures)).known

pub invariant_of-self-2 : goal.invariant_of-self-2
invariant_of-self-2 c =
    let made : Veto = Deny c.args.name c.guard_of.result in
    HoldsVetoes-with_veto made c.self.view_is c.self.invariant c.in_ok-insert.ensures.entries c.in_ok-insert.ensures.unique
    (unrefused_denial c.args.plan.now c.args.self.now c.args.name c.args.literals.now (sym c.in_default.ensures)).new
    (record { name = c.bytes.ensures.name; sound = tt })

pub returns-clause-ok : goal.returns-clause-ok
returns-clause-ok c =
    let made : Veto = Deny c.args.name c.guard_of.result in
    record {
      literals = c.guard_of.result;
      found = c.guard_of.ensures.found;
      list = view-with_veto made c.self.view_is c.self.invariant c.in_ok-insert.ensures.entries c.in_ok-insert.ensures.unique
          (unrefused_denial c.args.plan.now c.args.self.now c.args.name c.args.literals.now (sym c.in_default.ensures)).new;
    }

pub returns-clause-kept : goal.returns-clause-kept
returns-clause-kept c =
    let made : Veto = Deny c.args.name c.guard_of.result in
    AreVetoesOf-with_veto made c.self.view_is c.self.invariant c.in_ok-insert.ensures.entries c.in_ok-insert.ensures.unique
    (unrefused_denial c.args.plan.now c.args.self.now c.args.name c.args.literals.now (sym c.in_default.ensures)).new
    c.args.plan.now (record { name = c.bytes.ensures.name; sound = tt })
    (record {
      some = some_literals c.args.plan.now c.args.literals.now c.guard_of.result c.guard_of.ensures.found c.requires.some;
      guard = c.guard_of.ensures.among;
    })
