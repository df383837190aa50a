-- The veto of the name is taken out, and the others stay as they are.
use Rattle.uhura_veto.proofs.Removed.{view-without_veto, HoldsVetoes-without_veto, AreVetoesOf-without_veto}
use Rattle.uhura_veto.proofs.vetoes.Vetoes.withdraw.Goals as goal

pub invariant_of-self : goal.invariant_of-self
invariant_of-self c =
    HoldsVetoes-without_veto c.args.name c.self.view_is c.self.invariant c.in-Some.place c.in-Some.ensures.index c.shift_remove_index.ensures.entries c.shift_remove_index.ensures.unique

pub returns-clause-ok : goal.returns-clause-ok
returns-clause-ok c =
    view-without_veto c.args.name c.self.view_is c.self.invariant c.in-Some.place c.in-Some.ensures.index c.shift_remove_index.ensures.entries c.shift_remove_index.ensures.unique

pub returns-clause-kept : goal.returns-clause-kept
returns-clause-kept c =
    AreVetoesOf-without_veto c.args.name c.self.view_is c.self.invariant c.in-Some.place c.in-Some.ensures.index c.shift_remove_index.ensures.entries c.shift_remove_index.ensures.unique
