-- The table with one more veto holds the list with it behind the others.
use Rattle.std.proofs.Common.{◌≡◌, ℕ, List, bytes_eq, is_some, false, refl, ap, subst, sym, ◌∙◌, arith}
use Rattle.std.specs.List.{IsDistinct}
use Rattle.std.specs.Map.{keys_of, values_of}
use Rattle.indexmap.specs.IndexMap.{insert_entry}
use Rattle.std.proofs.lemmas.List.{length_push}
use Rattle.std.proofs.lemmas.List.Elements.{All-push}
use Rattle.uhura_plan.specs.Lists.{Lists}
use Rattle.uhura_plan.specs.Sound.{AreDistinct}
use Rattle.uhura_plan.proofs.Insertions.{values_added, keys_added}
use Rattle.uhura_veto.specs.declared.veto.Veto.{Veto}
use Rattle.uhura_veto.specs.Edits.{with_veto}
use Rattle.uhura_veto.specs.Find.{veto_named}
use Rattle.uhura_veto.specs.Vetoes.{veto_name, veto_names, HasName, IsSoundVeto, AreSoundVetoes, HoldsVetoes, IsVetoOf, AreVetoesOf}
use Rattle.uhura_veto.proofs.Unrefused.{IsNew}

-- the veto that is made has a name, and its units, where it has some, are an amount
pub record IsMade (made : Veto) : Type 0 where
  pub name : HasName made
  pub sound : IsSoundVeto made

module _ {entries inserted : List (List ℕ × Veto)} {vetoes : List Veto} (made : Veto) (view : values_of entries ≡ vetoes) (held : HoldsVetoes entries)
    (is : inserted ≡ insert_entry bytes_eq entries (veto_name made) made) (unique : IsDistinct bytes_eq (keys_of inserted)) (new : IsNew vetoes (veto_name made)) where
  free : is_some (veto_named (values_of entries) (veto_name made)) ≡ false
  free = ap (λ vs. is_some (veto_named vs (veto_name made))) view ∙ new.free

  -- the veto goes behind the others
  pub view-with_veto : values_of inserted ≡ with_veto vetoes made
  view-with_veto = values_added veto_name entries inserted (veto_name made) made held.keys is free ∙ ap (λ vs. with_veto vs made) view

  -- and the keys are still the names
  same_keys : keys_of inserted ≡ veto_names (values_of inserted)
  same_keys = keys_added veto_name entries inserted (veto_name made) made held.keys is free refl

  -- the vetoes stay sound
  pub AreSoundVetoes-with_veto : IsMade made → AreSoundVetoes (with_veto vetoes made)
  AreSoundVetoes-with_veto of =
      let before : AreSoundVetoes vetoes = subst AreSoundVetoes view held.sound in
      record {
        count = omega (arith, new.room, length_push vetoes made);
        names = All-push HasName vetoes made before.names of.name;
        distinct = subst AreDistinct (same_keys ∙ ap veto_names view-with_veto) unique;
        each = All-push IsSoundVeto vetoes made before.each of.sound;
      }

  pub HoldsVetoes-with_veto : IsMade made → HoldsVetoes inserted
  HoldsVetoes-with_veto of = record { keys = same_keys; sound = subst AreSoundVetoes (sym view-with_veto) (AreSoundVetoes-with_veto of) }

  -- where the new one names what is in the plan, they all do
  pub AreVetoesOf-with_veto : (plan : Lists) → IsMade made → IsVetoOf plan made → AreVetoesOf plan vetoes → AreVetoesOf plan (values_of inserted)
  AreVetoesOf-with_veto plan of there before =
      subst (AreVetoesOf plan) (sym view-with_veto)
      (record { sound = AreSoundVetoes-with_veto of; there = All-push (IsVetoOf plan) vetoes made before.there there })
