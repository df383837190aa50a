-- The table without a veto holds the list without it.
use Rattle.std.proofs.Common.{◌≡◌, ℕ, Bool, not, List, map, Some, position, bytes_eq, ap, subst, sym, ◌∙◌, arith}
use Rattle.std.specs.List.{IsDistinct, remove}
use Rattle.std.specs.Map.{keys_of, values_of}
use Rattle.indexmap.proofs.SetLemmas.{map-remove}
use Rattle.std.proofs.lemmas.List.Elements.{All-filter}
use Rattle.std.proofs.lemmas.List.Sums.{length-filter, count_by-le-length}
use Rattle.uhura_plan.specs.Lists.{Lists}
use Rattle.uhura_plan.specs.Sound.{AreDistinct}
use Rattle.uhura_plan.proofs.Named.{removed_named}
use Rattle.uhura_veto.specs.declared.veto.Veto.{Veto}
use Rattle.uhura_veto.specs.Edits.{without_veto}
use Rattle.uhura_veto.specs.Vetoes.{veto_name, veto_names, HasName, IsSoundVeto, AreSoundVetoes, HoldsVetoes, IsVetoOf, AreVetoesOf}

module _ {entries left : List (List ℕ × Veto)} {vetoes : List Veto} (name : List ℕ) (view : values_of entries ≡ vetoes) (held : HoldsVetoes entries) (place : ℕ)
    (found : Some place ≡ position (bytes_eq name) (keys_of entries)) (removed : left ≡ remove entries place) (unique : IsDistinct bytes_eq (keys_of left)) where
  -- whether a veto is left
  abbrev stays : Veto → Bool
  stays veto = not (bytes_eq name (veto_name veto))

  values_removed : values_of left ≡ remove (values_of entries) place
  values_removed = ap values_of removed ∙ map-remove (λ e. e.1) entries place

  -- the vetoes of other names are left
  pub view-without_veto : values_of left ≡ without_veto name vetoes
  view-without_veto =
      values_removed
      ∙ removed_named veto_name name (values_of entries) place held.sound.distinct
      (ap (position (bytes_eq name)) (sym held.keys) ∙ sym found)
      ∙ ap (without_veto name) view

  -- under their names
  same_keys : keys_of left ≡ veto_names (values_of left)
  same_keys =
      ap keys_of removed ∙ (map-remove (λ e. e.0) entries place
      ∙ (ap (λ keys. remove keys place) held.keys
      ∙ (sym (map-remove veto_name (values_of entries) place) ∙ ap (map veto_name) (sym values_removed))))

  -- and they stay sound
  pub AreSoundVetoes-without_veto : AreSoundVetoes (without_veto name vetoes)
  AreSoundVetoes-without_veto =
      let before : AreSoundVetoes vetoes = subst AreSoundVetoes view held.sound in
      record {
        count = omega (arith, length-filter stays vetoes, count_by-le-length stays vetoes, before.count);
        names = All-filter stays HasName vetoes before.names;
        distinct = subst AreDistinct (same_keys ∙ ap veto_names view-without_veto) unique;
        each = All-filter stays IsSoundVeto vetoes before.each;
      }

  pub HoldsVetoes-without_veto : HoldsVetoes left
  HoldsVetoes-without_veto = record { keys = same_keys; sound = subst AreSoundVetoes (sym view-without_veto) AreSoundVetoes-without_veto }

  pub AreVetoesOf-without_veto : (plan : Lists) → AreVetoesOf plan vetoes → AreVetoesOf plan (values_of left)
  AreVetoesOf-without_veto plan before =
      subst (AreVetoesOf plan) (sym view-without_veto)
      (record { sound = AreSoundVetoes-without_veto; there = All-filter stays (IsVetoOf plan) vetoes before.there })
