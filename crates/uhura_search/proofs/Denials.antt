-- The first denial that denies is known by its name, since no two vetoes have one name.
use Rattle.std.proofs.Common.{◌≡◌, ℕ, ◌<◌, List, [], length, get_or, Option, Some, None, true, false, bytes_eq, is_some, option_map, slice_get, unwrap_or, refl, sym, ap, ◌∙◌, subst, inl, inr, arith}
use Rattle.std.specs.Prelude.{Contains, IsTrue, find}
use Rattle.std.specs.List.{position}
use Rattle.std.specs.Option.{option_map_or}
use Rattle.std.proofs.lemmas.Bool.{cases_eq, cases_lt}
use Rattle.std.proofs.lemmas.List.{get_or-map, length-map}
use Rattle.std.proofs.lemmas.List.Quantifiers.{position-Some}
use Rattle.std.proofs.lemmas.Map.Keys.{apart_from_distinct}
use Rattle.std.proofs.lemmas.Option.{slice_get-get_or}
use Rattle.std.proofs.lemmas.Slice.Eq.{bytes_eq-Decides}
use Rattle.uhura_plan.proofs.Positions.{not_contained}
use Rattle.uhura_veto.specs.declared.veto.Veto.{Veto}
use Rattle.uhura_veto.specs.State.{State}
use Rattle.uhura_veto.specs.Denial.{denies}
use Rattle.uhura_veto.specs.Find.{veto_named}
use Rattle.uhura_veto.specs.Vetoes.{veto_name, veto_names, AreSoundVetoes}
use Rattle.uhura_worst.proofs.FirstItems.{passes}
use Rattle.uhura_worst.proofs.SoundItems.{Contains-found}
use Rattle.uhura_shows.specs.Shows.{is_denied_by}
use Rattle.uhura_search.proofs.Answering.{AreDenialsNamed}

-- one name stands at one place
one-place : (vetoes : List Veto) (i j : ℕ) (name : List ℕ) → AreSoundVetoes vetoes → i < length vetoes → j < length vetoes → get_or (veto_names vetoes) i [] ≡ name → get_or (veto_names vetoes) j [] ≡ name → i ≡ j
one-place vetoes i j name sound below under first second =
    elim (cases_eq i j) [
      | inl same ↦ same
      | inr differs ↦ elim (cases_lt i j) [
        | inl less ↦ absurd (apart i j less (omega (arith, under, length-map vetoes veto_name)) first second)
        | inr more ↦ absurd (apart j i (omega (arith, more, differs)) (omega (arith, below, length-map vetoes veto_name)) second first)
      ]
    ]
  where
    apart : (a b : ℕ) → a < b → b < length (veto_names vetoes) → get_or (veto_names vetoes) a [] ≡ name → get_or (veto_names vetoes) b [] ≡ name → ⊥
    apart a b less inside one other =
        let differ : bytes_eq (get_or (veto_names vetoes) a []) (get_or (veto_names vetoes) b []) ≡ false = apart_from_distinct bytes_eq (veto_names vetoes) a b [] sound.distinct less inside in
        let equal : bytes_eq (get_or (veto_names vetoes) a []) (get_or (veto_names vetoes) b []) ≡ true = (bytes_eq-Decides (get_or (veto_names vetoes) a []) (get_or (veto_names vetoes) b [])).1 (one ∙ sym other) in
        cc

pub denials-named : (state : State) → AreSoundVetoes state.vetoes → AreDenialsNamed state
denials-named state sound prefix name is = by_found (find (denies prefix) state.vetoes) refl is
  where
    by_found : (o : Option Veto) → find (denies prefix) state.vetoes ≡ o → option_map veto_name o ≡ Some name → IsTrue (is_denied_by state prefix (unwrap_or (veto_named state.vetoes name) 0))
    by_found None found named = absurd (let never : ⊥ = cc in never)
    by_found (Some v) found named = by_place (position (bytes_eq name) (veto_names state.vetoes)) refl
      where
        among : Contains state.vetoes v
        among = Contains-found (denies prefix) state.vetoes v found

        own : get_or (veto_names state.vetoes) among.0 [] ≡ name
        own =
            let here : veto_name v ≡ name = cc in
            get_or-map veto_name state.vetoes among.0 v [] among.1 ∙ (ap veto_name among.2 ∙ here)

        named_among : Contains (veto_names state.vetoes) name
        named_among = (among.0, omega (arith, among.1, length-map state.vetoes veto_name), get_or-map veto_name state.vetoes among.0 v name among.1 ∙ (ap veto_name among.2 ∙ (let here : veto_name v ≡ name = cc in here)))

        by_place : (o : Option ℕ) → position (bytes_eq name) (veto_names state.vetoes) ≡ o → option_map_or (denies prefix) (slice_get state.vetoes (unwrap_or o 0)) false ≡ true
        by_place None none = absurd (not_contained (veto_names state.vetoes) name (ap is_some none) named_among)
        by_place (Some j) some =
            let at = position-Some (bytes_eq name) (veto_names state.vetoes) j [] some in
            let under : j < length state.vetoes = omega (arith, at.0, length-map state.vetoes veto_name) in
            let there : get_or (veto_names state.vetoes) j [] ≡ name = sym ((bytes_eq-Decides name (get_or (veto_names state.vetoes) j [])).0 at.1) in
            let same : among.0 ≡ j = one-place state.vetoes among.0 j name sound among.1 under own there in
            let stands : slice_get state.vetoes j ≡ Some v =
            subst (λ (n : ℕ). slice_get state.vetoes n ≡ Some v) same (slice_get-get_or state.vetoes among.0 v among.1 ∙ ap (λ (x : Veto). Some x) among.2) in
            ap (λ (o : Option Veto). option_map_or (denies prefix) o false) stands ∙ passes (denies prefix) state.vetoes v found
