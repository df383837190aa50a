-- The commands that make the vetoes of a sound state are commands that fit on a line.
use Rattle.std.proofs.Common.{◌≢◌, ◌≤◌, List, [], ◌∷◌, length, map, All, get_or, refl, sym, ap, subst, arith}
use Rattle.std.specs.Option.{option_map_or}
use Rattle.std.proofs.lemmas.List.{length-map}
use Rattle.std.proofs.lemmas.List.Elements.{All-map, All-weaker}
use Rattle.std.proofs.lemmas.Option.{slice_get_within, get_or_from_slice_get}
use Rattle.uhura_plan.specs.declared.guard.Literal.{Literal}
use Rattle.uhura_plan.specs.declared.key.Item.{Item}
use Rattle.uhura_plan.specs.declared.key.Item.TheVariants.{Requirement as InSlot, Uncertain as AtPlace}
use Rattle.uhura_plan.specs.Lists.{Lists, uncertain_names}
use Rattle.uhura_plan.specs.Sound.{IsName, IsSound, IsSoundUncertain, IsSoundRequirement}
use Rattle.uhura_plan.proofs.Building.{few_literals}
use Rattle.uhura_veto.specs.declared.veto.Veto.{Veto}
use Rattle.uhura_veto.specs.declared.veto.Veto.TheVariants.{Deny, Cap}
use Rattle.uhura_veto.specs.Vetoes.{IsItemOf, IsVetoOf, HasName, IsSoundVeto, AreVetoesOf}
use Rattle.uhura_line.specs.Reads.{IsCommand, name_of}
use Rattle.uhura_line.proofs.LineLengths.{length-pair_words}
use Rattle.uhura_line.proofs.PlanNumbers.{amount_passes}
use Rattle.uhura_command.specs.Script.{literal_names, guard_names, item_name, veto_command}
use Rattle.uhura_command.proofs.CommandLines.{FitsLine, few_words}
use Rattle.uhura_command.proofs.CountedItems.{placed, place_in}
use Rattle.uhura_command.proofs.PlanNames.{place_named, guard_named}

-- the name of an item of a sound plan is a name
item_has_name : (plan : Lists) (item : Item) → IsSound plan → IsItemOf plan item → IsName (name_of (item_name plan item))
item_has_name plan (InSlot slot) sound there =
    let p = placed plan.requirements slot there in
    let place = place_in slot plan.requirements in
    let is : IsSoundRequirement plan p.requirement =
    subst (IsSoundRequirement plan) (get_or_from_slice_get plan.requirements place p.requirement p.requirement p.at)
    (sound.requirements place p.requirement (slice_get_within plan.requirements place p.requirement p.at)) in
    subst IsName (sym (ap (λ o. option_map_or (λ r. r.name) o []) p.found)) is.name
item_has_name plan (AtPlace d) sound there =
    place_named (uncertain_names plan.uncertains) d
    (All-map IsName (λ u. u.name) plan.uncertains (All-weaker (IsSoundUncertain (length plan.events)) (λ u. IsName u.name) (λ u s. s.name) plan.uncertains sound.uncertains))
    (omega (arith, there, length-map plan.uncertains (λ u. u.name)))

-- names of some literals are some
some_names : (plan : Lists) (literals : List Literal) → 1 ≤ length literals → guard_names plan.choices literals ≢ []
some_names plan [] some none = absurd (omega arith)
some_names plan (literal ∷ literals) some none = cc

veto_fits : (plan : Lists) (veto : Veto) → IsSound plan → IsVetoOf plan veto → HasName veto → IsSoundVeto veto → FitsLine (veto_command plan veto)
veto_fits plan (Deny name literals) sound denial named amount =
    let is : IsCommand (veto_command plan (Deny name literals)) = record {
      taken = some_names plan literals denial.some;
      names = rw (named, guard_named plan.choices literals sound.choices denial.guard.among) refl;
      numbers = refl;
    } in
    few_words (veto_command plan (Deny name literals)) is
    (omega (
      arith,
      sound.counts.choices,
      length-pair_words (guard_names plan.choices literals),
      length-map literals (literal_names plan.choices),
      few_literals plan.choices literals denial.guard,
    ))
veto_fits plan (Cap name key units) sound there named amount =
    let is : IsCommand (veto_command plan (Cap name key units)) = record {
      taken = tt;
      names = rw (named, item_has_name plan key.item sound there) refl;
      numbers = amount_passes units amount;
    } in
    few_words (veto_command plan (Cap name key units)) is (omega arith)

-- ---- all of them

pub vetoes_fit : (plan : Lists) (vetoes : List Veto) → IsSound plan → AreVetoesOf plan vetoes → All FitsLine (map (veto_command plan) vetoes)
vetoes_fit plan vetoes sound are =
    All-map FitsLine (veto_command plan) vetoes
    (λ k d within. veto_fits plan (get_or vetoes k d) sound (are.there k d within) (are.sound.names k d within) (are.sound.each k d within))
