-- The commands of a state's vetoes make its vetoes, in the plan whose slots are counted.
use Rattle.std.proofs.Common.{◌≡◌, ℕ, suc, ◌<◌, List, [], ◌∷◌, length, take, map, None, Some, slice_get, option_map, is_some, is_none, All, refl, sym, ap, subst, ◌∙◌, arith}
use Rattle.std.proofs.lemmas.Bool.{lt-leb}
use Rattle.std.proofs.lemmas.List.{length-map, take_all}
use Rattle.std.proofs.lemmas.List.Elements.{All-head, All-tail}
use Rattle.std.proofs.lemmas.Option.{slice_get_within, slice_get-map, get_or_from_slice_get}
use Rattle.uhura_plan.specs.declared.guard.Literal.{Literal}
use Rattle.uhura_plan.specs.declared.key.SideKey.{SideKey}
use Rattle.uhura_plan.specs.Lists.{Lists}
use Rattle.uhura_plan.specs.Sound.{AreDistinct, IsSound}
use Rattle.uhura_plan.proofs.Named.{map_kept}
use Rattle.uhura_veto.specs.declared.limits.TheConstants.{VETOES}
use Rattle.uhura_veto.specs.declared.veto.Veto.{Veto}
use Rattle.uhura_veto.specs.declared.veto.Veto.TheVariants.{Deny, Cap}
use Rattle.uhura_veto.specs.Find.{veto_named}
use Rattle.uhura_veto.specs.Refusals.{deny_refusal, cap_refusal}
use Rattle.uhura_veto.specs.State.{State}
use Rattle.uhura_veto.specs.Vetoes.{veto_name, veto_names, IsDenialOf, IsItemOf, IsVetoOf, AreVetoesOf}
use Rattle.uhura_line.specs.declared.command.Command.TheVariants as command
use Rattle.uhura_line.specs.Reads.{name_of}
use Rattle.uhura_command.specs.Apply.{Applies, of_edit, kind_named}
use Rattle.uhura_command.specs.Replay.{Makes}
use Rattle.uhura_command.specs.Script.{guard_names, item_name, veto_command}
use Rattle.uhura_command.proofs.Accepting.{none_then, passed}
use Rattle.uhura_command.proofs.Beginnings.{take_next, length_before}
use Rattle.uhura_command.proofs.CountedItems.{counted, moved, item_shown, item_found}
use Rattle.uhura_command.proofs.Making.{makes_each}
use Rattle.uhura_command.proofs.Naming.{new_name}
use Rattle.uhura_command.proofs.Spelling.{Begins, none_unknown, none_repeated, spells}

module _ (plan : Lists) (sound : IsSound plan) where
  -- a veto, as it is in the counted plan
  abbrev pub remade : Veto → Veto
  remade (Deny name literals) = Deny name literals
  remade (Cap name key units) = Cap name (record { item = moved plan sound.distinct key.item; side = key.side }) units

  -- it has its name there
  remade_name : (veto : Veto) → veto_name (remade veto) ≡ veto_name veto
  remade_name (Deny name literals) = refl
  remade_name (Cap name key units) = refl

  -- and its command
  remade_command : (veto : Veto) → IsVetoOf plan veto → veto_command (counted plan sound.distinct) (remade veto) ≡ veto_command plan veto
  remade_command (Deny name literals) there = refl
  remade_command (Cap name key units) there = ap (λ item. command.Cap name item key.side units) (item_shown plan sound.distinct key.item there)

  pub remade_commands : (vetoes : List Veto) → All (IsVetoOf plan) vetoes → map (veto_command (counted plan sound.distinct)) (map remade vetoes) ≡ map (veto_command plan) vetoes
  remade_commands [] there = refl
  remade_commands (veto ∷ vetoes) there =
      λ i. remade_command veto (All-head (IsVetoOf plan) veto vetoes there) i ∷ remade_commands vetoes (All-tail (IsVetoOf plan) veto vetoes there) i

  begins : Begins plan.choices plan.choices
  begins = record {
    names = sound.distinct.choices;
    alternatives = λ place choice at. (sound.choices place choice at).distinct;
    same = λ place choice at. at;
  }

  module _ (vetoes : List Veto) (are : AreVetoesOf plan vetoes) where
    -- the state with the whole plan, and the vetoes before a place
    abbrev before : ℕ → State
    before i = record { plan = counted plan sound.distinct; vetoes = take i (map remade vetoes) }

    module _ (i : ℕ) (veto : Veto) (at : slice_get vetoes i ≡ Some veto) where
      remade_at : slice_get (map remade vetoes) i ≡ Some (remade veto)
      remade_at = slice_get-map remade vetoes i ∙ ap (option_map remade) at

      there : IsVetoOf plan veto
      there = subst (IsVetoOf plan) (get_or_from_slice_get vetoes i veto veto at) (are.there i veto (slice_get_within vetoes i veto at))

      new : veto_named (before i).vetoes (veto_name (remade veto)) ≡ None
      new =
          let same : veto_names (map remade vetoes) ≡ veto_names vetoes = map_kept veto_name remade remade_name vetoes in
          new_name veto_name (map remade vetoes) i (remade veto) (subst AreDistinct (sym same) are.sound.distinct) remade_at

      room : length (before i).vetoes < VETOES
      room = omega (arith, are.sound.count, slice_get_within vetoes i veto at, length_before (map remade vetoes) i (remade veto) remade_at)

    -- a denial at a place is the next veto
    adds_denial : (i : ℕ) (name : List ℕ) (literals : List Literal) → slice_get vetoes i ≡ Some (Deny name literals)
        → Applies (before i) (veto_command plan (Deny name literals)) (before (suc i))
    adds_denial i name literals at =
        let denial : IsDenialOf plan literals = there i (Deny name literals) at in
        let names = guard_names plan.choices literals in
        let accepted : deny_refusal (before i).plan (before i).vetoes name names ≡ None =
        none_then _ _ (passed _ _ (ap is_some (new i (Deny name literals) at)))
        (none_then _ _ (none_unknown plan.choices (before i).plan begins 1 literals denial.guard.among)
        (none_then _ _ (none_repeated plan.choices (before i).plan begins literals denial.guard)
        (none_then _ _ (passed _ _ (lt-leb _ _ (room i (Deny name literals) at))) refl))) in
        record {
          edits = tt;
          accepted = ap (option_map of_edit) accepted;
          plan = refl;
          vetoes = record {
            literals = literals;
            found = spells plan.choices (before i).plan begins literals denial.guard.among;
            list = take_next (map remade vetoes) i (Deny name literals) (remade_at i (Deny name literals) at);
          };
        }

    -- so is a cap
    adds_cap : (i : ℕ) (name : List ℕ) (key : SideKey) (units : ℕ) → slice_get vetoes i ≡ Some (Cap name key units)
        → Applies (before i) (veto_command plan (Cap name key units)) (before (suc i))
    adds_cap i name key units at =
        let capped : IsItemOf plan key.item = there i (Cap name key units) at in
        let item = item_name plan key.item in
        let found = item_found plan sound.distinct key.item capped in
        let accepted : cap_refusal (before i).plan (before i).vetoes name (kind_named item) (name_of item) ≡ None =
        none_then _ _ (passed _ _ (ap is_some (new i (Cap name key units) at)))
        (none_then _ _ (passed _ _ (ap is_none found))
        (none_then _ _ (passed _ _ (lt-leb _ _ (room i (Cap name key units) at))) refl)) in
        record {
          edits = tt;
          accepted = ap (option_map of_edit) accepted;
          plan = refl;
          vetoes = record {
            on = moved plan sound.distinct key.item;
            found = found;
            list = take_next (map remade vetoes) i (remade (Cap name key units)) (remade_at i (Cap name key units) at);
          };
        }

    pub adds : (i : ℕ) (veto : Veto) → slice_get vetoes i ≡ Some veto → Applies (before i) (veto_command plan veto) (before (suc i))
    adds i (Deny name literals) at = adds_denial i name literals at
    adds i (Cap name key units) at = adds_cap i name key units at

    -- the vetoes are made from the plan
    pub makes_vetoes : Makes (before 0) (map (veto_command plan) vetoes) (record { plan = counted plan sound.distinct; vetoes = map remade vetoes })
    makes_vetoes =
        let all : take (length vetoes) (map remade vetoes) ≡ map remade vetoes =
        take_all (length vetoes) (map remade vetoes) (omega (arith, length-map vetoes remade)) in
        subst (λ vs. Makes (before 0) (map (veto_command plan) vetoes) (record { plan = counted plan sound.distinct; vetoes = vs })) all
        (makes_each (veto_command plan) vetoes before adds)
