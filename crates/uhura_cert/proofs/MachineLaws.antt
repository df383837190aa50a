-- What holds of the reader of documents line by line: the first line that it doesn't take is the first malformed one, and
-- lines that it takes to an end are the text of one document.
use Rattle.std.proofs.Common.{◌≡◌, ℕ, List, [], ◌∷◌, ◌++◌, map, bytes_eq, refl, sym, ap, subst, ◌∙◌, arith, append_assoc}
use Rattle.std.proofs.lemmas.List.{map-append, map_push}
use Rattle.std.proofs.lemmas.Map.Keys.{IsDistinct-from_apart}
use Rattle.uhura_plan.specs.Lists.{empty}
use Rattle.uhura_plan.specs.Sound.{AreDistinct, IsName, IsSoundUncertain, IsSoundRequirement}
use Rattle.uhura_veto.specs.Vetoes.{HasName, IsSoundVeto, IsVetoOf}
use Rattle.uhura_veto.specs.State.{State}
use Rattle.uhura_line.specs.declared.command.Command.{Command}
use Rattle.uhura_command.specs.Script.{commands_of}
use Rattle.uhura_command.specs.State.{empty_state, IsSoundState}
use Rattle.uhura_item.specs.declared.item.Item.{Item}
use Rattle.uhura_item.specs.declared.item.Item.TheVariants as item
use Rattle.uhura_item.specs.Item.{IsItem, spell}
use Rattle.uhura_item.proofs.OneItem.{one_item}
use Rattle.uhura_cert.specs.Document.{Document}
use Rattle.uhura_cert.specs.Items.{items_of, lines_of}
use Rattle.uhura_cert.specs.Machine.{Spot, start, script, question, picks, sides, times, entries, entry_flow, entry_walk, leaves, leaf_head, leaf_flow, leaf_walk, done, in_place, IsPlain, IsBegun, Good, shown, FromStart, FromScript, Step, Moves, Takes}
use Rattle.uhura_cert.specs.Run.{Run}
use Rattle.uhura_cert.proofs.RunLaws.{Laws, GoesOn}
use Rattle.uhura_cert.proofs.ItemsFit.{items_fit}
use Rattle.uhura_cert.proofs.FirstParts.{none_of}
use Rattle.uhura_cert.proofs.MachineSteps.{Follows, from_leaves, from_entries, from_entry_flow, from_entry_walk, from_leaf_head, from_leaf_flow, from_leaf_walk, from_times, from_sides, from_picks, from_question}
use Rattle.uhura_cert.proofs.MachineScript.{Grows, grows}
use Rattle.uhura_cert.proofs.MachineOnce.{step_once}
use Rattle.uhura_cert.proofs.MachineCompletes.{completes_script, completes_question, completes_picks, completes_sides, completes_left, completes_entries, completes_entry_flow, completes_entry_walk, completes_leaves, completes_leaf_head, completes_leaf_flow, completes_leaf_walk, completes_done, back}
use Rattle.uhura_cert.proofs.MachineRuns.{runs_fit, runs_whole}
use Rattle.uhura_cert.proofs.ScriptRuns.{scripts_run}

-- ---- the beginning

no_names : AreDistinct []
no_names = IsDistinct-from_apart bytes_eq [] (λ i j d before within. absurd (omega (arith, within)))

-- where nothing is planned, all is sound
pub empty_sound : IsSoundState empty_state
empty_sound = record {
  plan = record {
    counts = record { events = omega arith; uncertains = omega arith; choices = omega arith; product = omega arith; requirements = omega arith };
    distinct = record {
      events = no_names;
      ends = no_names;
      apart = λ k d within. absurd (omega (arith, within));
      uncertains = no_names;
      choices = no_names;
      requirements = no_names;
      slots = λ i j d before within. absurd (omega (arith, within));
    };
    events = none_of IsName;
    uncertains = none_of (IsSoundUncertain 0);
    choices = λ place choice at. let no : ⊥ = cc in absurd no;
    requirements = none_of (IsSoundRequirement empty);
  };
  vetoes = record {
    sound = record { count = omega arith; names = none_of HasName; distinct = no_names; each = none_of IsSoundVeto };
    there = none_of (IsVetoOf empty);
  };
}

from_start : (i : Item) (next : Spot) → IsItem i → FromStart i next → Follows [] i next
from_start (item.Version version) next fits step =
    subst (Follows [] (item.Version version)) (sym step)
    (record { good = record { is_version = fits; sound = empty_sound; slots = λ place r at. let no : ⊥ = cc in absurd no }; lines = refl })
from_start i next fits step = absurd step

from_script : (version : ℕ) (state : State) (i : Item) (next : Spot) → IsBegun version state → FromScript version state i next → Follows (shown (script version state)) i next
from_script version state (item.Command c) next begins step =
    let g : Grows state c step.thing = grows version state c step.thing begins step.such in
    let line = λ (c : Command). item.Command c in
    let first : List Item = item.Version version ∷ [] in
    subst (Follows (shown (script version state)) (item.Command c)) (sym step.leads)
    (record {
      good = record { is_version = begins.is_version; sound = step.such.sound; slots = g.slots };
      lines =
          ap (λ cs. first ++ map line cs) g.commands
          ∙ (ap (λ l. first ++ l) (map_push line (commands_of state) c)
          ∙ sym (append_assoc first (map line (commands_of state)) (item.Command c ∷ [])));
    })
from_script version state item.Answer next begins step = subst (Follows (shown (script version state)) item.Answer) (sym step) (record { good = begins; lines = refl })
from_script version state i next begins step = absurd step

-- ---- steps

-- a step leads from what is good to what is good, and shows its line
pub keeps : (s : Spot) (i : Item) (next : Spot) → Good s → Moves s i next → Follows (shown s) i next
keeps start i next good moves = from_start i next moves.fits moves.step
keeps (script version state) i next good moves = from_script version state i next good moves.step
keeps (question version state) i next good moves = from_question version state i next moves.fits good moves.step
keeps (picks version state cost literals) i next good moves = from_picks version state cost literals i next moves.fits good.0 good.1 moves.step
keeps (sides version state cost literals relaxed) i next good moves = from_sides version state cost literals relaxed i next moves.fits good.0 good.1 moves.step
keeps (times version state p) i next good moves = from_times version state p i next moves.fits good.0 good.1 moves.step
keeps (entries d) i next good moves = from_entries d i next good moves.step
keeps (entry_flow d edges) i next good moves = from_entry_flow d edges i next moves.fits good.0 good.1 good.2 moves.step
keeps (entry_walk d edges) i next good moves = from_entry_walk d edges i next good.0 good.1 good.2 moves.step
keeps (leaves d) i next good moves = from_leaves d i next good moves.step
keeps (leaf_head d prefix) i next good moves = from_leaf_head d prefix i next moves.fits good moves.step
keeps (leaf_flow d prefix edges) i next good moves = from_leaf_flow d prefix edges i next moves.fits good moves.step
keeps (leaf_walk d prefix edges) i next good moves = from_leaf_walk d prefix edges i next moves.fits good moves.step
keeps (done d) i next good moves = absurd moves.step

-- some document goes on
pub completes : (s : Spot) → Good s → GoesOn items_of IsPlain (shown s)
completes start good =
    back [] (item.Version 2) (completes_script 2 empty_state (record { is_version = record { low = omega arith; high = omega arith }; sound = empty_sound; slots = λ place r at. let no : ⊥ = cc in absurd no }))
completes (script version state) good = completes_script version state good
completes (question version state) good = completes_question version state good
completes (picks version state cost literals) good = completes_picks version state cost literals good
completes (sides version state cost literals relaxed) good = completes_sides version state cost literals relaxed good
completes (times version state p) good = completes_left version state p good
completes (entries d) good = completes_entries d good
completes (entry_flow d edges) good = completes_entry_flow d edges good
completes (entry_walk d edges) good = completes_entry_walk d edges good
completes (leaves d) good = completes_leaves d good
completes (leaf_head d prefix) good = completes_leaf_head d prefix good
completes (leaf_flow d prefix edges) good = completes_leaf_flow d prefix edges good
completes (leaf_walk d prefix edges) good = completes_leaf_walk d prefix edges good
completes (done d) good = completes_done d good

-- ---- lines

-- the lines that led to a spot
abbrev pub shown_lines : Spot → List (List ℕ)
shown_lines s = map spell (shown s)

-- a line is of one item
takes_once : (s : Spot) (line : List ℕ) (t u : Spot) → Takes s line t → Takes s line u → t ≡ u
takes_once s line t u first second =
    let same : second.item ≡ first.item = one_item second.item first.item second.moves.fits first.moves.fits (second.spelled ∙ sym first.spelled) in
    step_once s first.item t u first.moves.step (subst (λ i. Step s i u) same second.moves.step)

takes_lines : (s : Spot) (line : List ℕ) (t : Spot) → Good s → Takes s line t → shown_lines t ≡ shown_lines s ++ line ∷ []
takes_lines s line t good takes =
    ap (map spell) (keeps s takes.item t good takes.moves).lines
    ∙ (map_push spell (shown s) takes.item
    ∙ ap (λ l. shown_lines s ++ l ∷ []) takes.spelled)

goes_on_lines : (front : List Item) → GoesOn items_of IsPlain front → GoesOn lines_of IsPlain (map spell front)
goes_on_lines front on = record {
  document = on.document;
  rest = map spell on.rest;
  fits = on.fits;
  goes_on = ap (map spell) on.goes_on ∙ map-append spell front on.rest;
}

run_lines : (s : Spot) (is : List Item) (t : Spot) → Run Moves s is t → Run Takes s (map spell is) t
run_lines s [] t run = run
run_lines s (i ∷ is) t run = record {
  next = run.next;
  step = record { item = i; moves = run.step; spelled = refl };
  rest = run_lines run.next is t run.rest;
}

done_once : (d e : Document) → done d ≡ done e → d ≡ e
done_once d e same = cc

pub machine_laws : Laws Takes start Good shown_lines lines_of IsPlain done
machine_laws = record {
  begins = tt;
  nothing = refl;
  keeps_good = λ s line t good takes. (keeps s takes.item t good takes.moves).good;
  keeps_lines = takes_lines;
  once = λ s line t u good first second. takes_once s line t u first second;
  completes = λ s good. goes_on_lines (shown s) (completes s good);
  writes = λ d plain. run_lines start (items_of d) (done d) (runs_fit start (items_of d) (done d) (runs_whole scripts_run d plain) (items_fit in_place d plain.state plain.parts));
  ends = λ d good. good;
  all_shown = λ d. refl;
  same = done_once;
}
