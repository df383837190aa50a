-- The lines of a document lead its reader from the start to where that document is done.
use Rattle.std.proofs.Common.{◌≡◌, ℕ, List, [], ◌∷◌, ◌++◌, length, map, flat_map, Option, Some, None, IfSome, slice_get, refl, sym, ap, subst, ◌∙◌, arith, append_assoc, append-nil}
use Rattle.std.specs.List.{AllByRecursion, zip}
use Rattle.std.proofs.lemmas.List.{map_push}
use Rattle.uhura_plan.specs.declared.key.EdgeKey.{EdgeKey}
use Rattle.uhura_plan.specs.declared.key.SideKey.{SideKey}
use Rattle.uhura_plan.specs.declared.guard.Literal.{Literal}
use Rattle.uhura_plan.specs.Sound.{IsLiteralAmong}
use Rattle.uhura_choice.specs.declared.prefix.Pick.{Pick}
use Rattle.uhura_veto.specs.State.{State}
use Rattle.uhura_veto.specs.Vetoes.{IsItemOf}
use Rattle.uhura_command.specs.Script.{item_name, commands_of}
use Rattle.uhura_command.specs.State.{empty_state, IsSoundState}
use Rattle.uhura_item.specs.declared.item.Item.{Item}
use Rattle.uhura_item.specs.declared.item.Item.TheVariants as item
use Rattle.uhura_item.specs.Item.{IsItem}
use Rattle.uhura_cert.specs.declared.document.Proposal.{Proposal}
use Rattle.uhura_cert.specs.declared.document.Shared.{Shared}
use Rattle.uhura_cert.specs.declared.document.Shared.TheVariants as shared
use Rattle.uhura_cert.specs.declared.document.Reason.{Reason}
use Rattle.uhura_cert.specs.declared.document.Reason.TheVariants as reason
use Rattle.uhura_cert.specs.declared.document.Leaf.{Leaf}
use Rattle.uhura_cert.specs.Order.{IsEdgeOf, side_place, edge_place, Rises}
use Rattle.uhura_cert.specs.Document.{HasPlacesAsSlots, Document, FitsPlan, AreEdgeUnits, AreEdges, IsShared, IsReasonOf, MayStand, IsLeaf}
use Rattle.uhura_cert.specs.Items.{pick_item, relax_item, time_item, units_item, edge_item, to_cost, to_picks, to_sides, to_times, proposal_items, answer_items, shared_items, reason_items, edge_name, leaf_items, picked_names, to_version, to_script, to_question, to_answer, to_shared, to_leaves, items_of}
use Rattle.uhura_cert.specs.Machine.{Spot, start, script, question, picks, sides, times, entries, entry_flow, entry_walk, leaves, leaf_head, leaf_flow, leaf_walk, done, in_place, answered, IsPlain, IsPlainFront, HasReason, IsNextEdge, IsNextSide, edge_named, with_entry, with_leaf, proposal_of, leaf_of, FromTimes, FromLeaves, FromEntries, Step, Moves}
use Rattle.uhura_cert.specs.Run.{Run}
use Rattle.uhura_cert.proofs.RunLaws.{run-append}
use Rattle.uhura_cert.proofs.Ordered.{rises_at, all_at, runs_each}
use Rattle.uhura_cert.proofs.MachineSteps.{plain_entry, plain_leaf, plain_answer}
use Rattle.uhura_cert.proofs.FoundNames.{literal_forth, item_forth, edge_forth, veto_forth, picks_forth}

-- steps by lines that may be lines
pub runs_fit : (s : Spot) (is : List Item) (t : Spot) → Run Step s is t → AllByRecursion IsItem is → Run Moves s is t
runs_fit s [] t run fit = run
runs_fit s (i ∷ is) t run fit = record { next = run.next; step = record { fits = fit.0; step = run.step }; rest = runs_fit run.next is t run.rest fit.1 }

-- one line alone
pub one_step : (s : Spot) (i : Item) (t : Spot) → Step s i t → Run Step s (i ∷ []) t
one_step s i t step = record { next = t; step = step; rest = refl }

-- ---- what is shown

-- the edges of an entry or of a leaf, by their units
units_run : (d : Document) (at : List (EdgeKey × ℕ) → Spot) (edges : List (EdgeKey × ℕ)) → IsPlain d → AreEdgeUnits in_place d.state.plan edges
    → ((front : List (EdgeKey × ℕ)) (x : EdgeKey × ℕ) → IsNextEdge d.state.plan front (edge_name d.state.plan x.0) x.0 → Step (at front) (units_item d.state.plan x) (at (front ++ x ∷ [])))
    → Run Step (at []) (map (units_item d.state.plan) edges) (at edges)
units_run d at edges plain are each =
    runs_each Step at (units_item d.state.plan) edges (λ front x back is.
    each front x (record {
      found = edge_forth d.state.plan x.0 plain.state.plan plain.slots (all_at (λ (e : EdgeKey × ℕ). IsEdgeOf d.state.plan e.0) front x back (subst (AllByRecursion (λ (e : EdgeKey × ℕ). IsEdgeOf d.state.plan e.0)) is are.among));
      later = rises_at (λ (e : EdgeKey × ℕ). edge_place in_place e.0) 0 front x back (subst (Rises (λ (e : EdgeKey × ℕ). edge_place in_place e.0) 0) is are.in_order);
    }))

-- the edges of a walk
walk_run : (d : Document) (at : List EdgeKey → Spot) (edges : List EdgeKey) → IsPlain d → AreEdges d.state.plan edges
    → ((front : List EdgeKey) (e : EdgeKey) → edge_named d.state.plan (edge_name d.state.plan e) ≡ Some e → Step (at front) (edge_item d.state.plan e) (at (front ++ e ∷ [])))
    → Run Step (at []) (map (edge_item d.state.plan) edges) (at edges)
walk_run d at edges plain are each =
    runs_each Step at (edge_item d.state.plan) edges (λ front e back is.
    each front e (edge_forth d.state.plan e plain.state.plan plain.slots (all_at (IsEdgeOf d.state.plan) front e back (subst (AllByRecursion (IsEdgeOf d.state.plan)) is are))))

-- from a spot the lines may come that may come behind these entries
record EntriesAt (d : Document) (s : Spot) : Type 0 where
  flow : (t : Spot) → FromEntries d item.SharedFlow t → Step s item.SharedFlow t
  stuck : (t : Spot) → FromEntries d item.SharedStuck t → Step s item.SharedStuck t
  leaf : (names : List (Option (List ℕ))) (t : Spot) → FromLeaves d (item.Leaf names) t → Step s (item.Leaf names) t
  end : (t : Spot) → FromLeaves d item.End t → Step s item.End t

-- and behind these leaves
record LeavesAt (d : Document) (s : Spot) : Type 0 where
  leaf : (names : List (Option (List ℕ))) (t : Spot) → FromLeaves d (item.Leaf names) t → Step s (item.Leaf names) t
  end : (t : Spot) → FromLeaves d item.End t → Step s item.End t

-- an entry leads on
record EntryRun (d : Document) (s : Spot) (entry : Shared) : Type 0 where
  last : Spot
  run : Run Step s (shared_items d.state.plan entry) last
  at : EntriesAt (with_entry d entry) last

entry_run : (d : Document) (s : Spot) (entry : Shared) → IsPlain d → EntriesAt d s → d.version ≡ 2 → IsShared in_place d.state.plan entry → EntryRun d s entry
entry_run d s (shared.Flow edges) plain at two is = record {
  last = entry_flow d edges;
  run = record {
    next = entry_flow d [];
    step = at.flow (entry_flow d []) (record { holds = two; leads = refl });
    rest = units_run d (entry_flow d) edges plain is (λ front x next. record { thing = x.0; such = next; leads = refl });
  };
  at = record { flow = λ t step. step; stuck = λ t step. step; leaf = λ names t step. step; end = λ t step. step };
}
entry_run d s (shared.Stuck edges) plain at two is = record {
  last = entry_walk d edges;
  run = record {
    next = entry_walk d [];
    step = at.stuck (entry_walk d []) (record { holds = two; leads = refl });
    rest = walk_run d (entry_walk d) edges plain is (λ front e next. record { thing = e; such = next; leads = refl });
  };
  at = record { flow = λ t step. step; stuck = λ t step. step; leaf = λ names t step. step; end = λ t step. step };
}

-- with more entries, and without leaves
abbrev with_entries : Document → List Shared → Document
with_entries d more = record d { shared = d.shared ++ more }

record EntriesRun (d : Document) (s : Spot) (more : List Shared) : Type 0 where
  last : Spot
  run : Run Step s (flat_map (shared_items d.state.plan) more) last
  at : EntriesAt (with_entries d more) last

entries_run : (more : List Shared) (d : Document) (s : Spot) → IsPlainFront d → EntriesAt d s → AllByRecursion (λ entry. (d.version ≡ 2) × IsShared in_place d.state.plan entry) more → EntriesRun d s more
entries_run [] d s front at are = record {
  last = s;
  run = refl;
  at = subst (λ entries. EntriesAt (record d { shared = entries }) s) (sym (append-nil d.shared)) at;
}
entries_run (entry ∷ more) d s front at are =
    let first = entry_run d s entry front.plain at are.0.0 are.0.1 in
    let rest = entries_run more (with_entry d entry) first.last (plain_entry d entry front are.0.0 are.0.1) first.at are.1 in
    record {
      last = rest.last;
      run = run-append Step s (shared_items d.state.plan entry) (flat_map (shared_items d.state.plan) more) first.last rest.last first.run rest.run;
      at = subst (λ entries. EntriesAt (record d { shared = entries }) rest.last) (append_assoc d.shared (entry ∷ []) more) rest.at;
    }

-- a leaf leads on
record LeafRun (d : Document) (s : Spot) (leaf : Leaf) : Type 0 where
  last : Spot
  run : Run Step s (leaf_items d.state leaf) last
  at : LeavesAt (with_leaf d leaf) last

-- its reason leads on
record ReasonRun (d : Document) (prefix : List Pick) (why : Reason) : Type 0 where
  last : Spot
  run : Run Step (leaf_head d prefix) (reason_items d.state why) last
  at : LeavesAt (with_leaf d (leaf_of prefix why)) last

reason_run : (d : Document) (prefix : List Pick) (why : Reason) → IsPlain d → IsReasonOf in_place d.state why → MayStand d.version (length d.shared) why → ReasonRun d prefix why
reason_run d prefix (reason.Denied veto) plain is stands = record {
  last = leaves (with_leaf d (leaf_of prefix (reason.Denied veto)));
  run = one_step _ _ _ (record { thing = veto; such = veto_forth d.state.vetoes veto plain.state.vetoes.sound.distinct is; leads = refl });
  at = record { leaf = λ names t step. step; end = λ t step. step };
}
reason_run d prefix (reason.Flow edges) plain is stands = record {
  last = leaf_flow d prefix edges;
  run = record {
    next = leaf_flow d prefix [];
    step = record { holds = stands; leads = refl };
    rest = units_run d (leaf_flow d prefix) edges plain is (λ front x next. record { thing = x.0; such = next; leads = refl });
  };
  at = record { leaf = λ names t step. step; end = λ t step. step };
}
reason_run d prefix (reason.Stuck edges) plain is stands = record {
  last = leaf_walk d prefix edges;
  run = record {
    next = leaf_walk d prefix [];
    step = record { holds = stands; leads = refl };
    rest = walk_run d (leaf_walk d prefix) edges plain is (λ front e next. record { thing = e; such = next; leads = refl });
  };
  at = record { leaf = λ names t step. step; end = λ t step. step };
}
reason_run d prefix (reason.Entry entry) plain is stands = record {
  last = leaves (with_leaf d (leaf_of prefix (reason.Entry entry)));
  run = one_step _ _ _ (record { holds = (stands.0, stands.1); leads = refl });
  at = record { leaf = λ names t step. step; end = λ t step. step };
}

-- where a reason stands, one can be given
reason_there : (d : Document) (why : Reason) → IsReasonOf in_place d.state why → MayStand d.version (length d.shared) why → HasReason d
reason_there d (reason.Denied veto) is stands = λ two. omega (arith, is)
reason_there d (reason.Flow edges) is stands = λ two. absurd (omega (arith, two, stands))
reason_there d (reason.Stuck edges) is stands = λ two. absurd (omega (arith, two, stands))
reason_there d (reason.Entry entry) is stands = λ two. omega (arith, stands.1)

leaf_run : (d : Document) (s : Spot) (leaf : Leaf) → IsPlain d → LeavesAt d s → IsLeaf in_place d.version d.state (length d.shared) leaf → LeafRun d s leaf
leaf_run d s leaf plain at is =
    let named = picks_forth d.state.plan.choices leaf.prefix (λ place c there. (plain.state.plan.choices place c there).distinct) is.prefix in
    let rest = reason_run d leaf.prefix leaf.reason plain is.reason is.stands in
    record {
      last = rest.last;
      run = record {
        next = leaf_head d leaf.prefix;
        step = at.leaf (picked_names d.state.plan.choices leaf.prefix) (leaf_head d leaf.prefix)
            (record { thing = leaf.prefix; such = record { named = named; goes_on = reason_there d leaf.reason is.reason is.stands }; leads = refl });
        rest = rest.run;
      };
      at = rest.at;
    }

abbrev with_leaves : Document → List Leaf → Document
with_leaves d more = record d { leaves = d.leaves ++ more }

record LeavesRun (d : Document) (s : Spot) (more : List Leaf) : Type 0 where
  last : Spot
  run : Run Step s (flat_map (leaf_items d.state) more) last
  at : LeavesAt (with_leaves d more) last

leaves_run : (more : List Leaf) (d : Document) (s : Spot) → IsPlain d → LeavesAt d s → AllByRecursion (IsLeaf in_place d.version d.state (length d.shared)) more → LeavesRun d s more
leaves_run [] d s plain at are = record {
  last = s;
  run = refl;
  at = subst (λ leaves. LeavesAt (record d { leaves = leaves }) s) (sym (append-nil d.leaves)) at;
}
leaves_run (leaf ∷ more) d s plain at are =
    let first = leaf_run d s leaf plain at are.0 in
    let rest = leaves_run more (with_leaf d leaf) first.last (plain_leaf d leaf plain are.0) first.at are.1 in
    record {
      last = rest.last;
      run = run-append Step s (leaf_items d.state leaf) (flat_map (leaf_items d.state) more) first.last rest.last first.run rest.run;
      at = subst (λ leaves. LeavesAt (record d { leaves = leaves }) rest.last) (append_assoc d.leaves (leaf ∷ []) more) rest.at;
    }

-- ---- a proposal

abbrev times_of : List (List ℕ × ℕ) → List ℕ
times_of pairs = map (λ pair. pair.1) pairs

-- the name and the time at a place of a row of both
zip_at : (names : List (List ℕ)) (moments : List ℕ) (front : List (List ℕ × ℕ)) (x : List ℕ × ℕ) (back : List (List ℕ × ℕ)) → zip names moments ≡ front ++ x ∷ back
    → slice_get names (length (times_of front)) ≡ Some x.0
zip_at [] moments [] x back is = let no : ⊥ = cc in absurd no
zip_at [] moments (y ∷ front) x back is = let no : ⊥ = cc in absurd no
zip_at (n ∷ names) [] [] x back is = let no : ⊥ = cc in absurd no
zip_at (n ∷ names) [] (y ∷ front) x back is = let no : ⊥ = cc in absurd no
zip_at (n ∷ names) (t ∷ moments) [] x back is =
    let same : (n, t) ≡ x = cc in ap (λ (pair : List ℕ × ℕ). Some pair.0) same
zip_at (n ∷ names) (t ∷ moments) (y ∷ front) x back is =
    let rest : zip names moments ≡ front ++ x ∷ back = cc in zip_at names moments front x back rest

times_of-zip : (names : List (List ℕ)) (moments : List ℕ) → length moments ≡ length names → times_of (zip names moments) ≡ moments
times_of-zip [] [] same = refl
times_of-zip [] (t ∷ moments) same = absurd (omega (arith, same))
times_of-zip (n ∷ names) [] same = absurd (omega (arith, same))
times_of-zip (n ∷ names) (t ∷ moments) same = ap (λ (ts : List ℕ). t ∷ ts) (times_of-zip names moments (omega (arith, same)))

-- the spot behind these sides, which is that of the picks where there is none
abbrev behind_sides : ℕ → State → ℕ → List Literal → List (SideKey × ℕ) → Spot
behind_sides version state cost literals [] = picks version state cost literals
behind_sides version state cost literals (x ∷ xs) = sides version state cost literals (x ∷ xs)

-- the spot behind these times, which is that of the sides where there is none
abbrev behind_times : ℕ → State → ℕ → List Literal → List (SideKey × ℕ) → List (List ℕ × ℕ) → Spot
behind_times version state cost literals relaxed [] = behind_sides version state cost literals relaxed
behind_times version state cost literals relaxed (x ∷ xs) = times version state (proposal_of cost literals relaxed (times_of (x ∷ xs)))

side_step : (version : ℕ) (state : State) (cost : ℕ) (literals : List Literal) (front : List (SideKey × ℕ)) (x : SideKey × ℕ)
    → IsNextSide state.plan front (item_name state.plan x.0.item) x.0.side x.0 → Step (behind_sides version state cost literals front) (relax_item state.plan x) (behind_sides version state cost literals (front ++ x ∷ []))
side_step version state cost literals [] x next = record { thing = x.0; such = next; leads = refl }
side_step version state cost literals (y ∷ front) x next = record { thing = x.0; such = next; leads = refl }

-- behind the sides times may come
first_time : (version : ℕ) (state : State) (cost : ℕ) (literals : List Literal) (relaxed : List (SideKey × ℕ)) (event : List ℕ) (time : ℕ) (t : Spot)
    → FromTimes version state (proposal_of cost literals relaxed []) (item.At event time) t → Step (behind_sides version state cost literals relaxed) (item.At event time) t
first_time version state cost literals [] event time t step = step
first_time version state cost literals (x ∷ xs) event time t step = step

no_time : (version : ℕ) (state : State) (cost : ℕ) (literals : List Literal) (relaxed : List (SideKey × ℕ)) (t : Spot)
    → FromTimes version state (proposal_of cost literals relaxed []) item.End t → Step (behind_sides version state cost literals relaxed) item.End t
no_time version state cost literals [] t step = step
no_time version state cost literals (x ∷ xs) t step = step

time_step : (version : ℕ) (state : State) (cost : ℕ) (literals : List Literal) (relaxed : List (SideKey × ℕ)) (front : List (List ℕ × ℕ)) (x : List ℕ × ℕ)
    → slice_get state.plan.events (length (times_of front)) ≡ Some x.0
    → Step (behind_times version state cost literals relaxed front) (time_item x) (behind_times version state cost literals relaxed (front ++ x ∷ []))
time_step version state cost literals relaxed [] x there = first_time version state cost literals relaxed x.0 x.1 _ (record { holds = there; leads = refl })
time_step version state cost literals relaxed (y ∷ front) x there = record {
  holds = there;
  leads = ap (λ ts. times version state (proposal_of cost literals relaxed ts)) (map_push (λ (pair : List ℕ × ℕ). pair.1) (y ∷ front) x);
}

end_step : (version : ℕ) (state : State) (cost : ℕ) (literals : List Literal) (relaxed : List (SideKey × ℕ)) (pairs : List (List ℕ × ℕ)) → length (times_of pairs) ≡ length state.plan.events
    → Step (behind_times version state cost literals relaxed pairs) item.End (entries (answered version state (Some (proposal_of cost literals relaxed (times_of pairs)))))
end_step version state cost literals relaxed [] all = no_time version state cost literals relaxed _ (record { holds = all; leads = refl })
end_step version state cost literals relaxed (x ∷ xs) all = record { holds = all; leads = refl }

-- the lines of a proposal lead behind it
proposal_run : (version : ℕ) (state : State) (p : Proposal) → IsSoundState state → HasPlacesAsSlots state.plan → FitsPlan in_place state.plan p
    → Run Step (question version state) (proposal_items state.plan p) (entries (answered version state (Some p)))
proposal_run version state p sound slots fits =
    let s = question version state in
    let behind = behind_times version state p.cost p.picks p.loosening in
    let pairs = zip state.plan.events p.times in
    let moments : times_of pairs ≡ p.times = times_of-zip state.plan.events p.times fits.times in
    let end : Run Step (behind pairs) (item.End ∷ []) (entries (answered version state (Some p))) =
    one_step (behind pairs) item.End _
    (subst (λ ts. Step (behind pairs) item.End (entries (answered version state (Some (proposal_of p.cost p.picks p.loosening ts))))) moments
    (end_step version state p.cost p.picks p.loosening pairs (ap (λ (ts : List ℕ). length ts) moments ∙ fits.times))) in
    let to_the_picks = run-append Step s (to_cost p) (map (pick_item state.plan) p.picks) (picks version state p.cost []) (picks version state p.cost p.picks)
    (one_step s (item.Proposal p.cost) (picks version state p.cost []) refl)
    (runs_each Step (picks version state p.cost) (pick_item state.plan) p.picks (λ front l back is. record {
      thing = l;
      such = record {
        found = literal_forth state.plan l sound.plan (all_at (IsLiteralAmong state.plan.choices) front l back (subst (AllByRecursion (IsLiteralAmong state.plan.choices)) is fits.picks));
        later = rises_at (λ (l : Literal). l.choice) 0 front l back (subst (Rises (λ (l : Literal). l.choice) 0) is fits.picks_in_order);
      };
      leads = refl;
    })) in
    let to_the_sides = run-append Step s (to_picks state.plan p) (map (relax_item state.plan) p.loosening) (picks version state p.cost p.picks) (behind_sides version state p.cost p.picks p.loosening)
    to_the_picks
    (runs_each Step (behind_sides version state p.cost p.picks) (relax_item state.plan) p.loosening (λ front x back is.
    side_step version state p.cost p.picks front x (record {
      found = item_forth state.plan x.0.item sound.plan slots
          (all_at (λ (s : SideKey × ℕ). IsItemOf state.plan s.0.item) front x back (subst (AllByRecursion (λ (s : SideKey × ℕ). IsItemOf state.plan s.0.item)) is fits.sides.among));
      of_side = refl;
      later = rises_at (λ (s : SideKey × ℕ). side_place in_place s.0) 0 front x back (subst (Rises (λ (s : SideKey × ℕ). side_place in_place s.0) 0) is fits.sides.in_order);
    }))) in
    let to_the_times = run-append Step s (to_sides state.plan p) (map time_item pairs) (behind_sides version state p.cost p.picks p.loosening) (behind pairs)
    to_the_sides
    (runs_each Step behind time_item pairs (λ front x back is. time_step version state p.cost p.picks p.loosening front x (zip_at state.plan.events p.times front x back is))) in
    run-append Step s (to_times state.plan p) (item.End ∷ []) (behind pairs) (entries (answered version state (Some p))) to_the_times end

answer_run : (version : ℕ) (state : State) (answer : Option Proposal) → IsSoundState state → HasPlacesAsSlots state.plan → IfSome answer (FitsPlan in_place state.plan)
    → Run Step (question version state) (answer_items state.plan answer) (entries (answered version state answer))
answer_run version state None sound slots fits = one_step (question version state) item.Nothing _ refl
answer_run version state (Some p) sound slots fits = proposal_run version state p sound slots fits

-- ---- the whole

-- what is left to show of the script: its lines lead from the empty state to the state
abbrev pub ScriptRuns : Type 0
ScriptRuns = (version : ℕ) (state : State) → IsSoundState state → HasPlacesAsSlots state.plan
    → Run Step (script version empty_state) (map (λ c. item.Command c) (commands_of state)) (script version state)

pub runs_whole : ScriptRuns → (d : Document) → IsPlain d → Run Step start (items_of d) (done d)
runs_whole scripts d plain =
    let first = answered d.version d.state d.answer in
    let empty : IsPlainFront first = plain_answer d.version d.state d.answer (record { is_version = plain.parts.version; sound = plain.state; slots = plain.slots }) plain.parts.answer in
    let shown = entries_run d.shared first (entries first) empty (record { flow = λ t step. step; stuck = λ t step. step; leaf = λ names t step. step; end = λ t step. step }) plain.parts.shared in
    let front : Document = with_entries first d.shared in
    let front_plain : IsPlain front = record {
      state = plain.state;
      slots = plain.slots;
      parts = record { version = plain.parts.version; answer = plain.parts.answer; shared = plain.parts.shared; leaves = tt };
    } in
    let left = leaves_run d.leaves front shown.last front_plain (record { leaf = shown.at.leaf; end = shown.at.end }) plain.parts.leaves in
    let version_run = one_step start (item.Version d.version) (script d.version empty_state) refl in
    let script_run = run-append Step start (to_version d) (map (λ c. item.Command c) (commands_of d.state)) (script d.version empty_state) (script d.version d.state)
    version_run (scripts d.version d.state plain.state plain.slots) in
    let question_run = run-append Step start (to_script d) (item.Answer ∷ []) (script d.version d.state) (question d.version d.state)
    script_run (one_step (script d.version d.state) item.Answer (question d.version d.state) refl) in
    let answer = run-append Step start (to_question d) (answer_items d.state.plan d.answer) (question d.version d.state) (entries first)
    question_run (answer_run d.version d.state d.answer plain.state plain.slots plain.parts.answer) in
    let entry = run-append Step start (to_answer d) (flat_map (shared_items d.state.plan) d.shared) (entries first) shown.last answer shown.run in
    let leaf = run-append Step start (to_shared d) (flat_map (leaf_items d.state) d.leaves) shown.last left.last entry left.run in
    run-append Step start (to_leaves d) (item.End ∷ []) left.last (done d) leaf (one_step left.last item.End (done d) (left.at.end (done d) refl))
