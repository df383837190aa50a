-- Plain documents, whose slots are places, are documents; and each document has a plain one with the same lines.
use Rattle.std.proofs.Common.{◌≡◌, ℕ, zero, suc, ◌+◌, ◌*◌, ◌≤◌, Bool, true, false, ◌==◌, List, [], ◌∷◌, ◌++◌, length, map, flat_map, find, Option, Some, None, option_map, IsSome, IfSome, All, slice_get, refl, sym, ap, subst, ◌∙◌, arith}
use Rattle.std.specs.Prelude.{if◌then◌else◌}
use Rattle.std.specs.List.{AllByRecursion, position_or_len, zip}
use Rattle.std.proofs.lemmas.Bool.Decides.{Decides-eqb}
use Rattle.std.proofs.lemmas.List.{length-map}
use Rattle.std.proofs.lemmas.List.Elements.{All-head, All-tail, All-cons, All-nil, All-map, All-weaker}
use Rattle.uhura_plan.specs.declared.limits.TheConstants.{REQUIREMENTS}
use Rattle.uhura_plan.specs.declared.key.EdgeKey.{EdgeKey}
use Rattle.uhura_plan.specs.declared.key.EdgeKey.TheVariants as key
use Rattle.uhura_plan.specs.declared.key.Item.{Item as Thing}
use Rattle.uhura_plan.specs.declared.key.Item.TheVariants.{Requirement as InSlot, Uncertain as AtPlace}
use Rattle.uhura_plan.specs.declared.key.SideKey.{SideKey}
use Rattle.uhura_plan.specs.declared.requirement.Requirement.{Requirement}
use Rattle.uhura_plan.specs.Lists.{Lists, slots}
use Rattle.uhura_plan.specs.Sound.{AreDistinct, IsSound, IsSoundRequirement}
use Rattle.uhura_plan.proofs.Named.{map_kept}
use Rattle.uhura_veto.specs.declared.veto.Veto.{Veto}
use Rattle.uhura_veto.specs.declared.veto.Veto.TheVariants.{Deny, Cap}
use Rattle.uhura_veto.specs.State.{State}
use Rattle.uhura_veto.specs.Vetoes.{HasName, IsSoundVeto, IsItemOf, IsVetoOf, veto_name, veto_names}
use Rattle.uhura_veto.proofs.Items.{IsItemOf-named}
use Rattle.uhura_line.specs.declared.command.Command.{Command}
use Rattle.uhura_line.specs.declared.command.Command.TheVariants as command
use Rattle.uhura_command.specs.Replay.{in_slot, IsSameUpToSlots as IsSameStateUpToSlots}
use Rattle.uhura_command.specs.Script.{name_at, uncertain_command, choice_command, requirement_command, commands_of}
use Rattle.uhura_command.specs.State.{IsSoundState}
use Rattle.uhura_command.proofs.CountedItems as numbers
use Rattle.uhura_command.proofs.CountedItems.{counted, moved, item_shown, item_found}
use Rattle.uhura_command.proofs.MakesVetoes.{remade, remade_commands}
use Rattle.uhura_command.proofs.Numbering.{numbered, numbered_names, same_but_slots, length-numbered}
use Rattle.uhura_item.specs.declared.item.Item.TheVariants as item
use Rattle.uhura_item.specs.declared.item.EdgeKind.TheVariants as kind
use Rattle.uhura_item.specs.declared.item.EdgeName.TheVariants.{Side}
use Rattle.uhura_item.specs.declared.limits.TheConstants.{SIDE_UNITS, EDGE_UNITS}
use Rattle.uhura_item.specs.Item.{IsBetween, spell}
use Rattle.uhura_cert.specs.declared.document.Proposal.{Proposal}
use Rattle.uhura_cert.specs.declared.document.Shared.{Shared}
use Rattle.uhura_cert.specs.declared.document.Shared.TheVariants as shared
use Rattle.uhura_cert.specs.declared.document.Reason.{Reason}
use Rattle.uhura_cert.specs.declared.document.Reason.TheVariants as reason
use Rattle.uhura_cert.specs.declared.document.Leaf.{Leaf}
use Rattle.uhura_cert.specs.Order.{place_in, item_place, side_number, side_place, edge_place, IsEdgeOf, Rises}
use Rattle.uhura_cert.specs.Document.{Document, FitsPlan, AreEdgeUnits, AreEdges, IsShared, IsReasonOf, MayStand, IsLeaf, HasFittingParts, IsDocument, HasPlacesAsSlots}
use Rattle.uhura_cert.specs.Items.{relax_item, time_item, units_item, edge_item, edge_name, to_picks, proposal_items, answer_items, shared_items, reason_items, leaf_items, picked_names, items_of, lines_of}
use Rattle.uhura_cert.specs.Machine.{in_place, IsPlain}
use Rattle.uhura_cert.specs.ReadsBack.{placed_thing, placed_side, placed_edge, placed_relaxed, placed_units, placed_proposal, placed_shared, placed_reason, placed_leaf, IsSameUpToSlots}
use Rattle.uhura_cert.proofs.ItemsFit.{all_mapped}
use Rattle.uhura_cert.proofs.MachineScript.{slot_there}
use Rattle.uhura_cert.proofs.ScriptRuns.{CountsFrom, counts_all}

-- ---- parts that fit by one order of requirements fit by another that agrees with it on what is there

each_weaker : {X : Type 0} (P Q : X → Type 0) → ((x : X) → P x → Q x) → (xs : List X) → AllByRecursion P xs → AllByRecursion Q xs
each_weaker P Q weaker [] are = tt
each_weaker P Q weaker (x ∷ xs) are = (weaker x are.0, each_weaker P Q weaker xs are.1)

rises_along : {X : Type 0} (P : X → Type 0) (p q : X → ℕ) → ((x : X) → P x → p x ≡ q x) → (least : ℕ) (xs : List X) → AllByRecursion P xs → Rises p least xs → Rises q least xs
rises_along P p q same least [] are rises = tt
rises_along P p q same least (x ∷ xs) are rises =
    let here : p x ≡ q x = same x are.0 in
    (omega (arith, here, rises.0), rises_along P p q same (q x + 1) xs are.1 (subst (λ n. Rises p (n + 1) xs) here rises.1))

module _ (place other : ℕ → ℕ) (plan : Lists) (agree : (thing : Thing) → IsItemOf plan thing → item_place place thing ≡ item_place other thing) where
  side_along : (k : SideKey) → IsItemOf plan k.item → side_place place k ≡ side_place other k
  side_along k there = ap (λ n. 2 * n + side_number k.side) (agree k.item there)

  edge_along : (e : EdgeKey) → IsEdgeOf plan e → edge_place place e ≡ edge_place other e
  edge_along (key.Loose k) there = ap (λ n. 7 * n + 3 * side_number k.side) (agree k.item there)
  edge_along (key.Steep k) there = ap (λ n. 7 * n + 3 * side_number k.side + 1) (agree k.item there)
  edge_along (key.Firm k) there = ap (λ n. 7 * n + 3 * side_number k.side + 2) (agree k.item there)
  edge_along (key.Order d) there = refl

  proposal_along : (p : Proposal) → FitsPlan place plan p → FitsPlan other plan p
  proposal_along p fits = record {
    cost = fits.cost;
    picks = fits.picks;
    picks_in_order = fits.picks_in_order;
    sides = record {
      among = fits.sides.among;
      units = fits.sides.units;
      in_order = rises_along (λ (s : SideKey × ℕ). IsItemOf plan s.0.item) (λ (s : SideKey × ℕ). side_place place s.0) (λ (s : SideKey × ℕ). side_place other s.0)
          (λ s there. side_along s.0 there) 0 p.loosening fits.sides.among fits.sides.in_order;
    };
    times = fits.times;
    times_within = fits.times_within;
  }

  answer_along : (answer : Option Proposal) → IfSome answer (FitsPlan place plan) → IfSome answer (FitsPlan other plan)
  answer_along None fits = tt
  answer_along (Some p) fits = proposal_along p fits

  units_along : (edges : List (EdgeKey × ℕ)) → AreEdgeUnits place plan edges → AreEdgeUnits other plan edges
  units_along edges are = record {
    among = are.among;
    units = are.units;
    in_order = rises_along (λ (e : EdgeKey × ℕ). IsEdgeOf plan e.0) (λ (e : EdgeKey × ℕ). edge_place place e.0) (λ (e : EdgeKey × ℕ). edge_place other e.0)
        (λ e there. edge_along e.0 there) 0 edges are.among are.in_order;
  }

  shared_along : (entry : Shared) → IsShared place plan entry → IsShared other plan entry
  shared_along (shared.Flow edges) is = units_along edges is
  shared_along (shared.Stuck edges) is = is

reason_along : (place other : ℕ → ℕ) (state : State) → ((thing : Thing) → IsItemOf state.plan thing → item_place place thing ≡ item_place other thing) → (why : Reason)
    → IsReasonOf place state why → IsReasonOf other state why
reason_along place other state agree (reason.Denied veto) is = is
reason_along place other state agree (reason.Flow edges) is = units_along place other state.plan agree edges is
reason_along place other state agree (reason.Stuck edges) is = is
reason_along place other state agree (reason.Entry entry) is = is

parts_along : (place other : ℕ → ℕ) (d : Document) → ((thing : Thing) → IsItemOf d.state.plan thing → item_place place thing ≡ item_place other thing)
    → HasFittingParts place d → HasFittingParts other d
parts_along place other d agree parts = record {
  version = parts.version;
  answer = answer_along place other d.state.plan agree d.answer parts.answer;
  shared = each_weaker (λ entry. (d.version ≡ 2) × IsShared place d.state.plan entry) (λ entry. (d.version ≡ 2) × IsShared other d.state.plan entry)
      (λ entry is. (is.0, shared_along place other d.state.plan agree entry is.1)) d.shared parts.shared;
  leaves = each_weaker (IsLeaf place d.version d.state (length d.shared)) (IsLeaf other d.version d.state (length d.shared))
      (λ leaf is. record { prefix = is.prefix; reason = reason_along place other d.state agree leaf.reason is.reason; stands = is.stands }) d.leaves parts.leaves;
}

-- ---- where slots are places

position_same : (first : ℕ) (rs : List Requirement) (slot : ℕ) → CountsFrom first rs → IsSome (find (λ r. r.slot == slot) rs) → first + position_or_len (λ r. r.slot == slot) rs ≡ slot
position_same first [] slot counts there = let no : ⊥ = cc in absurd no
position_same first (r ∷ rs) slot counts there = by (r.slot == slot) refl (position_same (first + 1) rs slot (λ i q at. omega (arith, counts (suc i) q at))) there
  where
    by : (b : Bool) → (r.slot == slot) ≡ b → (IsSome (find (λ r. r.slot == slot) rs) → first + 1 + position_or_len (λ r. r.slot == slot) rs ≡ slot)
        → IsSome (if b then Some r else find (λ r. r.slot == slot) rs) → first + position_or_len (λ r. r.slot == slot) (r ∷ rs) ≡ slot
    by true test rest there = let same : r.slot ≡ slot = (Decides-eqb r.slot slot).0 test in rw test (omega (arith, same, counts zero r refl))
    by false test rest there = rw test (omega (arith, rest there))

places_agree : (plan : Lists) → HasPlacesAsSlots plan → (thing : Thing) → IsItemOf plan thing → item_place (place_in plan) thing ≡ item_place in_place thing
places_agree plan places (InSlot slot) there = let same = position_same 0 plan.requirements slot (counts_all plan places) there in omega (arith, same)
places_agree plan places (AtPlace d) there = refl

-- a plain document is a document
pub plain_document : (d : Document) → IsPlain d → IsDocument d
plain_document d plain = record {
  state = plain.state;
  parts = parts_along in_place (place_in d.state.plan) d (λ thing there. sym (places_agree d.state.plan plain.slots thing there)) plain.parts;
}

-- and a document whose slots are places is plain
pub document_plain : (d : Document) → IsDocument d → HasPlacesAsSlots d.state.plan → IsPlain d
document_plain d is places = record {
  state = is.state;
  slots = places;
  parts = parts_along (place_in d.state.plan) in_place d (λ thing there. places_agree d.state.plan places thing there) is.parts;
}

-- ---- slots that are counted

-- a thing's place is where its requirement stands
position_is : (rs : List Requirement) (slot : ℕ) → position_or_len (λ r. r.slot == slot) rs ≡ numbers.place_in slot rs
position_is [] slot = refl
position_is (r ∷ rs) slot = by (r.slot == slot) refl (position_is rs slot)
  where
    by : (b : Bool) → (r.slot == slot) ≡ b → position_or_len (λ r. r.slot == slot) rs ≡ numbers.place_in slot rs → position_or_len (λ r. r.slot == slot) (r ∷ rs) ≡ numbers.place_in slot (r ∷ rs)
    by true test rest = rw test refl
    by false test rest = rw test (omega (arith, rest))

numbered_places : (first : ℕ) (rs : List Requirement) (place : ℕ) (r : Requirement) → slice_get (numbered first rs) place ≡ Some r → r.slot ≡ first + place
numbered_places first [] place r at = let no : ⊥ = cc in absurd no
numbered_places first (q ∷ rs) zero r at = let same : in_slot first q ≡ r = cc in ap (λ (x : Requirement). x.slot) (sym same) ∙ omega arith
numbered_places first (q ∷ rs) (suc place) r at = omega (arith, numbered_places (first + 1) rs place r at)

all_numbered : (plan new : Lists) (first : ℕ) (rs : List Requirement) → new.events ≡ plan.events → new.uncertains ≡ plan.uncertains → new.choices ≡ plan.choices → first + length rs ≤ REQUIREMENTS
    → All (IsSoundRequirement plan) rs → All (IsSoundRequirement new) (numbered first rs)
all_numbered plan new first [] events uncertains choices few are = All-nil (IsSoundRequirement new)
all_numbered plan new first (r ∷ rs) events uncertains choices few are =
    let s = All-head (IsSoundRequirement plan) r rs are in
    All-cons (IsSoundRequirement new) (in_slot first r) (numbered (first + 1) rs)
    (record {
      name = s.name;
      slot = omega (arith, few);
      from = rw (events, uncertains) s.from;
      to = rw (events, uncertains) s.to;
      two_events = s.two_events;
      lower = s.lower;
      upper = s.upper;
      ordered = s.ordered;
      guard = rw choices s.guard;
    })
    (all_numbered plan new (first + 1) rs events uncertains choices (omega (arith, few)) (All-tail (IsSoundRequirement plan) r rs are))

commands_slotless : (plan : Lists) (first : ℕ) (rs : List Requirement) → map (requirement_command plan) (numbered first rs) ≡ map (requirement_command plan) rs
commands_slotless plan first [] = refl
commands_slotless plan first (r ∷ rs) = ap (λ (cs : List Command). requirement_command plan r ∷ cs) (commands_slotless plan (first + 1) rs)

-- a list whose things are moved is shown alike
map_same : {X Y : Type 0} (P : X → Type 0) (move : X → X) (f g : X → Y) → ((x : X) → P x → g (move x) ≡ f x) → (xs : List X) → AllByRecursion P xs → map g (map move xs) ≡ map f xs
map_same P move f g same [] are = refl
map_same P move f g same (x ∷ xs) are =
    let here = same x are.0 in let rest = map_same P move f g same xs are.1 in λ i. here i ∷ rest i

flat_same : {X Y : Type 0} (P : X → Type 0) (move : X → X) (f g : X → List Y) → ((x : X) → P x → g (move x) ≡ f x) → (xs : List X) → AllByRecursion P xs → flat_map g (map move xs) ≡ flat_map f xs
flat_same P move f g same [] are = refl
flat_same P move f g same (x ∷ xs) are =
    let here = same x are.0 in let rest = flat_same P move f g same xs are.1 in λ i. here i ++ rest i

rises_moved : {X : Type 0} (move : X → X) (p q : X → ℕ) → ((x : X) → p x ≡ q (move x)) → (least : ℕ) (xs : List X) → Rises p least xs → Rises q least (map move xs)
rises_moved move p q same least [] rises = tt
rises_moved move p q same least (x ∷ xs) rises =
    let here = same x in
    (omega (arith, here, rises.0), rises_moved move p q same (q (move x) + 1) xs (subst (λ n. Rises p (n + 1) xs) here rises.1))

module _ (state : State) (sound : IsSoundState state) where
  abbrev new_plan : Lists
  new_plan = counted state.plan sound.plan.distinct

  abbrev new_state : State
  new_state = record { plan = new_plan; vetoes = map (remade state.plan sound.plan) state.vetoes }

  new_places : HasPlacesAsSlots new_plan
  new_places = λ place r at. omega (arith, numbered_places 0 state.plan.requirements place r at)

  new_plan_sound : IsSound new_plan
  new_plan_sound = record {
    counts = record {
      events = sound.plan.counts.events;
      uncertains = sound.plan.counts.uncertains;
      choices = sound.plan.counts.choices;
      product = sound.plan.counts.product;
      requirements = omega (arith, sound.plan.counts.requirements, length-numbered 0 state.plan.requirements);
    };
    distinct = record {
      events = sound.plan.distinct.events;
      ends = sound.plan.distinct.ends;
      apart = sound.plan.distinct.apart;
      uncertains = sound.plan.distinct.uncertains;
      choices = sound.plan.distinct.choices;
      requirements = subst AreDistinct (sym (numbered_names 0 state.plan.requirements)) sound.plan.distinct.requirements;
      slots = λ i j d before within same.
          let many : length (slots new_plan.requirements) ≡ length new_plan.requirements = length-map new_plan.requirements (λ (r : Requirement). r.slot) in
          omega (arith, before, same, slot_there new_plan.requirements i d new_places (omega (arith, before, within, many)), slot_there new_plan.requirements j d new_places (omega (arith, within, many)));
    };
    events = sound.plan.events;
    uncertains = sound.plan.uncertains;
    choices = sound.plan.choices;
    requirements = all_numbered state.plan new_plan 0 state.plan.requirements refl refl refl (omega (arith, sound.plan.counts.requirements)) sound.plan.requirements;
  }

  there_moved : (thing : Thing) → IsItemOf state.plan thing → IsItemOf new_plan (moved state.plan sound.plan.distinct thing)
  there_moved thing there = IsItemOf-named new_plan _ _ (moved state.plan sound.plan.distinct thing) (item_found state.plan sound.plan.distinct thing there)

  name_same : (v : Veto) → veto_name (remade state.plan sound.plan v) ≡ veto_name v
  name_same (Deny name literals) = refl
  name_same (Cap name k units) = refl

  sound_same : (v : Veto) → IsSoundVeto v → IsSoundVeto (remade state.plan sound.plan v)
  sound_same (Deny name literals) is = is
  sound_same (Cap name k units) is = is

  veto_there : (v : Veto) → IsVetoOf state.plan v → IsVetoOf new_plan (remade state.plan sound.plan v)
  veto_there (Deny name literals) is = record { some = is.some; guard = is.guard }
  veto_there (Cap name k units) is = there_moved k.item is

  names_same : veto_names new_state.vetoes ≡ veto_names state.vetoes
  names_same = map_kept veto_name (remade state.plan sound.plan) name_same state.vetoes

  pub new_state_sound : IsSoundState new_state
  new_state_sound = record {
    plan = new_plan_sound;
    vetoes = record {
      sound = record {
        count = omega (arith, sound.vetoes.sound.count, length-map state.vetoes (remade state.plan sound.plan));
        names = All-map HasName (remade state.plan sound.plan) state.vetoes
            (All-weaker HasName (λ v. HasName (remade state.plan sound.plan v)) (λ v is. rw (name_same v) is) state.vetoes sound.vetoes.sound.names);
        distinct = subst AreDistinct (sym names_same) sound.vetoes.sound.distinct;
        each = All-map IsSoundVeto (remade state.plan sound.plan) state.vetoes (All-weaker IsSoundVeto (λ v. IsSoundVeto (remade state.plan sound.plan v)) sound_same state.vetoes sound.vetoes.sound.each);
      };
      there = All-map (IsVetoOf new_plan) (remade state.plan sound.plan) state.vetoes
          (All-weaker (IsVetoOf state.plan) (λ v. IsVetoOf new_plan (remade state.plan sound.plan v)) veto_there state.vetoes sound.vetoes.there);
    };
  }

  commands_same : commands_of new_state ≡ commands_of state
  commands_same =
      let requirements = commands_slotless state.plan 0 state.plan.requirements in
      let vetoes = remade_commands state.plan sound.plan state.vetoes sound.vetoes.there in
      λ i.
      map (λ (name : List ℕ). command.Event name) state.plan.events
      ++ map (uncertain_command state.plan) state.plan.uncertains
      ++ map (choice_command state.plan) state.plan.choices
      ++ requirements i
      ++ vetoes i

  -- ---- what is moved

  abbrev move_side : SideKey → SideKey
  move_side k = record { item = moved state.plan sound.plan.distinct k.item; side = k.side }

  abbrev move_edge : EdgeKey → EdgeKey
  move_edge (key.Loose k) = key.Loose (move_side k)
  move_edge (key.Steep k) = key.Steep (move_side k)
  move_edge (key.Firm k) = key.Firm (move_side k)
  move_edge (key.Order d) = key.Order d

  abbrev move_relaxed : SideKey × ℕ → SideKey × ℕ
  move_relaxed s = (move_side s.0, s.1)

  abbrev move_units : EdgeKey × ℕ → EdgeKey × ℕ
  move_units e = (move_edge e.0, e.1)

  item_moved : (thing : Thing) → item_place (place_in state.plan) thing ≡ item_place in_place (moved state.plan sound.plan.distinct thing)
  item_moved (InSlot slot) = position_is state.plan.requirements slot
  item_moved (AtPlace d) = refl

  side_moved : (k : SideKey) → side_place (place_in state.plan) k ≡ side_place in_place (move_side k)
  side_moved k = ap (λ n. 2 * n + side_number k.side) (item_moved k.item)

  edge_moved : (e : EdgeKey) → edge_place (place_in state.plan) e ≡ edge_place in_place (move_edge e)
  edge_moved (key.Loose k) = ap (λ n. 7 * n + 3 * side_number k.side) (item_moved k.item)
  edge_moved (key.Steep k) = ap (λ n. 7 * n + 3 * side_number k.side + 1) (item_moved k.item)
  edge_moved (key.Firm k) = ap (λ n. 7 * n + 3 * side_number k.side + 2) (item_moved k.item)
  edge_moved (key.Order d) = refl

  edge_there : (e : EdgeKey) → IsEdgeOf state.plan e → IsEdgeOf new_plan (move_edge e)
  edge_there (key.Loose k) there = there_moved k.item there
  edge_there (key.Steep k) there = there_moved k.item there
  edge_there (key.Firm k) there = there_moved k.item there
  edge_there (key.Order d) there = there

  edge_shown : (e : EdgeKey) → IsEdgeOf state.plan e → edge_name new_plan (move_edge e) ≡ edge_name state.plan e
  edge_shown (key.Loose k) there = ap (λ n. Side n k.side kind.Loose) (item_shown state.plan sound.plan.distinct k.item there)
  edge_shown (key.Steep k) there = ap (λ n. Side n k.side kind.Steep) (item_shown state.plan sound.plan.distinct k.item there)
  edge_shown (key.Firm k) there = ap (λ n. Side n k.side kind.Firm) (item_shown state.plan sound.plan.distinct k.item there)
  edge_shown (key.Order d) there = refl

  -- ---- the answer

  abbrev move_proposal : Proposal → Proposal
  move_proposal p = record { cost = p.cost; picks = p.picks; loosening = map move_relaxed p.loosening; times = p.times }

  proposal_moved : (p : Proposal) → FitsPlan (place_in state.plan) state.plan p → FitsPlan in_place new_plan (move_proposal p)
  proposal_moved p fits = record {
    cost = fits.cost;
    picks = fits.picks;
    picks_in_order = fits.picks_in_order;
    sides = record {
      among = all_mapped (λ (s : SideKey × ℕ). IsItemOf new_plan s.0.item) (λ (s : SideKey × ℕ). IsItemOf state.plan s.0.item) move_relaxed (λ s there. there_moved s.0.item there) p.loosening fits.sides.among;
      units = all_mapped (λ (s : SideKey × ℕ). IsBetween 1 SIDE_UNITS s.1) (λ (s : SideKey × ℕ). IsBetween 1 SIDE_UNITS s.1) move_relaxed (λ s is. is) p.loosening fits.sides.units;
      in_order = rises_moved move_relaxed (λ (s : SideKey × ℕ). side_place (place_in state.plan) s.0) (λ (s : SideKey × ℕ). side_place in_place s.0) (λ s. side_moved s.0) 0 p.loosening fits.sides.in_order;
    };
    times = fits.times;
    times_within = fits.times_within;
  }

  proposal_shown : (p : Proposal) → FitsPlan (place_in state.plan) state.plan p → proposal_items new_plan (move_proposal p) ≡ proposal_items state.plan p
  proposal_shown p fits =
      let sides = map_same (λ (s : SideKey × ℕ). IsItemOf state.plan s.0.item) move_relaxed (relax_item state.plan) (relax_item new_plan)
      (λ s there. ap (λ n. item.Relax n s.0.side s.1) (item_shown state.plan sound.plan.distinct s.0.item there)) p.loosening fits.sides.among in
      λ i. ((to_picks state.plan p ++ sides i) ++ map time_item (zip state.plan.events p.times)) ++ item.End ∷ []

  abbrev move_answer : Option Proposal → Option Proposal
  move_answer None = None
  move_answer (Some p) = Some (move_proposal p)

  answer_moved : (answer : Option Proposal) → IfSome answer (FitsPlan (place_in state.plan) state.plan) → IfSome (move_answer answer) (FitsPlan in_place new_plan)
  answer_moved None fits = tt
  answer_moved (Some p) fits = proposal_moved p fits

  answer_shown : (answer : Option Proposal) → IfSome answer (FitsPlan (place_in state.plan) state.plan) → answer_items new_plan (move_answer answer) ≡ answer_items state.plan answer
  answer_shown None fits = refl
  answer_shown (Some p) fits = proposal_shown p fits

  -- ---- what is shown

  units_moved : (edges : List (EdgeKey × ℕ)) → AreEdgeUnits (place_in state.plan) state.plan edges → AreEdgeUnits in_place new_plan (map move_units edges)
  units_moved edges are = record {
    among = all_mapped (λ (e : EdgeKey × ℕ). IsEdgeOf new_plan e.0) (λ (e : EdgeKey × ℕ). IsEdgeOf state.plan e.0) move_units (λ e there. edge_there e.0 there) edges are.among;
    units = all_mapped (λ (e : EdgeKey × ℕ). IsBetween 1 EDGE_UNITS e.1) (λ (e : EdgeKey × ℕ). IsBetween 1 EDGE_UNITS e.1) move_units (λ e is. is) edges are.units;
    in_order = rises_moved move_units (λ (e : EdgeKey × ℕ). edge_place (place_in state.plan) e.0) (λ (e : EdgeKey × ℕ). edge_place in_place e.0) (λ e. edge_moved e.0) 0 edges are.in_order;
  }

  units_shown : (edges : List (EdgeKey × ℕ)) → AllByRecursion (λ e. IsEdgeOf state.plan e.0) edges → map (units_item new_plan) (map move_units edges) ≡ map (units_item state.plan) edges
  units_shown edges are = map_same (λ (e : EdgeKey × ℕ). IsEdgeOf state.plan e.0) move_units (units_item state.plan) (units_item new_plan) (λ e there. ap (λ n. item.Units n e.1) (edge_shown e.0 there)) edges are

  walk_moved : (edges : List EdgeKey) → AreEdges state.plan edges → AreEdges new_plan (map move_edge edges)
  walk_moved edges are = all_mapped (IsEdgeOf new_plan) (IsEdgeOf state.plan) move_edge edge_there edges are

  walk_shown : (edges : List EdgeKey) → AreEdges state.plan edges → map (edge_item new_plan) (map move_edge edges) ≡ map (edge_item state.plan) edges
  walk_shown edges are = map_same (IsEdgeOf state.plan) move_edge (edge_item state.plan) (edge_item new_plan) (λ e there. ap (λ n. item.Edge n) (edge_shown e there)) edges are

  abbrev move_shared : Shared → Shared
  move_shared (shared.Flow edges) = shared.Flow (map move_units edges)
  move_shared (shared.Stuck edges) = shared.Stuck (map move_edge edges)

  shared_moved : (entry : Shared) → IsShared (place_in state.plan) state.plan entry → IsShared in_place new_plan (move_shared entry)
  shared_moved (shared.Flow edges) is = units_moved edges is
  shared_moved (shared.Stuck edges) is = walk_moved edges is

  shared_shown : (entry : Shared) → IsShared (place_in state.plan) state.plan entry → shared_items new_plan (move_shared entry) ≡ shared_items state.plan entry
  shared_shown (shared.Flow edges) is = ap (λ l. item.SharedFlow ∷ l) (units_shown edges is.among)
  shared_shown (shared.Stuck edges) is = ap (λ l. item.SharedStuck ∷ l) (walk_shown edges is)

  abbrev move_reason : Reason → Reason
  move_reason (reason.Denied veto) = reason.Denied veto
  move_reason (reason.Flow edges) = reason.Flow (map move_units edges)
  move_reason (reason.Stuck edges) = reason.Stuck (map move_edge edges)
  move_reason (reason.Entry entry) = reason.Entry entry

  reason_moved : (why : Reason) → IsReasonOf (place_in state.plan) state why → IsReasonOf in_place new_state (move_reason why)
  reason_moved (reason.Denied veto) is = omega (arith, is, length-map state.vetoes (remade state.plan sound.plan))
  reason_moved (reason.Flow edges) is = units_moved edges is
  reason_moved (reason.Stuck edges) is = walk_moved edges is
  reason_moved (reason.Entry entry) is = is

  reason_stands : (version entries : ℕ) (why : Reason) → MayStand version entries why → MayStand version entries (move_reason why)
  reason_stands version entries (reason.Denied veto) is = is
  reason_stands version entries (reason.Flow edges) is = is
  reason_stands version entries (reason.Stuck edges) is = is
  reason_stands version entries (reason.Entry entry) is = is

  reason_shown : (why : Reason) → IsReasonOf (place_in state.plan) state why → reason_items new_state (move_reason why) ≡ reason_items state why
  reason_shown (reason.Denied veto) is = ap (λ names. item.Denied (name_at names veto) ∷ []) names_same
  reason_shown (reason.Flow edges) is = ap (λ l. item.Flow ∷ l) (units_shown edges is.among)
  reason_shown (reason.Stuck edges) is = ap (λ l. item.Stuck ∷ l) (walk_shown edges is)
  reason_shown (reason.Entry entry) is = refl

  abbrev move_leaf : Leaf → Leaf
  move_leaf leaf = record { prefix = leaf.prefix; reason = move_reason leaf.reason }

  -- ---- what is moved stands at the places where it stood

  thing_placed : (thing : Thing) → IsItemOf state.plan thing → placed_thing new_plan (moved state.plan sound.plan.distinct thing) ≡ placed_thing state.plan thing
  thing_placed (InSlot slot) there =
      ap (λ (n : ℕ). InSlot n) (places_agree new_plan new_places (moved state.plan sound.plan.distinct (InSlot slot)) (there_moved (InSlot slot) there) ∙ sym (position_is state.plan.requirements slot))
  thing_placed (AtPlace d) there = refl

  side_placed : (k : SideKey) → IsItemOf state.plan k.item → placed_side new_plan (move_side k) ≡ placed_side state.plan k
  side_placed k there = let same = thing_placed k.item there in λ i. record { item = same i; side = k.side }

  edge_placed : (e : EdgeKey) → IsEdgeOf state.plan e → placed_edge new_plan (move_edge e) ≡ placed_edge state.plan e
  edge_placed (key.Loose k) there = ap (λ (k : SideKey). key.Loose k) (side_placed k there)
  edge_placed (key.Steep k) there = ap (λ (k : SideKey). key.Steep k) (side_placed k there)
  edge_placed (key.Firm k) there = ap (λ (k : SideKey). key.Firm k) (side_placed k there)
  edge_placed (key.Order d) there = refl

  units_placed : (edges : List (EdgeKey × ℕ)) → AllByRecursion (λ e. IsEdgeOf state.plan e.0) edges → map (placed_units new_plan) (map move_units edges) ≡ map (placed_units state.plan) edges
  units_placed edges are =
      map_same (λ (e : EdgeKey × ℕ). IsEdgeOf state.plan e.0) move_units (placed_units state.plan) (placed_units new_plan) (λ e there. let same = edge_placed e.0 there in λ i. (same i, e.1)) edges are

  walk_placed : (edges : List EdgeKey) → AreEdges state.plan edges → map (placed_edge new_plan) (map move_edge edges) ≡ map (placed_edge state.plan) edges
  walk_placed edges are = map_same (IsEdgeOf state.plan) move_edge (placed_edge state.plan) (placed_edge new_plan) edge_placed edges are

  answer_placed : (answer : Option Proposal) → IfSome answer (FitsPlan (place_in state.plan) state.plan) → option_map (placed_proposal new_plan) (move_answer answer) ≡ option_map (placed_proposal state.plan) answer
  answer_placed None fits = refl
  answer_placed (Some p) fits =
      let sides = map_same (λ (s : SideKey × ℕ). IsItemOf state.plan s.0.item) move_relaxed (placed_relaxed state.plan) (placed_relaxed new_plan)
      (λ s there. let same = side_placed s.0 there in λ i. (same i, s.1)) p.loosening fits.sides.among in
      λ i. Some (record { cost = p.cost; picks = p.picks; loosening = sides i; times = p.times })

  shared_placed : (entry : Shared) → IsShared (place_in state.plan) state.plan entry → placed_shared new_plan (move_shared entry) ≡ placed_shared state.plan entry
  shared_placed (shared.Flow edges) is = ap (λ (l : List (EdgeKey × ℕ)). shared.Flow l) (units_placed edges is.among)
  shared_placed (shared.Stuck edges) is = ap (λ (l : List EdgeKey). shared.Stuck l) (walk_placed edges is)

  reason_placed : (why : Reason) → IsReasonOf (place_in state.plan) state why → placed_reason new_plan (move_reason why) ≡ placed_reason state.plan why
  reason_placed (reason.Denied veto) is = refl
  reason_placed (reason.Flow edges) is = ap (λ (l : List (EdgeKey × ℕ)). reason.Flow l) (units_placed edges is.among)
  reason_placed (reason.Stuck edges) is = ap (λ (l : List EdgeKey). reason.Stuck l) (walk_placed edges is)
  reason_placed (reason.Entry entry) is = refl

  state_placed : IsSameStateUpToSlots new_state state
  state_placed = record {
    events = refl;
    uncertains = refl;
    choices = refl;
    requirements = same_but_slots 0 state.plan.requirements;
    vetoes = remade_commands state.plan sound.plan state.vetoes sound.vetoes.there;
  }

-- the same document with counted slots
abbrev renumbered : (d : Document) → IsDocument d → Document
renumbered d is = record {
  version = d.version;
  state = new_state d.state is.state;
  answer = move_answer d.state is.state d.answer;
  shared = map (move_shared d.state is.state) d.shared;
  leaves = map (move_leaf d.state is.state) d.leaves;
}

-- a plain document with the lines of the document, which is the same up to slots
pub record HasPlain (d : Document) : Type 0 where
  pub plain : Document
  pub is_plain : IsPlain plain
  pub same_lines : lines_of plain ≡ lines_of d
  pub same : IsSameUpToSlots plain d

parts_moved : (d : Document) (is : IsDocument d) → HasFittingParts in_place (renumbered d is)
parts_moved d is = record {
  version = is.parts.version;
  answer = answer_moved d.state is.state d.answer is.parts.answer;
  shared = all_mapped (λ entry. (d.version ≡ 2) × IsShared in_place (new_plan d.state is.state) entry) (λ entry. (d.version ≡ 2) × IsShared (place_in d.state.plan) d.state.plan entry)
      (move_shared d.state is.state) (λ entry fits. (fits.0, shared_moved d.state is.state entry fits.1)) d.shared is.parts.shared;
  leaves = all_mapped (IsLeaf in_place d.version (new_state d.state is.state) (length (map (move_shared d.state is.state) d.shared))) (IsLeaf (place_in d.state.plan) d.version d.state (length d.shared))
      (move_leaf d.state is.state)
      (λ leaf fits. record {
        prefix = fits.prefix;
        reason = reason_moved d.state is.state leaf.reason fits.reason;
        stands = subst (λ n. MayStand d.version n (move_reason d.state is.state leaf.reason)) (sym (length-map d.shared (move_shared d.state is.state))) (reason_stands d.state is.state d.version (length d.shared) leaf.reason fits.stands);
      }) d.leaves is.parts.leaves;
}

lines_moved : (d : Document) (is : IsDocument d) → items_of (renumbered d is) ≡ items_of d
lines_moved d is =
    let commands = commands_same d.state is.state in
    let answer = answer_shown d.state is.state d.answer is.parts.answer in
    let entries = flat_same (λ entry. (d.version ≡ 2) × IsShared (place_in d.state.plan) d.state.plan entry) (move_shared d.state is.state) (shared_items d.state.plan) (shared_items (new_plan d.state is.state))
    (λ entry fits. shared_shown d.state is.state entry fits.1) d.shared is.parts.shared in
    let leaves = flat_same (IsLeaf (place_in d.state.plan) d.version d.state (length d.shared)) (move_leaf d.state is.state) (leaf_items d.state) (leaf_items (new_state d.state is.state))
    (λ leaf fits. ap (λ l. item.Leaf (picked_names d.state.plan.choices leaf.prefix) ∷ l) (reason_shown d.state is.state leaf.reason fits.reason)) d.leaves is.parts.leaves in
    λ i. ((((((item.Version d.version ∷ []) ++ map (λ c. item.Command c) (commands i)) ++ item.Answer ∷ []) ++ answer i) ++ entries i) ++ leaves i) ++ item.End ∷ []

parts_placed : (d : Document) (is : IsDocument d) → IsSameUpToSlots (renumbered d is) d
parts_placed d is = record {
  version = refl;
  state = state_placed d.state is.state;
  answer = answer_placed d.state is.state d.answer is.parts.answer;
  shared = map_same (λ entry. (d.version ≡ 2) × IsShared (place_in d.state.plan) d.state.plan entry) (move_shared d.state is.state) (placed_shared d.state.plan) (placed_shared (new_plan d.state is.state))
      (λ entry fits. shared_placed d.state is.state entry fits.1) d.shared is.parts.shared;
  leaves = map_same (IsLeaf (place_in d.state.plan) d.version d.state (length d.shared)) (move_leaf d.state is.state) (placed_leaf d.state.plan) (placed_leaf (new_plan d.state is.state))
      (λ leaf fits. let same = reason_placed d.state is.state leaf.reason fits.reason in λ i. record { prefix = leaf.prefix; reason = same i }) d.leaves is.parts.leaves;
}

pub has_plain : (d : Document) → IsDocument d → HasPlain d
has_plain d is = record {
  plain = renumbered d is;
  is_plain = record { state = new_state_sound d.state is.state; slots = new_places d.state is.state; parts = parts_moved d is };
  same_lines = ap (map spell) (lines_moved d is);
  same = parts_placed d is;
}
