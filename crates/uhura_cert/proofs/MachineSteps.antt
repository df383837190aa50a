-- A step of the reader of documents leads from where something good holds to where it holds again, and one line more
-- is shown.
use Rattle.std.proofs.Common.{◌≡◌, ℕ, ◌≤◌, List, [], ◌∷◌, ◌++◌, length, map, flat_map, Option, Some, None, IfSome, slice_get, refl, sym, ap, subst, ◌∙◌, arith, append_assoc, append-nil}
use Rattle.std.specs.List.{AllByRecursion, zip}
use Rattle.std.proofs.lemmas.Grind.{flat_map-append}
use Rattle.std.proofs.lemmas.List.{length_push, map_push}
use Rattle.std.proofs.lemmas.Option.{slice_get_within}
use Rattle.uhura_plan.specs.declared.key.EdgeKey.{EdgeKey}
use Rattle.uhura_plan.specs.declared.key.SideKey.{SideKey}
use Rattle.uhura_plan.specs.declared.guard.Literal.{Literal}
use Rattle.uhura_plan.specs.Lists.{Lists}
use Rattle.uhura_plan.specs.Sound.{IsLiteralAmong}
use Rattle.uhura_plan.proofs.Finds.{literal_among}
use Rattle.uhura_choice.specs.declared.prefix.Pick.{Pick}
use Rattle.uhura_veto.specs.State.{State}
use Rattle.uhura_veto.specs.Vetoes.{IsItemOf, veto_names}
use Rattle.uhura_veto.proofs.Items.{IsItemOf-named}
use Rattle.uhura_line.specs.Reads.{name_of}
use Rattle.uhura_command.specs.Apply.{kind_named}
use Rattle.uhura_command.specs.Script.{literal_names}
use Rattle.uhura_item.specs.declared.item.Item.{Item}
use Rattle.uhura_item.specs.declared.item.Item.TheVariants as item
use Rattle.uhura_item.specs.declared.limits.TheConstants.{LATEST, SIDE_UNITS, EDGE_UNITS}
use Rattle.uhura_item.specs.Item.{IsItem, IsBetween}
use Rattle.uhura_cert.specs.declared.document.Proposal.{Proposal}
use Rattle.uhura_cert.specs.declared.document.Shared.{Shared}
use Rattle.uhura_cert.specs.declared.document.Shared.TheVariants as shared
use Rattle.uhura_cert.specs.declared.document.Reason.{Reason}
use Rattle.uhura_cert.specs.declared.document.Reason.TheVariants as reason
use Rattle.uhura_cert.specs.declared.document.Leaf.{Leaf}
use Rattle.uhura_cert.specs.Order.{IsEdgeOf, side_place, edge_place}
use Rattle.uhura_cert.specs.Document.{Document, FitsPlan, AreEdgeUnits, IsShared, IsLeaf}
use Rattle.uhura_cert.specs.Items.{pick_item, relax_item, time_item, units_item, edge_item, to_cost, to_picks, to_sides, to_times, shared_items, leaf_items, picked_names, to_question, to_answer, to_shared, to_leaves}
use Rattle.uhura_cert.specs.Machine.{Spot, end_of, in_place, IsPlain, IsPlainFront, IsBegun, FitsSoFar, Good, shown, begun, answered, with_entry, with_leaf, proposal_of, leaf_of, FromQuestion, FromTimes, FromSides, FromPicks, FromLeaves, FromEntries, FromEntryFlow, FromEntryWalk, FromLeafHead, FromLeafFlow, FromLeafWalk, IsNextEdge}
use Rattle.uhura_cert.specs.Machine as spot
use Rattle.uhura_cert.proofs.Ordered.{rises_next, all_next}
use Rattle.uhura_cert.proofs.FoundNames.{named_at, literal_back, item_back, edge_back, veto_within, picks_back}

-- what holds where a line leads
pub record Follows (front : List Item) (i : Item) (next : Spot) : Type 0 where
  pub good : Good next
  pub lines : shown next ≡ front ++ i ∷ []

-- ---- lines that are appended

-- a list of things is shown that grows by one
grown : {X : Type 0} (front heads : List Item) (line : X → Item) (xs : List X) (x : X) (i : Item) → line x ≡ i
    → front ++ (heads ++ map line (xs ++ x ∷ [])) ≡ (front ++ (heads ++ map line xs)) ++ i ∷ []
grown front heads line xs x i is =
    ap (λ l. front ++ (heads ++ l)) (map_push line xs x ∙ ap (λ j. map line xs ++ j ∷ []) is)
    ∙ (ap (λ l. front ++ l) (sym (append_assoc heads (map line xs) (i ∷ [])))
    ∙ sym (append_assoc front (heads ++ map line xs) (i ∷ [])))

-- a part is shown that is closed
closed : {X : Type 0} (front : List Item) (part : X → List Item) (xs : List X) (x : X) → front ++ flat_map part (xs ++ x ∷ []) ≡ (front ++ flat_map part xs) ++ part x
closed front part xs x =
    ap (λ l. front ++ l) (flat_map-append part xs (x ∷ []) ∙ ap (λ l. flat_map part xs ++ l) (append-nil (part x)))
    ∙ sym (append_assoc front (flat_map part xs) (part x))

-- two lines, one after the other
pub two_lines : (front : List Item) (i j : Item) → front ++ i ∷ j ∷ [] ≡ (front ++ i ∷ []) ++ j ∷ []
two_lines front i j = sym (append_assoc front (i ∷ []) (j ∷ []))

abbrev no_times : List ℕ
no_times = []

pub zip-nil : (names : List (List ℕ)) → zip names no_times ≡ []
zip-nil [] = refl
zip-nil (name ∷ names) = refl

pub zip_next : (names : List (List ℕ)) (times : List ℕ) (name : List ℕ) (time : ℕ) → slice_get names (length times) ≡ Some name
    → zip names (times ++ time ∷ []) ≡ zip names times ++ (name, time) ∷ []
zip_next [] times name time there = let no : ⊥ = cc in absurd no
zip_next (n ∷ names) [] name time there =
    let same : n ≡ name = cc in
    ap (λ l. (n, time) ∷ l) (zip-nil names) ∙ ap (λ n. (n, time) ∷ []) same
zip_next (n ∷ names) (t ∷ times) name time there = ap (λ l. (n, t) ∷ l) (zip_next names times name time there)

-- ---- leaves and entries

pub plain_leaf : (d : Document) (leaf : Leaf) → IsPlain d → IsLeaf in_place d.version d.state (length d.shared) leaf → IsPlain (with_leaf d leaf)
plain_leaf d leaf plain is = record {
  state = plain.state;
  slots = plain.slots;
  parts = record {
    version = plain.parts.version;
    answer = plain.parts.answer;
    shared = plain.parts.shared;
    leaves = all_next (IsLeaf in_place d.version d.state (length d.shared)) d.leaves leaf plain.parts.leaves is;
  };
}

pub leaf_closed : (d : Document) (leaf : Leaf) → to_leaves (with_leaf d leaf) ≡ to_leaves d ++ leaf_items d.state leaf
leaf_closed d leaf = closed (to_shared d) (leaf_items d.state) d.leaves leaf

pub plain_entry : (d : Document) (entry : Shared) → IsPlainFront d → d.version ≡ 2 → IsShared in_place d.state.plan entry → IsPlainFront (with_entry d entry)
plain_entry d entry front two is = record {
  plain = record {
    state = front.plain.state;
    slots = front.plain.slots;
    parts = record {
      version = front.plain.parts.version;
      answer = front.plain.parts.answer;
      shared = all_next (λ entry. (d.version ≡ 2) × IsShared in_place d.state.plan entry) d.shared entry front.plain.parts.shared (two, is);
      leaves = subst (AllByRecursion (IsLeaf in_place d.version d.state (length (d.shared ++ entry ∷ [])))) (sym front.no_leaves) tt;
    };
  };
  no_leaves = front.no_leaves;
}

pub entry_closed : (d : Document) (entry : Shared) → to_shared (with_entry d entry) ≡ to_shared d ++ shared_items d.state.plan entry
entry_closed d entry = closed (to_answer d) (shared_items d.state.plan) d.shared entry

pub leafless : (d : Document) → d.leaves ≡ [] → to_leaves d ≡ to_shared d
leafless d none = ap (λ ls. to_shared d ++ flat_map (leaf_items d.state) ls) none ∙ append-nil (to_shared d)

pub from_leaves : (d : Document) (i : Item) (next : Spot) → IsPlain d → FromLeaves d i next → Follows (to_leaves d) i next
from_leaves d (item.Leaf names) next plain step =
    let back = picks_back d.state.plan.choices names step.thing step.such.named in
    subst (Follows (to_leaves d) (item.Leaf names)) (sym step.leads)
    (record { good = (plain, back.are, step.such.goes_on); lines = ap (λ ns. to_leaves d ++ item.Leaf ns ∷ []) back.names_are })
from_leaves d item.End next plain step = subst (Follows (to_leaves d) item.End) (sym step) (record { good = plain; lines = refl })
from_leaves d i next plain step = absurd step

pub no_edges : (plan : Lists) → AreEdgeUnits in_place plan []
no_edges plan = record { among = tt; units = tt; in_order = tt }

pub from_entries : (d : Document) (i : Item) (next : Spot) → IsPlainFront d → FromEntries d i next → Follows (to_shared d) i next
from_entries d item.SharedFlow next front step =
    subst (Follows (to_shared d) item.SharedFlow) (sym step.leads) (record { good = (front, step.holds, no_edges d.state.plan); lines = refl })
from_entries d item.SharedStuck next front step =
    subst (Follows (to_shared d) item.SharedStuck) (sym step.leads) (record { good = (front, step.holds, tt); lines = refl })
from_entries d i next front step =
    subst (λ lines. Follows lines i next) (leafless d front.no_leaves) (from_leaves d i next front.plain step)

-- one edge more
more_units : (plan : Lists) (edges : List (EdgeKey × ℕ)) (e : EdgeKey) (units : ℕ) → AreEdgeUnits in_place plan edges → IsEdgeOf plan e → IsBetween 1 EDGE_UNITS units
    → end_of (λ (e : EdgeKey × ℕ). edge_place in_place e.0) 0 edges ≤ edge_place in_place e → AreEdgeUnits in_place plan (edges ++ (e, units) ∷ [])
more_units plan edges e units are there within later = record {
  among = all_next (λ (e : EdgeKey × ℕ). IsEdgeOf plan e.0) edges (e, units) are.among there;
  units = all_next (λ (e : EdgeKey × ℕ). IsBetween 1 EDGE_UNITS e.1) edges (e, units) are.units within;
  in_order = rises_next (λ (e : EdgeKey × ℕ). edge_place in_place e.0) 0 edges (e, units) are.in_order later;
}

pub from_entry_flow : (d : Document) (edges : List (EdgeKey × ℕ)) (i : Item) (next : Spot) → IsItem i → IsPlainFront d → d.version ≡ 2 → AreEdgeUnits in_place d.state.plan edges
    → FromEntryFlow d edges i next → Follows (shown (spot.entry_flow d edges)) i next
from_entry_flow d edges (item.Units name units) next fits front two are step =
    let back = edge_back d.state.plan name step.thing front.plain.slots step.such.found in
    subst (Follows (shown (spot.entry_flow d edges)) (item.Units name units)) (sym step.leads)
    (record {
      good = (front, two, more_units d.state.plan edges step.thing units are back.there fits.1 step.such.later);
      lines = grown (to_shared d) (item.SharedFlow ∷ []) (units_item d.state.plan) edges (step.thing, units) (item.Units name units) (ap (λ n. item.Units n units) back.is);
    })
from_entry_flow d edges i next fits front two are step =
    subst (λ lines. Follows lines i next) (entry_closed d (shared.Flow edges))
    (from_entries (with_entry d (shared.Flow edges)) i next (plain_entry d (shared.Flow edges) front two are) step)

pub from_entry_walk : (d : Document) (edges : List EdgeKey) (i : Item) (next : Spot) → IsPlainFront d → d.version ≡ 2 → AllByRecursion (IsEdgeOf d.state.plan) edges
    → FromEntryWalk d edges i next → Follows (shown (spot.entry_walk d edges)) i next
from_entry_walk d edges (item.Edge name) next front two are step =
    let back = edge_back d.state.plan name step.thing front.plain.slots step.such in
    subst (Follows (shown (spot.entry_walk d edges)) (item.Edge name)) (sym step.leads)
    (record {
      good = (front, two, all_next (IsEdgeOf d.state.plan) edges step.thing are back.there);
      lines = grown (to_shared d) (item.SharedStuck ∷ []) (edge_item d.state.plan) edges step.thing (item.Edge name) (ap (λ n. item.Edge n) back.is);
    })
from_entry_walk d edges i next front two are step =
    subst (λ lines. Follows lines i next) (entry_closed d (shared.Stuck edges))
    (from_entries (with_entry d (shared.Stuck edges)) i next (plain_entry d (shared.Stuck edges) front two are) step)

-- the lines of a leaf that is closed, whose reason is one line
pub one_line_leaf : (d : Document) (prefix : List Pick) (why : Reason) (i : Item) → leaf_items d.state (leaf_of prefix why) ≡ item.Leaf (picked_names d.state.plan.choices prefix) ∷ i ∷ []
    → to_leaves (with_leaf d (leaf_of prefix why)) ≡ shown (spot.leaf_head d prefix) ++ i ∷ []
one_line_leaf d prefix why i are =
    leaf_closed d (leaf_of prefix why) ∙ (ap (λ l. to_leaves d ++ l) are ∙ two_lines (to_leaves d) (item.Leaf (picked_names d.state.plan.choices prefix)) i)

pub from_leaf_head : (d : Document) (prefix : List Pick) (i : Item) (next : Spot) → IsItem i → Good (spot.leaf_head d prefix) → FromLeafHead d prefix i next → Follows (shown (spot.leaf_head d prefix)) i next
from_leaf_head d prefix (item.Denied name) next fits good step =
    let why = reason.Denied step.thing in
    let named = named_at (veto_names d.state.vetoes) name step.thing step.such in
    subst (Follows (shown (spot.leaf_head d prefix)) (item.Denied name)) (sym step.leads)
    (record {
      good = plain_leaf d (leaf_of prefix why) good.0 (record { prefix = good.1; reason = veto_within d.state.vetoes name step.thing step.such; stands = tt });
      lines = one_line_leaf d prefix why (item.Denied name) (ap (λ n. item.Leaf (picked_names d.state.plan.choices prefix) ∷ item.Denied n ∷ []) named);
    })
from_leaf_head d prefix item.Flow next fits good step =
    subst (Follows (shown (spot.leaf_head d prefix)) item.Flow) (sym step.leads)
    (record { good = (good.0, good.1, step.holds, no_edges d.state.plan); lines = two_lines (to_leaves d) (item.Leaf (picked_names d.state.plan.choices prefix)) item.Flow })
from_leaf_head d prefix item.Stuck next fits good step =
    subst (Follows (shown (spot.leaf_head d prefix)) item.Stuck) (sym step.leads)
    (record { good = (good.0, good.1, step.holds, tt); lines = two_lines (to_leaves d) (item.Leaf (picked_names d.state.plan.choices prefix)) item.Stuck })
from_leaf_head d prefix (item.Use entry) next fits good step =
    subst (Follows (shown (spot.leaf_head d prefix)) (item.Use entry)) (sym step.leads)
    (record {
      good = plain_leaf d (leaf_of prefix (reason.Entry entry)) good.0 (record { prefix = good.1; reason = fits; stands = (step.holds.0, step.holds.1) });
      lines = one_line_leaf d prefix (reason.Entry entry) (item.Use entry) refl;
    })
from_leaf_head d prefix i next fits good step = absurd step

pub from_leaf_flow : (d : Document) (prefix : List Pick) (edges : List (EdgeKey × ℕ)) (i : Item) (next : Spot) → IsItem i → Good (spot.leaf_flow d prefix edges)
    → FromLeafFlow d prefix edges i next → Follows (shown (spot.leaf_flow d prefix edges)) i next
from_leaf_flow d prefix edges (item.Units name units) next fits good step =
    let back = edge_back d.state.plan name step.thing good.0.slots step.such.found in
    subst (Follows (shown (spot.leaf_flow d prefix edges)) (item.Units name units)) (sym step.leads)
    (record {
      good = (good.0, good.1, good.2, more_units d.state.plan edges step.thing units good.3 back.there fits.1 step.such.later);
      lines = grown (to_leaves d) (item.Leaf (picked_names d.state.plan.choices prefix) ∷ item.Flow ∷ []) (units_item d.state.plan) edges (step.thing, units) (item.Units name units)
          (ap (λ n. item.Units n units) back.is);
    })
from_leaf_flow d prefix edges i next fits good step =
    let leaf = leaf_of prefix (reason.Flow edges) in
    subst (λ lines. Follows lines i next) (leaf_closed d leaf)
    (from_leaves (with_leaf d leaf) i next (plain_leaf d leaf good.0 (record { prefix = good.1; reason = good.3; stands = good.2 })) step)

pub from_leaf_walk : (d : Document) (prefix : List Pick) (edges : List EdgeKey) (i : Item) (next : Spot) → IsItem i → Good (spot.leaf_walk d prefix edges)
    → FromLeafWalk d prefix edges i next → Follows (shown (spot.leaf_walk d prefix edges)) i next
from_leaf_walk d prefix edges (item.Edge name) next fits good step =
    let back = edge_back d.state.plan name step.thing good.0.slots step.such in
    subst (Follows (shown (spot.leaf_walk d prefix edges)) (item.Edge name)) (sym step.leads)
    (record {
      good = (good.0, good.1, good.2, all_next (IsEdgeOf d.state.plan) edges step.thing good.3 back.there);
      lines = grown (to_leaves d) (item.Leaf (picked_names d.state.plan.choices prefix) ∷ item.Stuck ∷ []) (edge_item d.state.plan) edges step.thing (item.Edge name)
          (ap (λ n. item.Edge n) back.is);
    })
from_leaf_walk d prefix edges i next fits good step =
    let leaf = leaf_of prefix (reason.Stuck edges) in
    subst (λ lines. Follows lines i next) (leaf_closed d leaf)
    (from_leaves (with_leaf d leaf) i next (plain_leaf d leaf good.0 (record { prefix = good.1; reason = good.3; stands = good.2 })) step)

-- ---- the answer

-- behind an answer nothing stands yet
pub plain_answer : (version : ℕ) (state : State) (answer : Option Proposal) → IsBegun version state → IfSome answer (FitsPlan in_place state.plan) → IsPlainFront (answered version state answer)
plain_answer version state answer begins fits = record {
  plain = record {
    state = begins.sound;
    slots = begins.slots;
    parts = record { version = begins.is_version; answer = fits; shared = tt; leaves = tt };
  };
  no_leaves = refl;
}

pub from_times : (version : ℕ) (state : State) (p : Proposal) (i : Item) (next : Spot) → IsItem i → IsBegun version state → FitsSoFar state.plan p → FromTimes version state p i next
    → Follows (shown (spot.times version state p)) i next
from_times version state p (item.At event time) next fits begins sofar step =
    let q : Proposal = record p { times = p.times ++ time ∷ [] } in
    let question = to_question (begun version state) in
    subst (Follows (shown (spot.times version state p)) (item.At event time)) (sym step.leads)
    (record {
      good = (
        begins,
        record {
          cost = sofar.cost;
          picks = sofar.picks;
          picks_in_order = sofar.picks_in_order;
          sides = sofar.sides;
          times = omega (arith, slice_get_within state.plan.events (length p.times) event step.holds, length_push p.times time);
          times_within = all_next (λ time. time ≤ LATEST) p.times time sofar.times_within fits.1;
        },
      );
      lines =
          ap (λ z. question ++ (to_sides state.plan p ++ map time_item z)) (zip_next state.plan.events p.times event time step.holds)
          ∙ grown question (to_sides state.plan p) time_item (zip state.plan.events p.times) (event, time) (item.At event time) refl;
    })
from_times version state p item.End next fits begins sofar step =
    let question = to_question (begun version state) in
    subst (Follows (shown (spot.times version state p)) item.End) (sym step.leads)
    (record {
      good = plain_answer version state (Some p) begins (record {
        cost = sofar.cost;
        picks = sofar.picks;
        picks_in_order = sofar.picks_in_order;
        sides = sofar.sides;
        times = step.holds;
        times_within = sofar.times_within;
      });
      lines = append-nil (question ++ (to_times state.plan p ++ item.End ∷ [])) ∙ sym (append_assoc question (to_times state.plan p) (item.End ∷ []));
    })
from_times version state p i next fits begins sofar step = absurd step

-- without times the sides are shown
pub timeless : (version : ℕ) (state : State) (p : Proposal) → p.times ≡ [] → shown (spot.times version state p) ≡ to_question (begun version state) ++ to_sides state.plan p
timeless version state p none =
    ap (λ l. to_question (begun version state) ++ (to_sides state.plan p ++ map time_item l)) (ap (zip state.plan.events) none ∙ zip-nil state.plan.events)
    ∙ ap (λ l. to_question (begun version state) ++ l) (append-nil (to_sides state.plan p))

pub from_sides : (version : ℕ) (state : State) (cost : ℕ) (literals : List Literal) (relaxed : List (SideKey × ℕ)) (i : Item) (next : Spot) → IsItem i → IsBegun version state
    → FitsSoFar state.plan (proposal_of cost literals relaxed []) → FromSides version state cost literals relaxed i next → Follows (shown (spot.sides version state cost literals relaxed)) i next
from_sides version state cost literals relaxed (item.Relax name side units) next fits begins sofar step =
    let k = step.thing in
    let is : relax_item state.plan (k, units) ≡ item.Relax name side units =
    (let back = item_back state.plan name k.item begins.slots step.such.found in let on = step.such.of_side in λ j. item.Relax (back j) (on j) units) in
    subst (Follows (shown (spot.sides version state cost literals relaxed)) (item.Relax name side units)) (sym step.leads)
    (record {
      good = (
        begins,
        record {
          cost = sofar.cost;
          picks = sofar.picks;
          picks_in_order = sofar.picks_in_order;
          sides = record {
            among = all_next (λ (s : SideKey × ℕ). IsItemOf state.plan s.0.item) relaxed (k, units) sofar.sides.among (IsItemOf-named state.plan (kind_named name) (name_of name) k.item step.such.found);
            units = all_next (λ (s : SideKey × ℕ). IsBetween 1 SIDE_UNITS s.1) relaxed (k, units) sofar.sides.units fits.1;
            in_order = rises_next (λ (s : SideKey × ℕ). side_place in_place s.0) 0 relaxed (k, units) sofar.sides.in_order step.such.later;
          };
          times = sofar.times;
          times_within = tt;
        },
      );
      lines = grown (to_question (begun version state)) (to_picks state.plan (proposal_of cost literals relaxed [])) (relax_item state.plan) relaxed (k, units) (item.Relax name side units) is;
    })
from_sides version state cost literals relaxed i next fits begins sofar step =
    subst (λ lines. Follows lines i next) (timeless version state (proposal_of cost literals relaxed []) refl)
    (from_times version state (proposal_of cost literals relaxed []) i next fits begins sofar step)

pub from_picks : (version : ℕ) (state : State) (cost : ℕ) (literals : List Literal) (i : Item) (next : Spot) → IsItem i → IsBegun version state
    → FitsSoFar state.plan (proposal_of cost literals [] []) → FromPicks version state cost literals i next → Follows (shown (spot.picks version state cost literals)) i next
from_picks version state cost literals (item.Pick choice alternative) next fits begins sofar step =
    let l = step.thing in
    let back : literal_names state.plan.choices l ≡ (choice, alternative) = literal_back state.plan (choice, alternative) l step.such.found in
    let is : pick_item state.plan l ≡ item.Pick choice alternative = λ j. item.Pick (back j).0 (back j).1 in
    subst (Follows (shown (spot.picks version state cost literals)) (item.Pick choice alternative)) (sym step.leads)
    (record {
      good = (
        begins,
        record {
          cost = sofar.cost;
          picks = all_next (IsLiteralAmong state.plan.choices) literals l sofar.picks (literal_among state.plan (choice, alternative) l (sym step.such.found));
          picks_in_order = rises_next (λ (l : Literal). l.choice) 0 literals l sofar.picks_in_order step.such.later;
          sides = record { among = tt; units = tt; in_order = tt };
          times = sofar.times;
          times_within = tt;
        },
      );
      lines = grown (to_question (begun version state)) (to_cost (proposal_of cost literals [] [])) (pick_item state.plan) literals l (item.Pick choice alternative) is;
    })
from_picks version state cost literals i next fits begins sofar step =
    subst (λ lines. Follows lines i next) (ap (λ l. to_question (begun version state) ++ l) (append-nil (to_picks state.plan (proposal_of cost literals [] []))))
    (from_sides version state cost literals [] i next fits begins sofar step)

pub from_question : (version : ℕ) (state : State) (i : Item) (next : Spot) → IsItem i → IsBegun version state → FromQuestion version state i next → Follows (to_question (begun version state)) i next
from_question version state item.Nothing next fits begins step =
    subst (Follows (to_question (begun version state)) item.Nothing) (sym step)
    (record { good = plain_answer version state None begins tt; lines = append-nil (to_question (begun version state) ++ item.Nothing ∷ []) })
from_question version state (item.Proposal cost) next fits begins step =
    subst (Follows (to_question (begun version state)) (item.Proposal cost)) (sym step)
    (record {
      good = (
        begins,
        record {
          cost = fits;
          picks = tt;
          picks_in_order = tt;
          sides = record { among = tt; units = tt; in_order = tt };
          times = omega arith;
          times_within = tt;
        },
      );
      lines = refl;
    })
from_question version state i next fits begins step = absurd step
