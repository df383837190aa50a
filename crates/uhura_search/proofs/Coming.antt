-- What is put into a flow as it goes on to more picks.
use Rattle.std.proofs.Common.{◌≡◌, ℕ, suc, zero, ◌+◌, ◌*◌, ◌/◌, ◌%◌, ◌<◌, ◌≤◌, List, length, Bool, true, false, Option, None, Some, slice_get, Contains, inl, inr, refl, sym, ap, subst, ◌∙◌, arith}
use Rattle.std.specs.Prelude.{◌⊎◌, ◌-◌, ◌==◌, if◌then◌else◌}
use Rattle.std.specs.Option.{option_map_or}
use Rattle.std.proofs.lemmas.Bool.{cases_lt, cases_eq, lt-ltb, le-ltb}
use Rattle.std.proofs.lemmas.Bool.Decides.{Decides-eqb}
use Rattle.std.proofs.lemmas.Option.{slice_get_within, get_or_from_slice_get, slice_get-get_or}
use Rattle.uhura_plan.specs.Lists.{Lists}
use Rattle.uhura_plan.specs.Sound.{IsSound}
use Rattle.uhura_plan.specs.Find.{requirement_in}
use Rattle.uhura_plan.specs.declared.limits.TheConstants.{REQUIREMENTS}
use Rattle.uhura_plan.specs.declared.key.Item.{Item}
use Rattle.uhura_plan.specs.declared.key.Item.TheVariants as item
use Rattle.uhura_plan.specs.declared.key.EdgeKey.TheVariants.{Order}
use Rattle.uhura_plan.specs.declared.requirement.Requirement.{Requirement}
use Rattle.uhura_choice.specs.declared.prefix.Pick.{Pick}
use Rattle.uhura_choice.specs.Branch.{holds}
use Rattle.uhura_choice.specs.Order.{IsFrontOf}
use Rattle.uhura_net.specs.declared.edge.Edge.{Edge}
use Rattle.uhura_net.specs.declared.place.TheConstants.{PLACES}
use Rattle.uhura_net.specs.Edges.{Edges}
use Rattle.uhura_net.specs.Circulation.{edges_of}
use Rattle.uhura_flow.specs.Flow.{FlowState, flow_edges}
use Rattle.uhura_worst.specs.Edges.{item_of, is_active_item, is_active_edge}
use Rattle.uhura_worst.proofs.FirstItems.{requirement_in-member, passes}
use Rattle.uhura_worst.proofs.SoundItems.{Contains-found}
use Rattle.uhura_dual.specs.Settled.{key_in_row, key_in_pair, key_in_tables, key_in_pairs, durations_from, pairs_from, duration_pairs_from, key_at}
use Rattle.uhura_search.specs.declared.moving.Moved.{Moved}
use Rattle.uhura_search.specs.declared.moving.Moved.TheVariants.{Holds, Stuck}
use Rattle.uhura_search.specs.Moving.{AreAmong, HasAll, put_at, active_edges, IsUnsettled, HasPutAt, IsStuckAt, IsStuckAmong, HasMoved}
use Rattle.uhura_search.specs.Going.{IsFrom, IsInSlot, HasPutAll, IsPutAll, PutsAll}
use Rattle.uhura_search.proofs.Active.{among-active, among-table}
use Rattle.uhura_search.proofs.Fronting.{front-among}
use Rattle.uhura_search.proofs.Putting.{put-among, put-kept, put-there, same-edge, unsettled-both, stuck-among, stuck-after}

-- nothing is put at first
unsettled-none : (a : FlowState) → IsUnsettled a a
unsettled-none a = record { pushes = omega arith; settles = refl; cycle = refl }

pub none-put : (flow : FlowState) (table : List (Option Edge)) (first : ℕ) → PutsAll flow flow table (IsFrom first first) Holds
none-put flow table first wanted among same = record {
  among = among;
  kept = λ place edge is. is;
  there = λ place at. absurd (omega (arith, at.0, at.1));
  unsettled = unsettled-none flow;
}

-- one place more
pub more-put : (a b c : FlowState) (table : List (Option Edge)) (first place : ℕ) (edge : Option Edge) → edge ≡ edges_of table place → first ≤ place → PutsAll a b table (IsFrom first place) Holds → HasPutAt b c place edge →
    PutsAll a c table (IsFrom first (place + 1)) Holds
more-put a b c table first place edge is above before put wanted among same = record {
  among = put-among place (flow_edges b) (flow_edges c) wanted so.among put.others own;
  kept = λ other e there. kept other e (so.kept other e there);
  there = λ other at. elim (cases_eq other place) [
    | inl here ↦ subst (HasAll wanted (flow_edges c)) (sym here) (put-there place (flow_edges b) (flow_edges c) wanted so.among own)
    | inr apart ↦ λ e there. kept other e (so.there other (at.0, omega (arith, at.1, apart)) e there)
  ];
  unsettled = unsettled-both a b c so.unsettled put.unsettled;
}
  where
    so : HasPutAll a b wanted (IsFrom first place)
    so = before wanted among (λ other at. same other (at.0, omega (arith, at.1)))

    own : flow_edges c place ≡ put_at (flow_edges b place) (wanted place)
    own = put.own ∙ ap (put_at (flow_edges b place)) (is ∙ sym (same place (above, omega arith)))

    kept : AreAmong (flow_edges b) (flow_edges c)
    kept = put-kept place (flow_edges b) (flow_edges c) (wanted place) put.others own

-- stuck at one of them
pub stuck-put : (a b c : FlowState) (table : List (Option Edge)) (first last place : ℕ) (edge : Option Edge) → edge ≡ edges_of table place → first ≤ place → place < last → last ≤ PLACES →
    PutsAll a b table (IsFrom first place) Holds → IsStuckAt b c place edge → PutsAll a c table (IsFrom first last) Stuck
stuck-put a b c table first last place edge is above below inside before stuck wanted among same =
    stuck-among a b c wanted place edge (omega (arith, below, inside)) so.among (is ∙ sym (same place (above, below))) so.unsettled stuck
  where
    so : HasPutAll a b wanted (IsFrom first place)
    so = before wanted among (λ other at. same other (at.0, omega (arith, at.1, below)))

-- all of them
pub all-put : (a b : FlowState) (table : List (Option Edge)) (first last at : ℕ) → last ≤ at → at ≤ last → PutsAll a b table (IsFrom first at) Holds → PutsAll a b table (IsFrom first last) Holds
all-put a b table first last at past upto before = subst (λ (n : ℕ). PutsAll a b table (IsFrom first n) Holds) (omega (arith, past, upto)) before

-- the places of a slot are those in its table, and its pair
abbrev pub steep_from : ℕ → ℕ
steep_from slot = pairs_from + 2 * slot

row-item : (s slot row : ℕ) → item_of (key_in_row (item.Requirement s) (Order 0) row) ≡ item.Requirement slot → s ≡ slot
row-item s slot zero is = cc
row-item s slot (suc zero) is = cc
row-item s slot (suc (suc zero)) is = cc
row-item s slot (suc (suc (suc zero))) is = cc
row-item s slot (suc (suc (suc (suc row)))) is = absurd (let never : ⊥ = cc in never)

row-not : (d slot row : ℕ) → item_of (key_in_row (item.Uncertain d) (Order d) row) ≡ item.Requirement slot → ⊥
row-not d slot zero is = cc
row-not d slot (suc zero) is = cc
row-not d slot (suc (suc zero)) is = cc
row-not d slot (suc (suc (suc zero))) is = cc
row-not d slot (suc (suc (suc (suc row)))) is = cc

pair-item : (s slot row : ℕ) → item_of (key_in_pair (item.Requirement s) row) ≡ item.Requirement slot → s ≡ slot
pair-item s slot zero is = cc
pair-item s slot (suc row) is = cc

pair-not : (d slot row : ℕ) → item_of (key_in_pair (item.Uncertain d) row) ≡ item.Requirement slot → ⊥
pair-not d slot zero is = cc
pair-not d slot (suc row) is = cc

pub slot-places : (slot place : ℕ) → IsInSlot slot place → IsFrom (4 * slot) (4 * slot + 4) place ⊎ IsFrom (steep_from slot) (steep_from slot + 2) place
slot-places slot place is =
    elim (cases_lt place durations_from) [
      | inl below ↦
          let key : key_at place ≡ key_in_row (item.Requirement (place / 4)) (Order 0) (place % 4) = rw (lt-ltb place durations_from below) refl in
          let same : place / 4 ≡ slot = row-item (place / 4) slot (place % 4) (sym (ap item_of key) ∙ is) in
          inl (omega (arith, same), omega (arith, same))
      | inr above ↦ elim (cases_lt place pairs_from) [
        | inl below ↦
            let key : key_at place ≡ key_in_tables (place - durations_from) = rw (le-ltb place durations_from above, lt-ltb place pairs_from below) refl in
            absurd (row-not ((place - durations_from) / 5) slot ((place - durations_from) % 5) (sym (ap item_of key) ∙ is))
        | inr over ↦ elim (cases_lt place duration_pairs_from) [
          | inl below ↦
              let key : key_at place ≡ key_in_pairs (λ s. item.Requirement s) (place - pairs_from) =
              rw (le-ltb place durations_from above, le-ltb place pairs_from over, lt-ltb place duration_pairs_from below) refl in
              let same : (place - pairs_from) / 2 ≡ slot = pair-item ((place - pairs_from) / 2) slot ((place - pairs_from) % 2) (sym (ap item_of key) ∙ is) in
              inr (omega (arith, same, over), omega (arith, same, over))
          | inr past ↦
              let key : key_at place ≡ key_in_pairs (λ d. item.Uncertain d) (place - duration_pairs_from) =
              rw (le-ltb place durations_from above, le-ltb place pairs_from over, le-ltb place duration_pairs_from past) refl in
              absurd (pair-not ((place - duration_pairs_from) / 2) slot ((place - duration_pairs_from) % 2) (sym (ap item_of key) ∙ is))
        ]
      ]
    ]

in-row : (s row : ℕ) → row < 4 → item_of (key_in_row (item.Requirement s) (Order 0) row) ≡ item.Requirement s
in-row s zero small = refl
in-row s (suc zero) small = refl
in-row s (suc (suc zero)) small = refl
in-row s (suc (suc (suc zero))) small = refl
in-row s (suc (suc (suc (suc row)))) small = absurd (omega (arith, small))

in-pair : (s row : ℕ) → item_of (key_in_pair (item.Requirement s) row) ≡ item.Requirement s
in-pair s zero = refl
in-pair s (suc row) = refl

pub table-slot : (slot place : ℕ) → slot < REQUIREMENTS → IsFrom (4 * slot) (4 * slot + 4) place → IsInSlot slot place
table-slot slot place placed from =
    let key : key_at place ≡ key_in_row (item.Requirement (place / 4)) (Order 0) (place % 4) = rw (lt-ltb place durations_from (omega (arith, placed, from.1))) refl in
    let same : place / 4 ≡ slot = omega (arith, from.0, from.1) in
    ap item_of key ∙ (in-row (place / 4) (place % 4) (omega arith) ∙ ap (λ s. item.Requirement s) same)

pub pair-slot : (slot place : ℕ) → slot < REQUIREMENTS → IsFrom (steep_from slot) (steep_from slot + 2) place → IsInSlot slot place
pair-slot slot place placed from =
    let key : key_at place ≡ key_in_pairs (λ s. item.Requirement s) (place - pairs_from) =
    rw (
      le-ltb place durations_from (omega (arith, from.0)),
      le-ltb place pairs_from (omega (arith, from.0)),
      lt-ltb place duration_pairs_from (omega (arith, placed, from.1)),
    ) refl in
    let same : (place - pairs_from) / 2 ≡ slot = omega (arith, from.0, from.1) in
    ap item_of key ∙ (in-pair ((place - pairs_from) / 2) ((place - pairs_from) % 2) ∙ ap (λ s. item.Requirement s) same)

-- what is put into both is put into the slot
pub slot-stuck : (a b : FlowState) (table : List (Option Edge)) (slot first : ℕ) → slot < REQUIREMENTS → first ≡ 4 * slot → PutsAll a b table (IsFrom first (first + 4)) Stuck → PutsAll a b table (IsInSlot slot) Stuck
slot-stuck a b table slot first placed at puts wanted among same =
    puts wanted among (λ place from. same place (table-slot slot place placed (omega (arith, from.0, at), omega (arith, from.1, at))))

module _ (a b c : FlowState) (table : List (Option Edge)) (slot first steep : ℕ) (placed : slot < REQUIREMENTS) (at : first ≡ 4 * slot) (pair : steep ≡ steep_from slot) (puts : PutsAll a b table (IsFrom first (first + 4)) Holds) where
  module _ (wanted : Edges) (among : AreAmong (flow_edges a) wanted) (same : (place : ℕ) → IsInSlot slot place → wanted place ≡ edges_of table place) where
    one : HasPutAll a b wanted (IsFrom first (first + 4))
    one = puts wanted among (λ place from. same place (table-slot slot place placed (omega (arith, from.0, at), omega (arith, from.1, at))))

    two : (moved : Moved) → PutsAll b c table (IsFrom steep (steep + 2)) moved → IsPutAll b c wanted (IsFrom steep (steep + 2)) moved
    two moved more = more wanted one.among (λ place from. same place (pair-slot slot place placed (omega (arith, from.0, pair), omega (arith, from.1, pair))))

    both : (moved : Moved) → IsPutAll b c wanted (IsFrom steep (steep + 2)) moved → IsPutAll a c wanted (IsInSlot slot) moved
    both Stuck stuck = stuck-after a b c wanted one.unsettled stuck
    both Holds more = record {
      among = more.among;
      kept = λ place edge is. more.kept place edge (one.kept place edge is);
      there = λ place in_slot. by place (slot-places slot place in_slot);
      unsettled = unsettled-both a b c one.unsettled more.unsettled;
    }
      where
        by : (place : ℕ) → IsFrom (4 * slot) (4 * slot + 4) place ⊎ IsFrom (steep_from slot) (steep_from slot + 2) place → HasAll wanted (flow_edges c) place
        by place (inl from) edge is = more.kept place edge (one.there place (omega (arith, from.0, at), omega (arith, from.1, at)) edge is)
        by place (inr from) edge is = more.there place (omega (arith, from.0, pair), omega (arith, from.1, pair)) edge is

  pub slot-put : (moved : Moved) → PutsAll b c table (IsFrom steep (steep + 2)) moved → PutsAll a c table (IsInSlot slot) moved
  slot-put moved more wanted among same = both wanted among same moved (two wanted among same moved more)

-- the requirements so far that are active have their edges
abbrev pub HaveCome : List (Option Edge) → Lists → List Pick → ℕ → FlowState → Type 0
HaveCome table plan after count flow =
    (k : ℕ) (r : Requirement) → k < count → slice_get plan.requirements k ≡ Some r → holds r.guard after ≡ true → (place : ℕ) → IsInSlot r.slot place → HasAll (edges_of table) (flow_edges flow) place

-- and none but what is active is there
pub record HasGoneOn (table : List (Option Edge)) (plan : Lists) (after : List Pick) (old : FlowState) (count : ℕ) (flow : FlowState) : Type 0 where
  pub among : AreAmong (flow_edges flow) (active_edges table plan after)
  pub kept : AreAmong (flow_edges old) (flow_edges flow)
  pub come : HaveCome table plan after count flow
  pub unsettled : IsUnsettled old flow

-- A flow that goes on from some first picks to more: the edges of what is active after these come.
module _ (table : List (Option Edge)) (plan : Lists) (before after : List Pick) (begins : IsFrontOf before after) (sound : IsSound plan) where
  active-in : (picks : List Pick) (k : ℕ) (r : Requirement) (place : ℕ) → slice_get plan.requirements k ≡ Some r → IsInSlot r.slot place → holds r.guard picks ≡ true → active_edges table plan picks place ≡ edges_of table place
  active-in picks k r place at in_slot held =
      let found : requirement_in plan r.slot ≡ Some r =
      requirement_in-member plan r sound.distinct.slots (k, slice_get_within plan.requirements k r at, get_or_from_slice_get plan.requirements k r r at) in
      let active : is_active_edge plan picks (key_at place) ≡ true =
      ap (is_active_item plan picks) in_slot ∙ (ap (λ (o : Option Requirement). option_map_or (λ (q : Requirement). holds q.guard picks) o false) found ∙ held) in
      ap (λ (b : Bool). if b then edges_of table place else None) active

  module _ (old : FlowState) (stands : (place : ℕ) → flow_edges old place ≡ active_edges table plan before place) where
    -- what was active before is there
    was-there : (flow : FlowState) → AreAmong (flow_edges old) (flow_edges flow) → (place : ℕ) → active_edges table plan before place ≡ edges_of table place → HasAll (edges_of table) (flow_edges flow) place
    was-there flow kept place was edge is = kept place edge (stands place ∙ (was ∙ is))

    pub gone-none : HasGoneOn table plan after old 0 old
    gone-none = record {
      among = λ place edge is. front-among table plan before after begins place edge (sym (stands place) ∙ is);
      kept = λ place edge is. is;
      come = λ k r below. absurd (omega (arith, below));
      unsettled = unsettled-none old;
    }

    -- one more that isn't active, or was
    pub gone-skip : (i : ℕ) (own : Requirement) (flow : FlowState) → slice_get plan.requirements i ≡ Some own → (holds own.guard after ≡ true → holds own.guard before ≡ true) → HasGoneOn table plan after old i flow → HasGoneOn table plan after old (i + 1) flow
    gone-skip i own flow at was gone = record {
      among = gone.among;
      kept = gone.kept;
      come = λ k r below there held place in_slot. elim (cases_lt k i) [
        | inl less ↦ gone.come k r less there held place in_slot
        | inr more ↦
            let same : Some own ≡ Some r = sym at ∙ (ap (slice_get plan.requirements) (sym (last k below more)) ∙ there) in
            let one : own ≡ r = cc in
            was-there flow gone.kept place (active-in before k r place there in_slot (subst (λ (q : Requirement). holds q.guard after ≡ true → holds q.guard before ≡ true) one was held))
      ];
      unsettled = gone.unsettled;
    }
      where
        last : (k : ℕ) → k < i + 1 → i ≤ k → k ≡ i
        last k below more = omega (arith, below, more)

    -- one more that becomes active, and whose edges are put in
    module _ (i : ℕ) (own : Requirement) (mid new : FlowState) (at : slice_get plan.requirements i ≡ Some own) (held : holds own.guard after ≡ true) (gone : HasGoneOn table plan after old i mid) where
      own-wanted : (place : ℕ) → IsInSlot own.slot place → active_edges table plan after place ≡ edges_of table place
      own-wanted place in_slot = active-in after i own place at in_slot held

      pub gone-stuck : PutsAll mid new table (IsInSlot own.slot) Stuck → IsStuckAmong old new (active_edges table plan after)
      gone-stuck puts = stuck-after old mid new (active_edges table plan after) gone.unsettled (puts (active_edges table plan after) gone.among own-wanted)

      pub gone-put : PutsAll mid new table (IsInSlot own.slot) Holds → HasGoneOn table plan after old (i + 1) new
      gone-put puts = record {
        among = put.among;
        kept = λ place edge is. put.kept place edge (gone.kept place edge is);
        come = λ k r below there holding place in_slot. elim (cases_lt k i) [
          | inl less ↦ λ edge is. put.kept place edge (gone.come k r less there holding place in_slot edge is)
          | inr more ↦
              let last : k ≡ i = omega (arith, below, more) in
              let same : Some r ≡ Some own = sym there ∙ (ap (slice_get plan.requirements) last ∙ at) in
              let one : r ≡ own = cc in
              let here : IsInSlot own.slot place = in_slot ∙ ap (λ (q : Requirement). item.Requirement q.slot) one in
              λ edge is. put.there place here edge (own-wanted place here ∙ is)
        ];
        unsettled = unsettled-both old mid new gone.unsettled put.unsettled;
      }
        where
          put : HasPutAll mid new (active_edges table plan after) (IsInSlot own.slot)
          put = puts (active_edges table plan after) gone.among own-wanted

    -- all of them
    pub gone-all : (count : ℕ) (flow : FlowState) → length plan.requirements ≤ count → HasGoneOn table plan after old count flow → HasMoved old flow (active_edges table plan after)
    gone-all count flow all gone = record {
      edges = λ place. same-edge (flow_edges flow place) (active_edges table plan after place) (gone.among place)
          (λ edge is. there place (item_of (key_at place)) refl (among-active table plan after place edge is) edge (among-table table plan after place edge is));
      unsettled = gone.unsettled;
    }
      where
        by_slot : (place slot : ℕ) → IsInSlot slot place → (o : Option Requirement) → requirement_in plan slot ≡ o → option_map_or (λ (q : Requirement). holds q.guard after) o false ≡ true → HasAll (edges_of table) (flow_edges flow) place
        by_slot place slot in_slot None found active = absurd (let never : ⊥ = cc in never)
        by_slot place slot in_slot (Some r) found active =
            let member : Contains plan.requirements r = Contains-found (λ (q : Requirement). q.slot == slot) plan.requirements r found in
            let same : r.slot ≡ slot = (Decides-eqb r.slot slot).0 (passes (λ (q : Requirement). q.slot == slot) plan.requirements r found) in
            let at : slice_get plan.requirements member.0 ≡ Some r = slice_get-get_or plan.requirements member.0 r member.1 ∙ ap (λ (q : Requirement). Some q) member.2 in
            gone.come member.0 r (omega (arith, all, member.1)) at active place (in_slot ∙ ap (λ (n : ℕ). item.Requirement n) (sym same))

        there : (place : ℕ) (of : Item) → item_of (key_at place) ≡ of → is_active_edge plan after (key_at place) ≡ true → HasAll (edges_of table) (flow_edges flow) place
        there place (item.Requirement slot) is active = by_slot place slot is (requirement_in plan slot) refl (sym (ap (is_active_item plan after) is) ∙ active)
        there place (item.Uncertain d) is active =
            let was : is_active_edge plan before (key_at place) ≡ true = ap (is_active_item plan before) is in
            was-there flow gone.kept place (ap (λ (b : Bool). if b then edges_of table place else None) was)
