-- What a document names is found by its name, and what is found has that name. Slots are places.
use Rattle.std.proofs.Common.{◌≡◌, ℕ, zero, suc, ◌+◌, ◌<◌, Bool, true, false, ◌==◌, List, [], ◌∷◌, length, get_or, find, Option, None, Some, IsSome, option_map, option_and_then, slice_get, bytes_eq, IsSomeAnd, refl, sym, ap, subst, ◌∙◌, arith}
use Rattle.std.specs.Prelude.{if◌then◌else◌}
use Rattle.std.specs.Option.{option_map_or}
use Rattle.std.proofs.lemmas.Bool.Decides.{Decides-eqb, nat_tests}
use Rattle.std.proofs.lemmas.List.{length-map}
use Rattle.std.proofs.lemmas.List.Elements.{All-cons, All-nil}
use Rattle.std.proofs.lemmas.List.Quantifiers.{position-Some}
use Rattle.std.proofs.lemmas.Option.{slice_get-get_or, slice_get-map, same_Some}
use Rattle.std.proofs.lemmas.Slice.Eq.{bytes_eq-Decides}
use Rattle.uhura_plan.specs.declared.key.EdgeKey.{EdgeKey}
use Rattle.uhura_plan.specs.declared.key.EdgeKey.TheVariants as key
use Rattle.uhura_plan.specs.declared.key.Item.{Item as Thing}
use Rattle.uhura_plan.specs.declared.key.Item.TheVariants.{Requirement as InSlot, Uncertain as AtPlace}
use Rattle.uhura_plan.specs.declared.key.Side.{Side}
use Rattle.uhura_plan.specs.declared.guard.Literal.{Literal}
use Rattle.uhura_plan.specs.declared.choice.Choice.{Choice}
use Rattle.uhura_plan.specs.declared.requirement.Requirement.{Requirement}
use Rattle.uhura_plan.specs.Find.{place_of, literal_named, requirement_named, requirement_in, uncertain_named}
use Rattle.uhura_plan.specs.Lists.{Lists, uncertain_names, choice_names, requirement_names, alternative_names}
use Rattle.uhura_plan.specs.Sound.{AreDistinct, IsSound, IsLiteralAmong}
use Rattle.uhura_plan.proofs.Finds.{place_within, spelled, IsSpelled, literal_among}
use Rattle.uhura_choice.specs.declared.prefix.Pick.{Pick}
use Rattle.uhura_choice.specs.declared.prefix.Pick.TheVariants.{Alternative, Inactive}
use Rattle.uhura_veto.specs.declared.item.ItemKind.TheVariants.{Require}
use Rattle.uhura_veto.specs.declared.veto.Veto.{Veto}
use Rattle.uhura_veto.specs.Find.{veto_named, item_named}
use Rattle.uhura_veto.specs.Vetoes.{IsItemOf, veto_name, veto_names}
use Rattle.uhura_veto.proofs.Items.{IsItemOf-named}
use Rattle.uhura_line.specs.declared.command.ItemName.{ItemName}
use Rattle.uhura_line.specs.declared.command.ItemName.TheVariants as named
use Rattle.uhura_line.specs.Reads.{name_of}
use Rattle.uhura_command.specs.Apply.{kind_named}
use Rattle.uhura_command.specs.Script.{name_at, item_name, literal_names}
use Rattle.uhura_command.proofs.Naming.{found_at, name_there}
use Rattle.uhura_command.proofs.Spelling.{spells, Begins}
use Rattle.uhura_item.specs.declared.item.EdgeKind.{EdgeKind}
use Rattle.uhura_item.specs.declared.item.EdgeKind.TheVariants as kind
use Rattle.uhura_item.specs.declared.item.EdgeName.{EdgeName}
use Rattle.uhura_item.specs.declared.item.EdgeName.TheVariants.{Side as OfSide, Order as OfOrder}
use Rattle.uhura_cert.specs.Order.{IsEdgeOf}
use Rattle.uhura_cert.specs.Document.{HasPlacesAsSlots, IsPickOf, ArePicks}
use Rattle.uhura_cert.specs.Items.{edge_name, picked_name, picked_names}
use Rattle.uhura_cert.specs.Machine.{side_edge, edge_named, IsPickNamed, ArePicksNamed}

-- ---- names in a list

-- the name that is found stands there
pub named_at : (names : List (List ℕ)) (name : List ℕ) (k : ℕ) → place_of names name ≡ Some k → name_at names k ≡ name
named_at names name k found =
    let at = position-Some (bytes_eq name) names k [] found in
    ap (λ o. option_map_or (λ n. n) o []) (slice_get-get_or names k [] at.0) ∙ sym ((bytes_eq-Decides name (get_or names k [])).0 at.1)

-- a name that stands somewhere is found there
pub place_found : (names : List (List ℕ)) (k : ℕ) → AreDistinct names → k < length names → place_of names (name_at names k) ≡ Some k
place_found names k distinct within = found_at names distinct k (name_at names k) (name_there names k within)

-- ---- literals

pub literal_back : (plan : Lists) (names : List ℕ × List ℕ) (l : Literal) → literal_named plan names ≡ Some l → literal_names plan.choices l ≡ names
literal_back plan names l found = by (slice_get plan.choices l.choice) refl
  where
    is : IsSpelled plan names l
    is = spelled plan names l (sym found)

    among : IsLiteralAmong plan.choices l
    among = literal_among plan names l (sym found)

    by : (c : Option Choice) → slice_get plan.choices l.choice ≡ c → literal_names plan.choices l ≡ names
    by None at = absurd (subst (λ o. IsSomeAnd o (λ c. l.alternative < length c.alternatives)) at among)
    by (Some c) at =
        let whole : literal_names plan.choices l ≡ (c.name, name_at (alternative_names c) l.alternative) =
        ap (λ o. option_map_or (λ c. (c.name, name_at (alternative_names c) l.alternative)) o ([], [])) at in
        let choice_at : name_at (choice_names plan.choices) l.choice ≡ c.name =
        ap (λ o. option_map_or (λ n. n) o []) (slice_get-map (λ c. c.name) plan.choices l.choice ∙ ap (option_map (λ c. c.name)) at) in
        let first : c.name ≡ names.0 = sym choice_at ∙ named_at (choice_names plan.choices) names.0 l.choice is.choice in
        let found_here : place_of (alternative_names c) names.1 ≡ Some l.alternative =
        sym (ap (option_and_then (λ c. place_of (alternative_names c) names.1)) at) ∙ is.alternative in
        let second : name_at (alternative_names c) l.alternative ≡ names.1 = named_at (alternative_names c) names.1 l.alternative found_here in
        whole ∙ (λ i. (first i, second i))

begins_itself : (plan : Lists) → IsSound plan → Begins plan.choices plan.choices
begins_itself plan sound = record {
  names = sound.distinct.choices;
  alternatives = λ place choice at. (sound.choices place choice at).distinct;
  same = λ place choice at. at;
}

first_of_one : {X : Type 0} (x y : X) (xs ys : List X) → (x ∷ xs) ≡ (y ∷ ys) → x ≡ y
first_of_one x y xs ys same = cc

pub literal_forth : (plan : Lists) (l : Literal) → IsSound plan → IsLiteralAmong plan.choices l → literal_named plan (literal_names plan.choices l) ≡ Some l
literal_forth plan l sound among =
    let all = spells plan.choices plan (begins_itself plan sound) (l ∷ []) (All-cons (IsLiteralAmong plan.choices) l [] among (All-nil (IsLiteralAmong plan.choices))) in
    sym (first_of_one (Some l) (literal_named plan (literal_names plan.choices l)) [] [] all)

-- ---- requirements in slots that are places

-- slots are places from a first one on
abbrev CountsFrom : ℕ → List Requirement → Type 0
CountsFrom first rs = (i : ℕ) (r : Requirement) → slice_get rs i ≡ Some r → r.slot ≡ first + i

counts_behind : (first : ℕ) (s : Requirement) (rs : List Requirement) → CountsFrom first (s ∷ rs) → CountsFrom (first + 1) rs
counts_behind first s rs counts = λ i r at. omega (arith, counts (suc i) r at)

counts_all : (plan : Lists) → HasPlacesAsSlots plan → CountsFrom 0 plan.requirements
counts_all plan slots = λ i r at. omega (arith, slots i r at)

pub found_in_slot : (first : ℕ) (rs : List Requirement) (i slot : ℕ) (r : Requirement) → CountsFrom first rs → slice_get rs i ≡ Some r → slot ≡ first + i → find (λ r. r.slot == slot) rs ≡ Some r
found_in_slot first [] i slot r counts at is = let no : ⊥ = cc in absurd no
found_in_slot first (s ∷ rs) zero slot r counts at is =
    let here : s.slot ≡ slot = omega (arith, counts zero s refl, is) in
    let test : (s.slot == slot) ≡ true = (Decides-eqb s.slot slot).1 here in
    rw test at
found_in_slot first (s ∷ rs) (suc i) slot r counts at is =
    let there : s.slot ≡ first = omega (arith, counts zero s refl) in
    let test : (s.slot == slot) ≡ false = grind (arith, nat_tests, there, is) in
    rw test (found_in_slot (first + 1) rs i slot r (counts_behind first s rs counts) at (omega arith))

-- the requirement that is found in a slot stands at that place
record StandsIn (first : ℕ) (rs : List Requirement) (slot : ℕ) : Type 0 where
  place : ℕ
  requirement : Requirement
  at : slice_get rs place ≡ Some requirement
  is : slot ≡ first + place

stands_in_slot : (first : ℕ) (rs : List Requirement) (slot : ℕ) → CountsFrom first rs → IsSome (find (λ r. r.slot == slot) rs) → StandsIn first rs slot
stands_in_slot first [] slot counts there = let no : ⊥ = cc in absurd no
stands_in_slot first (s ∷ rs) slot counts there = by (s.slot == slot) refl (stands_in_slot (first + 1) rs slot (counts_behind first s rs counts)) there
  where
    by : (test : Bool) → (s.slot == slot) ≡ test → (IsSome (find (λ r. r.slot == slot) rs) → StandsIn (first + 1) rs slot)
        → IsSome (if test then Some s else find (λ r. r.slot == slot) rs) → StandsIn first (s ∷ rs) slot
    by true test rest there =
        let same : s.slot ≡ slot = (Decides-eqb s.slot slot).0 test in
        record { place = zero; requirement = s; at = refl; is = omega (arith, counts zero s refl, same) }
    by false test rest there =
        let more = rest there in
        record { place = suc more.place; requirement = more.requirement; at = more.at; is = omega (arith, more.is) }

-- ---- requirements and durations

required_back : (plan : Lists) (name : List ℕ) (k : ℕ) (r : Option Requirement) (thing : Thing) → HasPlacesAsSlots plan → requirement_named plan name ≡ Some k
    → slice_get plan.requirements k ≡ r → option_map (λ r. InSlot r.slot) r ≡ Some thing → item_name plan thing ≡ named.Require name
required_back plan name k None thing slots at there is = let no : ⊥ = cc in absurd no
required_back plan name k (Some r) thing slots at there is =
    let same : thing ≡ InSlot r.slot = sym (same_Some (InSlot r.slot) thing is) in
    let found : find (λ q. q.slot == r.slot) plan.requirements ≡ Some r = found_in_slot 0 plan.requirements k r.slot r (counts_all plan slots) there (omega (arith, slots k r there)) in
    let here : name_at (requirement_names plan.requirements) k ≡ r.name =
    ap (λ o. option_map_or (λ n. n) o []) (slice_get-map (λ r. r.name) plan.requirements k ∙ ap (option_map (λ r. r.name)) there) in
    ap (item_name plan) same
    ∙ (ap (λ o. named.Require (option_map_or (λ r. r.name) o [])) found
    ∙ ap (λ n. named.Require n) (sym here ∙ named_at (requirement_names plan.requirements) name k at))

-- what is found by a name has it
pub item_back : (plan : Lists) (i : ItemName) (thing : Thing) → HasPlacesAsSlots plan → item_named plan (kind_named i) (name_of i) ≡ Some thing → item_name plan thing ≡ i
item_back plan (named.Require name) thing slots found = by (requirement_named plan name) refl found
  where
    by : (k : Option ℕ) → requirement_named plan name ≡ k → option_map (λ r. InSlot r.slot) (option_and_then (λ place. slice_get plan.requirements place) k) ≡ Some thing
        → item_name plan thing ≡ named.Require name
    by None at is = let no : ⊥ = cc in absurd no
    by (Some k) at is = required_back plan name k (slice_get plan.requirements k) thing slots at refl is
item_back plan (named.Uncertain name) thing slots found = by (uncertain_named plan name) refl found
  where
    by : (d : Option ℕ) → uncertain_named plan name ≡ d → option_map (λ place. AtPlace place) d ≡ Some thing → item_name plan thing ≡ named.Uncertain name
    by None at is = let no : ⊥ = cc in absurd no
    by (Some d) at is =
        let same : thing ≡ AtPlace d = sym (same_Some (AtPlace d) thing is) in
        ap (item_name plan) same ∙ ap (λ n. named.Uncertain n) (named_at (uncertain_names plan.uncertains) name d at)

-- what is in the plan is found by its name
pub item_forth : (plan : Lists) (thing : Thing) → IsSound plan → HasPlacesAsSlots plan → IsItemOf plan thing
    → item_named plan (kind_named (item_name plan thing)) (name_of (item_name plan thing)) ≡ Some thing
item_forth plan (InSlot slot) sound slots there =
    let s = stands_in_slot 0 plan.requirements slot (counts_all plan slots) there in
    let found : find (λ r. r.slot == slot) plan.requirements ≡ Some s.requirement = found_in_slot 0 plan.requirements s.place slot s.requirement (counts_all plan slots) s.at s.is in
    let shown : option_map_or (λ r. r.name) (requirement_in plan slot) [] ≡ s.requirement.name = ap (λ o. option_map_or (λ r. r.name) o []) found in
    let is_there : requirement_named plan s.requirement.name ≡ Some s.place =
    found_at (requirement_names plan.requirements) sound.distinct.requirements s.place s.requirement.name
    (slice_get-map (λ r. r.name) plan.requirements s.place ∙ ap (option_map (λ r. r.name)) s.at) in
    let in_its_slot : s.requirement.slot ≡ slot = omega (arith, slots s.place s.requirement s.at, s.is) in
    ap (item_named plan Require) shown
    ∙ (ap (λ o. option_map (λ r. InSlot r.slot) (option_and_then (λ place. slice_get plan.requirements place) o)) is_there
    ∙ (ap (option_map (λ r. InSlot r.slot)) s.at
    ∙ ap (λ n. Some (InSlot n)) in_its_slot))
item_forth plan (AtPlace d) sound slots there =
    ap (option_map (λ place. AtPlace place)) (place_found (uncertain_names plan.uncertains) d sound.distinct.uncertains (omega (arith, there, length-map plan.uncertains (λ u. u.name))))

-- ---- edges

-- an edge that is there, of this name
pub record HasEdgeName (plan : Lists) (name : EdgeName) (e : EdgeKey) : Type 0 where
  pub there : IsEdgeOf plan e
  pub is : edge_name plan e ≡ name

side_edge_is : (plan : Lists) (k : EdgeKind) (i : ItemName) (side : Side) (thing : Thing) → IsItemOf plan thing → item_name plan thing ≡ i → HasEdgeName plan (OfSide i side k) (side_edge k side thing)
side_edge_is plan kind.Loose i side thing there is = record { there = there; is = ap (λ i. OfSide i side kind.Loose) is }
side_edge_is plan kind.Steep i side thing there is = record { there = there; is = ap (λ i. OfSide i side kind.Steep) is }
side_edge_is plan kind.Firm i side thing there is = record { there = there; is = ap (λ i. OfSide i side kind.Firm) is }

pub edge_back : (plan : Lists) (name : EdgeName) (e : EdgeKey) → HasPlacesAsSlots plan → edge_named plan name ≡ Some e → HasEdgeName plan name e
edge_back plan (OfSide i side k) e slots found = by (item_named plan (kind_named i) (name_of i)) refl found
  where
    by : (o : Option Thing) → item_named plan (kind_named i) (name_of i) ≡ o → option_map (side_edge k side) o ≡ Some e → HasEdgeName plan (OfSide i side k) e
    by None at is = let no : ⊥ = cc in absurd no
    by (Some thing) at is =
        subst (HasEdgeName plan (OfSide i side k)) (same_Some (side_edge k side thing) e is)
        (side_edge_is plan k i side thing (IsItemOf-named plan (kind_named i) (name_of i) thing at) (item_back plan i thing slots at))
edge_back plan (OfOrder name) e slots found = by (uncertain_named plan name) refl found
  where
    by : (d : Option ℕ) → uncertain_named plan name ≡ d → option_map (λ d. key.Order d) d ≡ Some e → HasEdgeName plan (OfOrder name) e
    by None at is = let no : ⊥ = cc in absurd no
    by (Some d) at is =
        subst (HasEdgeName plan (OfOrder name)) (same_Some (key.Order d) e is)
        (record {
          there = omega (arith, place_within (uncertain_names plan.uncertains) name d at, length-map plan.uncertains (λ u. u.name));
          is = ap (λ n. OfOrder n) (named_at (uncertain_names plan.uncertains) name d at);
        })

pub edge_forth : (plan : Lists) (e : EdgeKey) → IsSound plan → HasPlacesAsSlots plan → IsEdgeOf plan e → edge_named plan (edge_name plan e) ≡ Some e
edge_forth plan (key.Loose k) sound slots there = ap (option_map (side_edge kind.Loose k.side)) (item_forth plan k.item sound slots there)
edge_forth plan (key.Steep k) sound slots there = ap (option_map (side_edge kind.Steep k.side)) (item_forth plan k.item sound slots there)
edge_forth plan (key.Firm k) sound slots there = ap (option_map (side_edge kind.Firm k.side)) (item_forth plan k.item sound slots there)
edge_forth plan (key.Order d) sound slots there =
    ap (option_map (λ d. key.Order d)) (place_found (uncertain_names plan.uncertains) d sound.distinct.uncertains (omega (arith, there, length-map plan.uncertains (λ u. u.name))))

-- ---- vetoes

pub veto_within : (vetoes : List Veto) (name : List ℕ) (k : ℕ) → veto_named vetoes name ≡ Some k → k < length vetoes
veto_within vetoes name k found = omega (arith, place_within (veto_names vetoes) name k found, length-map vetoes veto_name)

pub veto_forth : (vetoes : List Veto) (k : ℕ) → AreDistinct (veto_names vetoes) → k < length vetoes → veto_named vetoes (name_at (veto_names vetoes) k) ≡ Some k
veto_forth vetoes k distinct within = place_found (veto_names vetoes) k distinct (omega (arith, within, length-map vetoes veto_name))

-- ---- prefixes

-- picks that are there, of these names
pub record HasPickNames (choices : List Choice) (names : List (Option (List ℕ))) (prefix : List Pick) : Type 0 where
  pub are : ArePicks choices prefix
  pub names_are : picked_names choices prefix ≡ names

record HasPickName (c : Choice) (name : Option (List ℕ)) (pick : Pick) : Type 0 where
  is : IsPickOf c pick
  name_is : picked_name c pick ≡ name

pick_back : (c : Choice) (name : Option (List ℕ)) (pick : Pick) → IsPickNamed c name pick → HasPickName c name pick
pick_back c None pick is = subst (HasPickName c None) (sym is) (record { is = tt; name_is = refl })
pick_back c (Some name) Inactive is = absurd is
pick_back c (Some name) (Alternative a) is = record {
  is = omega (arith, place_within (alternative_names c) name a is, length-map c.alternatives (λ a. a.0));
  name_is = ap (λ n. Some n) (named_at (alternative_names c) name a is);
}

pub picks_back : (choices : List Choice) (names : List (Option (List ℕ))) (prefix : List Pick) → ArePicksNamed choices names prefix → HasPickNames choices names prefix
picks_back choices [] prefix are = subst (HasPickNames choices []) (sym are) (record { are = tt; names_are = refl })
picks_back [] (name ∷ names) prefix are = absurd are
picks_back (c ∷ choices) (name ∷ names) [] are = absurd are
picks_back (c ∷ choices) (name ∷ names) (pick ∷ prefix) are =
    let here = pick_back c name pick are.0 in
    let rest = picks_back choices names prefix are.1 in
    record { are = (here.is, rest.are); names_are = λ i. here.name_is i ∷ rest.names_are i }

pick_forth : (c : Choice) (pick : Pick) → AreDistinct (alternative_names c) → IsPickOf c pick → IsPickNamed c (picked_name c pick) pick
pick_forth c (Alternative a) distinct is = place_found (alternative_names c) a distinct (omega (arith, is, length-map c.alternatives (λ a. a.0)))
pick_forth c Inactive distinct is = refl

pub picks_forth : (choices : List Choice) (prefix : List Pick) → ((place : ℕ) (c : Choice) → slice_get choices place ≡ Some c → AreDistinct (alternative_names c)) → ArePicks choices prefix
    → ArePicksNamed choices (picked_names choices prefix) prefix
picks_forth choices [] distinct are = refl
picks_forth [] (pick ∷ prefix) distinct are = absurd are
picks_forth (c ∷ choices) (pick ∷ prefix) distinct are =
    (pick_forth c pick (distinct zero c refl) are.0, picks_forth choices prefix (λ place d at. distinct (suc place) d at) are.1)

pick_once : (c : Choice) (name : Option (List ℕ)) (p q : Pick) → IsPickNamed c name p → IsPickNamed c name q → p ≡ q
pick_once c None p q first second = first ∙ sym second
pick_once c (Some name) Inactive q first second = absurd first
pick_once c (Some name) (Alternative a) Inactive first second = absurd second
pick_once c (Some name) (Alternative a) (Alternative b) first second = ap (λ a. Alternative a) (same_Some a b (sym first ∙ second))

-- names are of one prefix
pub picks_once : (choices : List Choice) (names : List (Option (List ℕ))) (p q : List Pick) → ArePicksNamed choices names p → ArePicksNamed choices names q → p ≡ q
picks_once choices [] p q first second = first ∙ sym second
picks_once [] (name ∷ names) p q first second = absurd first
picks_once (c ∷ choices) (name ∷ names) [] q first second = absurd first
picks_once (c ∷ choices) (name ∷ names) (x ∷ p) [] first second = absurd second
picks_once (c ∷ choices) (name ∷ names) (x ∷ p) (y ∷ q) first second =
    let here = pick_once c name x y first.0 second.0 in
    let rest = picks_once choices names p q first.1 second.1 in
    λ i. here i ∷ rest i
