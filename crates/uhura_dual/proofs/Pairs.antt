-- The pairs that are read off: what they give each side.
use Rattle.std.proofs.Common.{◌≡◌, ℕ, Bool, true, false, List, [], ◌∷◌, ◌++◌, refl, sym, ap, ◌∙◌, arith, append_assoc, append-nil}
use Rattle.std.specs.Prelude.{if◌then◌else◌, nat_lt, ◌&&◌, ◌||◌}
use Rattle.std.specs.List.{list_any, flat_map}
use Rattle.std.proofs.lemmas.Grind.{flat_map-append}
use Rattle.std.proofs.lemmas.Bool.{ltb-false}
use Rattle.uhura_plan.specs.declared.key.Side.{Side}
use Rattle.uhura_plan.specs.declared.key.Side.TheVariants.{Lower, Upper}
use Rattle.uhura_plan.specs.declared.key.Item.{Item}
use Rattle.uhura_plan.specs.declared.key.SideKey.{SideKey}
use Rattle.uhura_plan.specs.Keys.{is_same_side, is_same_item, is_same_key}
use Rattle.uhura_worst.specs.Units.{side_units}
use Rattle.uhura_dual.specs.ReadOff.{sides_of_item, some_units, with_units}

-- another side at the end changes nothing
pub side_units-other : (pairs : List (SideKey × ℕ)) (key other : SideKey) (units : ℕ) → is_same_key other key ≡ false → side_units (pairs ++ some_units other units) key ≡ side_units pairs key
side_units-other [] key other units differs = by (nat_lt 0 units)
  where
    by : (b : Bool) → side_units (if b then (other, units) ∷ [] else []) key ≡ 0
    by true = ap (λ (s : Bool). if s then units else 0) differs
    by false = refl
side_units-other (pair ∷ pairs) key other units differs = ap (λ (n : ℕ). if is_same_key pair.0 key then pair.1 else n) (side_units-other pairs key other units differs)

-- whether a side is among some
abbrev pub is_among : SideKey → List SideKey → Bool
is_among key sides = list_any (λ s. is_same_key s key) sides

-- two keys that are one have the same units
abbrev pub AgreesOn : (SideKey → ℕ) → SideKey → Type 0
AgreesOn units key = (other : SideKey) → is_same_key other key ≡ true → units other ≡ units key

-- a side that has no units, whether or not it is among some
nothing : (b : Bool) (units : ℕ) → units ≡ 0 → (if b then units else 0) ≡ units
nothing true units none = refl
nothing false units none = sym none

-- a side in front
in_front : (units : SideKey → ℕ) (s : SideKey) (rest : List (SideKey × ℕ)) (key : SideKey) (among : Bool) → AgreesOn units key → side_units rest key ≡ (if among then units key else 0) →
    side_units (some_units s (units s) ++ rest) key ≡ (if is_same_key s key || among then units key else 0)
in_front units s rest key among agrees behind = by (is_same_key s key) refl (nat_lt 0 (units s)) refl
  where
    by : (same : Bool) → is_same_key s key ≡ same → (some : Bool) → nat_lt 0 (units s) ≡ some →
        side_units ((if some then (s, units s) ∷ [] else []) ++ rest) key ≡ (if same || among then units key else 0)
    by true is true there = ap (λ (b : Bool). if b then units s else side_units rest key) is ∙ agrees s is
    by true is false there = behind ∙ nothing among (units key) (omega (arith, agrees s is, ltb-false 0 (units s) there))
    by false is true there = ap (λ (b : Bool). if b then units s else side_units rest key) is ∙ behind
    by false is false there = behind

-- so a side has its units where it is among the sides, and else none
pub side_units-with : (units : SideKey → ℕ) (sides : List SideKey) (key : SideKey) → AgreesOn units key → side_units (with_units units sides) key ≡ (if is_among key sides then units key else 0)
side_units-with units [] key agrees = refl
side_units-with units (s ∷ sides) key agrees = in_front units s (with_units units sides) key (is_among key sides) agrees (side_units-with units sides key agrees)

-- whether an item's side is among the sides of some items
pub is_among-item : (of : Item) (at : Side) (items : List Item) → is_among (record { item = of; side = at }) (flat_map sides_of_item items) ≡ list_any (λ (i : Item). is_same_item i of) items
is_among-item of at [] = refl
is_among-item of at (i ∷ items) = by at (is_same_item i of) (is_among-item of at items)
  where
    by : (at : Side) (same : Bool) → is_among (record { item = of; side = at }) (flat_map sides_of_item items) ≡ list_any (λ (i : Item). is_same_item i of) items →
        ((same && is_same_side Lower at) || ((same && is_same_side Upper at) || is_among (record { item = of; side = at }) (flat_map sides_of_item items)))
        ≡ (same || list_any (λ (i : Item). is_same_item i of) items)
    by Lower true rest = refl
    by Upper true rest = refl
    by Lower false rest = rest
    by Upper false rest = rest

-- one item more
pub with_units-push : (units : SideKey → ℕ) (items : List Item) (of : Item) →
    with_units units (flat_map sides_of_item (items ++ of ∷ []))
    ≡ (with_units units (flat_map sides_of_item items) ++ some_units (record { item = of; side = Lower }) (units (record { item = of; side = Lower })))
    ++ some_units (record { item = of; side = Upper }) (units (record { item = of; side = Upper }))
with_units-push units items of =
    ap (with_units units) (flat_map-append sides_of_item items (of ∷ []))
    ∙ flat_map-append (λ (key : SideKey). some_units key (units key)) (flat_map sides_of_item items) (sides_of_item of)
    ∙ ap (λ (l : List (SideKey × ℕ)). with_units units (flat_map sides_of_item items) ++ (some_units (record { item = of; side = Lower }) (units (record { item = of; side = Lower })) ++ l)) (append-nil (some_units (record { item = of; side = Upper }) (units (record { item = of; side = Upper }))))
    ∙ sym (append_assoc (with_units units (flat_map sides_of_item items)) (some_units (record { item = of; side = Lower }) (units (record { item = of; side = Lower }))) (some_units (record { item = of; side = Upper }) (units (record { item = of; side = Upper }))))

-- the two sides of an item are two
pub other_side : (of : Item) → is_same_key (record { item = of; side = Lower }) (record { item = of; side = Upper }) ≡ false
other_side of = by (is_same_item of of)
  where
    by : (same : Bool) → (same && false) ≡ false
    by true = refl
    by false = refl
