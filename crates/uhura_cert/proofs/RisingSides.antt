-- A side that comes behind others has no units yet.
use Rattle.std.proofs.Common.{◌≡◌, ℕ, ◌+◌, ◌≤◌, Bool, true, false, true≢false, List, [], ◌∷◌, ◌++◌, refl, sym, subst, arith}
use Rattle.std.specs.Prelude.{if◌then◌else◌, ◌&&◌}
use Rattle.std.proofs.lemmas.Bool.Decides.{Decides-eqb}
use Rattle.uhura_plan.specs.declared.key.Side.{Side}
use Rattle.uhura_plan.specs.declared.key.Side.TheVariants.{Lower, Upper}
use Rattle.uhura_plan.specs.declared.key.Item.{Item}
use Rattle.uhura_plan.specs.declared.key.Item.TheVariants.{Requirement, Uncertain}
use Rattle.uhura_plan.specs.declared.key.SideKey.{SideKey}
use Rattle.uhura_plan.specs.Keys.{is_same_side, is_same_item, is_same_key}
use Rattle.uhura_worst.specs.Units.{side_units}
use Rattle.uhura_cert.specs.Order.{item_place, side_number, side_place, Rises}
use Rattle.uhura_cert.specs.Machine.{in_place, end_of}
use Rattle.uhura_cert.proofs.Ordered.{rises_next}

-- sides that are tested to be one have one place
item_at : (a b : Item) → is_same_item a b ≡ true → item_place in_place a ≡ item_place in_place b
item_at (Requirement a) (Requirement b) same = (Decides-eqb a b).0 same
item_at (Uncertain a) (Uncertain b) same = let at : a ≡ b = (Decides-eqb a b).0 same in omega (arith, at)
item_at (Requirement a) (Uncertain b) same = absurd (true≢false (sym same))
item_at (Uncertain a) (Requirement b) same = absurd (true≢false (sym same))

number_at : (a b : Side) → is_same_side a b ≡ true → side_number a ≡ side_number b
number_at Lower Lower same = refl
number_at Upper Upper same = refl
number_at Lower Upper same = absurd (true≢false (sym same))
number_at Upper Lower same = absurd (true≢false (sym same))

both : (p q : Bool) → (p && q) ≡ true → (p ≡ true) × (q ≡ true)
both true q same = (refl, same)
both false q same = absurd (true≢false (sym same))

same_place : (a b : SideKey) → is_same_key a b ≡ true → side_place in_place a ≡ side_place in_place b
same_place a b same =
    let parts : (is_same_item a.item b.item ≡ true) × (is_same_side a.side b.side ≡ true) = both (is_same_item a.item b.item) (is_same_side a.side b.side) same in
    omega (arith, item_at a.item b.item parts.0, number_at a.side b.side parts.1)

-- the place of a side with units
abbrev place : SideKey × ℕ → ℕ
place side = side_place in_place side.0

-- the end is behind where it began
end_behind : (least : ℕ) (sides : List (SideKey × ℕ)) → Rises place least sides → least ≤ end_of place least sides
end_behind least [] rises = omega arith
end_behind least (side ∷ sides) rises = omega (arith, rises.0, end_behind (place side + 1) sides rises.1)

-- a side of another place than the first has its units from the others
others_units : (side : SideKey × ℕ) (sides : List (SideKey × ℕ)) (key : SideKey) (same : Bool) → is_same_key side.0 key ≡ same → (side_place in_place side.0 ≡ side_place in_place key → ⊥) → side_units sides key ≡ 0
    → (if same then side.1 else side_units sides key) ≡ 0
others_units side sides key true same apart none = absurd (apart (same_place side.0 key same))
others_units side sides key false same apart none = none

none_from : (least : ℕ) (sides : List (SideKey × ℕ)) (key : SideKey) → Rises place least sides → end_of place least sides ≤ side_place in_place key → side_units sides key ≡ 0
none_from least [] key rises later = refl
none_from least (side ∷ sides) key rises later =
    others_units side sides key (is_same_key side.0 key) refl (λ at. omega (arith, at, end_behind (place side + 1) sides rises.1, later)) (none_from (place side + 1) sides key rises.1 later)

pub no_units_yet : (sides : List (SideKey × ℕ)) (key : SideKey) → Rises (λ side. side_place in_place side.0) 0 sides → end_of (λ side. side_place in_place side.0) 0 sides ≤ side_place in_place key → side_units sides key ≡ 0
no_units_yet sides key rises later = none_from 0 sides key rises later

-- sides rise, whether one more was added or not
pub rises_either : (added : Bool) (sides new : List (SideKey × ℕ)) (key : SideKey) (units : ℕ) → Rises (λ side. side_place in_place side.0) 0 sides
    → end_of (λ side. side_place in_place side.0) 0 sides ≤ side_place in_place key → new ≡ (if added then sides ++ (key, units) ∷ [] else sides) → Rises (λ side. side_place in_place side.0) 0 new
rises_either true sides new key units rises later is = subst (Rises place 0) (sym is) (rises_next place 0 sides (key, units) rises later)
rises_either false sides new key units rises later is = subst (Rises place 0) (sym is) rises
