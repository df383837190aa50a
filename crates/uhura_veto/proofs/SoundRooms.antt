-- A room that is a number is an amount.
use Rattle.std.proofs.Common.{ℕ, ◌≤◌, Bool, true, false, List, [], ◌∷◌, All, arith}
use Rattle.std.specs.Prelude.{if◌then◌else◌, min, fold}
use Rattle.std.proofs.lemmas.List.Elements.{All-head, All-tail}
use Rattle.uhura_plan.specs.declared.key.SideKey.{SideKey}
use Rattle.uhura_plan.specs.Keys.{is_same_key}
use Rattle.uhura_plan.specs.Limits.{IsAmount}
use Rattle.uhura_veto.specs.declared.veto.Veto.{Veto}
use Rattle.uhura_veto.specs.declared.veto.Veto.TheVariants.{Deny, Cap}
use Rattle.uhura_veto.specs.declared.room.Room.{Room}
use Rattle.uhura_veto.specs.declared.room.Room.TheVariants.{Units, Unlimited}
use Rattle.uhura_veto.specs.Vetoes.{IsSoundVeto}
use Rattle.uhura_veto.specs.Room.{caps_on, least_of, least_with, IsSoundRoom}

-- the least of some numbers is at most the first
pub fold-min_le : (x : ℕ) (xs : List ℕ) → fold min x xs ≤ x
fold-min_le x [] = omega arith
fold-min_le x (y ∷ xs) = omega (arith, fold-min_le (min x y) xs)

-- the least of an amount and of other numbers is an amount
least_of-amount : (x : ℕ) (xs : List ℕ) → IsAmount x → IsSoundRoom (least_of (x ∷ xs))
least_of-amount x xs amount = omega (arith, amount, fold-min_le x xs)

-- and so is the least of the caps on a side
least_of-caps : (key : SideKey) (vetoes : List Veto) → All IsSoundVeto vetoes → IsSoundRoom (least_of (caps_on key vetoes))
least_of-caps key [] sound = tt
least_of-caps key (Deny name literals ∷ vetoes) sound = least_of-caps key vetoes (All-tail IsSoundVeto (Deny name literals) vetoes sound)
least_of-caps key (Cap name capped units ∷ vetoes) sound =
    by (is_same_key key capped) (All-head IsSoundVeto (Cap name capped units) vetoes sound) (least_of-caps key vetoes (All-tail IsSoundVeto (Cap name capped units) vetoes sound))
  where
    by : (b : Bool) → IsAmount units → IsSoundRoom (least_of (caps_on key vetoes)) → IsSoundRoom (least_of (if b then units ∷ caps_on key vetoes else caps_on key vetoes))
    by true amount rest = least_of-amount units (caps_on key vetoes) amount
    by false amount rest = rest

-- a room that isn't too large isn't so under caps either
pub least_with-sound : (room : Room) (key : SideKey) (vetoes : List Veto) → IsSoundRoom room → All IsSoundVeto vetoes → IsSoundRoom (least_with room (caps_on key vetoes))
least_with-sound Unlimited key vetoes limited sound = least_of-caps key vetoes sound
least_with-sound (Units most) key vetoes limited sound = least_of-amount most (caps_on key vetoes) limited
