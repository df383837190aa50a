-- The first steps of a walk, made one after another.
use Rattle.std.proofs.Common.{◌≡◌, ◌≢◌, ℕ, ◌+◌, ◌^◌, ◌<◌, ◌≤◌, Bool, true, false, List, length, get_or, set, refl, sym, subst, ◌∙◌, inl, inr, arith}
use Rattle.std.specs.List.{IsDistinct}
use Rattle.std.proofs.lemmas.Bool.{cases_lt, eq-eqb}
use Rattle.std.proofs.lemmas.List.{get_or-set_same, get_or-set_other}
use Rattle.std.proofs.lemmas.Map.Keys.{apart_from_distinct}
use Rattle.uhura_net.specs.declared.place.Place.{Place}
use Rattle.uhura_net.specs.Circulation.{units_of}
use Rattle.uhura_net.specs.Residual.{is_same_place, place_at, HasRoom, CanMove, IsMoved, IsPushed}

-- units are moved at the places of the first steps, and stay at all others
pub record IsMovedSoFar (places : List Place) (backward : List Bool) (amount : ℕ) (before after : List ℕ) (steps : ℕ) : Type 0 where
  pub few : steps ≤ length places
  pub moved : (step : ℕ) → step < steps → IsMoved amount (get_or backward step false) (units_of before (place_at places step)) (units_of after (place_at places step))
  pub others : (place : ℕ) → ((step : ℕ) → step < steps → place_at places step ≢ place) → units_of after place ≡ units_of before place

-- two steps have different places where none stands twice
pub apart : (places : List Place) (i j : ℕ) → IsDistinct is_same_place places → i < j → j < length places → place_at places i ≢ place_at places j
apart places i j once before inside = λ same.
    let d : Place = record { 0 = 0 } in
    let differ = apart_from_distinct is_same_place places i j d once before inside in
    let equal = eq-eqb (place_at places i) (place_at places j) same in
    let never : true ≡ false = sym equal ∙ differ in
    let no : ⊥ = cc in no

-- nothing has come yet to the place of the next step
pub next_unmoved : (places : List Place) (backward : List Bool) (amount : ℕ) (before after : List ℕ) (steps : ℕ) → IsDistinct is_same_place places → steps < length places →
    IsMovedSoFar places backward amount before after steps → units_of after (place_at places steps) ≡ units_of before (place_at places steps)
next_unmoved places backward amount before after steps once inside so_far =
    so_far.others (place_at places steps) (λ step earlier. apart places step steps once earlier inside)

-- so the next step can be made
pub room_backward : (places : List Place) (backward : List Bool) (amount : ℕ) (before after : List ℕ) (steps : ℕ) → IsDistinct is_same_place places → steps < length places →
    CanMove places backward amount before → IsMovedSoFar places backward amount before after steps → get_or backward steps false ≡ true →
    amount ≤ units_of after (place_at places steps)
room_backward places backward amount before after steps once inside can so_far back =
    let holds : Bool → Type 0 = λ b. HasRoom amount b (units_of before (place_at places steps)) in
    let room : amount ≤ units_of before (place_at places steps) = subst holds back (can steps inside).room in
    omega (arith, room, next_unmoved places backward amount before after steps once inside so_far)

pub room_forward : (places : List Place) (backward : List Bool) (amount : ℕ) (before after : List ℕ) (steps : ℕ) → IsDistinct is_same_place places → steps < length places →
    CanMove places backward amount before → IsMovedSoFar places backward amount before after steps → get_or backward steps false ≡ false →
    units_of after (place_at places steps) + amount < 2 ^ 64
room_forward places backward amount before after steps once inside can so_far ahead =
    let holds : Bool → Type 0 = λ b. HasRoom amount b (units_of before (place_at places steps)) in
    let room : units_of before (place_at places steps) + amount < 2 ^ 64 = subst holds ahead (can steps inside).room in
    omega (arith, room, next_unmoved places backward amount before after steps once inside so_far)

pub IsMovedSoFar-none : (places : List Place) (backward : List Bool) (amount : ℕ) (units : List ℕ) → IsMovedSoFar places backward amount units units 0
IsMovedSoFar-none places backward amount units = record {
  few = omega arith;
  moved = λ step never. absurd (omega arith);
  others = λ place _. refl;
}

pub IsMovedSoFar-more : (places : List Place) (backward : List Bool) (amount : ℕ) (before after : List ℕ) (steps units : ℕ) → IsDistinct is_same_place places → steps < length places →
    place_at places steps < length after → IsMoved amount (get_or backward steps false) (units_of after (place_at places steps)) units →
    IsMovedSoFar places backward amount before after steps → IsMovedSoFar places backward amount before (set after (place_at places steps) units) (steps + 1)
IsMovedSoFar-more places backward amount before after steps units once inside room move so_far =
    let at : ℕ = place_at places steps in
    let unmoved = next_unmoved places backward amount before after steps once inside so_far in
    record {
      few = omega arith;
      moved = λ step below.
          elim (cases_lt step steps) [
            | inl earlier ↦
                let elsewhere : place_at places step ≢ at = apart places step steps once earlier inside in
                let kept = get_or-set_other after at (place_at places step) units 0 elsewhere in
                rw kept (so_far.moved step earlier)
            | inr after' ↦
                let last : steps ≡ step = omega arith in
                let holds : ℕ → Type 0 = λ s. IsMoved amount (get_or backward s false) (units_of before (place_at places s)) (units_of (set after at units) (place_at places s)) in
                let written : units_of (set after at units) at ≡ units = get_or-set_same after at units 0 room in
                subst holds last (rw (written, ← unmoved) move)
          ];
      others = λ place none.
          get_or-set_other after at place units 0 (λ same. none steps (omega arith) (sym same)) ∙ so_far.others place (λ step earlier. none step (omega arith));
    }

pub IsPushed-done : (places : List Place) (backward : List Bool) (amount : ℕ) (before after : List ℕ) (steps : ℕ) → length places ≤ steps →
    IsMovedSoFar places backward amount before after steps → IsPushed places backward amount (units_of before) (units_of after)
IsPushed-done places backward amount before after steps all so_far = record {
  moved = λ step inside. so_far.moved step (omega arith);
  others = λ place none. so_far.others place (λ step made. none step (omega (arith, so_far.few)));
}
