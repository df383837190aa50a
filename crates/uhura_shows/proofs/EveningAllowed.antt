-- The answers to an evening's first two questions are allowed.
use Rattle.std.proofs.Common.{rules, ◌≡◌, ℕ, zero, suc, ◌-ℤ◌, ◌≤ℤ◌, [], Some, refl, subst, lit≤, arith}
use Rattle.std.specs.Prelude.{All, IsTrue, IsFalse, slice_get}
use Rattle.std.proofs.lemmas.Int.{ints}
use Rattle.std.proofs.lemmas.Option.{none-some, same_Some}
use Rattle.std.proofs.lemmas.List.Elements.{All-from_recursion, All-contains}
use Rattle.uhura_plan.specs.declared.key.Side.{Side}
use Rattle.uhura_plan.specs.declared.key.Side.TheVariants.{Lower, Upper}
use Rattle.uhura_plan.specs.declared.requirement.Requirement.{Requirement}
use Rattle.uhura_plan.specs.declared.uncertain.Uncertain.{Uncertain}
use Rattle.uhura_choice.specs.Branch.{holds}
use Rattle.uhura_veto.specs.declared.room.Room.{Room}
use Rattle.uhura_veto.specs.declared.room.Room.TheVariants.{Units, Unlimited}
use Rattle.uhura_veto.specs.Room.{requirement_room, duration_room, IsWithinRoom}
use Rattle.uhura_worst.specs.Proposal.{Proposal, loosened, narrowed, least_left, greatest_left, time_of, IsWithin}
use Rattle.uhura_worst.specs.Allowed.{Allowed}
use Rattle.uhura_shows.specs.Evening.{evening, without_thai, evening_drives, evening_requirements, first_answer, second_answer}

-- no units are within any room
none-within : (room : Room) → IsWithinRoom 1 room 0
none-within Unlimited = tt
none-within (Units most) = omega arith

-- what no proposal narrows is left
left : (q : Proposal) → ((side : Side) (d : ℕ) → narrowed q side d ≡ 0) → (d : ℕ) (u : Uncertain) → slice_get evening_drives d ≡ Some u → least_left 1 q d u ≤ℤ greatest_left 1 q d u
left q whole zero u is = subst (λ u. least_left 1 q 0 u ≤ℤ greatest_left 1 q 0 u) (same_Some _ u is) (omega (arith, ints, whole Lower 0, whole Upper 0))
left q whole (suc zero) u is = subst (λ u. least_left 1 q 1 u ≤ℤ greatest_left 1 q 1 u) (same_Some _ u is) (omega (arith, ints, whole Lower 1, whole Upper 1))
left q whole (suc (suc zero)) u is = subst (λ u. least_left 1 q 2 u ≤ℤ greatest_left 1 q 2 u) (same_Some _ u is) (omega (arith, ints, whole Lower 2, whole Upper 2))
left q whole (suc (suc (suc zero))) u is = subst (λ u. least_left 1 q 3 u ≤ℤ greatest_left 1 q 3 u) (same_Some _ u is) (omega (arith, ints, whole Lower 3, whole Upper 3))
left q whole (suc (suc (suc (suc zero)))) u is = subst (λ u. least_left 1 q 4 u ≤ℤ greatest_left 1 q 4 u) (same_Some _ u is) (omega (arith, ints, whole Lower 4, whole Upper 4))
left q whole (suc (suc (suc (suc (suc d))))) u is = absurd (none-some u is)

pub first-allowed : Allowed evening 1 first_answer
first-allowed = record {
  scale = lit≤ tt;
  branch = search rules;
  not_denied = refl;
  loosened_within = λ side r member. none-within (requirement_room [] side r);
  loosened_active = λ side r member inactive. refl;
  narrowed_within = λ side d u is. none-within (duration_room [] d side u);
  ranges_left = left first_answer (λ side d. refl);
  covers = λ durations within r member.
      let thai = within 1 _ refl in
      let cinema = within 3 _ refl in
      let back = within 4 _ refl in
      let P : Requirement → Type 0 = λ r. IsTrue (holds r.guard first_answer.branch) → IsWithin 1 first_answer r (time_of evening.plan first_answer durations r.to -ℤ time_of evening.plan first_answer durations r.from) in
      All-contains P evening_requirements r
      (All-from_recursion P evening_requirements (search rules))
      member;
}

-- the units of the second answer are within the rooms, and 0 on what isn't active
second-within : (side : Side) → All (λ (r : Requirement). IsWithinRoom 1 (requirement_room without_thai.vetoes side r) (loosened second_answer side r)) evening_requirements
second-within Lower = All-from_recursion (λ (r : Requirement). IsWithinRoom 1 (requirement_room without_thai.vetoes Lower r) (loosened second_answer Lower r)) evening_requirements (search rules)
second-within Upper = All-from_recursion (λ (r : Requirement). IsWithinRoom 1 (requirement_room without_thai.vetoes Upper r) (loosened second_answer Upper r)) evening_requirements (search rules)

second-active : (side : Side) → All (λ (r : Requirement). IsFalse (holds r.guard second_answer.branch) → loosened second_answer side r ≡ 0) evening_requirements
second-active Lower = All-from_recursion (λ (r : Requirement). IsFalse (holds r.guard second_answer.branch) → loosened second_answer Lower r ≡ 0) evening_requirements (search rules)
second-active Upper = All-from_recursion (λ (r : Requirement). IsFalse (holds r.guard second_answer.branch) → loosened second_answer Upper r ≡ 0) evening_requirements (search rules)

pub second-allowed : Allowed without_thai 1 second_answer
second-allowed = record {
  scale = lit≤ tt;
  branch = search rules;
  not_denied = refl;
  loosened_within = λ side r member. All-contains (λ (r : Requirement). IsWithinRoom 1 (requirement_room without_thai.vetoes side r) (loosened second_answer side r)) evening_requirements r (second-within side) member;
  loosened_active = λ side r member. All-contains (λ (r : Requirement). IsFalse (holds r.guard second_answer.branch) → loosened second_answer side r ≡ 0) evening_requirements r (second-active side) member;
  narrowed_within = λ side d u is. none-within (duration_room without_thai.vetoes d side u);
  ranges_left = left second_answer (λ side d. refl);
  covers = λ durations within r member.
      let indian = within 0 _ refl in
      let cinema = within 2 _ refl in
      let back = within 4 _ refl in
      let P : Requirement → Type 0 = λ r. IsTrue (holds r.guard second_answer.branch) → IsWithin 1 second_answer r (time_of without_thai.plan second_answer durations r.to -ℤ time_of without_thai.plan second_answer durations r.from) in
      All-contains P evening_requirements r
      (All-from_recursion P evening_requirements (search rules))
      member;
}
