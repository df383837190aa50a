-- Whether a duration's upper side leaves some lengths, and whether a side has room.
use Rattle.std.proofs.Common.{◌≡◌, ℕ, Bool, true, List, Some, sym, ◌∙◌, subst, arith}
use Rattle.std.specs.Prelude.{ℤ, pos, ◌-ℤ◌, ◌≤ℤ◌, slice_get}
use Rattle.std.specs.Bool.{Decides}
use Rattle.std.proofs.lemmas.Int.{ints}
use Rattle.std.proofs.lemmas.Option.{same_Some}
use Rattle.uhura_plan.specs.declared.key.Side.{Side}
use Rattle.uhura_plan.specs.declared.key.Side.TheVariants.{Lower, Upper}
use Rattle.uhura_plan.specs.declared.key.Item.{Item}
use Rattle.uhura_plan.specs.declared.key.Item.TheVariants as item
use Rattle.uhura_plan.specs.declared.key.SideKey.{SideKey}
use Rattle.uhura_plan.specs.declared.uncertain.Uncertain.{Uncertain}
use Rattle.uhura_plan.specs.Lists.{Lists}
use Rattle.uhura_plan.specs.Sound.{IsSound}
use Rattle.uhura_choice.specs.declared.prefix.Pick.{Pick}
use Rattle.uhura_veto.specs.Room.{width_of}
use Rattle.uhura_worst.specs.Units.{side_units}
use Rattle.uhura_worst.specs.Examples.{duration_side}
use Rattle.uhura_worst.specs.Proposal.{least_left, greatest_left}
use Rattle.uhura_worst.proofs.SoundItems.{sound_uncertain}
use Rattle.uhura_relax.specs.Schedule.{proposal_with}
use Rattle.uhura_check.specs.Conditions.{LeavesSomeAt}
use Rattle.uhura_check.proofs.Allowances.{abs-itself}
use Rattle.uhura_check.specs.Picks.{IsNarrowed}

-- the width of the range of a duration of a sound plan
pub width-of : (plan : Lists) (d : ℕ) (u : Uncertain) → IsSound plan → slice_get plan.uncertains d ≡ Some u → pos (width_of u) ≡ (u.upper -ℤ u.lower)
width-of plan d u sound is = let ordered : u.lower ≤ℤ u.upper = (sound_uncertain plan d u sound is).ordered in abs-itself (u.upper -ℤ u.lower) (omega (arith, ints, ordered))

module _ (plan : Lists) (sound : IsSound plan) (pairs : List (SideKey × ℕ)) (branch : List Pick) (times : ℕ → ℤ) (d : ℕ) where
  -- where the duration is there
  leaves-there : (u : Uncertain) (r : Bool) (lower upper : ℕ) → slice_get plan.uncertains d ≡ Some u → lower ≡ side_units pairs (duration_side d Lower) → upper ≡ side_units pairs (duration_side d Upper) → Decides r (IsNarrowed u lower upper) →
      Decides r (LeavesSomeAt plan (proposal_with branch pairs times) Upper (item.Uncertain d))
  leaves-there u r lower upper is low high decides = (λ holding v there. to v (same_Some u v (sym is ∙ there)) holding, λ leaves. decides.1 (back (leaves u is)))
    where
      own : IsNarrowed u lower upper → least_left 1 (proposal_with branch pairs times) d u ≤ℤ greatest_left 1 (proposal_with branch pairs times) d u
      own narrowed = omega (arith, ints, narrowed, low, high, width-of plan d u sound is)

      to : (v : Uncertain) → u ≡ v → r ≡ true → least_left 1 (proposal_with branch pairs times) d v ≤ℤ greatest_left 1 (proposal_with branch pairs times) d v
      to v same holding = subst (λ (w : Uncertain). least_left 1 (proposal_with branch pairs times) d w ≤ℤ greatest_left 1 (proposal_with branch pairs times) d w) same (own (decides.0 holding))

      back : least_left 1 (proposal_with branch pairs times) d u ≤ℤ greatest_left 1 (proposal_with branch pairs times) d u → IsNarrowed u lower upper
      back leaves = omega (arith, ints, leaves, low, high, width-of plan d u sound is)

  pub leaves-decided : (side : Side) (of : Item) (u : Uncertain) (r : Bool) (lower upper : ℕ) → side ≡ Upper → of ≡ item.Uncertain d → slice_get plan.uncertains d ≡ Some u → lower ≡ side_units pairs (duration_side d Lower) → upper ≡ side_units pairs (duration_side d Upper) → Decides r (IsNarrowed u lower upper) →
      Decides r (LeavesSomeAt plan (proposal_with branch pairs times) side of)
  leaves-decided side of u r lower upper is_upper is_of is low high decides =
      subst (λ (s : Side). Decides r (LeavesSomeAt plan (proposal_with branch pairs times) s of)) (sym is_upper)
      (subst (λ (i : Item). Decides r (LeavesSomeAt plan (proposal_with branch pairs times) Upper i)) (sym is_of) (leaves-there u r lower upper is low high decides))
