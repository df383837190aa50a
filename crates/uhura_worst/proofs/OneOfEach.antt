-- What is allowed for a plan of one duration and one requirement, without a choice.
use Rattle.std.proofs.Common.{ℕ, ◌≤◌, List, [], ◌∷◌, ◌≡◌, IsTrue, IsFalse, true≢false, refl, sym, ◌∙◌}
use Rattle.std.specs.Prelude.{ℤ, ◌-ℤ◌, ◌≤ℤ◌}
use Rattle.uhura_plan.specs.declared.key.Side.{Side}
use Rattle.uhura_plan.specs.declared.key.SideKey.{SideKey}
use Rattle.uhura_plan.specs.declared.requirement.Requirement.{Requirement}
use Rattle.uhura_plan.specs.declared.uncertain.Uncertain.{Uncertain}
use Rattle.uhura_plan.specs.Lists.{Lists}
use Rattle.uhura_choice.specs.Branch.{holds}
use Rattle.uhura_veto.specs.declared.veto.Veto.{Veto}
use Rattle.uhura_veto.specs.Denial.{is_denied}
use Rattle.uhura_veto.specs.Room.{requirement_room, duration_room, IsWithinRoom}
use Rattle.uhura_worst.specs.Proposal.{Proposal, loosened, narrowed, least_left, greatest_left, time_of, IsWithin}
use Rattle.uhura_worst.specs.Allowed.{Allowed}
use Rattle.uhura_worst.proofs.Single.{for_single, at_single}

-- a plan of one duration and one requirement
abbrev pub one_of_each : List (List ℕ) → Uncertain → Requirement → Lists
one_of_each events u r = record { events = events; uncertains = u ∷ []; choices = []; requirements = r ∷ [] }

-- units and times of events, in the one branch
abbrev pub unpicked : (SideKey → ℕ) → (ℕ → ℤ) → Proposal
unpicked units times = record { branch = []; units = units; times = times }

-- what they have to keep to
pub record KeepsWithin (k : ℕ) (plan : Lists) (vetoes : List Veto) (u : Uncertain) (r : Requirement) (q : Proposal) : Type 0 where
  pub scale : 1 ≤ k
  pub not_denied : IsFalse (is_denied vetoes [])
  pub active : IsTrue (holds r.guard [])
  pub loosened : (side : Side) → IsWithinRoom k (requirement_room vetoes side r) (loosened q side r)
  pub narrowed : (side : Side) → IsWithinRoom k (duration_room vetoes 0 side u) (narrowed q side 0)
  pub left : least_left k q 0 u ≤ℤ greatest_left k q 0 u
  pub met : (durations : ℕ → ℤ) → least_left k q 0 u ≤ℤ durations 0 → durations 0 ≤ℤ greatest_left k q 0 u →
      IsWithin k q r (time_of plan q durations r.to -ℤ time_of plan q durations r.from)

pub one_of_each-allowed : (events : List (List ℕ)) (vetoes : List Veto) (u : Uncertain) (r : Requirement) (k : ℕ) (units : SideKey → ℕ) (times : ℕ → ℤ) →
    KeepsWithin k (one_of_each events u r) vetoes u r (unpicked units times) → Allowed (record { plan = one_of_each events u r; vetoes = vetoes }) k (unpicked units times)
one_of_each-allowed events vetoes u r k units times keeps =
    let q : Proposal = unpicked units times in
    let plan : Lists = one_of_each events u r in
    record {
      scale = keeps.scale;
      branch = tt;
      not_denied = keeps.not_denied;
      loosened_within = λ side s member. for_single (λ s. IsWithinRoom k (requirement_room vetoes side s) (loosened q side s)) r s member (keeps.loosened side);
      loosened_active = λ side s member inactive.
          for_single (λ s. IsFalse (holds s.guard []) → loosened q side s ≡ 0) r s member (λ h. absurd (true≢false (sym keeps.active ∙ h))) inactive;
      narrowed_within = λ side d v is. at_single (λ d v. IsWithinRoom k (duration_room vetoes d side v) (narrowed q side d)) u v d is (keeps.narrowed side);
      ranges_left = λ d v is. at_single (λ d v. least_left k q d v ≤ℤ greatest_left k q d v) u v d is keeps.left;
      covers = λ durations left s member active.
          for_single (λ s. IsWithin k q s (time_of plan q durations s.to -ℤ time_of plan q durations s.from)) r s member
          (let within = left 0 u refl in keeps.met durations within.0 within.1);
    }
