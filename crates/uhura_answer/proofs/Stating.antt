-- What is read off the potentials of an answer, with the earliest schedule under it, is a best proposal.
use Rattle.std.proofs.Common.{◌≡◌, ℕ, List, refl, sym, ap, ◌∙◌, subst, lit≤}
use Rattle.std.specs.Prelude.{ℤ, length}
use Rattle.uhura_plan.specs.declared.key.SideKey.{SideKey}
use Rattle.uhura_plan.specs.declared.guard.Literal.{Literal}
use Rattle.uhura_plan.specs.Lists.{Lists}
use Rattle.uhura_plan.specs.Sound.{IsSound}
use Rattle.uhura_choice.specs.declared.prefix.Pick.{Pick}
use Rattle.uhura_net.specs.Edges.{time_at}
use Rattle.uhura_veto.specs.State.{State}
use Rattle.uhura_worst.specs.Units.{side_units, IsLoosening}
use Rattle.uhura_worst.specs.Proposal.{Proposal}
use Rattle.uhura_worst.specs.Allowed.{Allowed}
use Rattle.uhura_worst.specs.Best.{IsCheapest, IsFirst, IsBest}
use Rattle.uhura_worst.specs.Cost.{cost}
use Rattle.uhura_worst.specs.WorstCase.{proposal_at}
use Rattle.uhura_relax.specs.Schedule.{proposal_with, scheduled_time, IsEarliestSchedule}
use Rattle.uhura_dual.specs.ReadOff.{passed_side, passed_sides}
use Rattle.uhura_dual.proofs.ReadOff.{read_off-same}
use Rattle.uhura_search.proofs.Found.{found-allowed, found-cheapest, found-first}
use Rattle.uhura_cert.specs.declared.document.Proposal.{Proposal as Stated}
use Rattle.uhura_check.specs.Confirmed.{picks_of, proposal_of}
use Rattle.uhura_answer.specs.Literals.{literals_of}
use Rattle.uhura_answer.specs.Stated.{IsFound, IsStatedWith}
use Rattle.uhura_answer.proofs.PickedLiterals.{branch-among, literals-rise, picks-branch}
use Rattle.uhura_answer.proofs.ReadSides.{sides-stated}
use Rattle.uhura_answer.proofs.Bounds.{units-most, cost-most}
use Rattle.uhura_answer.proofs.Shifted.{times-within}

module _ (state : State) (branch : List Pick) (all : ℕ) (potentials : List ℤ) (pairs : List (SideKey × ℕ)) (plan : Lists) (is_plan : plan ≡ state.plan) (sound_plan : IsSound plan) (found : IsFound state branch all potentials)
    (given : (key : SideKey) → side_units pairs key ≡ passed_side plan branch (time_at potentials) key) where
  sound : IsSound state.plan
  sound = subst IsSound is_plan sound_plan

  units : (key : SideKey) → side_units pairs key ≡ passed_side state.plan branch (time_at potentials) key
  units key = subst (λ (lists : Lists). side_units pairs key ≡ passed_side lists branch (time_at potentials) key) is_plan (given key)

  -- the proposal that takes the potentials, and the same by its pairs
  abbrev taken : Proposal
  taken = proposal_at state.plan 1 branch (time_at potentials)

  abbrev read : Proposal
  read = proposal_with branch pairs (time_at potentials)

  same : taken ≡ read
  same = sym (read_off-same state.plan branch pairs potentials units)

  -- it is allowed
  pub read-allowed : Allowed state 1 (proposal_with branch pairs (time_at potentials))
  read-allowed = subst (Allowed state 1) same (found-allowed state branch all potentials found.0 sound found.1)

  module _ (schedule : List ℕ) (earliest : IsEarliestSchedule state.plan branch pairs schedule) where
    -- so it is with the earliest schedule
    timed-allowed : Allowed state 1 (proposal_with branch pairs (scheduled_time schedule))
    timed-allowed = record {
      scale = read-allowed.scale;
      branch = read-allowed.branch;
      not_denied = read-allowed.not_denied;
      loosened_within = read-allowed.loosened_within;
      loosened_active = read-allowed.loosened_active;
      narrowed_within = read-allowed.narrowed_within;
      ranges_left = read-allowed.ranges_left;
      covers = earliest.covers;
    }

    timed-costs : cost state.plan 1 (proposal_with branch pairs (scheduled_time schedule)) ≡ all
    timed-costs = ap (cost state.plan 1) (sym same) ∙ found.1.costs

    timed-best : IsBest state (proposal_with branch pairs (scheduled_time schedule))
    timed-best =
        let cheapest : IsCheapest state read = subst (IsCheapest state) same (found-cheapest state branch all potentials found.0 sound found.1) in
        let first : IsFirst state read = subst (IsFirst state) same (found-first state branch all potentials found.0 sound found.1) in
        record {
          cheapest = record { allowed = timed-allowed; least = cheapest.least };
          first = first;
          earliest = earliest.earliest;
        }

    -- and it can be stated
    pub stated-with : (p : Stated) → pairs ≡ passed_sides plan branch potentials → IsLoosening pairs → p.cost ≡ all → p.picks ≡ literals_of branch → p.loosening ≡ pairs → p.times ≡ schedule →
        IsStatedWith state branch all p
    stated-with p read_off sound_pairs costs picks loosened timed =
        let picked : picks_of p.picks (length state.plan.choices) ≡ branch =
        ap (λ (ls : List Literal). picks_of ls (length state.plan.choices)) picks ∙ picks-branch state.plan.choices branch found.1.is_branch in
        let of : proposal_of state.plan p ≡ proposal_with branch pairs (scheduled_time schedule) = rw (picked, loosened, timed) refl in
        let most = cost-most state.plan (proposal_with branch pairs (scheduled_time schedule)) sound (λ key. units-most pairs key sound_pairs.units) in
        record {
          best = record {
            fits = record {
              cost = rw costs (rw timed-costs at most);
              picks = rw picks (branch-among state.plan.choices branch found.1.is_branch);
              picks_in_order = rw picks (literals-rise 0 0 branch (lit≤ tt));
              sides = rw loosened (sides-stated state.plan branch potentials pairs sound (subst (λ (lists : Lists). pairs ≡ passed_sides lists branch potentials) is_plan read_off) sound_pairs);
              times = rw timed earliest.events;
              times_within = rw timed (times-within state.plan branch pairs potentials schedule sound found.1.within read-allowed.covers earliest);
            };
            best = subst (IsBest state) (sym of) timed-best;
            costs = ap (cost state.plan 1) of ∙ (timed-costs ∙ sym costs);
          };
          branch_cost = rw (picked, costs) refl;
        }
