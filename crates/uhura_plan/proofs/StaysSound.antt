-- An item stays sound with what an edit changes in it, and keeps its names and its slot.
use Rattle.std.proofs.Common.{◌≡◌, ℕ, ℤ, Bool, true, false, List, length, Option, None, Some, bytes_eq, All, IfSome, if◌then◌else◌, refl, sym, ap, ◌∙◌, w64, rules}
use mir.Val.{SFits, to_z, of_z}
use Rattle.std.proofs.lemmas.Int.{to_z-of_z}
use Rattle.std.proofs.lemmas.List.{length-map}
use Rattle.std.proofs.lemmas.List.Elements.{All-map, All-weaker}
use Rattle.uhura_plan.specs.declared.key.Side.{Side}
use Rattle.uhura_plan.specs.declared.key.Side.TheVariants.{Lower, Upper}
use Rattle.uhura_plan.specs.declared.price.Rate.{Rate}
use Rattle.uhura_plan.specs.declared.price.Price.{Price}
use Rattle.uhura_plan.specs.declared.uncertain.Uncertain.{Uncertain}
use Rattle.uhura_plan.specs.declared.choice.Choice.{Choice}
use Rattle.uhura_plan.specs.declared.requirement.Bounded.{Bounded}
use Rattle.uhura_plan.specs.declared.requirement.Requirement.{Requirement}
use Rattle.uhura_plan.specs.Lists.{Lists, alternative_names}
use Rattle.uhura_plan.specs.Limits.{IsBound, IsRangeEnd, IsRate, IsPrice, IsAmount, AreWithinLimits, AreOrdered}
use Rattle.uhura_plan.specs.Sides.{bounded_of}
use Rattle.uhura_plan.specs.Sound.{IsSoundUncertain, IsSoundRequirement}
use Rattle.uhura_plan.specs.Changes.{on_side, with_bound, with_price, with_rate, with_range, with_cost}
use Rattle.uhura_plan.specs.Refusals.{empty_between, empty_bounds}
use Rattle.uhura_plan.proofs.Refusals.{bounds_ordered}
use Rattle.uhura_plan.proofs.Named.{map_kept}

-- the new requirement keeps the name and the slot of the old one, and is sound where that is
pub record RequirementStays (old new : Requirement) : Type 0 where
  pub name : new.name ≡ old.name
  pub slot : new.slot ≡ old.slot
  pub sound : (plan : Lists) → IsSoundRequirement plan old → IsSoundRequirement plan new

-- the new duration keeps the name and the end of the old one, and is sound where that is
pub record UncertainStays (old new : Uncertain) : Type 0 where
  pub name : new.name ≡ old.name
  pub end : new.end ≡ old.end
  pub sound : (events : ℕ) → IsSoundUncertain events old → IsSoundUncertain events new

-- the new choice keeps all of the old one but its costs, which are amounts where those of the old one are
pub record ChoiceStays (old new : Choice) : Type 0 where
  pub name : new.name ≡ old.name
  pub guard : new.guard ≡ old.guard
  pub names : alternative_names new ≡ alternative_names old
  pub costs : All (λ a. IsAmount a.1) old.alternatives → All (λ a. IsAmount a.1) new.alternatives

module _ (change : Bounded → Bounded) (requirement : Requirement) where
  -- with one side changed a requirement stays sound, where the side stays within its limits, and the bounds in order
  on_side-stays : (side : Side) → (AreWithinLimits (bounded_of side requirement) → AreWithinLimits (change (bounded_of side requirement)))
      → (AreOrdered requirement.lower.bound requirement.upper.bound → AreOrdered (on_side side change requirement).lower.bound (on_side side change requirement).upper.bound)
      → RequirementStays requirement (on_side side change requirement)
  on_side-stays Lower limited ordered = record {
    name = refl;
    slot = refl;
    sound = λ plan old. record {
      name = old.name;
      slot = old.slot;
      from = old.from;
      to = old.to;
      two_events = old.two_events;
      lower = limited old.lower;
      upper = old.upper;
      ordered = ordered old.ordered;
      guard = old.guard;
    };
  }
  on_side-stays Upper limited ordered = record {
    name = refl;
    slot = refl;
    sound = λ plan old. record {
      name = old.name;
      slot = old.slot;
      from = old.from;
      to = old.to;
      two_events = old.two_events;
      lower = old.lower;
      upper = limited old.upper;
      ordered = ordered old.ordered;
      guard = old.guard;
    };
  }

-- another price for a side keeps a requirement sound
pub with_price-stays : (side : Side) (price : Option Price) (requirement : Requirement) → IfSome price IsPrice → RequirementStays requirement (with_price side price requirement)
with_price-stays side price requirement limited =
    on_side-stays (λ bounded. record bounded { price = price }) requirement side (λ old. record { bound = old.bound; price = limited }) (same side)
  where
    same : (side : Side) → AreOrdered requirement.lower.bound requirement.upper.bound → AreOrdered (with_price side price requirement).lower.bound (with_price side price requirement).upper.bound
    same Lower ordered = ordered
    same Upper ordered = ordered

-- another bound for a side keeps a requirement sound, where something lies between its bounds
pub with_bound-stays : (side : Side) (bound : Option ℤ) (requirement : Requirement) → IfSome bound IsBound → empty_bounds (with_bound side bound requirement) ≡ None
    → RequirementStays requirement (with_bound side bound requirement)
with_bound-stays side bound requirement limited none =
    on_side-stays (λ bounded. record bounded { bound = bound }) requirement side (λ old. record { bound = limited; price = old.price }) (λ _. bounds_ordered _ _ none)

-- another rate for a side keeps a duration sound
pub with_rate-stays : (side : Side) (rate : Option Rate) (uncertain : Uncertain) → IfSome rate IsRate → UncertainStays uncertain (with_rate side rate uncertain)
with_rate-stays Lower rate uncertain limited = record {
  name = refl;
  end = refl;
  sound = λ events old. record {
    name = old.name;
    end = old.end;
    start = old.start;
    least = old.least;
    ordered = old.ordered;
    most = old.most;
    lower_rate = limited;
    upper_rate = old.upper_rate;
  };
}
with_rate-stays Upper rate uncertain limited = record {
  name = refl;
  end = refl;
  sound = λ events old. record {
    name = old.name;
    end = old.end;
    start = old.start;
    least = old.least;
    ordered = old.ordered;
    most = old.most;
    lower_rate = old.lower_rate;
    upper_rate = limited;
  };
}

-- an end of a range is what an `i64` carries
pub end_carried : (end : ℤ) → IsRangeEnd end → to_z w64 (of_z w64 end) ≡ end
end_carried end limited = let fits : SFits w64 end = search rules in to_z-of_z w64 end fits

-- another range that isn't empty keeps a duration sound
pub with_range-stays : (lower upper : ℤ) (uncertain : Uncertain) → IsRangeEnd lower → IsRangeEnd upper → empty_between (Some lower) (Some upper) ≡ None → UncertainStays uncertain (with_range lower upper uncertain)
with_range-stays lower upper uncertain least most none = record {
  name = refl;
  end = refl;
  sound = λ events old. record {
    name = old.name;
    end = old.end;
    start = old.start;
    least = least.least;
    ordered = bounds_ordered (Some lower) (Some upper) none;
    most = most.most;
    lower_rate = old.lower_rate;
    upper_rate = old.upper_rate;
  };
}

-- another cost for an alternative keeps a choice sound
with_cost-stays : (alternative : List ℕ) (cost : ℕ) (choice : Choice) → IsAmount cost → ChoiceStays choice (with_cost alternative cost choice)
with_cost-stays alternative cost choice limited = record {
  name = refl;
  guard = refl;
  names = map_kept (λ a. a.0) written named choice.alternatives;
  costs = λ old. All-map (λ a. IsAmount a.1) written choice.alternatives (All-weaker _ _ amount choice.alternatives old);
}
  where
    written : List ℕ × ℕ → List ℕ × ℕ
    written = λ a. if bytes_eq alternative a.0 then (a.0, cost) else a

    named : (a : List ℕ × ℕ) → (written a).0 ≡ a.0
    named a = by (bytes_eq alternative a.0)
      where
        by : (b : Bool) → (if b then (a.0, cost) else a).0 ≡ a.0
        by true = refl
        by false = refl

    amount : (a : List ℕ × ℕ) → IsAmount a.1 → IsAmount (written a).1
    amount a old = by (bytes_eq alternative a.0)
      where
        by : (b : Bool) → IsAmount (if b then (a.0, cost) else a).1
        by true = limited
        by false = old

-- where the choices of one name get another cost, each stays sound
pub named_cost-stays : (name alternative : List ℕ) (cost : ℕ) (choice : Choice) → IsAmount cost → ChoiceStays choice (if bytes_eq name choice.name then with_cost alternative cost choice else choice)
named_cost-stays name alternative cost choice limited = by (bytes_eq name choice.name)
  where
    by : (b : Bool) → ChoiceStays choice (if b then with_cost alternative cost choice else choice)
    by true = with_cost-stays alternative cost choice limited
    by false = record { name = refl; guard = refl; names = refl; costs = λ old. old }

-- as many alternatives stay
pub same_count : (old new : Choice) → ChoiceStays old new → length new.alternatives ≡ length old.alternatives
same_count old new stays = sym (length-map new.alternatives (λ a. a.0)) ∙ (ap length stays.names ∙ length-map old.alternatives (λ a. a.0))
