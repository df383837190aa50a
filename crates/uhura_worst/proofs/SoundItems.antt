-- The items of a sound plan are sound, and have the nodes and bounds that their edges ask for.
use Rattle.std.proofs.Common.{◌≡◌, ℕ, Bool, List, length, Option, None, Some, IfSome, slice_get, Contains, subst, arith}
use Rattle.std.specs.Prelude.{find, option_map}
use Rattle.std.proofs.lemmas.List.Folds.{find_at}
use Rattle.std.specs.List.{position_or_len}
use Rattle.std.proofs.lemmas.Option.{slice_get_within, get_or_from_slice_get}
use Rattle.uhura_plan.specs.declared.key.EventRef.{EventRef}
use Rattle.uhura_plan.specs.declared.key.EventRef.TheVariants.{Controllable, End}
use Rattle.uhura_plan.specs.declared.key.Side.{Side}
use Rattle.uhura_plan.specs.declared.key.Side.TheVariants.{Lower, Upper}
use Rattle.uhura_plan.specs.declared.price.Price.{Price}
use Rattle.uhura_plan.specs.declared.requirement.Requirement.{Requirement}
use Rattle.uhura_plan.specs.declared.uncertain.Uncertain.{Uncertain}
use Rattle.uhura_plan.specs.Lists.{Lists}
use Rattle.uhura_plan.specs.Find.{requirement_in}
use Rattle.uhura_plan.specs.Limits.{IsPrice, IsRate}
use Rattle.uhura_plan.specs.Sides.{rate_in, loosening_rate, rate_of}
use Rattle.uhura_plan.specs.Sound.{IsSound, IsSoundUncertain, IsSoundRequirement, IsEventAmong}
use Rattle.uhura_plan.specs.declared.key.Item.TheVariants as item
use Rattle.uhura_net.specs.Place.{IsPlacedItem}
use Rattle.uhura_worst.specs.declared.node.TheConstants.{FIRST_OF_ENDS}
use Rattle.uhura_worst.specs.Nodes.{HasNode, HasNodes}

-- what is looked up at a place is in the list
pub Contains-at : {X : Type 0} (xs : List X) (i : ℕ) (x : X) → slice_get xs i ≡ Some x → Contains xs x
Contains-at xs i x is = (i, slice_get_within xs i x is, get_or_from_slice_get xs i x x is)

-- and so is what passes a test first
pub Contains-found : {X : Type 0} (test : X → Bool) (xs : List X) (x : X) → find test xs ≡ Some x → Contains xs x
Contains-found test xs x found = Contains-at xs (position_or_len test xs) x (subst (λ (o : Option _). o ≡ Some x) (find_at test xs) found)

-- a duration of a sound plan is sound
pub sound_uncertain : (plan : Lists) (d : ℕ) (u : Uncertain) → IsSound plan → slice_get plan.uncertains d ≡ Some u → IsSoundUncertain (length plan.events) u
sound_uncertain plan d u sound is =
    subst (IsSoundUncertain (length plan.events)) (get_or_from_slice_get plan.uncertains d u u is) (sound.uncertains d u (slice_get_within plan.uncertains d u is))

-- and so is a requirement
pub sound_requirement : (plan : Lists) (r : Requirement) → IsSound plan → Contains plan.requirements r → IsSoundRequirement plan r
sound_requirement plan r sound (place, below, is) = subst (IsSoundRequirement plan) is (sound.requirements place r below)

-- their events have nodes
pub uncertain-placed : (plan : Lists) (d : ℕ) (u : Uncertain) → IsSound plan → slice_get plan.uncertains d ≡ Some u → IsPlacedItem (item.Uncertain d)
uncertain-placed plan d u sound is = omega (arith, slice_get_within plan.uncertains d u is, sound.counts.uncertains)

pub uncertain-among : (plan : Lists) (d : ℕ) (u : Uncertain) → IsSound plan → slice_get plan.uncertains d ≡ Some u → IsSoundUncertain FIRST_OF_ENDS u
uncertain-among plan d u sound is =
    let s : IsSoundUncertain (length plan.events) u = sound_uncertain plan d u sound is in
    record { name = s.name; end = s.end; start = omega (arith, s.start, sound.counts.events); least = s.least; ordered = s.ordered; most = s.most; lower_rate = s.lower_rate; upper_rate = s.upper_rate }

among-placed : (plan : Lists) (event : EventRef) → IsSound plan → IsEventAmong (length plan.events) (length plan.uncertains) event → HasNode event
among-placed plan (Controllable e) sound among = omega (arith, among, sound.counts.events)
among-placed plan (End d) sound among = omega (arith, among, sound.counts.uncertains)

pub requirement-placed : (plan : Lists) (r : Requirement) → IsSound plan → Contains plan.requirements r → HasNodes r
requirement-placed plan r sound member =
    let s : IsSoundRequirement plan r = sound_requirement plan r sound member in
    record { from = among-placed plan r.from sound s.from; to = among-placed plan r.to sound s.to; two_events = s.two_events; lower = s.lower; upper = s.upper }

pub requirement_in-placed : (plan : Lists) (slot : ℕ) (r : Requirement) → IsSound plan → requirement_in plan slot ≡ Some r → HasNodes r
requirement_in-placed plan slot r sound found = requirement-placed plan r sound (Contains-found _ plan.requirements r found)

-- and their rates are within their limits
rate_in-limited : (price : Option Price) → IfSome price IsPrice → IfSome (option_map rate_in price) IsRate
rate_in-limited None limited = tt
rate_in-limited (Some price) limited = record { first = limited.rate; second = limited.second }

pub loosening_rate-limited : (side : Side) (r : Requirement) → HasNodes r → IfSome (loosening_rate side r) IsRate
loosening_rate-limited Lower r nodes = rate_in-limited r.lower.price nodes.lower.price
loosening_rate-limited Upper r nodes = rate_in-limited r.upper.price nodes.upper.price

pub rate_of-limited : (side : Side) (u : Uncertain) → IsSoundUncertain FIRST_OF_ENDS u → IfSome (rate_of side u) IsRate
rate_of-limited Lower u sound = sound.lower_rate
rate_of-limited Upper u sound = sound.upper_rate
